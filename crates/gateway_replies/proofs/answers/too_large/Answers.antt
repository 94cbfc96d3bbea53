use Rattle.gateway_replies.proofs.Names.{refl}
use Rattle.gateway_model.specs.Arrival.{refusal_reply}
use Rattle.gateway_replies.proofs.answers.too_large.Goals as goal

pub returns : goal.returns
unfolding refusal_reply
returns c = rw c.in_ok-bytes.ensures refl
