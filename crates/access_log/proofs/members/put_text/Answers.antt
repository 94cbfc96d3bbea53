use Rattle.std.proofs.Common.{refl}
use Rattle.std.proofs.lemmas.Result.{on_ok_weaker}
use Rattle.json.specs.Token as token
use Rattle.serde_json.specs.Data.{string}
use Rattle.access_log.proofs.MembersLemmas.{has_more, leaf_text}
use Rattle.access_log.proofs.members.put_text.Goals as goal

pub returns : goal.returns
returns c =
    on_ok_weaker c.string.result
    (λ e. has_more (string c.args.text.now)
    (token.string c.args.text.now) c.args.key.now c.args.out.now c.key.new.self c.string.new.self (leaf_text _) refl
    (c.in_ok-key.ensures.room.0, c.in_ok-key.ensures.ok) (c.string.ensures.room.0, e))
    c.string.ensures.ok
