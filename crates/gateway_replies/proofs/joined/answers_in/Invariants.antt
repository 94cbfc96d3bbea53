use Rattle.gateway_replies.proofs.Names.{◌≡◌}
use Rattle.gateway_model.specs.CallRecord.{answers_in}
use Rattle.gateway_replies.proofs.joined.answers_in.Given as goal

abbrev pub invariant-loop-branch : goal.invariant-loop-branch
invariant-loop-branch l = l.answers.items ≡ answers_in l.branch l.events
