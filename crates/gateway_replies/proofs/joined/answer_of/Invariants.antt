use Rattle.gateway_replies.proofs.Names.{◌≡◌, [], take}
use Rattle.std.specs.Prelude.{unwrap_or}
use Rattle.gateway_model.specs.CallRecord.{answer_of_branch}
use Rattle.gateway_replies.proofs.joined.answer_of.Given as goal

abbrev pub invariant-loop-event : goal.invariant-loop-event
invariant-loop-event l = l.answer ≡ unwrap_or (answer_of_branch l.branch (take l.event-index l.events)) []
