use Rattle.gateway_replies.proofs.Names.{◌≡◌}
use Rattle.gateway_replies.proofs.held.hold_answer.Given as goal

abbrev pub invariant-loop-event : goal.invariant-loop-event
invariant-loop-event l = l.events ≡ l.fn.events
