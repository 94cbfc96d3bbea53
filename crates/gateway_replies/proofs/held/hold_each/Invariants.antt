use Rattle.gateway_replies.proofs.Names.{◌≡◌}
use Rattle.gateway_replies.proofs.held.hold_each.Given as goal

abbrev pub invariant-loop-branch : goal.invariant-loop-branch
invariant-loop-branch l = l.events ≡ l.fn.events
