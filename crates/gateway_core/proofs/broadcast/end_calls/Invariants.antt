use Rattle.gateway_core.proofs.Names.{length, filter, is_over}
use Rattle.gateway_core.proofs.BroadcastLemmas.{AreHalfway}
use Rattle.gateway_core.proofs.broadcast.end_calls.Given as goal

abbrev pub invariant-loop-id : goal.invariant-loop-id
invariant-loop-id g l = AreHalfway l.trigger l.initial.shared l.shared l.initial.conns.entries l.conns.entries l.broke

abbrev pub decreases-loop-id : goal.decreases-loop-id
decreases-loop-id g l = length (filter is_over l.shared.contexts.standing.calls)
