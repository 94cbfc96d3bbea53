use Rattle.gateway_connection.proofs.BroadcastLemmas.{EndsSome}
use Rattle.gateway_connection.proofs.connection.Connection.end_calls.Given as goal

-- the calls before this one have ended
abbrev pub invariant-loop-index : goal.invariant-loop-index
invariant-loop-index g l = EndsSome l.trigger l.index l.fn.self l.self l.fn.shared l.shared
