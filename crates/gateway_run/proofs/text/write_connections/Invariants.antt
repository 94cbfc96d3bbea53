use Rattle.gateway_run.proofs.Names.{take, flat_map, enumerate_from, Appends, connection_text}
use Rattle.gateway_run.proofs.text.write_connections.Given as goal

-- the texts of the connections so far are written
abbrev pub invariant-loop-conn : goal.invariant-loop-conn
invariant-loop-conn g l =
    Appends (g.W.Write.contents l.initial.writer) (g.W.Write.contents l.writer)
    (flat_map (λ entry. connection_text entry.0 entry.1) (take l.conn (enumerate_from 0 l.queued)))
