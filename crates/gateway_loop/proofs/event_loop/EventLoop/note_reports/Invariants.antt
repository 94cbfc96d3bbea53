use Rattle.gateway_loop.proofs.Words.{Goes, tell_all}
use Rattle.gateway_loop.specs.Loop.{IsToldBeside}
use Rattle.std.specs.Prelude.{take}
use Rattle.gateway_loop.proofs.event_loop.EventLoop.note_reports.Given as goal

-- the reports so far were told, and no more
abbrev pub invariant-loop-ready : goal.invariant-loop-ready
invariant-loop-ready g l =
    IsToldBeside (tell_all (take l.ready-index l.reports) l.fn.self) l.self
    × Goes (g.N.Network.value l.fn.net) (g.N.Network.value l.net) l.fn.self l.self
