use Rattle.gateway_loop.proofs.Words.{◌≡◌, Grows, MakesSteps}
use Rattle.gateway_loop.proofs.client.Client.write.Given as goal

-- steps were made
abbrev pub invariant-loop-write : goal.invariant-loop-write
invariant-loop-write g l =
    MakesSteps l.fn.core l.core l.fn.self l.self × Grows l.fn.self l.self × (g.N.Network.value l.net ≡ g.N.Network.value l.fn.net)
