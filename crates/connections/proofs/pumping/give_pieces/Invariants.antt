use Rattle.connections.proofs.Lemmas.{Go, Pumps, []}
use Rattle.connections.proofs.pumping.give_pieces.Given as goal

-- what was read so far was given, and answered by `Go`
abbrev pub invariant-loop-read : goal.invariant-loop-read
invariant-loop-read g l =
    Pumps l._read (g.S.Read.remaining l.initial.reader) (g.S.Read.remaining l.reader) (g.I.Inlet.told l.initial.inlet) (g.I.Inlet.told l.inlet)
    (g.I.Inlet.took l.initial.inlet) (g.I.Inlet.took l.inlet) Go []
