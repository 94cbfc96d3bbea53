use Rattle.std.specs.Io.KnownBytes.{Keeps}
use Rattle.script_replay.proofs.patient.PatientWrite.write.Given as goal

-- a write that was interrupted wrote nothing
abbrev pub invariant-loop-try : goal.invariant-loop-try
invariant-loop-try g l = Keeps (g.W.Write.contents l.initial.self.inner) (g.W.Write.contents l.self.inner)
