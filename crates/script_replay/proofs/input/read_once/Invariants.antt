use Rattle.std.proofs.Common.{◌≡◌, length}
use Rattle.std.specs.Io.KnownBytes.{Keeps}
use Rattle.script_replay.proofs.input.read_once.Given as goal

-- a read that was interrupted consumed nothing
abbrev pub invariant-loop-try : goal.invariant-loop-try
invariant-loop-try g l = (length l.buffer ≡ length l.initial.buffer) × Keeps (g.R.Read.remaining l.initial.reader) (g.R.Read.remaining l.reader)
