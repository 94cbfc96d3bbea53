use Rattle.std.proofs.Common.{◌≤◌, length}
use Rattle.input_check.proofs.json_fault.offset_of.Given as goal

-- the line begins in the text, or at its end
abbrev pub invariant-loop-line : goal.invariant-loop-line
invariant-loop-line l = l.start ≤ length l.text
