use Rattle.std.proofs.Common.{◌≡◌, true, drop}
use Rattle.input_check.specs.Host.{has_empty_label}
use Rattle.input_check.proofs.host.has_empty_label.Given as goal

-- what was passed has none, so the rest decides
abbrev pub invariant-loop-byte : goal.invariant-loop-byte
invariant-loop-byte l = has_empty_label true l.host ≡ has_empty_label l.begins (drop l.byte-index l.host)
