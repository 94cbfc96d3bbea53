use Rattle.std.proofs.Common.{◌≡◌, ◌++◌, take}
use Rattle.admin.specs.Labels.{escaped}
use Rattle.admin.proofs.labels.add_escaped.Given as goal

-- the bytes so far are added
abbrev pub invariant-loop-byte : goal.invariant-loop-byte
invariant-loop-byte l = l.text.items ≡ l.initial.text.items ++ escaped (take l.byte-index l.value)
