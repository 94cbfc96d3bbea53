use Rattle.std.proofs.Common.{◌≡◌, ◌++◌}
use Rattle.std.specs.Prelude.{filter_map}
use Rattle.connect_codec.specs.Passed.{field_passed, fields_passed}
use Rattle.connect_codec.proofs.MessageLemmas.{lines}
use Rattle.connect_codec.proofs.head.Head.pass_on.Given as goal

-- what stands, and the lines of the fields that are left
abbrev pub invariant-loop-name : goal.invariant-loop-name
invariant-loop-name l =
    l.self ++ lines (filter_map (field_passed l.passed.names.now l.passed.request.now.fields) l.name-iterator) ≡ l.fn.self ++ lines (fields_passed l.passed)
