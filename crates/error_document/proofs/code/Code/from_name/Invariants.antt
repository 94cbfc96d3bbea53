-- The codes before this one have other names.
use Rattle.std.proofs.Common.{◌≡◌}
use Rattle.error_document.specs.Codes.{code_named}
use Rattle.error_document.proofs.Names.{first_from}
use Rattle.error_document.proofs.code.Code.from_name.Given as goal

abbrev pub invariant-loop-code : goal.invariant-loop-code
invariant-loop-code l = code_named l.name ≡ first_from l.name l.code-index
