use Rattle.std.proofs.Common.{◌≡◌, ◌++◌, map, drop}
use Rattle.serde_json.specs.View.{view}
use Rattle.error_document.specs.Documents.{detail_document}
use Rattle.error_document.proofs.document.array_of.Given as goal

-- what was built so far, and what is left to build
abbrev pub invariant-loop-detail : goal.invariant-loop-detail
invariant-loop-detail l = map detail_document l.details ≡ map view l.entries.items ++ map detail_document (drop l.detail-index l.details)
