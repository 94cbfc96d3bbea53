use Rattle.std.proofs.Common.{◌≡◌, ◌++◌, drop}
use Rattle.serde_json.specs.View.{view, items_view}
use Rattle.error_document.specs.Documents.{details_among, details_in}
use Rattle.error_document.proofs.reply.details_in.Given as goal

-- what was found so far, and what is left to look at
abbrev pub invariant-loop-entry : goal.invariant-loop-entry
invariant-loop-entry l = details_in (view l.fn.document) ≡ l.details.items ++ details_among (items_view (drop l.entry-index l.entry-items))
