use Rattle.std.proofs.Common.{◌≡◌, ◌≤◌, ◌∙◌, Some, ap, sym}
use Rattle.serde_json.specs.Data.{depth}
use Rattle.serde_json.specs.Read.{max_depth}
use Rattle.serde_json.specs.View.{view}
use Rattle.serde_json.specs.Written.{has_float, compact_text}
use Rattle.error_document.specs.Documents.{error_text}
use Rattle.error_document.proofs.Reading.{json_of-read}
use Rattle.error_document.proofs.Written.{has_float-document_of, depth-document_of, read_error-document_of}
use Rattle.error_document.proofs.document.write.Goals as goal

pub returns-clause-text : goal.returns-clause-text
unfolding error_text
returns-clause-text c =
    let document = c.in_ok-value.ensures in
    c.from_vec.ensures ∙ c.in_ok-to_vec.ensures.text (ap has_float document ∙ has_float-document_of c.args.error.now) ∙ ap compact_text document

pub returns-clause-reads_back : goal.returns-clause-reads_back
returns-clause-reads_back c =
    let document = c.in_ok-value.ensures in
    let shallow : depth (view c.in_ok-value.value) ≤ max_depth = rw document (depth-document_of c.args.error.now) in
    let found = json_of-read c.in_ok-to_vec.field-0.items _ c.in_ok-to_vec.ensures.utf8 (c.in_ok-to_vec.ensures.reads_back shallow) in
    λ status. rw c.from_vec.ensures (read_error-document_of status _ c.args.error.now (sym (ap Some document) ∙ found))
