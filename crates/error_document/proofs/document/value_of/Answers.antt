use Rattle.std.proofs.Common.{◌≡◌, ◌≢◌, [], true, ◌∙◌, ap, sym, refl, true≢false}
use Rattle.std.proofs.lemmas.Bool.{eqb-true}
use Rattle.std.proofs.lemmas.List.{nil_from_length}
use Rattle.serde_json.specs.Data.{object, no_members}
use Rattle.serde_json.specs.View.{members_view}
use Rattle.serde_json.proofs.Views.{view-Object}
use Rattle.error_document.proofs.Written.{with_code, detailed, whole, no_details, some_details, no_message, some_message}
use Rattle.error_document.proofs.document.value_of.Goals as goal
use Rattle.error_document.proofs.document.value_of.Goals.{then-not-is_empty+in_ok-details+in_ok-put-2, else-not-is_empty, then-not-is_empty-2+in_ok-message+in_ok-put-3, else-not-is_empty-2}

pub returns : goal.returns
returns c =
    let error = c.args.error.now in
    let coded : members_view c.put.new.map.entries ≡ with_code error no_members =
    c.in_ok-put.ensures.ok ∙ rw (c.new-members.ensures.empty, c.in_ok-code.ensures, c.name.ensures) refl in
    let with_details : members_view c.if-not-is_empty.members.entries ≡ detailed error =
    elim c.if-not-is_empty.branch [
      | then-not-is_empty+in_ok-details+in_ok-put-2 w ↦
          let some : error.details ≢ [] = λ none. true≢false (sym (c.is_empty.ensures.1 none) ∙ w.if-not-is_empty.true) in
          rw w.members-is (w.in_ok-put-2.ensures.ok ∙ rw (w.in_ok-details.ensures, w.as_slice.ensures, coded) (some_details error some))
      | else-not-is_empty w ↦ rw w.members-is (coded ∙ no_details error (c.is_empty.ensures.0 w.if-not-is_empty.false))
    ] in
    let all : members_view c.if-not-is_empty-2.members.entries ≡ whole error =
    elim c.if-not-is_empty-2.branch [
      | then-not-is_empty-2+in_ok-message+in_ok-put-3 w ↦
          let some : error.message ≢ [] = λ none. true≢false (sym (c.is_empty-2.ensures ∙ rw (c.as_str.ensures, none) refl) ∙ w.if-not-is_empty-2.true) in
          rw w.members-is
          (w.in_ok-put-3.ensures.ok ∙ rw (w.in_ok-message.ensures, w.as_str-then-not-is_empty-2.ensures, with_details) (some_message error some))
      | else-not-is_empty-2 w ↦
          let none : error.message ≡ [] = sym c.as_str.ensures ∙ nil_from_length _ (eqb-true _ _ (sym c.is_empty-2.ensures ∙ w.if-not-is_empty-2.false)) in
          rw w.members-is (with_details ∙ no_message error none)
    ] in
    view-Object c.if-not-is_empty-2.members ∙ ap object all
