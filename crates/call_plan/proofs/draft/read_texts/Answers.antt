use Rattle.std.proofs.Common.{sym, ◌∙◌}
use Rattle.std.proofs.lemmas.Result.{err_from_is_err_and}
use Rattle.call_plan.specs.declared.error.PlanError.TheVariants.{NotAPlan}
use Rattle.serde_json.specs.Find.{as_str}
use Rattle.call_plan.specs.PlanFile.{texts_of}
use Rattle.call_plan.proofs.Shapes.{none-from_err, some-from_ok, with_rest-start, with_rest-more, with_rest-bad, with_rest-end}
use Rattle.call_plan.proofs.draft.read_texts.Goals as goal

pub returns-in_err-entries : goal.returns-in_err-entries
unfolding texts_of
returns-in_err-entries c =
    let p = err_from_is_err_and c.from_residual.result c.from_residual.ensures.1 in
    let none = none-from_err c.as_array.result NotAPlan c.in_err-entries.field-0.0 (sym c.ok_or.ensures.value ∙ c.in_err-entries.was) in
    rw (p.1, p.2) (λ fault. (none.0, rw (← c.as_array.ensures, none.1)))

pub loop-entry-init : goal.loop-entry-init
unfolding texts_of
loop-entry-init c =
    let found = some-from_ok c.as_array.result NotAPlan c.in_ok-entries.entries (sym c.ok_or.ensures.value ∙ c.in_ok-entries.was) in
    rw (c.new-texts.ensures.items, c.deref-entry-items.ensures.value, ← c.as_array.ensures, found) (with_rest-start as_str c.in_ok-entries.entries.now.items)

pub returns-in_err-text_of : goal.returns-in_err-text_of
returns-in_err-text_of c =
    let p = err_from_is_err_and c.from_residual-in_err-text_of.result c.from_residual-in_err-text_of.ensures.1 in
    rw (p.1, p.2)
    (λ fault. let shape = c.in_err-text_of.ensures fault in (
      shape.0,
      c.loop-entry.invariant
          ∙ with_rest-bad as_str c.loop-entry.texts.items c.deref-entry-items.result.now c.loop-entry.entry-index c.entry-item.result c.loop-entry-test.true c.entry-item.is shape.1,
    ))

pub loop-entry-preserved : goal.loop-entry-preserved
loop-entry-preserved c =
    rw c.in_ok-push.ensures.items
    (c.loop-entry.invariant
    ∙ with_rest-more as_str c.loop-entry.texts.items c.deref-entry-items.result.now c.loop-entry.entry-index c.entry-item.result c.in_ok-text_of.field-0
    c.loop-entry-test.true c.entry-item.is c.in_ok-text_of.ensures)

pub returns : goal.returns
returns c =
    c.loop-entry.invariant ∙ with_rest-end as_str c.loop-entry.texts.items c.deref-entry-items.result.now c.loop-entry.entry-index c.loop-entry-test.false
