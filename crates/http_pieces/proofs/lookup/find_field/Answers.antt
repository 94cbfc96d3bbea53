use Rattle.std.proofs.Common.{◌++◌, ◌∙◌, ap, refl, sym}
use Rattle.std.proofs.lemmas.Bool.{cond-true, cond-false}
use Rattle.http_pieces.proofs.FieldLemmas.{values_step, found_first, found_again}
use Rattle.http_pieces.proofs.lookup.find_field.Goals as goal
use Rattle.http_pieces.proofs.lookup.find_field.Goals.{then-is_named+in-None, then-is_named+in_default, else-is_named}

pub loop-header-preserved : goal.loop-header-preserved
loop-header-preserved c =
    let inv = c.loop-header.invariant in
    elim c.if-is_named.branch [
      | then-is_named+in-None w ↦
          rw w.found-is (found_first inv.0 c.loop-header.found w.of.result _ _ inv.1 w.in-None.is
          (inv.2 ∙ ap (λ xs. inv.0 ++ xs) (values_step _ _ _ _ _ c.loop-header-test.true ∙ cond-true _ _ _ (sym w.if-is_named.ensures) ∙ rw w.of.ensures refl)))
      | then-is_named+in_default w ↦
          rw w.found-is (found_again inv.0 c.loop-header.found _ _ _ inv.1 w.in_default.not-None
          (inv.2 ∙ ap (λ xs. inv.0 ++ xs) (values_step _ _ _ _ _ c.loop-header-test.true ∙ cond-true _ _ _ (sym w.if-is_named.ensures))))
      | else-is_named w ↦
          rw w.found-is (
            inv.0,
            inv.1,
            inv.2 ∙ ap (λ xs. inv.0 ++ xs) (values_step _ _ _ _ _ c.loop-header-test.true ∙ cond-false _ _ _ (sym w.if-is_named.ensures)),
          )
    ]
