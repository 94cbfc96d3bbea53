use Rattle.std.proofs.Common.{◌≢◌, get_or, refl, sym, ◌∙◌}
use Rattle.std.proofs.lemmas.Bool.{eq-eqb, ne_eqb}
use Rattle.http_pieces.specs.Names.{folded}
use Rattle.http_pieces.proofs.NameLemmas.{same_length, same_at, same_past}
use Rattle.http_pieces.proofs.names.same_name.Goals as goal

pub returns-then-a-b : goal.returns-then-a-b
returns-then-a-b c = sym (same_length c.args.a.now c.args.b.now c.if-a-b.true)

pub returns-then-folded : goal.returns-then-folded
returns-then-folded c =
    let here = c.loop-place-test.true in
    let other : folded (get_or c.args.a.now c.loop-place.place 0) ≢ folded (get_or c.args.b.now c.loop-place.place 0) =
    λ e. c.if-folded.true (c.folded.ensures ∙ e ∙ sym c.folded-in-loop-place.ensures) in
    sym (c.loop-place.invariant ∙ same_at c.args.a.now c.args.b.now c.loop-place.place 0 0 here (rw (← c.if-a-b.false) here) ∙ rw (ne_eqb _ _ other) refl)

pub loop-place-preserved : goal.loop-place-preserved
loop-place-preserved c =
    let here = c.loop-place-test.true in
    c.loop-place.invariant ∙ same_at c.args.a.now c.args.b.now c.loop-place.place 0 0 here (rw (← c.if-a-b.false) here) ∙ rw (eq-eqb _ _ (sym c.folded.ensures ∙ c.if-folded.false ∙ c.folded-in-loop-place.ensures)) refl

pub returns : goal.returns
returns c =
    let past = c.loop-place-test.false in
    sym (c.loop-place.invariant ∙ same_past c.args.a.now c.args.b.now c.loop-place.place past (rw (← c.if-a-b.false) past))
