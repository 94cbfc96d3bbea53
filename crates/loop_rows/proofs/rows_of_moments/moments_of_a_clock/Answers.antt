use Rattle.std.proofs.Common.{[], ◌∷◌, inl, inr, lit≤, refl}
use Rattle.loop_rows.proofs.rows_of_moments.moments_of_a_clock.Goals as goal

pub returns-clause-each : goal.returns-clause-each
returns-clause-each c = inl (5 ∷ [], refl, inr (lit≤ tt, inr (lit≤ tt, inl ([], refl, refl))))

pub returns-clause-twice : goal.returns-clause-twice
returns-clause-twice c = inl (5 ∷ 5 ∷ [], refl, inr (lit≤ tt, inl (5 ∷ [], refl, inl ([], refl, refl))))

pub returns-clause-latest : goal.returns-clause-latest
returns-clause-latest c = refl

pub returns-clause-among : goal.returns-clause-among
returns-clause-among c = refl
