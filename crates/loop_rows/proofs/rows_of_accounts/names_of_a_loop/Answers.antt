use Rattle.std.proofs.Common.{◌≡◌, ℕ, List, [], ◌∷◌, arith, length, ap, refl, subst}
use Rattle.loop_model.specs.Found.{Asked, IsAwaited, found_value}
use Rattle.loop_rows.proofs.NameRows.{asked_now, found_since, never_asked, nothing, only}
use Rattle.loop_rows.proofs.rows_of_accounts.names_of_a_loop.Goals as goal

pub returns-clause-asked : goal.returns-clause-asked
returns-clause-asked c m v name = record {
  told = refl;
  made = λ p. refl;
  closed = λ p. refl;
  dealt = refl;
  asked = refl;
  found = refl;
  awaited = λ n there. subst (λ (m : List ℕ). IsAwaited m (Asked name ∷ [])) (only name n there) (asked_now name []);
}

pub returns-clause-found : goal.returns-clause-found
returns-clause-found c m v name a =
    record { told = refl; made = λ p. refl; closed = λ p. refl; dealt = refl; asked = refl; found = refl; awaited = λ n there. absurd (nothing n there) }

pub returns-clause-unasked : goal.returns-clause-unasked
returns-clause-unasked c m v name e = never_asked name (e.awaited name (0, omega arith, refl))

pub returns-clause-untold : goal.returns-clause-untold
returns-clause-untold c m v name e = let size : 1 ≡ 0 = ap (λ (l : List (List ℕ)). length l) e.asked in omega (arith, size)

pub returns-clause-untaken : goal.returns-clause-untaken
returns-clause-untaken c m v name e = let size : 0 ≡ 1 = ap (λ (l : List (List ℕ)). length l) e.asked in omega (arith, size)

pub returns-clause-stale : goal.returns-clause-stale
returns-clause-stale c m v name a e = found_since name (found_value name (a ∷ [])) refl (e.awaited name (0, omega arith, refl))
