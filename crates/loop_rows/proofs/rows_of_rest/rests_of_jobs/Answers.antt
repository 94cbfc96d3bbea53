use Rattle.std.proofs.Common.{◌≡◌, ◌∷◌, ℕ, List, [], append-nil, ◌++◌, Option, Some, None, arith, refl, subst, sym, ◌∙◌, true, false}
use Rattle.loop_model.specs.Requests.{request_of}
use Rattle.loop_model.specs.Rest.{AtMost}
use Rattle.loop_rows.proofs.RowLemmas.{off_on, on_off}
use Rattle.loop_rows.proofs.rows_of_rest.rests_of_jobs.Goals as goal

some_not_none : (b : ℕ) (more : List ℕ) → b ∷ more ≡ [] → ⊥
some_not_none b more e = cc

no_limit : (until limit : Option ℕ) → limit ≡ None → AtMost until limit
no_limit until limit none = subst (λ (l : Option ℕ). AtMost until l) (sym none) tt

pub returns-clause-waits : goal.returns-clause-waits
returns-clause-waits c m a s until j wanted none =
    record { wanted = wanted; goes_on = refl; limited = (no_limit until j.deadline none, tt); watched = λ there. (true, refl, λ unsent. refl); unread = λ some. refl; unsent = λ unsent. absurd (unsent (append-nil (request_of m j))) }

pub returns-clause-full : goal.returns-clause-full
returns-clause-full c m a s until j wanted none = record { wanted = wanted; goes_on = refl; limited = (no_limit until j.deadline none, tt); watched = λ there. (true, refl, λ unsent. refl); unread = λ some. refl; unsent = λ unsent. refl }

pub returns-clause-connects : goal.returns-clause-connects
returns-clause-connects c m a s until j wanted none = record { wanted = wanted; goes_on = refl; limited = (no_limit until j.deadline none, tt); watched = λ there. (true, refl, λ unsent. refl); unread = λ some. absurd (some refl); unsent = λ unsent. refl }

pub returns-clause-unsent : goal.returns-clause-unsent
returns-clause-unsent c m a s until j r = by_it (request_of m j) r.unsent
  where
    by_it : (request : List ℕ) → (([] ≡ request → ⊥) → true ≡ false) → request ≡ []
    by_it [] unsent = refl
    by_it (b ∷ bs) unsent = absurd (on_off (unsent (λ e. nothing b bs e)))
      where
        nothing : (b : ℕ) (bs : List ℕ) → [] ≡ b ∷ bs → ⊥
        nothing b bs e = cc

pub returns-clause-unread : goal.returns-clause-unread
returns-clause-unread c m a s until j b more r = on_off (r.unread (λ none. some_not_none b (more ++ []) none))

pub returns-clause-over : goal.returns-clause-over
returns-clause-over c m s until j r = on_off r.goes_on

pub returns-clause-unwanted : goal.returns-clause-unwanted
returns-clause-unwanted c m s until j off r = off_on (sym off ∙ r.wanted)

pub returns-clause-slept_over : goal.returns-clause-slept_over
returns-clause-slept_over c m s j is r = let late = subst (λ (l : Option ℕ). AtMost (Some 6) l) is r.limited.0 in omega (arith, late)
