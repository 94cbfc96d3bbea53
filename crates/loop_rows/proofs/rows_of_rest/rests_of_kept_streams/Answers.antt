use Rattle.std.proofs.Common.{◌≡◌, ℕ, Option, Some, None, arith, false, true, inl, refl, subst, sym}
use Rattle.loop_model.specs.Rest.{AtMost, RestsKept}
use Rattle.loop_model.specs.Streams.{kept_value}
use Rattle.loop_rows.proofs.ExchangeLemmas.{all_one, first_of_all}
use Rattle.loop_rows.proofs.RowLemmas.{off_on, on_off}
use Rattle.loop_rows.proofs.rows_of_rest.rests_of_kept_streams.Goals as goal

nobody : {A : Type 0} (x : A) → None ≡ Some x → ⊥
nobody x e = cc

pub returns-clause-rests : goal.returns-clause-rests
returns-clause-rests c m v s address none no_deadline = record {
  clients = λ i x is. absurd (nobody x is);
  asking = λ i x is. absurd (nobody x is);
  named = λ i x is none. absurd (nobody x is);
  kept = all_one (RestsKept (Some 5)) (kept_value s address false (Some (3, true)) 5) record { watched = refl; unread = refl; limited = omega arith };
  jobs = inl none;
  deadline = subst (λ (l : Option ℕ). AtMost (Some 5) l) (sym no_deadline) tt;
}

pub returns-clause-slept_over : goal.returns-clause-slept_over
returns-clause-slept_over c m v s address r =
    let late = (first_of_all (RestsKept (Some 6)) (kept_value s address false (Some (3, true)) 5) r.kept).limited in omega (arith, late)

pub returns-clause-forgotten : goal.returns-clause-forgotten
returns-clause-forgotten c m v s address r = (first_of_all (RestsKept None) (kept_value s address false (Some (3, true)) 5) r.kept).limited

pub returns-clause-unread : goal.returns-clause-unread
returns-clause-unread c m v until s address r = on_off (first_of_all (RestsKept until) (kept_value s address true (Some (3, true)) 5) r.kept).unread

pub returns-clause-unwatched : goal.returns-clause-unwatched
returns-clause-unwatched c m v until s address r = off_on (first_of_all (RestsKept until) (kept_value s address false None 5) r.kept).watched
