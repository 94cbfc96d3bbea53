use Rattle.std.proofs.Common.{◌≡◌, ◌≤◌, ℕ, zero, suc, List, [], ◌∷◌, Option, Some, None, arith, false, inl, refl, subst, sym, ◌∙◌, ⊎_elim}
use Rattle.std.proofs.lemmas.List.Elements.{All-nil}
use Rattle.std.specs.List.{Contains}
use Rattle.std.specs.Prelude.{slice_index_or}
use Rattle.gateway_theory.specs.Values.{shown}
use Rattle.loop_model.specs.Asking.{AskingValue}
use Rattle.loop_model.specs.Rest.{AtMost, RestsAsking, RestsKept}
use Rattle.loop_rows.specs.LoopRows.{standing_job}
use Rattle.loop_rows.proofs.NameRows.{nothing, only}
use Rattle.loop_rows.proofs.RowLemmas.{off_on}
use Rattle.loop_rows.proofs.rows_of_rest.rests_of_loops.Goals as goal

nobody : {A : Type 0} (x : A) → None ≡ Some x → ⊥
nobody x e = cc

some_not_none : {A : Type 0} (x : A) (xs : List A) → x ∷ xs ≡ [] → ⊥
some_not_none x xs e = cc

pub returns-clause-empty : goal.returns-clause-empty
returns-clause-empty c m v none no_deadline = record {
  clients = λ i x is. absurd (nobody x is);
  asking = λ i x is. absurd (nobody x is);
  named = λ i x is none. absurd (nobody x is);
  kept = All-nil (RestsKept None);
  jobs = inl none;
  deadline = subst (λ (l : Option ℕ). AtMost None l) (sym no_deadline) tt;
}

pub returns-clause-job : goal.returns-clause-job
returns-clause-job c m v until j rest some r =
    ⊎_elim (λ (none : (shown v).waiting ≡ []). some_not_none j rest (sym some ∙ none)) (λ (full : 1024 ≤ 0). omega (arith, full)) r.jobs

pub returns-clause-slept_over : goal.returns-clause-slept_over
returns-clause-slept_over c m v is r = let late = subst (λ (l : Option ℕ). AtMost (Some 6) l) is r.deadline in omega (arith, late)

pub returns-clause-forgotten : goal.returns-clause-forgotten
returns-clause-forgotten c m v is r = subst (λ (l : Option ℕ). AtMost None l) is r.deadline

-- one is there, in the first place
only_one : (P : ℕ → AskingValue → Type 0) (x : AskingValue) → P 0 x → (i : ℕ) (y : AskingValue) → slice_index_or (Some x ∷ []) i None ≡ Some y → P i y
only_one P x own zero y is = subst (λ (z : AskingValue). P 0 z) (same is) own
  where
    same : Some x ≡ Some y → x ≡ y
    same e = cc
only_one P x own (suc i) y is = absurd (nobody y is)

pub returns-clause-named : goal.returns-clause-named
returns-clause-named c m v j none no_deadline wanted no_limit = record {
  clients = λ i x is. absurd (nobody x is);
  asking = only_one (λ (i : ℕ) (x : AskingValue). RestsAsking m (shown v) None i x) (standing_job j false false false) record {
    wanted = wanted;
    goes_on = refl;
    limited = (subst (λ (l : Option ℕ). AtMost None l) (sym no_limit) tt, tt);
    watched = λ there. absurd (off_on there);
    unread = λ some. refl;
    unsent = λ unsent. refl;
  };
  named = only_one (λ (i : ℕ) (x : AskingValue). x.stream ≡ None → Contains (j.address ∷ []) x.job.address) (standing_job j false false false) (λ alone. (0, omega arith, refl));
  kept = All-nil (RestsKept None);
  jobs = inl none;
  deadline = subst (λ (l : Option ℕ). AtMost None l) (sym no_deadline) tt;
}

pub returns-clause-unnamed : goal.returns-clause-unnamed
returns-clause-unnamed c m v until j r = nothing j.address (r.named 0 (standing_job j false false false) refl refl)

pub returns-clause-anothers : goal.returns-clause-anothers
returns-clause-anothers c m v until j other apart r = apart (only other j.address (r.named 0 (standing_job j false false false) refl refl))
