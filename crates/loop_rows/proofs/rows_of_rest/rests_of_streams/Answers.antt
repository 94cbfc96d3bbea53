use Rattle.std.proofs.Common.{◌≡◌, ◌∷◌, append-nil, ap, ℕ, Bool, List, [], Option, Some, None, arith, inl, refl, subst, sym, ◌∙◌, true, false}
use Rattle.loop_model.specs.Requests.{request_of}
use Rattle.loop_model.specs.Rest.{AtMost}
use Rattle.loop_rows.proofs.RowLemmas.{off_on}
use Rattle.loop_rows.proofs.rows_of_rest.rests_of_streams.Goals as goal

nothing_there : {A : Type 0} (x : A) → None ≡ Some x → ⊥
nothing_there x e = cc

same_of : (w v : ℕ × Bool) → Some w ≡ Some v → w ≡ v
same_of w v e = cc

token_is : (w v : ℕ × Bool) → Some w ≡ Some v → w.0 ≡ v.0
token_is w v e = ap (λ (p : ℕ × Bool). p.0) (same_of w v e)

writes_are : (w v : ℕ × Bool) → Some w ≡ Some v → w.1 ≡ v.1
writes_are w v e = ap (λ (p : ℕ × Bool). p.1) (same_of w v e)

pub returns-clause-client : goal.returns-clause-client
returns-clause-client c s until q = record {
  watched = refl;
  written = λ off. inl record { nothing_waits = refl; nothing_untaken = q.nothing_untaken };
  goes_on = λ off w. q.goes_on;
  unread = λ off w goes. refl;
  dropped = λ on. absurd (off_on on);
  limited = λ on. absurd (off_on on);
}

pub returns-clause-unwatched : goal.returns-clause-unwatched
returns-clause-unwatched c s until r = nothing_there (0, true) r.watched

pub returns-clause-anothers : goal.returns-clause-anothers
returns-clause-anothers c s until r = let same = token_is (2, true) (0, true) r.watched in omega (arith, same)

pub returns-clause-for_reads : goal.returns-clause-for_reads
returns-clause-for_reads c s until r = off_on (writes_are (0, false) (0, true) r.watched)

pub returns-clause-job : goal.returns-clause-job
returns-clause-job c m a s until j wanted none = record {
  wanted = wanted;
  goes_on = refl;
  limited = (subst (λ (l : Option ℕ). AtMost until l) (sym none) tt, tt);
  watched = λ there. (false, refl, λ unsent. absurd (unsent (append-nil (request_of m j))));
  unread = λ some. refl;
  unsent = λ unsent. refl;
}

pub returns-clause-job_unwatched : goal.returns-clause-job_unwatched
returns-clause-job_unwatched c m a s until j got r = let w = r.watched refl in nothing_there (3, w.0) w.1

pub returns-clause-jobs_of_another : goal.returns-clause-jobs_of_another
returns-clause-jobs_of_another c m a s until j got r = let w = r.watched refl in let same = token_is (1, true) (3, w.0) w.1 in omega (arith, same)

pub returns-clause-job_for_reads : goal.returns-clause-job_for_reads
returns-clause-job_for_reads c m a s until j r =
    let w = r.watched refl in by_it (request_of m j) (λ unsent. writes_are (3, false) (3, w.0) w.1 ∙ w.2 unsent)
  where
    by_it : (request : List ℕ) → (([] ≡ request → ⊥) → false ≡ true) → request ≡ []
    by_it [] unsent = refl
    by_it (b ∷ bs) unsent = absurd (off_on (unsent (λ e. nothing b bs e)))
      where
        nothing : (b : ℕ) (bs : List ℕ) → [] ≡ b ∷ bs → ⊥
        nothing b bs e = cc

pub returns-clause-slept_over : goal.returns-clause-slept_over
returns-clause-slept_over c m a s j got r = let late = r.limited.1 in omega (arith, late)
