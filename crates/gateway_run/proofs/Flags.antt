-- Options, lists by places, and lists that are filtered.
use Rattle.gateway_run.proofs.Names.{◌≡◌, ℕ, zero, suc, ◌<◌, ◌≤◌, Bool, true, false, List, [], ◌∷◌, ◌++◌, length, map, refl, sym, ap, ◌∙◌, arith, append-nil, if◌then◌else◌, ◌||◌, filter, not, slice_index_or, slice_set, JobValue, Occurrence, is_break, without_breaks, breaks, is_broken, mark_of, marked, Placed, jobs, jobs_by, occurrences, starts, append_cancel_left, events_occur, StartedJob, job_started, start, is_start_of, run_start, start_at, nat_tests}
use Rattle.gateway_model.specs.Breaks.{by_events}
use Rattle.gateway_theory.specs.lemmas.OwnLemmas.{unbroken_started}
use Rattle.gateway_model.specs.Known.{is_of}
use Rattle.std.proofs.lemmas.List.Elements.{filter-append}

-- ---- places

pub set_here : {A : Type 0} (xs : List A) (n : ℕ) (a d : A) → n < length xs → slice_index_or (slice_set xs n a) n d ≡ a
set_here [] n a d lt = absurd (omega (arith, lt))
set_here (x ∷ xs) zero a d lt = refl
set_here (x ∷ xs) (suc n) a d lt = set_here xs n a d (omega (arith, lt))

pub set_other : {A : Type 0} (xs : List A) (n c : ℕ) (a d : A) → (c ≡ n → ⊥) → slice_index_or (slice_set xs n a) c d ≡ slice_index_or xs c d
set_other [] n c a d ne = refl
set_other (x ∷ xs) zero zero a d ne = absurd (ne refl)
set_other (x ∷ xs) zero (suc c) a d ne = refl
set_other (x ∷ xs) (suc n) zero a d ne = refl
set_other (x ∷ xs) (suc n) (suc c) a d ne = set_other xs n c a d (λ same. ne (ap suc same))

pub beyond : {A : Type 0} (xs : List A) (c : ℕ) (d : A) → length xs ≤ c → slice_index_or xs c d ≡ d
beyond [] c d le = refl
beyond (x ∷ xs) zero d le = absurd (omega (arith, le))
beyond (x ∷ xs) (suc c) d le = beyond xs c d (omega (arith, le))

-- one more, which is as what stands for none
pub more_default : {A : Type 0} (xs : List A) (c : ℕ) (d : A) → slice_index_or (xs ++ d ∷ []) c d ≡ slice_index_or xs c d
more_default [] zero d = refl
more_default [] (suc c) d = refl
more_default (x ∷ xs) zero d = refl
more_default (x ∷ xs) (suc c) d = more_default xs c d

-- ---- starts of a connection

abbrev pub is_started_on : ℕ → StartedJob → Bool
is_started_on c s = is_of c s.1

pub starts_on : (c place : ℕ) (js : List JobValue) → filter (is_started_on c) (map (start place) js) ≡ map (start place) (filter (is_of c) js)
starts_on c place [] = refl
starts_on c place (j ∷ js) = grind (arith, starts_on c place js)

pub run_starts_on : (c : ℕ) (started : List StartedJob) → filter (is_start_of c) (map run_start started) ≡ map run_start (filter (is_started_on c) started)
run_starts_on c [] = refl
run_starts_on c (s ∷ started) = grind (arith, run_starts_on c started)

pub starts_at : (place : ℕ) (js : List JobValue) → map (start_at place) js ≡ map run_start (map (start place) js)
starts_at place [] = refl
starts_at place (j ∷ js) = ap (λ xs. start_at place j ∷ xs) (starts_at place js)

pub jobs_again : (place : ℕ) (js : List JobValue) → map job_started (map (start place) js) ≡ js
jobs_again place [] = refl
jobs_again place (j ∷ js) = ap (λ xs. j ∷ xs) (jobs_again place js)

-- ---- starts of a connection that did not break

one_more : (c : ℕ) (o : Placed) (lived : List Placed) → filter (is_started_on c) (starts (o ∷ lived))
    ≡ filter (is_started_on c) (starts lived) ++ map (start o.0) (filter (is_of c) (jobs_by o.1 (mark_of (marked (occurrences lived)) o.1) (marked (occurrences lived))))
one_more c o lived = search (arith, nat_tests, filter-append, starts_on)

-- what the newest starts is as if none had broken
same_new : (c : ℕ) (o : Occurrence) (os : List Occurrence) → is_break o ≡ false → is_broken c (marked (o ∷ os)) ≡ false → is_broken c (marked os) ≡ false
    → filter (is_of c) (jobs_by o (mark_of (marked os) o) (marked os)) ≡ filter (is_of c) (jobs_by o (mark_of (marked (without_breaks os)) o) (marked (without_breaks os)))
same_new c o os plain off before = append_cancel_left (filter (is_of c) (jobs (marked os))) (filter (is_of c) now) (filter (is_of c) after) (
    sym (filter-append (is_of c) (jobs (marked os)) now) ∙ unbroken_started c (o ∷ os) off
    ∙ ap (λ b. filter (is_of c) (jobs (marked (if not b then o ∷ without_breaks os else without_breaks os)))) plain
    ∙ filter-append (is_of c) (jobs (marked (without_breaks os))) after ∙ ap (λ xs. xs ++ filter (is_of c) after) (sym (unbroken_started c os before)))
  where
    now : List JobValue
    now = jobs_by o (mark_of (marked os) o) (marked os)

    after : List JobValue
    after = jobs_by o (mark_of (marked (without_breaks os)) o) (marked (without_breaks os))

no_job_breaks : (c : ℕ) (o : Occurrence) (os : List Occurrence) → is_break o ≡ true → filter (is_of c) (jobs_by o (mark_of (marked os) o) (marked os)) ≡ []
no_job_breaks c o os h3 = grind (arith, nat_tests)

pub same_starts : (c : ℕ) (lived : List Placed) → is_broken c (marked (occurrences lived)) ≡ false
    → filter (is_started_on c) (starts lived) ≡ filter (is_started_on c) (starts (by_events lived))
same_starts c [] off = refl
same_starts c (o ∷ lived) off = one_more c o lived ∙ by (is_break o.1) refl (same_starts c lived before)
  where
    before : is_broken c (marked (occurrences lived)) ≡ false
    before = behind (breaks c o.1) off
      where
        behind : (b : Bool) → (b || is_broken c (marked (occurrences lived))) ≡ false → is_broken c (marked (occurrences lived)) ≡ false
        behind true e = absurd (cc)
        behind false e = e

    by : (b : Bool) → is_break o.1 ≡ b → filter (is_started_on c) (starts lived) ≡ filter (is_started_on c) (starts (by_events lived))
        → filter (is_started_on c) (starts lived) ++ map (start o.0) (filter (is_of c) (jobs_by o.1 (mark_of (marked (occurrences lived)) o.1) (marked (occurrences lived))))
        ≡ filter (is_started_on c) (starts (if not b then o ∷ by_events lived else by_events lived))
    by true e h = ap (λ xs. filter (is_started_on c) (starts lived) ++ map (start o.0) xs) (no_job_breaks c o.1 (occurrences lived) e)
        ∙ append-nil (filter (is_started_on c) (starts lived)) ∙ h
    by false e h =
        ap (λ xs. xs ++ map (start o.0) (filter (is_of c) (jobs_by o.1 (mark_of (marked (occurrences lived)) o.1) (marked (occurrences lived))))) h
        ∙ ap (λ xs. filter (is_started_on c) (starts (by_events lived)) ++ map (start o.0) xs) (same_new c o.1 (occurrences lived) e off before
        ∙ ap (λ us. filter (is_of c) (jobs_by o.1 (mark_of (marked us) o.1) (marked us))) (sym (events_occur lived)))
        ∙ sym (one_more c o (by_events lived))
