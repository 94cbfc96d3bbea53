-- A result of a branch that is not out changes nothing.
use Rattle.std.specs.Prelude.{◌≡◌, ◌∷◌, ◌<◌, ◌++◌, ◌&&◌, ◌==◌}
use Rattle.gateway_theory.specs.lemmas.Names.{ℕ, arith, Outcome, Counted, CallId, Result, Past, how_seen, mark_of, replies, zero, suc, true, false, List, replicate, refl, sym, ◌∙◌, ⊎_elim, nat_tests, nat_lt, cases_Bool, eqb-true, and_parts, ltb-false, Unknown, Occurrence, Mark, is_call, can_be_decided, is_out, started, marked}
use Rattle.gateway_theory.specs.lemmas.Cases.{and_true}
use Rattle.gateway_theory.specs.lemmas.LimitLemmas.{out_started, same_call}
use Rattle.gateway_theory.specs.lemmas.StandsLemmas.{Quiet, result_quiet, started_same}

-- ---- results that do not count

pub uncounted_replies : (id : CallId) (i : ℕ) (outcome : Outcome) (past : Past) (conn : ℕ) → (how_seen id i past ≡ Counted → ⊥)
    → replies conn (mark_of past (Result id i outcome) ∷ past) ≡ replies conn past
uncounted_replies id i outcome past conn h = grind arith

not_out : (id : CallId) (i : ℕ) (past : Past) → how_seen id i past ≡ Unknown → is_out id i past ≡ false
not_out id i past unknown = grind arith

same_out : (id : CallId) (i : ℕ) (outcome : Outcome) (past : Past) → is_out id i past ≡ false → (other : CallId) (j : ℕ)
    → is_out other j (mark_of past (Result id i outcome) ∷ past) ≡ is_out other j past
same_out id i outcome past back other j =
    let m : Mark = mark_of past (Result id i outcome) in
    let quiet : Quiet other m past = result_quiet other id i outcome m past refl (rw back refl) in
    let same_started : started other (m ∷ past) ≡ started other past = started_same other m past quiet in
    ⊎_elim
    (λ (has_started : nat_lt j (started other past) ≡ true). rw has_started (⊎_elim
    (λ (its : (is_call id other && (i == j)) ≡ true).
    let parts = and_parts (is_call id other) (i == j) its in
    let same_id : id ≡ other = same_call id other parts.0 in
    let same_branch : i ≡ j = eqb-true i j parts.1 in
    let was : is_out other j past ≡ false = rw (← same_id, ← same_branch) back in
    rw (its, was) refl)
    (λ (others : (is_call id other && (i == j)) ≡ false). rw others (and_true (is_out other j past)))
    (cases_Bool (is_call id other && (i == j)))))
    (λ (not_yet : nat_lt j (started other past) ≡ false).
    let was : is_out other j past ≡ false = ⊎_elim
    (λ (out : is_out other j past ≡ true). let lt : j < started other past = out_started other j past out in absurd (omega (arith, lt, ltb-false j (started other past) not_yet)))
    (λ (back : is_out other j past ≡ false). back)
    (cases_Bool (is_out other j past)) in
    rw (not_yet, same_started) (not_yet ∙ sym was))
    (cases_Bool (nat_lt j (started other past)))

same_open : (id : CallId) (i : ℕ) (outcome : Outcome) (past : Past) → is_out id i past ≡ false → (other : CallId)
    → can_be_decided other (mark_of past (Result id i outcome) ∷ past) ≡ can_be_decided other past
same_open id i outcome past back other = grind arith

-- how a result is how_seen stays
pub unknown_judged : (id : CallId) (i : ℕ) (outcome : Outcome) (past : Past) → how_seen id i past ≡ Unknown → (other : CallId) (j : ℕ)
    → how_seen other j (mark_of past (Result id i outcome) ∷ past) ≡ how_seen other j past
unknown_judged id i outcome past unknown other j =
    let back : is_out id i past ≡ false = not_out id i past unknown in
    rw (same_out id i outcome past back other j, same_open id i outcome past back other) refl

-- and so it does after any number of them
pub unknown_many : (id : CallId) (i : ℕ) (outcome : Outcome) (occurred : List Occurrence) → how_seen id i (marked occurred) ≡ Unknown → (n : ℕ) (other : CallId) (j : ℕ)
    → how_seen other j (marked (replicate n (Result id i outcome) ++ occurred)) ≡ how_seen other j (marked occurred)
unknown_many id i outcome occurred unknown zero other j = refl
unknown_many id i outcome occurred unknown (suc n) other j = grind (arith, nat_tests, unknown_many id i outcome occurred unknown n id i, unknown_many id i outcome occurred unknown n other j, unknown_judged)

-- and nothing more is queued
pub unknown_replies : (id : CallId) (i : ℕ) (outcome : Outcome) (occurred : List Occurrence) → how_seen id i (marked occurred) ≡ Unknown → (n conn : ℕ)
    → replies conn (marked (replicate n (Result id i outcome) ++ occurred)) ≡ replies conn (marked occurred)
unknown_replies id i outcome occurred unknown zero conn = refl
unknown_replies id i outcome occurred unknown (suc n) conn = grind (arith, nat_tests, unknown_replies id i outcome occurred unknown n conn, uncounted_replies, unknown_many)
