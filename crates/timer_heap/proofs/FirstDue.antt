-- The popped timer as the least among those that are due.
use Rattle.std.proofs.Common.{◌≡◌, refl, ap, rules, arith, ℕ, ◌≤◌, ◌<◌, List, [], ◌∷◌, ◌++◌, Option, Some, None, true, false, inl, inr, ⊎_elim}
use Rattle.std.specs.Prelude.{◌⊎◌, All, nat_le, ◌==◌}
use Rattle.std.proofs.lemmas.Bool.{cases_Bool, leb-true, leb-false, le-leb, lt-leb}
use Rattle.std.proofs.lemmas.List.Elements.{All-nil, All-cons, All-head, All-tail, All-append, All-weaker}
use Rattle.std.proofs.lemmas.List.Folds.{list_any-append}
use Rattle.std.proofs.lemmas.Option.{same_Some}
use Rattle.timer_heap.specs.Timers.{Timer, earlier, earliest, popped, IsFirstDue, without, is_set, waiting, TimerOp, Set, PopDue}

-- stands among these, where those before it are later, and none of those behind is sooner
record IsEarliest (entries : List Timer) (e : Timer) : Type 0 where
  before : List Timer
  after : List Timer
  stands : entries ≡ before ++ e ∷ after
  before_later : All (λ d. e.at < d.at) before
  after_no_sooner : All (λ d. e.at ≤ d.at) after

option_cases : {A : Type 0} (x : Option A) → (x ≡ None) ⊎ ((a : A) × (x ≡ Some a))
option_cases None = inl refl
option_cases (Some a) = inr (a, refl)

none_only : (entries : List Timer) → earliest entries ≡ None → entries ≡ []
none_only [] is = refl
none_only (x ∷ xs) is = cc

-- all of them are at this time or later
abbrev From : ℕ → Timer → Type 0
From t d = t ≤ d.at

-- all of them are later than this time
abbrev After : ℕ → Timer → Type 0
After t d = t < d.at

-- an earlier bound: before the earliest, at it and behind it
lower : (t : ℕ) (e : Timer) (before after : List Timer) → t ≤ e.at → All (After e.at) before → All (From e.at) after → All (From t) (before ++ e ∷ after)
lower t e before after le later no_sooner =
    All-append (From t) before (e ∷ after)
    (All-weaker (After e.at) (From t) (λ y lt. omega (arith, le, lt)) before later)
    (All-cons (From t) e after le (All-weaker (From e.at) (From t) (λ y h. omega (arith, le, h)) after no_sooner))

tail_after : (t : ℕ) (xs ys : List Timer) → All (From t) (xs ++ ys) → All (From t) ys
tail_after t [] ys all = all
tail_after t (x ∷ xs) ys all = tail_after t xs ys (All-tail (From t) x (xs ++ ys) all)

earliest_found : (entries : List Timer) (e : Timer) → earliest entries ≡ Some e → IsEarliest entries e
earliest_found [] e is = cc
earliest_found (x ∷ xs) e is =
    ⊎_elim
    (λ (none : earliest xs ≡ None).
    let same : x ≡ e = same_Some x e (rw none at is) in
    rw (← same) (record { before = []; after = xs; stands = refl; before_later = All-nil (After x.at); after_no_sooner = rw (none_only xs none) (All-nil (From x.at)) }))
    (λ (some : (d : Timer) × (earliest xs ≡ Some d)).
    let d = some.0 in
    let rest = earliest_found xs d some.1 in
    ⊎_elim
    (λ (le : nat_le x.at d.at ≡ true).
    let same : x ≡ e = same_Some x e (rw (some.1, le) at is) in
    let low : x.at ≤ d.at = leb-true _ _ le in
    rw (← same) (record {
      before = [];
      after = xs;
      stands = refl;
      before_later = All-nil (After x.at);
      after_no_sooner = rw rest.stands (lower x.at d rest.before rest.after low rest.before_later rest.after_no_sooner);
    }))
    (λ (gt : nat_le x.at d.at ≡ false).
    let same : d ≡ e = same_Some d e (rw (some.1, gt) at is) in
    rw (← same) (record {
      before = x ∷ rest.before;
      after = rest.after;
      stands = ap (λ l. x ∷ l) rest.stands;
      before_later = All-cons (After d.at) x rest.before (leb-false _ _ gt) rest.before_later;
      after_no_sooner = rest.after_no_sooner;
    }))
    (cases_Bool (nat_le x.at d.at)))
    (option_cases (earliest xs))

earlier_stays : (e : Timer) (after : List Timer) → All (λ d. e.at ≤ d.at) after → earlier e (earliest after) ≡ e
earlier_stays e [] low = refl
earlier_stays e (x ∷ xs) low =
    let head : e.at ≤ x.at = All-head (From e.at) x xs low in
    ⊎_elim
    (λ (none : earliest xs ≡ None). rw (none, le-leb _ _ head) refl)
    (λ (some : (d : Timer) × (earliest xs ≡ Some d)).
    let rest = earliest_found xs some.0 some.1 in
    let far : e.at ≤ some.0.at = All-head (From e.at) some.0 rest.after
    (tail_after e.at rest.before (some.0 ∷ rest.after) (rw rest.stands at (All-tail (From e.at) x xs low))) in
    ⊎_elim
    (λ (le : nat_le x.at some.0.at ≡ true). rw (some.1, le, le-leb _ _ head) refl)
    (λ (gt : nat_le x.at some.0.at ≡ false). rw (some.1, gt, le-leb _ _ far) refl)
    (cases_Bool (nat_le x.at some.0.at)))
    (option_cases (earliest xs))

pub earliest_only : (before after : List Timer) (e : Timer) → All (λ d. e.at < d.at) before → All (λ d. e.at ≤ d.at) after → earliest (before ++ e ∷ after) ≡ Some e
earliest_only [] after e later no_sooner = ap Some (earlier_stays e after no_sooner)
earliest_only (x ∷ xs) after e later no_sooner = rw (earliest_only xs after e (All-tail (After e.at) x xs later) no_sooner, lt-leb _ _ (All-head (After e.at) x xs later)) refl

pub popped_found : (now : ℕ) (entries : List Timer) (e : Timer) → popped now entries ≡ Some e → IsFirstDue now entries e
popped_found now entries e is =
    ⊎_elim
    (λ (none : earliest entries ≡ None). let bad : None ≡ Some e = rw none at is in cc)
    (λ (some : (d : Timer) × (earliest entries ≡ Some d)).
    let d = some.0 in
    ⊎_elim
    (λ (le : nat_le d.at now ≡ true).
    let same : d ≡ e = same_Some d e (rw (some.1, le) at is) in
    let first = earliest_found entries d some.1 in
    rw (← same) (record { before = first.before; after = first.after; stands = first.stands; due = leb-true _ _ le; before_later = first.before_later; after_no_sooner = first.after_no_sooner }))
    (λ (gt : nat_le d.at now ≡ false). let bad : None ≡ Some e = rw (some.1, gt) at is in cc)
    (cases_Bool (nat_le d.at now)))
    (option_cases (earliest entries))

pub popped_only : (now : ℕ) (entries : List Timer) (e : Timer) → IsFirstDue now entries e → popped now entries ≡ Some e
popped_only now entries e h = rw (h.stands, earliest_only h.before h.after e h.before_later h.after_no_sooner, le-leb _ _ h.due) refl

pub popped_none : (now : ℕ) (entries : List Timer) → popped now entries ≡ None → All (λ e. now < e.at) entries
popped_none now entries is =
    ⊎_elim
    (λ (none : earliest entries ≡ None). rw (none_only entries none) (All-nil (After now)))
    (λ (some : (d : Timer) × (earliest entries ≡ Some d)).
    let d = some.0 in
    let first = earliest_found entries d some.1 in
    ⊎_elim
    (λ (le : nat_le d.at now ≡ true). let bad : Some d ≡ None = rw (some.1, le) at is in cc)
    (λ (gt : nat_le d.at now ≡ false).
    let above : now < d.at = leb-false _ _ gt in
    All-weaker (From d.at) (After now) (λ y le. omega (arith, above, le)) entries
    (rw first.stands (lower d.at d first.before first.after (omega arith) first.before_later first.after_no_sooner)))
    (cases_Bool (nat_le d.at now)))
    (option_cases (earliest entries))

-- a timer that is taken out waits no longer
pub without_it : (id : ℕ) (entries : List Timer) → is_set id (without id entries) ≡ false
without_it id [] = refl
without_it id (x ∷ xs) = ⊎_elim
    (λ (yes : (x.id == id) ≡ true). rw yes (without_it id xs))
    (λ (other : (x.id == id) ≡ false). rw (other, other) (without_it id xs))
    (cases_Bool (x.id == id))

pub set_waits : (at id : ℕ) (past : List TimerOp) → is_set id (waiting (Set at id ∷ past)) ≡ true
set_waits at id past = rw (list_any-append (λ (e : Timer). e.id == id) (waiting past) (record { at = at; id = id } ∷ [])) (grind (arith, rules))

pub popped_waits_not : (now : ℕ) (e : Timer) (past : List TimerOp) → popped now (waiting past) ≡ Some e → is_set e.id (waiting (PopDue now ∷ past)) ≡ false
popped_waits_not now e past is = rw is (without_it e.id (waiting past))
