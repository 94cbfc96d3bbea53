-- Why the laws hold: each is kept by one operation more.
use Rattle.std.proofs.Common.{◌≡◌, ℕ, suc, ◌-◌, ◌<◌, ◌≤◌, Bool, true, false, List, [], ◌∷◌, ◌++◌, map, length, take, drop, Option, None, Some, refl, sym, ap, ◌∙◌, arith, append_assoc}
use Rattle.std.specs.Prelude.{◌==◌, nat_lt, not, ◌&&◌, if◌then◌else◌, ◌↔◌, Result, Ok, Err, is_err, slice_get, is_some, option_to_list, IsSome, IsTrue}
use Rattle.std.specs.Option.{option_or}
use Rattle.std.specs.Result.{result_err}
use Rattle.std.proofs.lemmas.Bool.Decides.{nat_tests}
use Rattle.std.proofs.lemmas.List.{append-nil, map-append}
use Rattle.err_group.specs.GroupState.{GroupState, freed_by}
use Rattle.err_group.specs.Group.{Operation, SetLimit, TryGo, Go, Done, ClearQueue, Past, limit_of, queue_of, starts_of, finishes_of, errors_of, group_of, takes_effect, past_of, after, IsReached}
use Rattle.err_group.specs.Fates.{Fate, Started, Removed, task_of, queued_of, fates_of}
use Rattle.err_group.proofs.GroupLemmas.{finishes-le-starts, first-push}

-- ---- the limit

-- as many are active as may be, or fewer and none waits
abbrev IsLimited : {T E : Type 0} → Past T E → Type 0
IsLimited past = ((group_of past).active ≤ (group_of past).limit) × (0 < length (group_of past).queue → (group_of past).active ≡ (group_of past).limit)

-- a task starts where there is room, and then none waits
limited-started : (starts finishes limit waiting : ℕ) → starts - finishes < limit → finishes ≤ starts
    → (starts - finishes ≤ limit) × (0 < waiting → starts - finishes ≡ limit)
    → (suc starts - finishes ≤ limit) × (0 < waiting → suc starts - finishes ≡ limit)
limited-started starts finishes limit waiting room le was = (omega (arith, room, le), λ waits. absurd (omega (arith, room, was.1 waits)))

-- a finish leaves room only if none waits
limited-done : {T : Type 0} (starts finishes limit : ℕ) (queue : List T) → 0 < starts - finishes
    → (starts - finishes ≤ limit) × (0 < length queue → starts - finishes ≡ limit)
    → ((if length queue == 0 then starts else suc starts) - suc finishes ≤ limit)
    × (0 < length (drop 1 queue) → (if length queue == 0 then starts else suc starts) - suc finishes ≡ limit)
limited-done starts finishes limit [] some was = (omega (arith, was.0), λ waits. absurd (omega (arith, waits)))
limited-done starts finishes limit (task ∷ queue) some was =
    let nonempty : (suc (length queue) == 0) ≡ false = grind (arith, nat_tests) in
    let full = was.1 (omega arith) in
    rw nonempty (omega (arith, full), λ _. omega (arith, full))

limited-then : {T E : Type 0} (o : Operation T E) (effect : Bool) (past : Past T E) → effect ≡ takes_effect o (group_of past)
    → finishes_of past ≤ starts_of past → IsLimited past → IsLimited ((o, effect) ∷ past)
unfolding group_of
limited-then (SetLimit limit) true past is le was = grind (arith, nat_tests, is)
limited-then (SetLimit limit) false past is le was = was
limited-then TryGo true past is le was =
    limited-started (starts_of past) (finishes_of past) (limit_of past) (length (queue_of past)) (grind (arith, nat_tests, is)) le was
limited-then TryGo false past is le was = was
limited-then (Go task) true past is le was =
    limited-started (starts_of past) (finishes_of past) (limit_of past) (length (queue_of past)) (grind (arith, nat_tests, is)) le was
limited-then (Go task) false past is le was =
    let full : limit_of past ≤ starts_of past - finishes_of past = grind (arith, nat_tests, is) in
    (was.0, λ waits. omega (arith, full, was.0))
limited-then (Done outcome) true past is le was = limited-done (starts_of past) (finishes_of past) (limit_of past) (queue_of past) (grind (arith, nat_tests, is)) was
limited-then (Done outcome) false past is le was = was
limited-then ClearQueue true past is le was = (was.0, λ waits. absurd (omega (arith, waits)))
limited-then ClearQueue false past is le was = (was.0, λ waits. absurd (omega (arith, waits)))

limited : {T E : Type 0} (operations : List (Operation T E)) → IsLimited (past_of operations)
unfolding group_of
limited [] = (omega arith, λ waits. absurd (omega (arith, waits)))
limited (o ∷ operations) =
    limited-then o (takes_effect o (group_of (past_of operations))) (past_of operations) refl (finishes-le-starts operations) (limited operations)

pub active-le-limit : {T E : Type 0} (operations : List (Operation T E)) → (after operations).active ≤ (after operations).limit
active-le-limit operations = (limited operations).0

pub active-full : {T E : Type 0} (operations : List (Operation T E)) → 0 < length (after operations).queue → (after operations).active ≡ (after operations).limit
active-full operations = (limited operations).1

pub reached-limited : {T E : Type 0} (g : GroupState T E) → IsReached g → (g.active ≤ g.limit) × (0 < length g.queue → g.active ≡ g.limit)
reached-limited g reached = rw reached.stands (limited reached.operations)

pub active-zero : {T E : Type 0} (operations : List (Operation T E)) → (after operations).limit ≡ 0 → (after operations).active ≡ 0
active-zero operations zero = omega (arith, active-le-limit operations, zero)

-- ---- the queue

-- the first that waits leaves
first_leaves : {T : Type 0} (fates : List (Fate T)) (queue : List T) → map task_of (fates ++ map Started (take 1 queue)) ++ drop 1 queue ≡ map task_of fates ++ queue
first_leaves fates [] = rw (append-nil fates) refl
first_leaves fates (task ∷ queue) = rw (map-append task_of fates (Started task ∷ [])) (append_assoc (map task_of fates) (task ∷ []) queue)

map-removed : {T : Type 0} (queue : List T) → map task_of (map Removed queue) ≡ queue
map-removed [] = refl
map-removed (task ∷ queue) = ap (λ xs. task ∷ xs) (map-removed queue)

-- all that wait leave
all_leave : {T : Type 0} (fates : List (Fate T)) (queue : List T) → map task_of (fates ++ map Removed queue) ++ [] ≡ map task_of fates ++ queue
all_leave fates queue = rw (append-nil (map task_of (fates ++ map Removed queue)), map-append task_of fates (map Removed queue), map-removed queue) refl

-- what left the queue and what waits is what was queued
pub left_and_waiting : {T E : Type 0} (past : Past T E) → map task_of (fates_of past) ++ queue_of past ≡ queued_of past
left_and_waiting [] = refl
left_and_waiting ((SetLimit limit, true) ∷ past) = left_and_waiting past
left_and_waiting ((SetLimit limit, false) ∷ past) = left_and_waiting past
left_and_waiting ((TryGo, true) ∷ past) = left_and_waiting past
left_and_waiting ((TryGo, false) ∷ past) = left_and_waiting past
left_and_waiting ((Go task, true) ∷ past) = left_and_waiting past
left_and_waiting ((Go task, false) ∷ past) = sym (append_assoc (map task_of (fates_of past)) (queue_of past) (task ∷ [])) ∙ ap (λ xs. xs ++ task ∷ []) (left_and_waiting past)
left_and_waiting ((Done outcome, true) ∷ past) = first_leaves (fates_of past) (queue_of past) ∙ left_and_waiting past
left_and_waiting ((Done outcome, false) ∷ past) = left_and_waiting past
left_and_waiting ((ClearQueue, true) ∷ past) = all_leave (fates_of past) (queue_of past) ∙ left_and_waiting past
left_and_waiting ((ClearQueue, false) ∷ past) = all_leave (fates_of past) (queue_of past) ∙ left_and_waiting past

take-one : {T : Type 0} (queue : List T) → take 1 queue ≡ option_to_list (slice_get queue 0)
take-one [] = refl
take-one (task ∷ queue) = refl

-- a finish starts what it answers
pub fates-done : {T E : Type 0} (past : Past T E) (outcome : Result (Unit {0}) E) (effect : Bool) → effect ≡ nat_lt 0 (group_of past).active
    → fates_of ((Done outcome, effect) ∷ past) ≡ fates_of past ++ map Started (option_to_list (freed_by outcome (group_of past)).next)
unfolding group_of
fates-done past outcome true is =
    let some : ((group_of past).active == 0) ≡ false = grind (arith, nat_tests, is) in
    rw (some, take-one (queue_of past)) refl
fates-done past outcome false is =
    let none : ((group_of past).active == 0) ≡ true = grind (arith, nat_tests, is) in
    rw (none, append-nil (fates_of past)) refl

-- ---- the first error

first_error-then : {T E : Type 0} (o : Operation T E) (effect : Bool) (past : Past T E) (error : E) → slice_get (errors_of past) 0 ≡ Some error
    → slice_get (errors_of ((o, effect) ∷ past)) 0 ≡ Some error
first_error-then (SetLimit limit) true past error is = is
first_error-then (SetLimit limit) false past error is = is
first_error-then TryGo true past error is = is
first_error-then TryGo false past error is = is
first_error-then (Go task) true past error is = is
first_error-then (Go task) false past error is = is
first_error-then (Done outcome) true past error is = rw (← first-push (errors_of past) (result_err outcome), is) refl
first_error-then (Done outcome) false past error is = is
first_error-then ClearQueue true past error is = is
first_error-then ClearQueue false past error is = is

pub first_error_stays : {T E : Type 0} (later operations : List (Operation T E)) (error : E) → (after operations).first_error ≡ Some error
    → (after (later ++ operations)).first_error ≡ Some error
unfolding group_of
first_error_stays [] operations error is = is
first_error_stays (o ∷ later) operations error is =
    first_error-then o (takes_effect o (after (later ++ operations))) (past_of (later ++ operations)) error (first_error_stays later operations error is)

-- an error is the first where there was none
first-is : {E : Type 0} (first_error : Option E) (outcome : Result (Unit {0}) E)
    → IsTrue (is_err outcome && not (is_some first_error)) ↔ ((first_error ≡ None) × IsSome (option_or first_error (result_err outcome)))
first-is None (Ok u) = (λ first. (refl, first), λ came. came.1)
first-is None (Err error) = (λ _. (refl, refl), λ _. refl)
first-is (Some x) (Ok u) = (λ first. absurd (cc), λ came. absurd (cc))
first-is (Some x) (Err error) = (λ first. absurd (cc), λ came. absurd (cc))

-- with nothing active none is
first-never : {E : Type 0} (first_error : Option E) → IsTrue false ↔ ((first_error ≡ None) × IsSome first_error)
first-never None = (λ first. absurd (cc), λ came. absurd (cc))
first-never (Some error) = (λ first. absurd (cc), λ came. absurd (cc))

pub first-done : {T E : Type 0} (past : Past T E) (outcome : Result (Unit {0}) E) (effect : Bool) → effect ≡ nat_lt 0 (group_of past).active
    → IsTrue (freed_by outcome (group_of past)).first ↔ (((group_of past).first_error ≡ None) × IsSome (group_of ((Done outcome, effect) ∷ past)).first_error)
unfolding group_of
first-done past outcome true is =
    let some : ((group_of past).active == 0) ≡ false = grind (arith, nat_tests, is) in
    rw (some, ← first-push (errors_of past) (result_err outcome)) (first-is (slice_get (errors_of past) 0) outcome)
first-done past outcome false is =
    let none : ((group_of past).active == 0) ≡ true = grind (arith, nat_tests, is) in
    rw none (first-never (slice_get (errors_of past) 0))
