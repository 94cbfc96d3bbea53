-- What each operation makes of a group that stands for some operations.
use Rattle.std.proofs.Common.{◌≡◌, ℕ, suc, ◌+◌, ◌-◌, ◌<◌, ◌≤◌, Bool, true, false, List, [], ◌∷◌, ◌++◌, length, Option, None, Some, refl, sym, ap, ◌∙◌, arith}
use Rattle.std.specs.Prelude.{◌==◌, if◌then◌else◌, unwrap_or, Result, slice_get, option_to_list}
use Rattle.std.specs.Option.{option_or}
use Rattle.std.specs.Result.{result_err}
use Rattle.std.proofs.lemmas.Bool.{cond_both}
use Rattle.std.proofs.lemmas.Bool.Decides.{nat_tests}
use Rattle.err_group.specs.GroupState.{GroupState, is_idle, has_room, Finishes}
use Rattle.err_group.specs.Group.{Operation, SetLimit, TryGo, Go, Done, ClearQueue, Past, queue_of, starts_of, finishes_of, errors_of, group_of, takes_effect, past_of, no_limit, after, StandsFor}

-- one operation more, which has its own effect
finishes-le-starts_then : {T E : Type 0} (o : Operation T E) (effect : Bool) (past : Past T E) → effect ≡ takes_effect o (group_of past)
    → finishes_of past ≤ starts_of past → finishes_of ((o, effect) ∷ past) ≤ starts_of ((o, effect) ∷ past)
unfolding group_of
finishes-le-starts_then (SetLimit limit) true past is le = le
finishes-le-starts_then (SetLimit limit) false past is le = le
finishes-le-starts_then TryGo true past is le = omega (arith, le)
finishes-le-starts_then TryGo false past is le = le
finishes-le-starts_then (Go task) true past is le = omega (arith, le)
finishes-le-starts_then (Go task) false past is le = le
finishes-le-starts_then (Done outcome) true past is le =
    let some : 0 < starts_of past - finishes_of past = grind (arith, nat_tests, is) in
    cond_both (length (queue_of past) == 0) (starts_of past) (suc (starts_of past)) (λ n. suc (finishes_of past) ≤ n) (λ _. omega (arith, some)) (λ _. omega (arith, some))
finishes-le-starts_then (Done outcome) false past is le = le
finishes-le-starts_then ClearQueue true past is le = le
finishes-le-starts_then ClearQueue false past is le = le

-- no more finishes count than tasks have started
pub finishes-le-starts : {T E : Type 0} (operations : List (Operation T E)) → finishes_of (past_of operations) ≤ starts_of (past_of operations)
finishes-le-starts [] = omega arith
finishes-le-starts (o ∷ operations) =
    finishes-le-starts_then o (takes_effect o (group_of (past_of operations))) (past_of operations) refl (finishes-le-starts operations)

-- the group after one operation more, which has this effect
becomes : {T E : Type 0} (g new : GroupState T E) (o : Operation T E) (effect : Bool) (operations : List (Operation T E)) → StandsFor g operations
    → takes_effect o g ≡ effect → new ≡ group_of ((o, effect) ∷ past_of operations) → StandsFor new (o ∷ operations)
becomes g new o effect operations stands is same =
    same ∙ ap (λ b. group_of ((o, b) ∷ past_of operations)) (sym is ∙ ap (takes_effect o) stands)

-- groups are equal that have the same fields
by_fields : {T E : Type 0} (a b : GroupState T E) → a.active ≡ b.active → a.limit ≡ b.limit → a.queue ≡ b.queue → a.first_error ≡ b.first_error → a ≡ b
by_fields a b active limit queue first_error =
    ap (λ n. record a { active = n }) active ∙ ap (λ n. record a { active = b.active; limit = n }) limit
    ∙ ap (λ q. record a { active = b.active; limit = b.limit; queue = q }) queue
    ∙ ap (λ e. record b { first_error = e }) first_error

-- there is room after operations for which such a group stands
pub room_after : {T E : Type 0} (g : GroupState T E) (operations : List (Operation T E)) → StandsFor g operations → g.active < g.limit
    → has_room (after operations) ≡ true
room_after g operations stands room = rw (← stands) (grind (arith, nat_tests, room))

pub no_room_after : {T E : Type 0} (g : GroupState T E) (operations : List (Operation T E)) → StandsFor g operations → g.limit ≤ g.active
    → has_room (after operations) ≡ false
no_room_after g operations stands room = rw (← stands) (grind (arith, nat_tests, room))

-- a limit that is set
pub limit_set : {T E : Type 0} (g : GroupState T E) (limit : Option ℕ) (operations : List (Operation T E)) → StandsFor g operations → is_idle g ≡ true
    → StandsFor (record g { limit = unwrap_or limit no_limit }) (SetLimit limit ∷ operations)
unfolding group_of
limit_set g limit operations stands idle = becomes g _ (SetLimit limit) true operations stands idle (rw stands refl)

-- a limit that is refused
pub limit_refused : {T E : Type 0} (g : GroupState T E) (limit : Option ℕ) (operations : List (Operation T E)) → StandsFor g operations → is_idle g ≡ false
    → StandsFor g (SetLimit limit ∷ operations)
unfolding group_of
limit_refused g limit operations stands idle = becomes g g (SetLimit limit) false operations stands idle stands

one_more_active : {T E : Type 0} (operations : List (Operation T E))
    → (starts_of (past_of operations) - finishes_of (past_of operations)) + 1 ≡ suc (starts_of (past_of operations)) - finishes_of (past_of operations)
one_more_active operations = omega (arith, finishes-le-starts operations)

-- a task that `try_go` starts
pub tried : {T E : Type 0} (g : GroupState T E) (operations : List (Operation T E)) → StandsFor g operations → g.active < g.limit
    → StandsFor (record g { active = g.active + 1 }) (TryGo ∷ operations)
unfolding group_of
tried g operations stands room = becomes g _ TryGo true operations stands (grind (arith, nat_tests, room)) (rw (stands, one_more_active operations) refl)

-- a task for which `try_go` finds no room
pub not_tried : {T E : Type 0} (g : GroupState T E) (operations : List (Operation T E)) → StandsFor g operations → g.limit ≤ g.active
    → StandsFor g (TryGo ∷ operations)
unfolding group_of
not_tried g operations stands room = becomes g g TryGo false operations stands (grind (arith, nat_tests, room)) stands

-- a task that `go` starts
pub started : {T E : Type 0} (g : GroupState T E) (task : T) (operations : List (Operation T E)) → StandsFor g operations → g.active < g.limit
    → StandsFor (record g { active = g.active + 1 }) (Go task ∷ operations)
unfolding group_of
started g task operations stands room = becomes g _ (Go task) true operations stands (grind (arith, nat_tests, room)) (rw (stands, one_more_active operations) refl)

-- a task that `go` queues
pub queued : {T E : Type 0} (g : GroupState T E) (task : T) (operations : List (Operation T E)) → StandsFor g operations → g.limit ≤ g.active
    → StandsFor (record g { queue = g.queue ++ task ∷ [] }) (Go task ∷ operations)
unfolding group_of
queued g task operations stands room = becomes g _ (Go task) false operations stands (grind (arith, nat_tests, room)) (rw stands refl)

-- what waited is removed
pub cleared : {T E : Type 0} (g : GroupState T E) (operations : List (Operation T E)) → StandsFor g operations
    → StandsFor (record g { queue = [] }) (ClearQueue ∷ operations)
unfolding group_of
cleared g operations stands = becomes g _ ClearQueue true operations stands refl (rw stands refl)

-- a finish with nothing active
pub not_finished : {T E : Type 0} (g : GroupState T E) (outcome : Result (Unit {0}) E) (operations : List (Operation T E)) → StandsFor g operations → g.active ≡ 0
    → StandsFor g (Done outcome ∷ operations)
unfolding group_of
not_finished g outcome operations stands none = becomes g g (Done outcome) false operations stands (rw none refl) stands

-- the first of these, and of one more
pub first-push : {E : Type 0} (errors : List E) (more : Option E) → option_or (slice_get errors 0) more ≡ slice_get (errors ++ option_to_list more) 0
first-push [] None = refl
first-push [] (Some error) = refl
first-push (x ∷ errors) more = refl

-- how many are active, after one finish more
active-then : (starts finishes : ℕ) (empty : Bool) → 0 < starts - finishes
    → (if empty then (starts - finishes) - 1 else starts - finishes) ≡ (if empty then starts else suc starts) - suc finishes
active-then starts finishes true some = omega arith
active-then starts finishes false some = omega arith

-- a finish that counts
pub finished : {T E : Type 0} (g new : GroupState T E) (outcome : Result (Unit {0}) E) (operations : List (Operation T E))
    → StandsFor g operations → 0 < g.active → Finishes g new outcome → StandsFor new (Done outcome ∷ operations)
unfolding group_of
finished g new outcome operations stands some f =
    let past = past_of operations in
    let counted = active-then (starts_of past) (finishes_of past) (length (queue_of past) == 0) (rw stands at some) in
    becomes g new (Done outcome) true operations stands (grind (arith, nat_tests, some))
    (by_fields new _ (f.active ∙ rw stands counted) (f.limit ∙ rw stands refl) (f.queue ∙ rw stands refl)
    (f.first_error ∙ rw stands (first-push (errors_of past) (result_err outcome))))
