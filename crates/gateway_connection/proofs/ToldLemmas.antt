-- Calls of a connection end as their contexts tell.
use Rattle.gateway_connection.specs.lemmas.Names.{option_or, All-head, All-cons, All-nil, All-tail, ◌≡◌, ℕ, zero, suc, refl, sym, ap, ◌∙◌, List, [], ◌∷◌, ◌++◌, Option, Some, None, Bool, true, false, ⊎_elim, subst, map, arith, All, cases_Bool, or_parts, branch_before, CallId, CallEvent, is_call, is_due, least_of, ContextsValue, LivesApart, by_deadline, ending_at, ending_life, is_life, Trigger, caused, ended_call, kept_after, KeptValue, Live, deadlines_in, kept_at, same_call, call_itself, IsNow, Over, ends_with, event_for, life_in, linked_calls, lives_in, none_over, over_by, timed, nat_tests}
use Rattle.gateway_theory.specs.lemmas.Deadlines.{due_smaller}
use Rattle.gateway_connection.proofs.DueLemmas.{least_first, moment_event}
use Rattle.gateway_connection.proofs.LinkedLemmas.{dead_life, live_life, live_linked}

-- where no context has ended, no branch has before its call
never_before : (over : Over) (id : CallId) (call : Option ℕ) (ds : List (Option ℕ)) → ((d : Option ℕ) → over id d ≡ None) → branch_before call (timed over id call 0 ds) ≡ None
never_before over id call ds never = grind (arith, nat_tests, least_first)

-- the event that ends a call by this is the one that its contexts tell
pub event_is : (trigger : Trigger) (moment : ℕ) (id : CallId) (out : List Bool) (l : Live) → IsNow trigger moment
    → ending_at moment (life_in (over_by trigger) id out l) ≡ caused trigger id l.asked (deadlines_in out l.deadlines)
event_is trigger moment id out l h5 = grind (arith, nat_tests, moment_event, never_before)

-- by which event the contexts of a call that can be decided end it
pub life_over : (over : Over) (moment : ℕ) (ks : List KeptValue) (i : ℕ) (l : Live) → LivesApart (linked_calls over ks) → (kept_at i ks).call.live ≡ Some l
    → ending_life moment (kept_at i ks).id (linked_calls over ks) ≡ ending_at moment (life_in over (kept_at i ks).id (kept_at i ks).call.out l)
life_over over moment [] i l apart is = cc
life_over over moment (k ∷ ks) zero l apart is = rw (live_life over k l is, call_itself k.id) refl
life_over over moment (k ∷ ks) (suc i) l apart is = by (λ tail. life_over over moment ks i l tail is) k.call.live refl
  where
    by : (LivesApart (linked_calls over ks) → ending_life moment (kept_at i ks).id (linked_calls over ks) ≡ ending_at moment (life_in over (kept_at i ks).id (kept_at i ks).call.out l)) → (o : Option Live) → k.call.live ≡ o
        → ending_life moment (kept_at i ks).id (lives_in over k ++ linked_calls over ks) ≡ ending_at moment (life_in over (kept_at i ks).id (kept_at i ks).call.out l)
    by rest None o_is = rw (dead_life over k o_is) (rest (subst (λ ls. LivesApart (ls ++ linked_calls over ks)) (dead_life over k o_is) apart))
    by rest (Some m) o_is =
        let two = subst (λ ls. LivesApart (ls ++ linked_calls over ks)) (live_life over k m o_is) apart in
        let off : is_call k.id (kept_at i ks).id ≡ false = ⊎_elim
        (λ (e : is_call k.id (kept_at i ks).id ≡ true).
        let there : is_life (kept_at i ks).id (linked_calls over ks) ≡ true = live_linked over ks i l is in
        let gone : is_life (kept_at i ks).id (linked_calls over ks) ≡ false = subst (λ d. is_life d (linked_calls over ks) ≡ false) (same_call k.id (kept_at i ks).id e) two.0 in
        let clash : true ≡ false = sym there ∙ gone in cc)
        (λ (n : is_call k.id (kept_at i ks).id ≡ false). n)
        (cases_Bool (is_call k.id (kept_at i ks).id)) in
        rw (live_life over k m o_is, off) (rest two.1)

-- a call ends by its context as it does by the trigger
pub ends_as : (trigger : Trigger) (event : Option CallEvent) (k : KeptValue) → ((l : Live) → k.call.live ≡ Some l → event ≡ caused trigger k.id l.asked (deadlines_in k.call.out l.deadlines))
    → ends_with event k.call.out k.call.live ≡ ended_call trigger k.id k.call
ends_as trigger event k its = grind arith

-- the event that its context tells of a call at a place
pub event_at : (trigger : Trigger) (moment : ℕ) (c : ContextsValue) (ks : List KeptValue) (i : ℕ) → IsNow trigger moment → LivesApart c.calls → c.calls ≡ linked_calls (over_by trigger) ks
    → (l : Live) → (kept_at i ks).call.live ≡ Some l → event_for moment (kept_at i ks).id c ≡ caused trigger (kept_at i ks).id l.asked (deadlines_in (kept_at i ks).call.out l.deadlines)
event_at trigger moment c ks i now apart c_is l is =
    ap (λ ls. ending_life moment (kept_at i ks).id ls) c_is
    ∙ life_over (over_by trigger) moment ks i l (subst (λ ls. LivesApart ls) c_is apart) is
    ∙ event_is trigger moment (kept_at i ks).id (kept_at i ks).call.out l now

-- where neither the call's context nor those of these branches have ended
timed_alike : (over : Over) (id : CallId) (call : Option ℕ) (k : ℕ) (ds : List (Option ℕ)) → over id call ≡ None → All (λ d. over id d ≡ None) ds → timed over id call k ds ≡ timed none_over id call k ds
timed_alike over id call k [] none all = refl
timed_alike over id call k (None ∷ ds) none all = timed_alike over id call (suc k) ds none (All-tail (λ d. over id d ≡ None) None ds all)
timed_alike over id call k (Some at ∷ ds) none all =
    ap (λ e. record { branch = k; deadline = at; ended = option_or e (over id (Some at)) } ∷ timed over id call (suc k) ds) none
    ∙ ap (λ e. record { branch = k; deadline = at; ended = e } ∷ timed over id call (suc k) ds) (All-head (λ d. over id d ≡ None) (Some at) ds all)
    ∙ ap (λ bs. record { branch = k; deadline = at; ended = None } ∷ bs) (timed_alike over id call (suc k) ds none (All-tail (λ d. over id d ≡ None) (Some at) ds all))

not_reached : (now : ℕ) (d : Option ℕ) → is_due now d ≡ false → by_deadline now d ≡ None
not_reached now d n = rw n refl

none_reached : (now : ℕ) (ds : List (Option ℕ)) → is_due now (least_of ds) ≡ false → All (λ d. by_deadline now d ≡ None) ds
none_reached now [] n = All-nil (λ d. by_deadline now d ≡ None)
none_reached now (d ∷ ds) n =
    let two = or_parts (is_due now d) (is_due now (least_of ds)) (sym (due_smaller now d (least_of ds)) ∙ n) in
    All-cons (λ d. by_deadline now d ≡ None) d ds (not_reached now d two.0) (none_reached now ds two.1)

all_never : (over : Over) (id : CallId) → ((d : Option ℕ) → over id d ≡ None) → (ds : List (Option ℕ)) → All (λ d. over id d ≡ None) ds
all_never over id never [] = All-nil (λ d. over id d ≡ None)
all_never over id never (d ∷ ds) = All-cons (λ d. over id d ≡ None) d ds (never d) (all_never over id never ds)

-- what ends no call has ended no context of it
not_caused : (trigger : Trigger) (id : CallId) (out : List Bool) (l : Live) → caused trigger id l.asked (deadlines_in out l.deadlines) ≡ None → life_in (over_by trigger) id out l ≡ life_in none_over id out l
not_caused trigger id out l h4 = grind (arith, nat_tests, or_parts, due_smaller, not_reached, timed_alike, none_reached, all_never)

-- of those that can be decided still, none has ended by it
ended_one : (trigger : Trigger) (broken : Bool) (k : KeptValue)
    → lives_in (over_by trigger) (kept_after trigger broken k) ≡ lives_in none_over (kept_after trigger broken k)
ended_one trigger broken k = grind (arith, nat_tests, not_caused)

pub not_over : (trigger : Trigger) (breaks : CallId → Bool) (ks : List KeptValue)
    → linked_calls (over_by trigger) (map (λ k. kept_after trigger (breaks k.id) k) ks) ≡ linked_calls none_over (map (λ k. kept_after trigger (breaks k.id) k) ks)
not_over trigger breaks [] = refl
not_over trigger breaks (k ∷ ks) = grind (arith, nat_tests, not_over trigger breaks ks, ended_one)
