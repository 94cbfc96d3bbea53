-- A call as it begins: its branches are given to its group.
use Rattle.gateway_connection.specs.lemmas.Names.{◌≡◌, ℕ, zero, suc, ◌+◌, ◌≤◌, ◌<◌, ◌-◌, min, Bool, true, false, List, [], ◌∷◌, ◌++◌, map, length, Option, None, Some, Result, Ok, Err, sym, ap, ◌∙◌, arith, ⊎_elim, append-nil, slice_index_or, IsTrue, if◌then◌else◌, nat_lt, option_to_list, range_with_len, cases_lt, cases_Bool, lt-ltb, le-ltb, ltb-true, ltb-false, length-map, length-map-range_with_len, get_or-map-range_with_len, map-range_with_len_more, sum_by_push, CallEvent, CallId, task_of, TaskValue, ArrivedCall, deadline_from, live_value, kept_value, IsKept, IsBegun, HasGone, nat_tests}
use Rattle.std.specs.Prelude.{OnOk}
use Rattle.std.specs.Result.{is_ok}
use Rattle.std.proofs.lemmas.Simd.{map-map}
use Rattle.std.proofs.Math.ListN.{get_or-eq_default}
use Rattle.err_group.specs.GroupState.{GroupState, has_room, is_idle}
use Rattle.gateway_connection.proofs.KeptLemmas.{outs}

abbrev Tasks : Type 0
Tasks = GroupState TaskValue (Unit {0})

pub ok_is : {T E : Type 0} (x y : T) (r s : Result T E) → r ≡ Ok x → s ≡ Ok y → r ≡ s → x ≡ y
ok_is x y r s r_is s_is e = cc

-- none of a call's branches was given to the group, which has the call's limit
none_gone : (id : CallId) (a : ArrivedCall) (g : Tasks) → g.active ≡ 0 → g.queue ≡ [] → g.limit ≡ a.plan.limit → HasGone id a 0 g []
none_gone id a g active queue limit =
    let least : 0 ≡ min 0 a.plan.limit = omega arith in
    record {
      active_is = active ∙ least;
      limit_is = limit;
      queue_is = queue ∙ ap (λ n. map (task_of id a) (range_with_len n (0 - n))) least;
      first_are = ap (λ n. map (task_of id a) (range_with_len 0 n)) least;
    }

-- .. which it has got while it was empty
set_ok : {T E P : Type 0} (r : Result T E) → is_ok r ≡ true → OnOk r P → P
set_ok (Ok x) is p = p
set_ok (Err e) is p = absurd (cc)

pub limit_set : {T E : Type 0} (id : CallId) (a : ArrivedCall) (empty old new : Tasks) (limit : ℕ) (r : Result T E) → old ≡ empty → is_idle empty ≡ true → empty.active ≡ 0 → empty.queue ≡ []
    → is_ok r ≡ is_idle old → OnOk r (new ≡ record old { limit = limit }) → limit ≡ a.plan.limit → HasGone id a 0 new []
limit_set id a empty old new limit r is idle active queue decides ok limit_is =
    let now = set_ok r (decides ∙ ap is_idle is ∙ idle) ok in
    none_gone id a new (ap (λ (g : Tasks). g.active) (now ∙ ap (λ (g : Tasks). record g { limit = limit }) is) ∙ active)
    (ap (λ (g : Tasks). g.queue) (now ∙ ap (λ (g : Tasks). record g { limit = limit }) is) ∙ queue) (ap (λ (g : Tasks). g.limit) now ∙ limit_is)

-- one more branch was given to the group
pub gone_more : (id : CallId) (a : ArrivedCall) (i : ℕ) (g h : Tasks) (first after : List TaskValue) (task : TaskValue) (started : Option TaskValue) → HasGone id a i g first → task ≡ task_of id a i
    → (IsTrue (has_room g) → (started ≡ Some task) × (h ≡ record g { active = g.active + 1 }))
    → (has_room g ≡ false → (started ≡ None) × (h ≡ record g { queue = g.queue ++ task ∷ [] }))
    → after ≡ first ++ option_to_list started → HasGone id a (i + 1) h after
gone_more id a i g h first after task started k task_is starts waits after_is =
    ⊎_elim (λ (room : has_room g ≡ true). begins room (starts room)) (λ (full : has_room g ≡ false). queues full (waits full)) (cases_Bool (has_room g))
  where
    begins : has_room g ≡ true → (started ≡ Some task) × (h ≡ record g { active = g.active + 1 }) → HasGone id a (i + 1) h after
    begins room s =
        let below : g.active < g.limit = ltb-true g.active g.limit room in
        let lt : i < a.plan.limit = omega (arith, below, k.active_is, k.limit_is) in
        let was : min i a.plan.limit ≡ i = omega (arith, lt) in
        let is : min (i + 1) a.plan.limit ≡ i + 1 = omega (arith, lt) in
        let none : i - min i a.plan.limit ≡ 0 = omega (arith, was) in
        let still : i + 1 - min (i + 1) a.plan.limit ≡ 0 = omega (arith, is) in
        record {
          active_is = ap (λ (x : Tasks). x.active) s.1 ∙ omega (arith, k.active_is, was, is);
          limit_is = ap (λ (x : Tasks). x.limit) s.1 ∙ k.limit_is;
          queue_is = ap (λ (x : Tasks). x.queue) s.1 ∙ k.queue_is ∙ ap (λ n. map (task_of id a) (range_with_len (min i a.plan.limit) n)) none
              ∙ sym (ap (λ n. map (task_of id a) (range_with_len (min (i + 1) a.plan.limit) n)) still);
          first_are = after_is ∙ ap (λ o. first ++ option_to_list o) s.0 ∙ ap (λ t. first ++ t ∷ []) task_is
              ∙ ap (λ xs. xs ++ task_of id a i ∷ []) (k.first_are ∙ ap (λ n. map (task_of id a) (range_with_len 0 n)) was)
              ∙ sym (map-range_with_len_more (task_of id a) 0 i i (omega arith)) ∙ ap (λ n. map (task_of id a) (range_with_len 0 n)) (sym is);
        }

    queues : has_room g ≡ false → (started ≡ None) × (h ≡ record g { queue = g.queue ++ task ∷ [] }) → HasGone id a (i + 1) h after
    queues full s =
        let above : g.limit ≤ g.active = ltb-false g.active g.limit full in
        let ge : a.plan.limit ≤ i = omega (arith, above, k.active_is, k.limit_is) in
        let was : min i a.plan.limit ≡ a.plan.limit = omega (arith, ge) in
        let is : min (i + 1) a.plan.limit ≡ a.plan.limit = omega (arith, ge) in
        let n : i + 1 - min (i + 1) a.plan.limit ≡ i - min i a.plan.limit + 1 = omega (arith, was, is, ge) in
        record {
          active_is = ap (λ (x : Tasks). x.active) s.1 ∙ omega (arith, k.active_is, was, is);
          limit_is = ap (λ (x : Tasks). x.limit) s.1 ∙ k.limit_is;
          queue_is = ap (λ (x : Tasks). x.queue) s.1 ∙ ap (λ t. g.queue ++ t ∷ []) task_is ∙ ap (λ xs. xs ++ task_of id a i ∷ []) k.queue_is
              ∙ sym (map-range_with_len_more (task_of id a) (min i a.plan.limit) (i - min i a.plan.limit) i (omega (arith, was, ge)))
              ∙ ap (λ k. map (task_of id a) (range_with_len k (i - min i a.plan.limit + 1))) (was ∙ sym is)
              ∙ ap (λ k. map (task_of id a) (range_with_len (min (i + 1) a.plan.limit) k)) (sym n);
          first_are = after_is ∙ ap (λ o. first ++ option_to_list o) s.0 ∙ append-nil first ∙ k.first_are ∙ ap (λ n. map (task_of id a) (range_with_len 0 n)) (was ∙ sym is);
        }

-- how many of the first ones are out
first_count : (k n : ℕ) → outs (map (λ i. nat_lt i k) (range_with_len 0 n)) ≡ min n k
first_count k zero = omega arith
first_count k (suc n) =
    let one : suc n ≡ n + 1 = omega arith in
    ap (λ m. outs (map (λ i. nat_lt i k) (range_with_len 0 m))) one
    ∙ ap outs (map-range_with_len_more (λ i. nat_lt i k) 0 n n (omega arith))
    ∙ sum_by_push (λ b. if b then 1 else 0) (map (λ i. nat_lt i k) (range_with_len 0 n)) (nat_lt n k)
    ∙ ap (λ m. m + (if nat_lt n k then 1 else 0)) (first_count k n)
    ∙ ⊎_elim (λ (lt : n < k). rw (lt-ltb n k lt) (omega (arith, lt))) (λ (ge : k ≤ n). rw (le-ltb n k ge) (omega (arith, ge))) (cases_lt n k)

out_at : (n k i : ℕ) → k ≤ i → slice_index_or (map (λ j. nat_lt j k) (range_with_len 0 n)) i false ≡ false
out_at n k i above = grind (arith, nat_tests, get_or-map-range_with_len, le-ltb, get_or-eq_default, length-map-range_with_len)

-- as many of the branches that start at once as have started
pub begun_few : (id : CallId) (a : ArrivedCall) (n : ℕ) (g : Tasks) (tasks : List TaskValue) → HasGone id a n g tasks → length tasks ≡ min n a.plan.limit
begun_few id a n g tasks k = ap length k.first_are ∙ length-map-range_with_len (task_of id a) 0 (min n a.plan.limit)

pub begun_kept : (moment : ℕ) (id : CallId) (a : ArrivedCall) (n first : ℕ) (out : List Bool) (g : Tasks) (tasks : List TaskValue) (events : List CallEvent) (deadlines : List (Option ℕ)) → n ≡ length a.plan.branches → first ≡ min n a.plan.limit
    → out ≡ map (λ i. nat_lt i first) (range_with_len 0 n) → HasGone id a n g tasks → events ≡ []
    → deadlines ≡ map (deadline_from moment a.plan) (range_with_len 0 first) → IsKept id out g (Some (live_value a events deadlines))
begun_kept moment id a n first out g tasks events deadlines n_is first_is out_is k events_are times_are = grind (arith, nat_tests, first_count, length-map-range_with_len, length-map, begun_few, out_at)

pub is_begun : (moment : ℕ) (id : CallId) (a asked : ArrivedCall) (n first : ℕ) (out : List Bool) (g : Tasks) (tasks : List TaskValue) (events : List CallEvent) (deadlines : List (Option ℕ)) → asked ≡ a → n ≡ length a.plan.branches
    → first ≡ min n a.plan.limit → out ≡ map (λ i. nat_lt i first) (range_with_len 0 n) → HasGone id a n g tasks → events ≡ []
    → deadlines ≡ map (deadline_from moment a.plan) (range_with_len 0 first)
    → IsBegun moment id a (kept_value id out g.queue (Some (live_value asked events deadlines))) tasks
is_begun moment id a asked n first out g tasks events deadlines asked_is n_is first_is out_is k events_are times_are = grind (arith, nat_tests, map-map)
