-- A kept call: as many tasks are active as branches are out, and those that wait are the ones that have not started.
use Rattle.gateway_connection.specs.lemmas.Names.{◌≡◌, ℕ, ◌+◌, ◌≤◌, ◌<◌, ◌-◌, Bool, true, false, List, [], ◌∷◌, ◌++◌, map, length, drop, Option, None, Some, Result, Ok, Err, refl, sym, ap, ◌∙◌, subst, arith, slice_index_or, ◌⊎◌, All, All-nil, if◌then◌else◌, ◌==◌, slice_set, slice_get, option_map, option_to_list, inl, inr, count_by, list_any, nat_lt, ne_eqb, eqb-true, get_or-set_other, length-set, length-append, lt-ltb, sum_by-cons, sum_by-set, Outcome, CallEvent, CallId, CallRecord, task_of, job_at, TaskValue, KeptValue, ArrivedCall, IsLawful, record_of, deadlines_next, result_on, next_out, rest_of, first_of, LiveValue, live_value, kept_value, started_of, IsGoing, IsKept, IsStep, nat_tests, Live, ContextsValue, branch_started, passed_by, passed_on, deadline_from, suc, zero, has_out, back_kept}
use Rattle.std.specs.Prelude.{cond}
use Rattle.connect_codec.specs.declared.answer.Outcome.TheVariants.{Answer, Fail}
use Rattle.err_group.specs.GroupState.{GroupState, Finishes, freed_by}
use Rattle.gateway_model.specs.declared.call_event.CallEvent.TheVariants.{Answer as Answered}
use Rattle.gateway_model.specs.Job.{JobValue}
use Rattle.gateway_theory.specs.LiveStands.{tasks_from}
use Rattle.gateway_replies.specs.Contexts.{finished}
use Rattle.gateway_theory.specs.Step.{ended, is_last_answer, kept}
use Rattle.gateway_theory.specs.Values.{call_state}
use Rattle.gateway_connection.specs.KeptCall.{live_of}
use Rattle.gateway_theory.specs.lemmas.StepLemmas.{tasks_none, tasks_next}
use Rattle.gateway_theory.specs.lemmas.Knowing.{index_in as within}

-- how many branches are out
abbrev pub outs : List Bool → ℕ
outs out = count_by (λ b. b) out

-- one is out exactly if their number is not 0
pub any_out : (out : List Bool) → nat_lt 0 (outs out) ≡ list_any (λ b. b) out
any_out [] = refl
any_out (true ∷ out) = let one : outs (true ∷ out) ≡ 1 + outs out = sum_by-cons (λ (b : Bool). cond b 1 0) true out in lt-ltb 0 (outs (true ∷ out)) (omega (arith, one))
any_out (false ∷ out) = any_out out

pub count_back : (out : List Bool) (i : ℕ) → slice_index_or out i false ≡ true → outs (slice_set out i false) + 1 ≡ outs out
count_back out i it = grind (arith, nat_tests, sum_by-set, within)

same_set : (out : List Bool) (i : ℕ) → slice_index_or out i false ≡ false → out ≡ slice_set out i false
same_set [] i off = refl
same_set (b ∷ out) zero off = ap (λ x. x ∷ out) off
same_set (b ∷ out) (suc i) off = ap (λ xs. b ∷ xs) (same_set out i off)

-- one that is not out comes back: of a call that can't be decided any more nothing changes
pub none_back : (k : KeptValue) (i : ℕ) → has_out k.call i ≡ false → k.call.live ≡ None → k ≡ back_kept i k
none_back k i off dead = ap (λ out. record { id = k.id; call = call_state out k.call.live }) (same_set k.call.out i off)
    ∙ ap (λ l. record { id = k.id; call = call_state (slice_set k.call.out i false) l }) dead

pub count_out : (out : List Bool) (i : ℕ) → i < length out → slice_index_or out i false ≡ false → outs (slice_set out i true) ≡ outs out + 1
count_out out i lt not_so = grind (arith, nat_tests, sum_by-set)

some_active : (id : CallId) (out : List Bool) (i : ℕ) (g : GroupState TaskValue (Unit {0})) (l : Option LiveValue) → IsKept id out g l → slice_index_or out i false ≡ true → 0 < g.active
some_active id out i g l k it = omega (arith, k.active_is, count_back out i it)

-- ---- a result of a call that can't be decided any more

pub late_kept : (id : CallId) (out : List Bool) (i : ℕ) (g h : GroupState TaskValue (Unit {0})) → IsKept id out g None → slice_index_or out i false ≡ true
    → (0 < g.active → Finishes g h (Err tt)) → IsKept id (slice_set out i false) h None
late_kept id out i g h k it finishes =
    let f : Finishes g h (Err tt) = finishes (some_active id out i g None k it) in record {
      active_is = f.active ∙ ap (λ q. if length q == 0 then g.active - 1 else g.active) k.live_is ∙ omega (arith, k.active_is, count_back out i it);
      live_is = f.queue ∙ ap (λ q. drop 1 q) k.live_is;
    }

pub late_now : (id : CallId) (out : List Bool) (i : ℕ) (g h : GroupState TaskValue (Unit {0})) (l new : Option LiveValue) → IsKept id out g l → slice_index_or out i false ≡ true
    → (0 < g.active → Finishes g h (Err tt)) → l ≡ None → new ≡ None → IsKept id (slice_set out i false) h new
late_now id out i g h l new k it finishes none new_none =
    subst (λ x. IsKept id (slice_set out i false) h x) (sym new_none) (late_kept id out i g h (subst (λ x. IsKept id out g x) none k) it finishes)

pub no_live : (waiting : List TaskValue) (l : Option LiveValue) → option_map (live_of waiting) l ≡ None → l ≡ None
no_live waiting None none = refl
no_live waiting (Some l) none = absurd (cc)

-- ---- the end of a call

-- with its queue cleared, a call that ended keeps what is out
pub ended_kept : (id : CallId) (out : List Bool) (g h : GroupState TaskValue (Unit {0})) (l : Option LiveValue) → IsKept id out g l → h ≡ record g { queue = [] } → IsKept id out h None
ended_kept id out g h l k h_is = grind arith

-- ---- an answer

-- either all branches have started, or the next one waits
pub record AllHave (id : CallId) (queue : List TaskValue) (l : LiveValue) : Type 0 where
  pub none : queue ≡ []
  pub all : started_of l ≡ length l.asked.plan.branches

pub record OneWaits (id : CallId) (queue : List TaskValue) (l : LiveValue) : Type 0 where
  pub first : queue ≡ task_of id l.asked (started_of l) ∷ tasks_from (started_of l + 1) id l.asked
  pub within : started_of l < length l.asked.plan.branches

pub waits_or_not : (id : CallId) (out : List Bool) (queue : List TaskValue) (l : LiveValue) → IsGoing id out queue l → AllHave id queue l ⊎ OneWaits id queue l
waits_or_not id out queue l g = grind (arith, nat_tests, tasks_next, within, tasks_none)

-- where the last answer is awaited, all branches have started
pub last_waits_none : (id : CallId) (out : List Bool) (queue : List TaskValue) (l : LiveValue) → IsGoing id out queue l → IsLawful l.asked.plan
    → length l.events + 1 ≡ length l.asked.plan.branches → queue ≡ []
last_waits_none id out queue l g lawful last = grind arith

pub last_kept : (id : CallId) (out : List Bool) (i : ℕ) (g h : GroupState TaskValue (Unit {0})) (l : LiveValue) → IsKept id out g (Some l) → slice_index_or out i false ≡ true
    → g.queue ≡ [] → (0 < g.active → Finishes g h (Ok tt)) → IsKept id (slice_set out i false) h None
last_kept id out i g h l k it none finishes =
    let f : Finishes g h (Ok tt) = finishes (some_active id out i g (Some l) k it) in record {
      active_is = f.active ∙ ap (λ q. if length q == 0 then g.active - 1 else g.active) none ∙ omega (arith, k.active_is, count_back out i it);
      live_is = f.queue ∙ ap (λ q. drop 1 q) none;
    }

-- what the group answers at a finish
pub next_is : (id : CallId) (out : List Bool) (i : ℕ) (g : GroupState TaskValue (Unit {0})) (l : Option LiveValue) (next : Option TaskValue) (outcome : Result (Unit {0}) (Unit {0}))
    → IsKept id out g l → slice_index_or out i false ≡ true → next ≡ (freed_by outcome g).next → next ≡ slice_get g.queue 0
next_is id out i g l next outcome k it n = n ∙ rw (ne_eqb g.active 0 (λ e. absurd (omega (arith, e, some_active id out i g l k it)))) refl

pub outs_next : (queue : List TaskValue) (out : List Bool) → next_out (option_to_list (slice_get queue 0)) out ≡ next_out queue out
outs_next [] out = refl
outs_next (t ∷ ts) out = refl

pub rest_next : (queue : List TaskValue) → drop 1 queue ≡ rest_of queue
rest_next [] = refl
rest_next (t ∷ ts) = refl

pub times_next : (moment : ℕ) (queue : List TaskValue) → deadlines_next moment (option_to_list (slice_get queue 0)) ≡ deadlines_next moment queue
times_next moment [] = refl
times_next moment (t ∷ ts) = refl

pub jobs_next : (moment : ℕ) (queue : List TaskValue) → map (job_at moment) (option_to_list (slice_get queue 0)) ≡ first_of moment queue
jobs_next moment [] = refl
jobs_next moment (t ∷ ts) = refl

-- a branch that is out has another number than those that have not started
apart : (out : List Bool) (i j : ℕ) → slice_index_or out i false ≡ true → slice_index_or out j false ≡ false → (j ≡ i → ⊥)
apart out i j it not_so e = let clash : false ≡ true = sym not_so ∙ ap (λ k. slice_index_or out k false) e ∙ it in cc

pub going_kept : (moment : ℕ) (id : CallId) (out : List Bool) (i : ℕ) (e : CallEvent) (g h : GroupState TaskValue (Unit {0})) (l : LiveValue) → IsKept id out g (Some l) → slice_index_or out i false ≡ true
    → (0 < g.active → Finishes g h (Ok tt)) → IsKept id (next_out g.queue (slice_set out i false)) h
    (Some (live_value l.asked (l.events ++ e ∷ []) (l.deadlines ++ deadlines_next moment g.queue)))
going_kept moment id out i e g h l k it finishes = search (arith, nat_tests, count_back, length-set, length-append, tasks_none, get_or-set_other, apart, count_out, waits_or_not, some_active, ne_eqb)

-- ---- as the checker gives them

pub fail_kept : (id : CallId) (out : List Bool) (i : ℕ) (g cleared h : GroupState TaskValue (Unit {0})) (l new : Option LiveValue) → IsKept id out g l → slice_index_or out i false ≡ true
    → cleared ≡ record g { queue = [] } → (0 < cleared.active → Finishes cleared h (Err tt)) → new ≡ None → IsKept id (slice_set out i false) h new
fail_kept id out i g cleared h l new k it cleared_is finishes new_is =
    subst (λ x. IsKept id (slice_set out i false) h x) (sym new_is) (late_kept id out i cleared h (ended_kept id out g cleared l k cleared_is) it finishes)

pub answer_last_kept : (id : CallId) (out : List Bool) (i : ℕ) (g h : GroupState TaskValue (Unit {0})) (was new : Option LiveValue) (l : LiveValue) → IsKept id out g was → was ≡ Some l
    → slice_index_or out i false ≡ true → IsLawful l.asked.plan → (length l.events + 1 == length l.asked.plan.branches) ≡ true → (0 < g.active → Finishes g h (Ok tt)) → new ≡ None
    → IsKept id (slice_set out i false) h new
answer_last_kept id out i g h was new l k was_is it lawful last finishes new_is =
    let live : IsKept id out g (Some l) = subst (λ x. IsKept id out g x) was_is k in
    subst (λ x. IsKept id (slice_set out i false) h x) (sym new_is)
    (last_kept id out i g h l live it (last_waits_none id out g.queue l live.live_is lawful (eqb-true (length l.events + 1) (length l.asked.plan.branches) last)) finishes)

-- with the branches that have started, and the one that starts, a call has no more deadlines than branches
pub room_next : (id : CallId) (out : List Bool) (i : ℕ) (g : GroupState TaskValue (Unit {0})) (was : Option LiveValue) (l : LiveValue) (next : Option TaskValue) → IsKept id out g was → was ≡ Some l
    → slice_index_or out i false ≡ true → next ≡ (freed_by (Ok tt) g).next → length l.deadlines + length (option_to_list next) ≤ length l.asked.plan.branches
room_next id out i g was l next k was_is it next_as = grind arith

pub answer_going_kept : (moment : ℕ) (id : CallId) (out after : List Bool) (i : ℕ) (e : CallEvent) (g h : GroupState TaskValue (Unit {0})) (was : Option LiveValue) (l later : LiveValue) (next : Option TaskValue)
    → IsKept id out g was → was ≡ Some l → slice_index_or out i false ≡ true → next ≡ (freed_by (Ok tt) g).next → (0 < g.active → Finishes g h (Ok tt))
    → after ≡ next_out (option_to_list next) (slice_set out i false) → later ≡ live_value l.asked (l.events ++ e ∷ []) (l.deadlines ++ deadlines_next moment (option_to_list next))
    → IsKept id after h (Some later)
answer_going_kept moment id out after i e g h was l later next k was_is it next_as finishes after_is later_is =
    let live : IsKept id out g (Some l) = subst (λ x. IsKept id out g x) was_is k in
    let out_is : after ≡ next_out g.queue (slice_set out i false) =
    after_is ∙ ap (λ n. next_out (option_to_list n) (slice_set out i false)) (next_is id out i g was next (Ok tt) k it next_as) ∙ outs_next g.queue (slice_set out i false) in
    let n : next ≡ slice_get g.queue 0 = next_is id out i g was next (Ok tt) k it next_as in
    let times : deadlines_next moment (option_to_list next) ≡ deadlines_next moment g.queue = ap (λ n. deadlines_next moment (option_to_list n)) n ∙ times_next moment g.queue in
    let now_is : later ≡ live_value l.asked (l.events ++ e ∷ []) (l.deadlines ++ deadlines_next moment g.queue) =
    later_is ∙ ap (λ ds. live_value l.asked (l.events ++ e ∷ []) (l.deadlines ++ ds)) times in
    subst (λ x. IsKept id x h (Some later)) (sym out_is)
    (subst (λ x. IsKept id (next_out g.queue (slice_set out i false)) h (Some x)) (sym now_is) (going_kept moment id out i e g h l live it finishes))

-- the job of the first of a call's tasks is of that call
first_its : (moment : ℕ) (id : CallId) (k : ℕ) (a : ArrivedCall) (queue : List TaskValue) → queue ≡ tasks_from k id a → All (λ (j : JobValue). j.call ≡ id) (first_of moment queue)
first_its moment id k a queue e = grind arith

-- nothing comes of a result of a call that can't be decided any more
pub late_step : (moment : ℕ) (old : KeptValue) (id : CallId) (out : List Bool) (i : ℕ) (g h : GroupState TaskValue (Unit {0})) (was new : Option LiveValue) (next : Option TaskValue) (outcome : Outcome)
    → kept_value id out g.queue was ≡ old → IsKept id out g was → was ≡ None → slice_index_or out i false ≡ true → next ≡ (freed_by (Err tt) g).next → new ≡ None
    → IsStep moment old (kept_value id (slice_set out i false) h.queue new) None next (result_on moment i outcome (slice_set old.call.out i false) old.call.live)
late_step moment old id out i g h was new next outcome old_is k was_is it next_as new_is =
    let none : next ≡ None = next_is id out i g was next (Err tt) k it next_as ∙ ap (λ q. slice_get q 0) (subst (λ x. IsKept id out g x) was_is k).live_is in
    subst (λ o. IsStep moment o (kept_value id (slice_set out i false) h.queue new) None next (result_on moment i outcome (slice_set o.call.out i false) o.call.live)) old_is
    (subst (λ x. IsStep moment (kept_value id out g.queue was) (kept_value id (slice_set out i false) h.queue x) None next (result_on moment i outcome (slice_set out i false) (option_map (live_of g.queue) was))) (sym new_is)
    (subst (λ x. IsStep moment (kept_value id out g.queue x) (kept_value id (slice_set out i false) h.queue None) None next (result_on moment i outcome (slice_set out i false) (option_map (live_of g.queue) x))) (sym was_is)
    (subst (λ x. IsStep moment (kept_value id out g.queue None) (kept_value id (slice_set out i false) h.queue None) None x (kept (call_state (slice_set out i false) None))) (sym none)
    (record { new_is = refl; reply_is = refl; jobs_are = refl; alone = inl refl; its = All-nil (λ (j : JobValue). j.call ≡ id) }))))

-- an event that decides the call starts no branch
pub end_step : (moment : ℕ) (old : KeptValue) (id : CallId) (out : List Bool) (i : ℕ) (e : CallEvent) (g cleared h : GroupState TaskValue (Unit {0})) (was new : Option LiveValue) (l : LiveValue)
    (decided : CallRecord) (next : Option TaskValue) (outcome : Outcome)
    → kept_value id out g.queue was ≡ old → IsKept id out g was → was ≡ Some l → slice_index_or out i false ≡ true
    → result_on moment i outcome (slice_set out i false) (Some (live_of g.queue l)) ≡ ended e (live_of g.queue l) (slice_set out i false) → cleared ≡ record g { queue = [] }
    → decided ≡ record_of l.asked l.deadlines (l.events ++ e ∷ []) → next ≡ (freed_by (Err tt) cleared).next → new ≡ None
    → IsStep moment old (kept_value id (slice_set out i false) h.queue new) (Some decided) next (result_on moment i outcome (slice_set old.call.out i false) old.call.live)
end_step moment old id out i e g cleared h was new l decided next outcome old_is k was_is it step_is cleared_is decided_is next_as new_is =
    let none : next ≡ None = next_is id out i cleared None next (Err tt) (ended_kept id out g cleared was k cleared_is) it next_as ∙ ap (λ (c : GroupState TaskValue (Unit {0})). slice_get c.queue 0) cleared_is in
    let made = record_of l.asked l.deadlines (l.events ++ e ∷ []) in
    subst (λ o. IsStep moment o (kept_value id (slice_set out i false) h.queue new) (Some decided) next (result_on moment i outcome (slice_set o.call.out i false) o.call.live)) old_is
    (subst (λ x. IsStep moment (kept_value id out g.queue was) (kept_value id (slice_set out i false) h.queue x) (Some decided) next (result_on moment i outcome (slice_set out i false) (option_map (live_of g.queue) was))) (sym new_is)
    (subst (λ x. IsStep moment (kept_value id out g.queue x) (kept_value id (slice_set out i false) h.queue None) (Some decided) next (result_on moment i outcome (slice_set out i false) (option_map (live_of g.queue) x))) (sym was_is)
    (subst (λ s. IsStep moment (kept_value id out g.queue (Some l)) (kept_value id (slice_set out i false) h.queue None) (Some decided) next s) (sym step_is)
    (subst (λ x. IsStep moment (kept_value id out g.queue (Some l)) (kept_value id (slice_set out i false) h.queue None) (Some x) next (ended e (live_of g.queue l) (slice_set out i false))) (sym decided_is)
    (subst (λ x. IsStep moment (kept_value id out g.queue (Some l)) (kept_value id (slice_set out i false) h.queue None) (Some made) x (ended e (live_of g.queue l) (slice_set out i false))) (sym none)
    (record { new_is = refl; reply_is = refl; jobs_are = refl; alone = inr refl; its = All-nil (λ (j : JobValue). j.call ≡ id) }))))))

pub last_step : (moment : ℕ) (old : KeptValue) (id : CallId) (out : List Bool) (i : ℕ) (body : List ℕ) (g h : GroupState TaskValue (Unit {0})) (was new : Option LiveValue) (l : LiveValue)
    (decided : CallRecord) (next : Option TaskValue) (outcome : Outcome)
    → kept_value id out g.queue was ≡ old → IsKept id out g was → was ≡ Some l → slice_index_or out i false ≡ true → outcome ≡ Answer body → IsLawful l.asked.plan
    → (length l.events + 1 == length l.asked.plan.branches) ≡ true → decided ≡ record_of l.asked (l.deadlines ++ deadlines_next moment (option_to_list next)) (l.events ++ Answered i body ∷ []) → next ≡ (freed_by (Ok tt) g).next → new ≡ None
    → IsStep moment old (kept_value id (slice_set out i false) h.queue new) (Some decided) next (result_on moment i outcome (slice_set old.call.out i false) old.call.live)
last_step moment old id out i body g h was new l decided next outcome old_is k was_is it outcome_is lawful last decided_is next_as new_is = grind arith

pub going_step : (moment : ℕ) (old : KeptValue) (id : CallId) (out after : List Bool) (i : ℕ) (body : List ℕ) (g h : GroupState TaskValue (Unit {0})) (was : Option LiveValue) (l later : LiveValue)
    (next : Option TaskValue) (outcome : Outcome)
    → kept_value id out g.queue was ≡ old → IsKept id out g was → was ≡ Some l → slice_index_or out i false ≡ true → outcome ≡ Answer body
    → (length l.events + 1 == length l.asked.plan.branches) ≡ false → next ≡ (freed_by (Ok tt) g).next → (0 < g.active → Finishes g h (Ok tt))
    → after ≡ next_out (option_to_list next) (slice_set out i false) → later ≡ live_value l.asked (l.events ++ Answered i body ∷ []) (l.deadlines ++ deadlines_next moment (option_to_list next))
    → IsStep moment old (kept_value id after h.queue (Some later)) None next (result_on moment i outcome (slice_set old.call.out i false) old.call.live)
going_step moment old id out after i body g h was l later next outcome old_is k was_is it outcome_is last next_as finishes after_is later_is = grind (arith, nat_tests, next_is, some_active, outs_next, times_next, rest_next, jobs_next, first_its)

-- ---- the contexts of its branches

-- where it can't be decided any more, a result leaves them
pub passed_late : (moment branch : ℕ) (o : Outcome) (k : KeptValue) (x : ContextsValue) → k.call.live ≡ None → x ≡ passed_on moment branch o k x
passed_late moment branch (Fail error) k x none = refl
passed_late moment branch (Answer body) k x none = sym (ap (λ l. passed_by moment branch k.id l x) none)

-- the last answer does, too
pub passed_last : (moment branch : ℕ) (o : Outcome) (body : List ℕ) (k : KeptValue) (l : Live) (x : ContextsValue) → o ≡ Answer body → k.call.live ≡ Some l → is_last_answer l ≡ true
    → x ≡ passed_on moment branch o k x
passed_last moment branch o body k l x o_is live last = sym (ap (λ p. passed_on moment branch p k x) o_is ∙ ap (λ m. passed_by moment branch k.id m x) live
    ∙ ap (λ b. if b then x else finished k.id branch (branch_started k.id (length l.deadlines) (deadline_from moment l.asked.plan (length l.deadlines)) x)) last)

-- at another the next branch gets its own, and that of the one which answered goes
pub passed_next : (moment branch : ℕ) (o : Outcome) (body : List ℕ) (k : KeptValue) (l : Live) (n : ℕ) (d : Option ℕ) (x y z : ContextsValue) → o ≡ Answer body → k.call.live ≡ Some l → is_last_answer l ≡ false
    → n ≡ length l.deadlines → d ≡ deadline_from moment l.asked.plan (length l.deadlines) → y ≡ branch_started k.id n d x → z ≡ finished k.id branch y → z ≡ passed_on moment branch o k x
passed_next moment branch o body k l n d x y z o_is live going n_is d_is y_is z_is =
    z_is ∙ ap (finished k.id branch) (y_is ∙ ap (λ m. branch_started k.id m d x) n_is ∙ ap (λ e. branch_started k.id (length l.deadlines) e x) d_is)
    ∙ sym (ap (λ p. passed_on moment branch p k x) o_is ∙ ap (λ m. passed_by moment branch k.id m x) live
    ∙ ap (λ b. if b then x else finished k.id branch (branch_started k.id (length l.deadlines) (deadline_from moment l.asked.plan (length l.deadlines)) x)) going)
