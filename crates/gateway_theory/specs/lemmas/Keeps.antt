-- What each call of the gateway keeps.
use Rattle.std.specs.Prelude.{◌≡◌, ◌+◌, ◌<◌, ◌≤◌, ◌∷◌, ◌++◌, ◌==◌, ◌&&◌, ◌||◌, ◌⊎◌, if◌then◌else◌}
use Rattle.gateway_theory.specs.lemmas.Names.{ℕ, suc, Bool, true, false, List, [], length, Option, None, Some, refl, sym, ap, ◌∙◌, subst, arith, inl, inr, nat_tests, ⊤, All, filter, nat_lt, not, range_with_len, eqb-true, lt-ltb, append-nil, length-append, length-map, All-map, PlanRecord, Outcome, JobValue, job_of, is_of, Coming, ArrivedCall, CallEvent, CallId, arrive, begins, first_ones, is_full, GatewayValue, conn_of, HeldConnection, moment_after, StepFault, Took, Trigger, Drained, HungUp, Reached, calls_kept, is_broken_conn, CallsEnd, HangsUp, Holds, TakesBytes, TakesResult, arriving_in, broke, broken_held, dropped, ended, ended_held, entered_held, hears, hung, hung_held, most_begun, left_of, lost, lost_held, new_held, next_held, not_fed, read, read_held, result_in, settled, settled_held, unknown, unnoticed, unread, CountsCalls, IsServing, Keeps, KeepsBut, is_silent, Broadcast, Closes, Drains, Feeds, HangsUpAt, MayEnd, Moves, Opens, Reaches, Results, Tallies, absent, kept_in, there}
use Rattle.std.proofs.Common.{Result}
use Rattle.gateway_model.specs.declared.seen.Seen.{Seen}
use Rattle.gateway_theory.specs.Tally.{tally_of}
use Rattle.gateway_theory.specs.lemmas.Cases.{sym_eqb}
use Rattle.gateway_theory.specs.Held.{came}
use Rattle.gateway_theory.specs.lemmas.CallsAdd.{unborn_absent, unborn_other}
use Rattle.gateway_theory.specs.lemmas.Turns.{Grown, grown_broken, grown_ended, grown_entered, grown_forgotten, grown_lost, grown_same, grown_settled, grown_then, Turns, broken_at, silent_at, silent_some, turns_born, turns_grown, turns_left, turns_moved, turns_same}
use Rattle.gateway_theory.specs.lemmas.HeldSteps.{hears_parts, holds_hung}

-- ---- jobs

-- a job of another connection is none of this
own_jobs : (n c : ℕ) (jobs : List JobValue) → (n == c) ≡ false → All (λ (j : JobValue). j.call.conn ≡ n) jobs → filter (is_of c) jobs ≡ []
own_jobs n c [] ne a = refl
own_jobs n c (j ∷ jobs) ne a =
    ap (λ b. if b then j ∷ filter (is_of c) jobs else filter (is_of c) jobs) (ap (λ m. m == c) (a 0 j (omega arith)) ∙ ne)
    ∙ own_jobs n c jobs ne (λ i d lt. a (suc i) d (omega (arith, lt)))

-- the jobs that start as something comes are of its request
pub arriving_own : (moment : ℕ) (drained : Bool) (x : Coming) (k : HeldConnection) → All (λ (j : JobValue). j.call ≡ next_held k) (arriving_in moment drained x k).jobs
arriving_own moment drained x k = by moment drained (is_full k.slots) (next_held k) x
  where
    none : (id : CallId) → All (λ (j : JobValue). j.call ≡ id) []
    none id = λ i d lt. absurd (omega (arith, lt))

    by_end : (moment : ℕ) (id : CallId) (a : ArrivedCall) (e : Option CallEvent) → All (λ (j : JobValue). j.call ≡ id) (begins moment e id a).jobs
    by_end moment id a (Some e) = none id
    by_end moment id a None = All-map (λ (j : JobValue). j.call ≡ id) (λ i. job_of id i a moment) (range_with_len 0 (first_ones a)) (λ i d lt. refl)

    by : (moment : ℕ) (drained crowded : Bool) (id : CallId) (x : Coming) → All (λ (j : JobValue). j.call ≡ id) (arrive moment drained crowded id x).jobs
    by moment drained crowded id x = grind (arith, nat_tests, none, by_end)

-- ---- by what becomes of each connection

module _ (closed breaks : ℕ → Bool) (seen : List Seen) (v w : GatewayValue) (plans_are : w.plans ≡ v.plans) (begun_is : calls_kept w ≤ calls_kept v → w.begun ≡ v.begun)
    (tally_is : (before : List Seen) → v.tally ≡ tally_of before → w.tally ≡ tally_of (seen ++ before)) (broken_are : (c : ℕ) → is_broken_conn c w ≡ true → is_broken_conn c v ≡ false → breaks c ≡ true)
    (jobs : List JobValue) (jobs_are : w.jobs ≡ v.jobs ++ jobs) (no_jobs : (c : ℕ) → is_silent c v ≡ true → filter (is_of c) jobs ≡ []) where
  pub keeps_turns : ((c : ℕ) → closed c ≡ true → is_silent c v ≡ true → is_silent c w ≡ true) → ((c : ℕ) → closed c ≡ false → Turns v.opened w.opened c (conn_of c v) (conn_of c w)) → KeepsBut closed breaks seen v w
  keeps_turns shuts turns = grind arith

-- where nothing changes
pub all_keeps : (v w : GatewayValue) (breaks : ℕ → Bool) → w ≡ v → Keeps breaks v w
all_keeps v w breaks is = grind (arith, nat_tests, keeps_turns, append-nil, Turns, turns_same)

-- ---- a step of one connection

module _ (n : ℕ) (v w : GatewayValue) (now : Option HeldConnection) (m : Moves n now v w) (opened_is : w.opened ≡ v.opened) where
  -- the others are as broken as before
  pub broken_others : (c : ℕ) → (n == c) ≡ false → is_broken_conn c w ≡ is_broken_conn c v
  broken_others c ne = ap (λ x. broken_at x c (conn_of c w)) opened_is ∙ ap (broken_at v.opened c) (m.others c ne)

  -- so it alone may break
  pub breaks_alone : (c : ℕ) → is_broken_conn c w ≡ true → is_broken_conn c v ≡ false → (c == n) ≡ true
  breaks_alone c on off = grind arith

-- ---- openings and closings

pub opening_keeps : (v w : GatewayValue) (number : ℕ) → Opens v w number → IsServing v → Keeps (λ c. false) v w
opening_keeps v w number o s = keeps_turns (λ c. false) (λ c. false) [] v w (ap (λ (x : GatewayValue). x.plans) o.rest) (λ few. ap (λ (x : GatewayValue). x.begun) o.rest) (λ before e. ap (λ (x : GatewayValue). x.tally) o.rest ∙ e)
    broken_are [] (ap (λ (x : GatewayValue). x.jobs) o.rest ∙ sym (append-nil v.jobs)) (λ c e. refl) (λ c off e. absurd (cc)) (λ c still. turns c (v.opened == c) refl)
  where
    opened_is : w.opened ≡ v.opened + 1
    opened_is = ap (λ (x : GatewayValue). x.opened) o.rest

    born_same : (c : ℕ) → (v.opened == c) ≡ false → nat_lt c w.opened ≡ nat_lt c v.opened
    born_same c ne = ap (nat_lt c) opened_is ∙ unborn_other v.opened c ne

    unborn : (c : ℕ) → (v.opened == c) ≡ true → conn_of c v ≡ None
    unborn c at = ap (λ d. conn_of d v) (sym (eqb-true v.opened c at)) ∙ unborn_absent v s

    opened_now : (c : ℕ) → (v.opened == c) ≡ true → conn_of c w ≡ Some (new_held v.opened)
    opened_now c at = ap (λ d. conn_of d w) (sym (eqb-true v.opened c at)) ∙ o.moves.here

    none : (b : Bool) → (b && false) ≡ false
    none b = grind (arith, nat_tests)

    never : (b : Bool) → (b && not b) ≡ false
    never b = grind (arith, nat_tests)

    -- of the new one nothing can be taken, and nothing could before
    new_turns : (c : ℕ) → v.opened ≡ c → Turns v.opened w.opened c None (Some (new_held v.opened))
    new_turns c is = grind (arith, nat_tests)

    turns : (c : ℕ) (b : Bool) → (v.opened == c) ≡ b → Turns v.opened w.opened c (conn_of c v) (conn_of c w)
    turns c false ne = subst (Turns v.opened w.opened c (conn_of c v)) (sym (o.moves.others c ne)) (turns_born v.opened w.opened c (conn_of c v) (born_same c ne))
    turns c true at = subst (λ x. Turns v.opened w.opened c x (conn_of c w)) (sym (unborn c at)) (subst (Turns v.opened w.opened c None) (sym (opened_now c at)) (new_turns c (eqb-true v.opened c at)))

    broken_are : (c : ℕ) → is_broken_conn c w ≡ true → is_broken_conn c v ≡ false → false ≡ true
    broken_are c is also = grind (arith, nat_tests)

-- of one that is not open nothing closes
unclosing : (n : ℕ) (v w : GatewayValue) → w ≡ v → KeepsBut (λ c. c == n) (λ c. false) [] v w
unclosing n v w is = grind (arith, nat_tests, keeps_turns, append-nil, Turns, turns_same)

pub closing_keeps : (n : ℕ) (v w : GatewayValue) (result : Bool) → Closes n v w result → IsServing v → KeepsBut (λ c. c == n) (λ c. false) [] v w
closing_keeps n v w result fact further = search (arith, nat_tests, unclosing, keeps_turns, append-nil, sym_eqb, Turns, turns_same, eqb-true, lt-ltb, broken_at, broken_others)

-- ---- bytes

-- as many calls were begun as are kept more
fed_sum : (plans : List PlanRecord) (moment : ℕ) (drained : Bool) (bytes : List ℕ) (begun : ℕ) (k : HeldConnection) (then_begun : ℕ) (l : HeldConnection) (jobs : List JobValue) (result : Result ℕ StepFault)
    → TakesBytes plans moment drained bytes begun k then_begun l jobs result → (begun ≤ then_begun) × (then_begun + length k.calls ≡ begun + length l.calls) × (begun < then_begun → then_begun ≤ most_begun)
fed_sum plans moment drained bytes begun k then_begun l jobs result t = search (arith, length-map, length-append)

fed_grown : (plans : List PlanRecord) (moment : ℕ) (drained : Bool) (bytes : List ℕ) (begun : ℕ) (k : HeldConnection) (then_begun : ℕ) (l : HeldConnection) (jobs : List JobValue) (result : Result ℕ StepFault)
    → TakesBytes plans moment drained bytes begun k then_begun l jobs result → Grown k l
fed_grown plans moment drained bytes begun k then_begun l jobs result (not_fed off r l_is none same) = subst (Grown k) (sym l_is) (grown_same k k refl (λ e. e) refl)
fed_grown plans moment drained bytes begun k then_begun l jobs result (dropped on over r l_is none same) = subst (Grown k) (sym l_is) (grown_same k k refl (λ e. e) refl)
fed_grown plans moment drained bytes begun k then_begun l jobs result (unread on going r l_is none same) = subst (Grown k) (sym l_is) (grown_broken k)
fed_grown plans moment drained bytes begun k then_begun l jobs result (read on going n reader reads none_comes r l_is none same) = subst (Grown k) (sym l_is) (grown_same k (read_held reader k) refl (λ e. e) refl)
fed_grown plans moment drained bytes begun k then_begun l jobs result (came on going n request reader x reads comes r l_is jobs_are more few) = subst (Grown k) (sym l_is)
    (grown_then k (read_held reader k) (entered_held (arriving_in moment drained x k) (read_held reader k)) (grown_same k (read_held reader k) refl (λ e. e) refl)
    (grown_entered (arriving_in moment drained x k) (read_held reader k) (hears_parts k on).1))
fed_grown plans moment drained bytes begun k then_begun l jobs result (broke on going n request reader x reads comes fault why r l_is none same) = subst (Grown k) (sym l_is)
    (grown_then k (read_held reader k) (broken_held (read_held reader k)) (grown_same k (read_held reader k) refl (λ e. e) refl) (grown_broken (read_held reader k)))

-- of one that is silent no job starts
fed_jobs : (plans : List PlanRecord) (moment : ℕ) (drained : Bool) (bytes : List ℕ) (begun : ℕ) (k : HeldConnection) (then_begun : ℕ) (l : HeldConnection) (jobs : List JobValue) (result : Result ℕ StepFault)
    → TakesBytes plans moment drained bytes begun k then_begun l jobs result → (jobs ≡ []) ⊎ ((hears k ≡ true) × All (λ (j : JobValue). j.call.conn ≡ k.number) jobs)
fed_jobs plans moment drained bytes begun k then_begun l jobs result (not_fed off r l_is none same) = inl none
fed_jobs plans moment drained bytes begun k then_begun l jobs result (dropped on over r l_is none same) = inl none
fed_jobs plans moment drained bytes begun k then_begun l jobs result (unread on going r l_is none same) = inl none
fed_jobs plans moment drained bytes begun k then_begun l jobs result (read on going n reader reads none_comes r l_is none same) = inl none
fed_jobs plans moment drained bytes begun k then_begun l jobs result (came on going n request reader x reads comes r l_is jobs_are more few) =
    inr (on, subst (λ js. All (λ (j : JobValue). j.call.conn ≡ k.number) js) (sym jobs_are) (λ i d lt. ap (λ (id : CallId). id.conn) (arriving_own moment drained x k i d lt)))
fed_jobs plans moment drained bytes begun k then_begun l jobs result (broke on going n request reader x reads comes fault why r l_is none same) = inl none

-- of the others no job is of this one, and one that is heard is not silent
none_silent : (n : ℕ) (v : GatewayValue) (k : HeldConnection) (jobs : List JobValue) → conn_of n v ≡ Some k → k.number ≡ n → (jobs ≡ []) ⊎ (((k.closed || k.broken) ≡ false) × All (λ (j : JobValue). j.call.conn ≡ k.number) jobs)
    → (c : ℕ) → is_silent c v ≡ true → filter (is_of c) jobs ≡ []
none_silent n v k jobs k_is number_is (inl none) c e = ap (λ js. filter (is_of c) js) none
none_silent n v k jobs k_is number_is (inr (goes, own)) c e = by (n == c) refl
  where
    never : (b : Bool) → (b && false) ≡ false
    never b = grind (arith, nat_tests)

    by : (b : Bool) → (n == c) ≡ b → filter (is_of c) jobs ≡ []
    by b is = grind (arith, nat_tests, own_jobs, silent_at, eqb-true, silent_some, never)

pub fed_counts : (n : ℕ) (bytes : List ℕ) (v w : GatewayValue) (result : Result ℕ StepFault) → Feeds n bytes v w result → CountsCalls v w
fed_counts n bytes v w result (absent none r w_is) = grind arith
fed_counts n bytes v w result (there k l jobs k_is t m w_is) = let x = fed_sum v.plans v.moment v.drained bytes v.begun k w.begun l jobs result t in record {
  grows = x.0;
  sum_is = let kept = m.kept_is in let old : kept_in (conn_of n v) ≡ length k.calls = ap kept_in k_is in let sum = x.1 in omega (arith, kept, old, sum);
  few = x.2;
}

pub fed_keeps : (n : ℕ) (bytes : List ℕ) (v w : GatewayValue) (result : Result ℕ StepFault) → Feeds n bytes v w result → IsServing v → Keeps (λ c. c == n) v w
fed_keeps n bytes v w result (absent none r w_is) s = all_keeps v w (λ c. c == n) w_is
fed_keeps n bytes v w result (there k l jobs k_is t m w_is) s = keeps_turns (λ c. false) (λ c. c == n) [] v w (ap (λ (x : GatewayValue). x.plans) w_is)
    (λ few. let counts = fed_counts n bytes v w result (there k l jobs k_is t m w_is) in let grows = counts.grows in let sum = counts.sum_is in omega (arith, few, grows, sum))
    (λ before e. ap (λ (x : GatewayValue). x.tally) w_is ∙ e) (breaks_alone n v w (Some l) m opened_is) jobs (ap (λ (x : GatewayValue). x.jobs) w_is)
    (none_silent n v k jobs k_is (s.each n k k_is).number_is own) (λ c off e. absurd (cc))
    (λ c still. turns_moved n (Some l) v w m opened_is (subst (λ x. Turns v.opened v.opened n x (Some l)) (sym k_is) (turns_grown v.opened n k l (fed_grown v.plans v.moment v.drained bytes v.begun k w.begun l jobs result t))) c)
  where
    opened_is : w.opened ≡ v.opened
    opened_is = ap (λ (x : GatewayValue). x.opened) w_is

    own : (jobs ≡ []) ⊎ (((k.closed || k.broken) ≡ false) × All (λ (j : JobValue). j.call.conn ≡ k.number) jobs)
    own = by (fed_jobs v.plans v.moment v.drained bytes v.begun k w.begun l jobs result t)
      where
        by : (jobs ≡ []) ⊎ ((hears k ≡ true) × All (λ (j : JobValue). j.call.conn ≡ k.number) jobs) → (jobs ≡ []) ⊎ (((k.closed || k.broken) ≡ false) × All (λ (j : JobValue). j.call.conn ≡ k.number) jobs)
        by fact = grind (arith, nat_tests)

-- ---- a hang-up

hung_grown : (k l : HeldConnection) (result : Result ⊤ StepFault) → Holds k → HangsUp k l result → Grown k l
hung_grown k l result h (unnoticed off r l_is) = subst (Grown k) (sym l_is) (grown_same k k refl (λ e. e) refl)
hung_grown k l result h (hung on r l_is) = subst (Grown k) (sym l_is)
    (grown_then k (hung_held k) (ended_held (HungUp k.number) (hung_held k)) (grown_same k (hung_held k) refl (λ e. e) refl) (grown_ended (HungUp k.number) (hung_held k) (holds_hung k h)))
hung_grown k l result h (broke on ends r l_is) = subst (Grown k) (sym l_is)
    (grown_then k (hung_held k) (broken_held (hung_held k)) (grown_same k (hung_held k) refl (λ e. e) refl) (grown_broken (hung_held k)))

pub hanging_keeps : (n : ℕ) (v w : GatewayValue) (result : Result ⊤ StepFault) → HangsUpAt n v w result → IsServing v → Keeps (λ c. c == n) v w
hanging_keeps n v w result (absent none r w_is) s = all_keeps v w (λ c. c == n) w_is
hanging_keeps n v w result (there k l k_is t m w_is) s = keeps_turns (λ c. false) (λ c. c == n) [] v w (ap (λ (x : GatewayValue). x.plans) w_is) (λ few. ap (λ (x : GatewayValue). x.begun) w_is)
    (λ before e. ap (λ (x : GatewayValue). x.tally) w_is ∙ e) (breaks_alone n v w (Some l) m (ap (λ (x : GatewayValue). x.opened) w_is)) [] (ap (λ (x : GatewayValue). x.jobs) w_is ∙ sym (append-nil v.jobs)) (λ c e. refl)
    (λ c off e. absurd (cc))
    (λ c still. turns_moved n (Some l) v w m (ap (λ (x : GatewayValue). x.opened) w_is) (subst (λ x. Turns v.opened v.opened n x (Some l)) (sym k_is) (turns_grown v.opened n k l (hung_grown k l result (s.each n k k_is).holds t))) c)

-- ---- a moment, and the drain

ends_grown : (t : Trigger) (k l : HeldConnection) → Holds k → CallsEnd t k l → Grown k l
ends_grown t k l h (ended l_is) = subst (Grown k) (sym l_is) (grown_ended t k h)
ends_grown t k l h (broke still whole ends l_is) = subst (Grown k) (sym l_is) (grown_broken k)

broadcast_keeps : (t : Trigger) (v w : GatewayValue) (one : Bool) → Broadcast t v w one → w.plans ≡ v.plans → w.opened ≡ v.opened → w.begun ≡ v.begun → w.tally ≡ v.tally → w.jobs ≡ v.jobs → IsServing v → Keeps (λ c. true) v w
broadcast_keeps t v w one b plans_are opened_is begun_is tally_is jobs_are s = keeps_turns (λ c. false) (λ c. true) [] v w plans_are (λ few. begun_is) (λ before e. tally_is ∙ e) (λ c on off. refl) [] (jobs_are ∙ sym (append-nil v.jobs)) (λ c e. refl)
    (λ c off e. absurd (cc)) (λ c still. subst (λ n. Turns v.opened n c (conn_of c v) (conn_of c w)) (sym opened_is) (each c (conn_of c v) refl (b.each c)))
  where
    each : (c : ℕ) (x : Option HeldConnection) → conn_of c v ≡ x → MayEnd t x (conn_of c w) → Turns v.opened v.opened c (conn_of c v) (conn_of c w)
    each c None is none = turns_same v.opened c (conn_of c v) (conn_of c w) (none ∙ sym is)
    each c (Some k) is (l, l_is, ends) = subst (λ x. Turns v.opened v.opened c x (conn_of c w)) (sym is) (subst (Turns v.opened v.opened c (Some k)) (sym l_is) (turns_grown v.opened c k l (ends_grown t k l (s.each c k is).holds ends)))

pub reaching_keeps : (moment : ℕ) (v w : GatewayValue) (one : Bool) → Reaches moment v w one → IsServing v → Keeps (λ c. true) v w
reaching_keeps moment v w one r s = broadcast_keeps (Reached (moment_after v.moment moment)) v w one r.ends (ap (λ (x : GatewayValue). x.plans) r.rest) (ap (λ (x : GatewayValue). x.opened) r.rest) (ap (λ (x : GatewayValue). x.begun) r.rest)
    (ap (λ (x : GatewayValue). x.tally) r.rest) (ap (λ (x : GatewayValue). x.jobs) r.rest) s

pub draining_keeps : (v w : GatewayValue) (one : Bool) → Drains v w one → IsServing v → Keeps (λ c. true) v w
draining_keeps v w one r s = broadcast_keeps Drained v w one r.ends (ap (λ (x : GatewayValue). x.plans) r.rest) (ap (λ (x : GatewayValue). x.opened) r.rest) (ap (λ (x : GatewayValue). x.begun) r.rest)
    (ap (λ (x : GatewayValue). x.tally) r.rest) (ap (λ (x : GatewayValue). x.jobs) r.rest) s

-- ---- results

taken_grown : (moment : ℕ) (id : CallId) (branch : ℕ) (outcome : Outcome) (k l : HeldConnection) (jobs : List JobValue) (took : Took) → TakesResult moment id branch outcome k l jobs took → Holds k → Grown k l
taken_grown moment id branch outcome k l jobs took (unknown out t l_is none) h = subst (Grown k) (sym l_is) (grown_same k k refl (λ e. e) refl)
taken_grown moment id branch outcome k l jobs took (settled i found out t forgets j own) h =
    grown_then k (settled_held i (result_in moment i branch outcome k) k) l (grown_settled moment i branch outcome k found.0 h) (grown_forgotten id (settled_held i (result_in moment i branch outcome k) k) l forgets)
taken_grown moment id branch outcome k l jobs took (lost i found out live t forgets none) h = grown_then k (lost_held i branch k) l (grown_lost i branch k) (grown_forgotten id (lost_held i branch k) l forgets)

-- of one that is closed or broken no job starts
taken_jobs : (moment : ℕ) (id : CallId) (branch : ℕ) (outcome : Outcome) (k l : HeldConnection) (jobs : List JobValue) (took : Took) → TakesResult moment id branch outcome k l jobs took → Holds k
    → (jobs ≡ []) ⊎ (((k.closed || k.broken) ≡ false) × All (λ (j : JobValue). j.call.conn ≡ k.number) jobs)
taken_jobs moment id branch outcome k l jobs took fact further = grind (arith, nat_tests)

-- what a result, or what is known of none, keeps
result_by : (n : ℕ) (seen : Seen) (v w : GatewayValue) (k l : HeldConnection) (jobs : List JobValue) → conn_of n v ≡ Some k → Moves n (left_of l) v w → Tallies seen v w
    → w.plans ≡ v.plans → w.opened ≡ v.opened → w.begun ≡ v.begun → w.jobs ≡ v.jobs ++ jobs → Grown k l → (jobs ≡ []) ⊎ (((k.closed || k.broken) ≡ false) × All (λ (j : JobValue). j.call.conn ≡ k.number) jobs)
    → IsServing v → KeepsBut (λ c. false) (λ c. c == n) (seen ∷ []) v w
result_by n seen v w k l jobs k_is m tally plans_are opened_is begun_is jobs_are g own s = keeps_turns (λ c. false) (λ c. c == n) (seen ∷ []) v w plans_are (λ few. begun_is) tally (breaks_alone n v w (left_of l) m opened_is) jobs jobs_are
    (none_silent n v k jobs k_is (s.each n k k_is).number_is own) (λ c off e. absurd (cc))
    (λ c still. turns_moved n (left_of l) v w m opened_is (subst (λ x. Turns v.opened v.opened n x (left_of l)) (sym k_is) (turns_left v.opened n k l g (s.each n k k_is).born)) c)

-- .. of a call that is not kept
unknown_by : (n : ℕ) (seen : Seen) (v w : GatewayValue) → Tallies seen v w → w ≡ record v { tally = w.tally } → KeepsBut (λ c. false) (λ c. c == n) (seen ∷ []) v w
unknown_by n seen v w tally is = grind (arith, nat_tests, keeps_turns, append-nil, Turns, turns_same)

pub result_keeps : (id : CallId) (branch : ℕ) (outcome : Outcome) (v w : GatewayValue) (took : Took) → Results id branch outcome v w took → IsServing v → KeepsBut (λ c. false) (λ c. c == id.conn) (took.seen ∷ []) v w
result_keeps id branch outcome v w took (absent none t tally w_is) s = unknown_by id.conn took.seen v w tally w_is
result_keeps id branch outcome v w took (there k l jobs k_is t m tally w_is) s = result_by id.conn took.seen v w k l jobs k_is m tally (ap (λ (x : GatewayValue). x.plans) w_is) (ap (λ (x : GatewayValue). x.opened) w_is)
    (ap (λ (x : GatewayValue). x.begun) w_is) (ap (λ (x : GatewayValue). x.jobs) w_is) (taken_grown v.moment id branch outcome k l jobs took t (s.each id.conn k k_is).holds) (taken_jobs v.moment id branch outcome k l jobs took t (s.each id.conn k k_is).holds) s
