-- What decides a call concerns its connection; what the events and the breaks at them make of the connections.
use Rattle.std.specs.Prelude.{◌≡◌, ◌<◌, ◌∷◌, ◌++◌, if◌then◌else◌, ◌&&◌, ◌==◌}
use Rattle.gateway_theory.specs.lemmas.Names.{ℕ, Bool, true, false, List, [], None, refl, sym, ap, ◌∙◌, zero, suc, Option, Some, arith, subst, nat_tests, not, slice_set, slice_index_or, nat_lt, is_some, is_none, eqb-true, eq-eqb, Outcome, CallId, Occurrence, Opening, Comes, HangUp, Moment, Result, Drain, Closing, Break, call, is_call, is_result_of, Past, ArrivedCall, call_id, is_out, is_shut, due_by, is_undecided, arrivals, now, deciding, count_below, mark_of, counts, marked, is_broken, Step, has_out, kept, step, deadlines_in, ended_by, moment_after, result_on, CallState, call_state, Live, ConnectionValue, is_open_value, CallStays, NothingOf, option_or, CallEvent, LiveStands, CallStands, MayLive, concerns, decided, decided_by, ReplyEntry, JobValue, is_visible, own, is_break, AllStand, Now, breaks_of, call_step, MayCome, all_after, all_started, is_shut_value, now_after, went, Before, OccursAt, listens, once, Event, History, occurrences, Adds, CoreValue, HasConns, StreamValue, is_heard, or_parts}
use Rattle.gateway_theory.specs.lemmas.Cases.{and_true}
use Rattle.gateway_theory.specs.lemmas.StepLemmas.{back_out, moment_ends}
use Rattle.gateway_theory.specs.lemmas.LimitLemmas.{same_call}
use Rattle.gateway_theory.specs.lemmas.PastLemmas.{unborn}
use Rattle.gateway_theory.specs.lemmas.Deadlines.{outs_are}
use Rattle.gateway_theory.specs.lemmas.Frame.{own_before}
use Rattle.gateway_theory.specs.lemmas.ConnectionSteps.{now_own, all_step}
use Rattle.gateway_theory.specs.lemmas.GoingOn.{no_entering}
use Rattle.gateway_theory.specs.lemmas.OwnLemmas.{Alike, own_alike}
use Rattle.gateway_theory.specs.Connection.{closes}
use Rattle.gateway_theory.specs.lemmas.Broadcast.{all_broken, breaks_stand, not_broken, drain_stands, moment_stands}
use Rattle.gateway_theory.specs.lemmas.Adding.{AreOnce, listed, MayBreak, Newer, one_newer, breaks_each, AreBreaks, none_newer, StandsNow, adds_event, none_more}
use Rattle.gateway_theory.specs.lemmas.Knowing.{broken_stands}
use Rattle.gateway_theory.specs.lemmas.PrefixLemmas.{broken_shut}
use Rattle.gateway_theory.specs.lemmas.Standing.{outs_stand}
use Rattle.gateway_theory.specs.lemmas.ServedLemmas.{Stays, hung_if, is_listening, stays_itself, stays_then, streams_closed, streams_hung, streams_stay, streams_unclosed, unclosed, went_stays}
use Rattle.gateway_model.specs.declared.event.Event.TheVariants as event

-- ---- a call that can't be decided any more

abbrev Quiet : CallId → Occurrence → CallState → Step → Type 0
Quiet id o c s = CallStays id o c s.call × (s.reply ≡ None) × (s.jobs ≡ [])

kept_quiet : (id : CallId) (o : Occurrence) (c : CallState) → ((k : ℕ) → is_result_of id k o ≡ false) → Quiet id o c (kept c)
kept_quiet id o c none = (record { outs_are = λ k. sym (and_true (has_out c k)) ∙ ap (λ b. has_out c k && not b) (sym (none k)) }, refl, refl)

quiet_result : (id of : CallId) (i : ℕ) (r : Outcome) (out : List Bool) (b d : Bool) → is_call of id ≡ b → slice_index_or out i false ≡ d
    → Quiet id (Result of i r) (call_state out None) (if b && d then kept (call_state (slice_set out i false) None) else kept (call_state out None))
quiet_result id of i r out b d is also = grind (arith, nat_tests, kept_quiet, outs_are, back_out, eqb-true, and_true)

pub quiet_at : (moment : ℕ) (id : CallId) (o : Occurrence) (out : List Bool) → Quiet id o (call_state out None) (step moment id o (call_state out None))
quiet_at moment id o out = grind (arith, nat_tests, quiet_result, kept_quiet)

kept_nothing : (id : CallId) (o : Occurrence) (c : CallState) → ((k : ℕ) → is_result_of id k o ≡ false) → NothingOf id o c (kept c)
kept_nothing id o c none = grind arith

-- ---- a call that can't be decided any more

pub still_none : (moment : ℕ) (id : CallId) (o : Occurrence) (out : List Bool) → (step moment id o (call_state out None)).call.live ≡ None
still_none moment id o out = grind (arith, nat_tests)

-- ---- a call that can

below_none : (n : ℕ) (p : ℕ → Bool) (k : ℕ) → nat_lt 0 (count_below n p) ≡ false → k < n → p k ≡ false
below_none zero p k none lt = absurd (omega (arith, lt))
below_none (suc n) p k none lt = grind (arith, below_none n p k)

arrived : (c k : ℕ) (a : ArrivedCall) (past : Past) → call (call_id c k) past ≡ Some a → k < arrivals c past
arrived c k a past h = grind (arith, nat_tests, unborn)

deciding_drain : (id : CallId) (a : ArrivedCall) (past : Past) → call id past ≡ Some a → is_shut id.conn past ≡ false → is_some (deciding id (mark_of past Drain) past) ≡ true
deciding_drain id a past call_is unshut = cc

deciding_moment : (id : CallId) (t : ℕ) (l : Live) (out : List Bool) (past : Past) (e : CallEvent) → LiveStands id l out past → ((i : ℕ) → slice_index_or out i false ≡ is_out id i past)
    → due_by (moment_after (now past) t) l.asked.deadline (deadlines_in out l.deadlines) ≡ Some e → is_some (deciding id (mark_of past (Moment t)) past) ≡ true
deciding_moment id t l out past e h out_is due = grind (arith, nat_tests, outs_are, own_before, no_entering, moment_ends)

nothing_result : (c k : ℕ) (of : CallId) (i : ℕ) (r : Outcome) (l : Live) (out : List Bool) (past : Past) → LiveStands (call_id c k) l out past
    → concerns c (Result of i r) past ≡ false → is_call of (call_id c k) ≡ true → is_out (call_id c k) i past ≡ true → ⊥
nothing_result c k of i r l out past h not_so it is_out_i =
    let same : of ≡ call_id c k = same_call of (call_id c k) it in
    let counted : concerns c (Result (call_id c k) i r) past ≡ true = rw (eq-eqb c c refl, is_out_i, h.undecided, h.unshut) refl in
    let bad : false ≡ true = sym not_so ∙ ap (λ x. concerns c (Result x i r) past) same ∙ counted in
    cc

live_nothing : (c k : ℕ) (o : Occurrence) (out : List Bool) (l : Live) (past : Past) → concerns c o past ≡ false → CallStands (call_id c k) (call_state out (Some l)) past
    → NothingOf (call_id c k) o (call_state out (Some l)) (step (now past) (call_id c k) o (call_state out (Some l)))
live_nothing c k Opening out l past not_so h = kept_nothing (call_id c k) Opening (call_state out (Some l)) (λ j. refl)
live_nothing c k (Comes d x) out l past not_so h = kept_nothing (call_id c k) (Comes d x) (call_state out (Some l)) (λ j. refl)
live_nothing c k (HangUp d) out l past not_so h = grind arith
live_nothing c k (Closing d) out l past not_so h = grind arith
live_nothing c k (Break d) out l past not_so h = grind arith
live_nothing c k (Moment t) out l past not_so h = by_event (due_by (moment_after (now past) t) l.asked.deadline (deadlines_in out l.deadlines)) refl
  where
    by_event : (x : Option CallEvent) → due_by (moment_after (now past) t) l.asked.deadline (deadlines_in out l.deadlines) ≡ x
        → NothingOf (call_id c k) (Moment t) (call_state out (Some l)) (ended_by x l out)
    by_event None x_is = kept_nothing (call_id c k) (Moment t) (call_state out (Some l)) (λ j. refl)
    by_event (Some e) x_is = absurd (
        let s : LiveStands (call_id c k) l out past = h.live_is in
        let none : (is_undecided (call_id c k) past && is_some (deciding (call_id c k) (mark_of past (Moment t)) past)) ≡ false =
        below_none (arrivals c past) (λ j. is_undecided (call_id c j) past && is_some (deciding (call_id c j) (mark_of past (Moment t)) past)) k not_so (arrived c k l.asked past s.call_is) in
        let some : (is_undecided (call_id c k) past && is_some (deciding (call_id c k) (mark_of past (Moment t)) past)) ≡ true =
        rw (deciding_moment (call_id c k) t l out past e s h.out_is x_is, s.call_is, s.undecided) refl in
        let bad : true ≡ false = sym some ∙ none in cc)
live_nothing c k Drain out l past not_so h = absurd (
    let s : LiveStands (call_id c k) l out past = h.live_is in
    let none : (is_undecided (call_id c k) past && is_some (deciding (call_id c k) (mark_of past Drain) past)) ≡ false =
    below_none (arrivals c past) (λ j. is_undecided (call_id c j) past && is_some (deciding (call_id c j) (mark_of past Drain) past)) k not_so (arrived c k l.asked past s.call_is) in
    let some : (is_undecided (call_id c k) past && is_some (deciding (call_id c k) (mark_of past Drain) past)) ≡ true =
    rw (deciding_drain (call_id c k) l.asked past s.call_is s.unshut, s.call_is, s.undecided) refl in
    let bad : true ≡ false = sym some ∙ none in cc)
live_nothing c k (Result of i r) out l past not_so h = by_it (is_call of (call_id c k)) (slice_index_or out i false) refl refl
  where
    by_it : (b d : Bool) → is_call of (call_id c k) ≡ b → slice_index_or out i false ≡ d
        → NothingOf (call_id c k) (Result of i r) (call_state out (Some l))
        (if is_call of (call_id c k) && slice_index_or out i false then result_on (now past) i r (slice_set out i false) (Some l) else kept (call_state out (Some l)))
    by_it true true b_is d_is =
        absurd (nothing_result c k of i r l out past h.live_is not_so b_is (sym (h.out_is i) ∙ d_is))
    by_it false d b_is d_is = grind (arith, nat_tests)
    by_it true false b_is d_is = grind (arith, nat_tests)

pub nothing_of : (c k : ℕ) (o : Occurrence) (out : List Bool) (live : Option Live) (past : Past) → concerns c o past ≡ false → CallStands (call_id c k) (call_state out live) past
    → NothingOf (call_id c k) o (call_state out live) (step (now past) (call_id c k) o (call_state out live))
nothing_of c k o out None past not_so h = grind (arith, nat_tests, quiet_at, still_none)
nothing_of c k o out (Some l) past not_so h = live_nothing c k o out l past not_so h

-- where nothing decided it before
same_by : (c : Option ArrivedCall) (d e f : Option CallEvent) → option_or d e ≡ option_or d f → ((is_some c && is_none d) && is_some e) ≡ ((is_some c && is_none d) && is_some f)
same_by c d e f is = grind (arith, nat_tests)

module _ (c : ℕ) (os : List Occurrence) where
  abbrev p : Past
  p = marked os

  abbrev q : Past
  q = marked (own c os)

  a : Alike c p q
  a = own_alike c os

  -- an occurrence that is visible to it
  module _ (o : Occurrence) (on : is_visible c o ≡ true) where
    then_alike : Alike c (mark_of p o ∷ p) (mark_of q o ∷ q)
    then_alike =
        let is : own c (o ∷ os) ≡ o ∷ own c os = rw on refl in
        subst (λ us. Alike c (marked (o ∷ os)) (marked us)) is (own_alike c (o ∷ os))

    each_alike : (k : ℕ) → (is_undecided (call_id c k) p && is_some (deciding (call_id c k) (mark_of p o) p)) ≡ (is_undecided (call_id c k) q && is_some (deciding (call_id c k) (mark_of q o) q))
    each_alike k = grind (arith, nat_tests, same_by, then_alike, a)

    decided_alike : decided_by c o p ≡ decided_by c o q
    decided_alike = grind (arith, nat_tests, a, each_alike)

  -- it concerns it by all that occurred as by what is its own
  pub concerns_own : (o : Occurrence) → is_visible c o ≡ true → concerns c o p ≡ concerns c o q
  concerns_own Opening on = refl
  concerns_own (Comes d x) on = ap (λ b. (d == c) && not b) a.shut_is
  concerns_own (HangUp d) on = ap (λ b. (d == c) && not b) a.shut_is
  concerns_own (Closing d) on = ap (λ b. (d == c) && not b) a.shut_is
  concerns_own (Break d) on = ap (λ b. (d == c) && not b) a.shut_is
  concerns_own (Result id i outcome) on = ap (λ b. (id.conn == c) && b) (by id (eqb-true id.conn c on))
    where
      by : (id : CallId) → id.conn ≡ c → counts (Result id i outcome) p ≡ counts (Result id i outcome) q
      by id is = subst (λ n. counts (Result (call_id n id.request) i outcome) p ≡ counts (Result (call_id n id.request) i outcome) q) (sym is)
          (rw (a.out_is id.request i, a.decided_is id.request, a.shut_is) refl)
  concerns_own (Moment m) on = ap (nat_lt 0) (decided_alike (Moment m) on)
  concerns_own Drain on = ap (nat_lt 0) (decided_alike Drain on)

replies_concern : (moment : ℕ) (id : CallId) (o : Occurrence) (s : CallState) (past : Past) → moment ≡ now past → CallStands id s past
    → is_some (step moment id o s).reply ≡ true → concerns id.conn o past ≡ true
replies_concern moment id o s past is h replies = by (concerns id.conn o past) refl
  where
    by : (b : Bool) → concerns id.conn o past ≡ b → concerns id.conn o past ≡ true
    by true e = e
    by false e = absurd (
        let none = (nothing_of id.conn id.request o s.out s.live past e h).no_reply in
        let clash : false ≡ true = sym (ap is_some none) ∙ ap (λ m. is_some (step m id o s).reply) (sym is) ∙ replies in cc)

-- what ends a call of it, or answers it, concerns it
pub reply_concerns : (n : Now) (conns : ℕ → ConnectionValue) (taken : ℕ → List ReplyEntry) (handed waiting : List JobValue) (os : List Occurrence) → AllStand n conns taken handed waiting os
    → (o : Occurrence) (c k : ℕ) → is_visible c o ≡ true → is_some (call_step n o (conns c) k).reply ≡ true → concerns c o (marked os) ≡ true
reply_concerns n conns taken handed waiting os h o c k on replies =
    concerns_own c os o on
    ∙ ap (λ d. concerns d o (marked (own c os))) (sym (h.numbers c))
    ∙ replies_concern n.moment (call_id (conns c).number k) o ((conns c).calls k) (marked (own c os)) (now_own c n os h.now).moment_is ((h.each c).calls k) replies

-- the same amid a broadcast, where others broke before
pub concerned_amid : (n : Now) (conns : ℕ → ConnectionValue) (taken : ℕ → List ReplyEntry) (handed waiting : List JobValue) (os : List Occurrence) → AllStand n conns taken handed waiting os
    → (o : Occurrence) (ds : List ℕ) (c k : ℕ) → is_visible c o ≡ true → listed ds c ≡ false → is_some (call_step n o (conns c) k).reply ≡ true → concerns c o (marked (breaks_of ds ++ os)) ≡ true
concerned_amid n conns taken handed waiting os h o ds c k on off replies =
    reply_concerns n (all_broken n ds conns) taken handed waiting (breaks_of ds ++ os) (breaks_stand n taken handed waiting os conns h ds) o c k on
    (ap (λ v. is_some (call_step n o v k).reply) (not_broken n conns c ds off) ∙ replies)

-- each of these is neither closed nor broken, and has a call that this occurrence decides
abbrev pub BreakBy : Now → (ℕ → ConnectionValue) → Occurrence → List ℕ → Type 0
BreakBy n conns o cs = (c : ℕ) → listed cs c ≡ true → (is_shut_value (conns c) ≡ false) × ((k : ℕ) × (is_some (call_step n o (conns c) k).reply ≡ true))

module _ (n : Now) (conns : ℕ → ConnectionValue) (taken : ℕ → List ReplyEntry) (handed waiting : List JobValue) (os : List Occurrence) (h : AllStand n conns taken handed waiting os)
    (opened : List ℕ) (es : Before) (cs : List ℕ) (once : AreOnce cs) where
  not_before : (c : ℕ) (ds : List ℕ) → listed ds c ≡ false → is_shut_value (conns c) ≡ false → is_broken c (marked (breaks_of ds ++ os)) ≡ false
  not_before c ds off whole =
      let same : all_broken n ds conns c ≡ conns c = not_broken n conns c ds off in
      let parts = or_parts (conns c).closed (conns c).broken whole in
      sym (broken_stands n (all_broken n ds conns) 0 taken handed waiting (breaks_of ds ++ os) (breaks_stand n taken handed waiting os conns h ds) c (ap (λ (v : ConnectionValue). v.closed) same ∙ parts.0))
      ∙ ap (λ (v : ConnectionValue). v.broken) same ∙ parts.1

  pub moment_comes : (m : ℕ) → BreakBy n conns (Moment m) cs
      → Newer (MayBreak opened (event.Moment m) es) (λ us. AllStand (now_after (Moment m) n) (λ d. if listed cs d then went n (Break d) (conns d) else went n (Moment m) (conns d)) taken handed waiting us)
      (Moment m ∷ []) os
  moment_comes m by =
      one_newer (MayBreak opened (event.Moment m) es) _ os (Moment m) cs refl
      (breaks_each (MayBreak opened (event.Moment m) es) os cs once (λ c ds on off. (not_before c ds off (by c on).0, concerned_amid n conns taken handed waiting os h (Moment m) ds c (by c on).1.0 refl off (by c on).1.1)))
      (moment_stands n taken handed waiting os conns h m cs once)

  pub drain_comes : BreakBy n conns Drain cs
      → Newer (MayBreak opened event.Drain es) (λ us. AllStand (now_after Drain n) (λ d. if listed cs d then went n (Break d) (conns d) else went n Drain (conns d)) taken handed waiting us)
      (Drain ∷ []) os
  drain_comes by =
      one_newer (MayBreak opened event.Drain es) _ os Drain cs refl
      (breaks_each (MayBreak opened event.Drain es) os cs once (λ c ds on off. (not_before c ds off (by c on).0, concerned_amid n conns taken handed waiting os h Drain ds c (by c on).1.0 refl off (by c on).1.1)))
      (drain_stands n taken handed waiting os conns h cs once)

-- ---- a moment, and the drain

-- all make their step, but those that break
abbrev pub broadcast : Occurrence → List ℕ → CoreValue → CoreValue
broadcast o cs v = record v { now = now_after o v.now; conns = λ d. if listed cs d then went v.now (Break d) (v.conns d) else went v.now o (v.conns d) }

broadcast_stays : (n : Now) (o : Occurrence) (v : ConnectionValue) (d : ℕ) (b : Bool) → closes v.number o ≡ false → Stays v (if b then went n (Break d) v else went n o v)
broadcast_stays n o v d true still = went_stays n (Break d) v refl
broadcast_stays n o v d false still = went_stays n o v still

module _ (h : History) (v : CoreValue) (cs : List ℕ) (once_each : AreOnce cs) where
  pub moment_adds : (m : ℕ) → BreakBy v.now v.conns (Moment m) cs → Adds h.opened (event.Moment m) h v (broadcast (Moment m) cs v)
  moment_adds m by = adds_event (event.Moment m) h v (broadcast (Moment m) cs v) refl (none_more h.opened (event.Moment m) h v (broadcast (Moment m) cs v) refl)
      (λ c. streams_stay h.opened (event.Moment m) h.events v.opened v.conns (broadcast (Moment m) cs v).conns v.streams
      (record { opens_none = refl; closes_none = λ c. refl; hangs_none = λ c. refl; brings_none = λ c. refl }) (λ d. broadcast_stays v.now (Moment m) (v.conns d) d (listed cs d) refl) c)
      (λ c lived l os at. subst (λ us. Newer (MayBreak h.opened (event.Moment m) h.events) (StandsNow h (broadcast (Moment m) cs v)) us (occurrences lived)) (sym at)
      (moment_comes v.now v.conns h.taken h.handed v.waiting (occurrences lived) l.stands h.opened h.events cs once_each m by))

  pub drain_adds : BreakBy v.now v.conns Drain cs → Adds h.opened event.Drain h v (broadcast Drain cs v)
  drain_adds by = adds_event event.Drain h v (broadcast Drain cs v) refl (none_more h.opened event.Drain h v (broadcast Drain cs v) refl)
      (λ c. streams_stay h.opened event.Drain h.events v.opened v.conns (broadcast Drain cs v).conns v.streams
      (record { opens_none = refl; closes_none = λ c. refl; hangs_none = λ c. refl; brings_none = λ c. refl }) (λ d. broadcast_stays v.now Drain (v.conns d) d (listed cs d) refl) c)
      (λ c lived l os at. subst (λ us. Newer (MayBreak h.opened event.Drain h.events) (StandsNow h (broadcast Drain cs v)) us (occurrences lived)) (sym at)
      (drain_comes v.now v.conns h.taken h.handed v.waiting (occurrences lived) l.stands h.opened h.events cs once_each by))

-- ---- an event that brings one occurrence, or none

-- it occurs, where those broke before, and these are the streams
abbrev pub came : Occurrence → List ℕ → (ℕ → StreamValue) → CoreValue → CoreValue
came o cs streams v = record v {
  now = now_after o v.now;
  conns = all_after v.now o (all_broken v.now cs v.conns);
  streams = streams;
  waiting = v.waiting ++ all_started v.now o (all_broken v.now cs v.conns);
}

pub broken_stays : (n : Now) (conns : ℕ → ConnectionValue) (cs : List ℕ) (d : ℕ) → Stays (conns d) (all_broken n cs conns d)
broken_stays n conns [] d = stays_itself (conns d)
broken_stays n conns (c ∷ cs) d = by (c == d) (broken_stays n conns cs d)
  where
    by : (b : Bool) → Stays (conns d) (all_broken n cs conns d) → Stays (conns d) (if b then went n (Break c) (all_broken n cs conns d) else all_broken n cs conns d)
    by true g = stays_then (conns d) (all_broken n cs conns d) (went n (Break c) (all_broken n cs conns d)) g (went_stays n (Break c) (all_broken n cs conns d) refl)
    by false g = g

after_stays : (n : Now) (o : Occurrence) (v : ConnectionValue) (b : Bool) → closes v.number o ≡ false → Stays v (if b then went n o v else v)
after_stays n o v true still = went_stays n o v still
after_stays n o v false still = stays_itself v

-- where these may break at it, by whatever had occurred
abbrev pub MayAll : Event → History → CoreValue → List ℕ → Type 0
MayAll e h v cs = HasConns v h.opened h.events → (os : List Occurrence) → StandsNow h v os → AreBreaks (MayBreak h.opened e h.events) (breaks_of cs) os

module _ (h : History) (v : CoreValue) where
  one_adds : (e : Event) (o : Occurrence) (cs : List ℕ) (streams : ℕ → StreamValue) → is_break o ≡ false → (HasConns v h.opened h.events → HasConns (came o cs streams v) h.opened (e ∷ h.events))
      → (HasConns v h.opened h.events → (os : List Occurrence) → OccursAt v.plans h.opened e h.events os → os ≡ o ∷ []) → ((d : ℕ) → MayCome o (all_broken v.now cs v.conns d)) → MayAll e h v cs
      → Adds h.opened e h v (came o cs streams v)
  one_adds e o cs streams solid conns one come may = adds_event e h v (came o cs streams v) refl (none_more h.opened e h v (came o cs streams v) refl) conns
      (λ c lived l os at. subst (λ us. Newer (MayBreak h.opened e h.events) (StandsNow h (came o cs streams v)) us (occurrences lived)) (sym (one c os at))
      (one_newer (MayBreak h.opened e h.events) (StandsNow h (came o cs streams v)) (occurrences lived) o cs solid (may c (occurrences lived) l.stands)
      (all_step v.now (all_broken v.now cs v.conns) h.taken h.handed v.waiting (breaks_of cs ++ occurrences lived) o
      (breaks_stand v.now h.taken h.handed v.waiting (occurrences lived) v.conns l.stands cs) come)))

  pub none_adds : (e : Event) → (HasConns v h.opened h.events → HasConns v h.opened (e ∷ h.events)) → (HasConns v h.opened h.events → (os : List Occurrence) → OccursAt v.plans h.opened e h.events os → os ≡ [])
      → Adds h.opened e h v v
  none_adds e conns none = adds_event e h v v refl (none_more h.opened e h v v refl) conns
      (λ c lived l os at. subst (λ us. Newer (MayBreak h.opened e h.events) (StandsNow h v) us (occurrences lived)) (sym (none c os at))
      (none_newer (MayBreak h.opened e h.events) (StandsNow h v) (occurrences lived) l.stands))

  -- a branch ends; its connection may break
  pub result_adds : (id : CallId) (branch : ℕ) (outcome : Outcome) (cs : List ℕ) → MayAll (event.BranchResult id.conn id.request branch outcome) h v cs
      → Adds h.opened (event.BranchResult id.conn id.request branch outcome) h v (came (Result id branch outcome) cs v.streams v)
  result_adds id branch outcome cs may = one_adds (event.BranchResult id.conn id.request branch outcome) (Result id branch outcome) cs v.streams refl
      (λ c. streams_stay h.opened (event.BranchResult id.conn id.request branch outcome) h.events v.opened v.conns (came (Result id branch outcome) cs v.streams v).conns v.streams
      (record { opens_none = refl; closes_none = λ c. refl; hangs_none = λ c. refl; brings_none = λ c. refl })
      (λ d. stays_then (v.conns d) (all_broken v.now cs v.conns d) (all_after v.now (Result id branch outcome) (all_broken v.now cs v.conns) d) (broken_stays v.now v.conns cs d)
      (after_stays v.now (Result id branch outcome) (all_broken v.now cs v.conns d) (id.conn == d) refl)) c)
      (λ c os at. at) (λ d. tt) may

  -- the peer of an open connection hangs up, whose pieces are taken; it may break
  pub hang_up_adds : (n : ℕ) (cs : List ℕ) → is_open_value v.opened n (v.conns n) ≡ true → is_heard (v.conns n) (v.streams n) ≡ true → MayAll (event.HangUp n) h v cs
      → Adds h.opened (event.HangUp n) h v (came (HangUp n) cs (λ c. hung_if (n == c) (v.streams c)) v)
  hang_up_adds n cs there on may = one_adds (event.HangUp n) (HangUp n) cs (λ c. hung_if (n == c) (v.streams c)) refl
      (λ c. streams_hung h.opened n h.events v.opened v.conns (came (HangUp n) cs (λ c. hung_if (n == c) (v.streams c)) v).conns v.streams
      (λ d. stays_then (v.conns d) (all_broken v.now cs v.conns d) (all_after v.now (HangUp n) (all_broken v.now cs v.conns) d) (broken_stays v.now v.conns cs d)
      (after_stays v.now (HangUp n) (all_broken v.now cs v.conns d) (n == d) refl)) c)
      (λ c os at. at ∙ ap (λ b. once b (HangUp n)) (is_listening h.opened h.events v.opened n (v.conns n) (v.streams n) (c.each n) there on)) (λ d. tt) may

  -- an open connection closes
  pub closing_adds : (n : ℕ) → ((c : ℕ) → (v.conns c).number ≡ c) → is_open_value v.opened n (v.conns n) ≡ true → Adds h.opened (event.Closing n) h v (came (Closing n) [] v.streams v)
  closing_adds n numbers there = one_adds (event.Closing n) (Closing n) [] v.streams refl
      (λ c. streams_closed h.opened n h.events v.opened v.conns (came (Closing n) [] v.streams v).conns v.streams shuts (λ c is. ap (λ b. if b then went v.now (Closing n) (v.conns c) else v.conns c) is) c)
      (λ c os at. at ∙ ap (λ b. once b (Closing n)) ((c.each n).open_is ∙ there)) (λ d. tt) (λ c os all. tt)
    where
      shuts : (c : ℕ) → (n == c) ≡ true → (is_open_value v.opened c (v.conns c) ≡ true) × (((came (Closing n) [] v.streams v).conns c).closed ≡ true)
      shuts c is = grind (arith, nat_tests)

  -- one that is not open does not
  pub unclosed_adds : (n : ℕ) → is_open_value v.opened n (v.conns n) ≡ false → Adds h.opened (event.Closing n) h v v
  unclosed_adds n shut = none_adds (event.Closing n) (λ c. streams_unclosed h.opened n h.events v.opened v.conns v.streams shut c) (λ c os at. at ∙ ap (λ b. once b (Closing n)) ((c.each n).open_is ∙ shut))

-- ---- which may break: the one of which it is, while it had not

-- one that is not shut had not broken
not_shut : (n : ℕ) (os : List Occurrence) → is_shut n (marked os) ≡ false → is_broken n (marked os) ≡ false
not_shut n os unshut = grind (arith, nat_tests, broken_shut)

module _ (h : History) (v : CoreValue) (n : ℕ) (whole : (v.conns n).broken ≡ false) where
  not_yet_broken : (v.conns n).closed ≡ false → (os : List Occurrence) → StandsNow h v os → is_broken n (marked os) ≡ false
  not_yet_broken still os all = sym (broken_stands v.now v.conns v.opened h.taken h.handed v.waiting os all n still) ∙ whole

  hears : is_open_value v.opened n (v.conns n) ≡ true → is_heard (v.conns n) (v.streams n) ≡ true → HasConns v h.opened h.events → ((n == n) && listens h.opened n h.events) ≡ true
  hears there on c = ap (λ b. b && listens h.opened n h.events) (eq-eqb n n refl) ∙ is_listening h.opened h.events v.opened n (v.conns n) (v.streams n) (c.each n) there on

  pub piece_may : (bytes : List ℕ) → is_open_value v.opened n (v.conns n) ≡ true → is_heard (v.conns n) (v.streams n) ≡ true → MayAll (event.Piece n bytes) h v (n ∷ [])
  piece_may bytes there on c os all = ((not_yet_broken (unclosed v.opened n (v.conns n) there) os all, hears there on c), tt)

  pub hang_up_may : is_open_value v.opened n (v.conns n) ≡ true → is_heard (v.conns n) (v.streams n) ≡ true → MayAll (event.HangUp n) h v (n ∷ [])
  hang_up_may there on c os all = ((not_yet_broken (unclosed v.opened n (v.conns n) there) os all, hears there on c), tt)

  -- one that counts: its branch is out, and its call can be decided
  pub counted_may : (request branch : ℕ) (outcome : Outcome) (l : Live) → ((v.conns n).calls request).live ≡ Some l → has_out ((v.conns n).calls request) branch ≡ true
      → MayAll (event.BranchResult n request branch outcome) h v (n ∷ [])
  counted_may request branch outcome l l_is out c os all =
      let a = own_alike n os in
      let s : LiveStands (call_id (v.conns n).number request) l ((v.conns n).calls request).out (marked (own n os)) =
      subst (λ x. MayLive (call_id (v.conns n).number request) x ((v.conns n).calls request).out (marked (own n os))) l_is ((all.each n).calls request).live_is in
      let back : is_out (call_id n request) branch (marked os) ≡ true = sym (outs_stand v.now v.conns h.taken h.handed v.waiting os all n request branch) ∙ out in
      let undecided : decided (call_id n request) (marked os) ≡ None = a.decided_is request ∙ ap (λ d. decided (call_id d request) (marked (own n os))) (sym (all.numbers n)) ∙ s.undecided in
      let unshut : is_shut n (marked os) ≡ false = a.shut_is ∙ ap (λ d. is_shut d (marked (own n os))) (sym (all.numbers n)) ∙ s.unshut in
      ((not_shut n os unshut, rw (eq-eqb n n refl, back, undecided, unshut) refl), tt)
