-- What was lived stays, breaks of connections among it, and what is lived more stands at its head. The core is known by it.
use Rattle.gateway_loop.proofs.Words.{◌≡◌, ℕ, ◌+◌, ◌<◌, ◌≤◌, List, [], ◌∷◌, ◌++◌, length, refl, sym, ap, ◌∙◌, subst, append_assoc, All-nil, All-weaker, arith, PlanRecord, Event, Before, Occurs, succeeds, History, Placed, GatewayValue, Served, Extends, IsKnownBy, LivesMore, LivesOn, LoopLaws, marked, occurrences, shown}
use Rattle.std.proofs.lemmas.List.{length-append}
use Rattle.std.proofs.lemmas.List.Elements.{All-append, All-map}
use Rattle.gateway_model.specs.Ahead.{ends_calls, least_deadline}
use Rattle.gateway_model.specs.Breaks.{by_events}
use Rattle.gateway_model.specs.Occurrence.{Occurrence}
use Rattle.gateway_theory.specs.Core.{at_place, then_came}
use Rattle.gateway_theory.specs.Gateway.{core_of}
use Rattle.gateway_theory.specs.Served.{Adds, Lives}
use Rattle.gateway_theory.specs.lemmas.Ahead.{deadline_all, ends_all}
use Rattle.gateway_theory.specs.lemmas.CutLemmas.{IsSame, at_same, same_next}
use Rattle.gateway_theory.specs.lemmas.Knowing.{broken_shown, idle_shown, outs_shown, queue_shown, records_shown}

-- ---- what occurred before

-- openings below that place succeed alike
abbrev Alike : ℕ → List ℕ → List ℕ → Type 0
Alike n opened more = (place : ℕ) → place < n → succeeds more place ≡ succeeds opened place

module _ (n : ℕ) (opened more : List ℕ) (alike : Alike n opened more) where
  same_below : (es : Before) → length es ≤ n → IsSame opened more es es
  same_below [] le = record {
    connections_are = refl;
    open_is = λ c. refl;
    hung_is = λ c. refl;
    stream_is = λ c. refl;
  }
  same_below (e ∷ es) le =
      same_next opened more e es es (same_below es (omega (arith, le))) (alike (length es) (omega (arith, le)))

  occurs_below : (plans : List PlanRecord) (es : Before) → length es ≤ n → (past : List Placed)
      → Occurs plans more es past → Occurs plans opened es past
  occurs_below plans [] le past is = is
  occurs_below plans (e ∷ es) le past (before, o, (os, at, is)) =
      let same = same_below es (omega (arith, le)) in (
        before,
        occurs_below plans es (omega (arith, le)) before o,
        (os, at_same plans opened more e es es os same (alike (length es) (omega (arith, le))) at, is),
      )

occurred_by : (plans : List PlanRecord) (opened : List ℕ) (later es : Before) (occurred : List Placed)
    → Occurs plans opened (later ++ es) occurred → (past : List Placed) × Occurs plans opened es past
occurred_by plans opened [] es occurred o = (occurred, o)
occurred_by plans opened (e ∷ later) es occurred (before, o, further) = occurred_by plans opened later es before o

-- where something occurred by the later history, something occurred by the one before it
occurred_before : (plans : List PlanRecord) (h k : History) → Extends h k
    → (occurred : List Placed) → Occurs plans k.opened k.events occurred
    → (past : List Placed) × Occurs plans h.opened h.events past
occurred_before plans h k more occurred o =
    let all = subst (λ (es : Before). Occurs plans k.opened es occurred) more.events_are o in
    let before = occurred_by plans k.opened more.later h.events occurred all in (
      before.0,
      occurs_below (length h.events) h.opened k.opened more.openings plans h.events (omega arith) before.0 before.1,
    )

-- ---- going on

-- it stands at an event that came behind those
abbrev Since : History → Placed → Type 0
Since h o = length h.events ≤ o.0

-- no event came, and nothing was lived
pub lives_left : (v w : GatewayValue) (h k : History) → ((lived : List Placed) → Lives v h lived → Lives w k lived)
    → LivesOn v h w k
lives_left v w h k left = λ occurred o lived l. record {
  later = [];
  since = All-nil (Since h);
  lives = left lived l;
}

pub lives_none : (v : GatewayValue) (h : History) → LivesOn v h v h
lives_none v h = lives_left v v h h (λ lived l. l)

pub lives_same : (v w : GatewayValue) (h : History) → w ≡ v → LivesOn v h w h
lives_same v w h same = subst (λ (x : GatewayValue). LivesOn v h x h) (sym same) (lives_none v h)

-- an event came
pub lives_added : (opened : List ℕ) (e : Event) (h : History) (v w : GatewayValue) → Adds opened e h v w
    → LivesOn v h w (then_came opened e h)
lives_added opened e h v w a = λ occurred o lived l.
    let all = subst (λ (plans : List PlanRecord). Occurs plans opened (e ∷ h.events) occurred) a.plans_are o in
    by_past occurred all lived l
  where
    by_past : (occurred : List Placed) → Occurs v.plans opened (e ∷ h.events) occurred
        → (lived : List Placed) → Lives v h lived → LivesMore h w (then_came opened e h) lived
    by_past occurred (past, before, (os, at, is)) lived l =
        let place = length h.events in
        let x = a.lives lived l os at in record {
          later = at_place place x.0;
          since = All-map (Since h) (λ (y : Occurrence). (place, y)) x.0 (λ i d lt. omega arith);
          lives = x.2;
        }

pub lives_then : (u v w : GatewayValue) (h k l : History) → w.plans ≡ v.plans → Extends h k → Extends k l
    → LivesOn u h v k → LivesOn v k w l → LivesOn u h w l
lives_then u v w h k l plans one two first second = λ occurred o lived was.
    let all = subst (λ (ps : List PlanRecord). Occurs ps l.opened l.events occurred) plans o in
    let before = occurred_before v.plans k l two occurred all in
    let a = first before.0 before.1 lived was in
    let b = second occurred o (a.later ++ lived) a.lives in
    let long : length k.events ≡ length one.later + length h.events =
    ap (λ (es : Before). length es) one.events_are ∙ length-append one.later h.events in
    let newer = All-weaker (Since k) (Since h) (λ x le. omega (arith, long, le)) b.later b.since in record {
      later = b.later ++ a.later;
      since = All-append (Since h) b.later a.later newer a.since;
      lives = subst (λ (x : List Placed). Lives w l x) (sym (append_assoc b.later a.later lived)) b.lives;
    }

-- ---- what is known

-- the core is known by what was lived
pub known_by : (laws : LoopLaws) (v : GatewayValue) (h : History) (lived : List Placed) → Served v h → Lives v h lived
    → IsKnownBy (shown v) h lived
known_by laws v h lived served l =
    let known = laws.known v h (by_events lived) served l.occurs in
    let w = core_of v in
    let os = occurrences lived in
    let past = marked os in (
      record {
        lived = lived;
        same = refl;
        in_order = l.in_order;
        breaks = l.breaks;
        open_are = known.open_are;
        broken_are = λ c there. broken_shown w.now w.conns w.opened h.taken h.handed w.waiting os l.stands c there;
        queue_is = λ c there. queue_shown w.now w.conns w.opened h.taken h.handed w.waiting os l.stands c there;
        jobs_are = l.stands.jobs_are;
        outs_are = λ id. outs_shown w.now w.conns w.opened h.taken h.handed w.waiting os l.stands id.conn id.request;
        records_are = λ id. records_shown w.now w.conns w.opened h.taken h.handed w.waiting os l.stands id.conn id.request;
        records = known.records;
        idle_are = λ c there. idle_shown w.now w.conns w.opened h.taken h.handed w.waiting os l.stands c there;
        ended_are = known.ended_are;
        idle_gone = known.idle_gone;
        ended_gone = known.ended_gone;
        deadline_is =
            deadline_all w.now w.conns h.taken h.handed w.waiting os l.stands w.opened
            ∙ ap (λ (n : ℕ). least_deadline n past) (sym l.conns.count_is);
        ends_are = λ m.
            ends_all w.now w.conns h.taken h.handed w.waiting os l.stands w.opened m
            ∙ ap (λ (n : ℕ). ends_calls n m past) (sym l.conns.count_is);
        limit = known.limit;
      },
      refl,
    )
