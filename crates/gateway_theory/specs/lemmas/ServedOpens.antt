-- What an opening adds.
use Rattle.std.specs.Prelude.{◌≡◌, ◌+◌, ◌<◌, ◌≤◌, ◌∷◌, ◌++◌, if◌then◌else◌, ◌&&◌, ◌||◌, ◌==◌}
use Rattle.gateway_theory.specs.lemmas.Names.{ℕ, suc, Bool, true, false, List, [], length, refl, sym, ap, ◌∙◌, arith, subst, nat_tests, not, nat_lt, ne_eqb, eq-eqb, eqb-true, ltb-false, lt-ltb, le-ltb, length-append, PlanRecord, BreakAsTheyMay, CanBreakAt, MayOccur, by_events, can_break, Before, Occurs, connections, hung_up, is_hang_up_of, is_open, listens, piece_of, stream, succeeds, IsShifted, open_connections, once, Event, Mark, Past, arrivals, breaks, count_below, is_broken, is_out, mark_of, marked, CallId, Placed, occurrences, HasRead, Partial, reader_value, ReplyEntry, History, JobValue, Occurrence, Opening, AllStand, Now, ConnectionValue, is_open_value, Adds, CoreValue, HasConns, HasStreams, StreamStands, StreamValue, new_stream}
use Rattle.std.proofs.Common.{append-nil}
use Rattle.gateway_model.specs.declared.event.Event.TheVariants.{Opening}
use Rattle.gateway_theory.specs.lemmas.LimitLemmas.{out_started, unbegun}
use Rattle.gateway_theory.specs.lemmas.PastLemmas.{unborn}
use Rattle.gateway_theory.specs.lemmas.Cases.{or_false, and_true, or_true}
use Rattle.gateway_theory.specs.lemmas.CutLemmas.{at_same, connections_grow, listens_same, open_known, same_before, IsSame}
use Rattle.gateway_theory.specs.lemmas.Adding.{MayBreak, Newer, breaks_later, one_newer, StandsNow, adds_by, none_more}
use Rattle.gateway_theory.specs.lemmas.ServedLemmas.{hung_still, text_still, stays_itself, stream_stays, streams_stay}
use Rattle.gateway_theory.specs.lemmas.ConnectionSteps.{all_step}
use Rattle.gateway_theory.specs.lemmas.Events.{none_adds}
use Rattle.gateway_model.specs.declared.event.Event.TheVariants as events

-- ---- a connection that was not opened

pub unopened_shut : (opened : List ℕ) (c : ℕ) (es : Before) → connections opened es ≤ c → is_open opened c es ≡ false
unopened_shut opened c es le = grind (arith, nat_tests, open_known)

pub unopened_hung : (opened : List ℕ) (c : ℕ) (es : Before) → connections opened es ≤ c → hung_up opened c es ≡ false
unopened_hung opened c [] le = refl
unopened_hung opened c (e ∷ es) le =
    let before : connections opened es ≤ c = let g = connections_grow opened e es in omega (arith, g, le) in
    ap (λ b. b || (is_open opened c es && is_hang_up_of c e)) (unopened_hung opened c es before) ∙ ap (λ b. b && is_hang_up_of c e) (unopened_shut opened c es before)

pub unopened_text : (opened : List ℕ) (c : ℕ) (es : Before) → connections opened es ≤ c → stream opened c es ≡ []
unopened_text opened c [] le = refl
unopened_text opened c (e ∷ es) le =
    let before : connections opened es ≤ c = let g = connections_grow opened e es in omega (arith, g, le) in
    ap (λ b. if b && not (hung_up opened c es) then stream opened c es ++ piece_of c e else stream opened c es) (unopened_shut opened c es before) ∙ unopened_text opened c es before

-- ---- on one that was not opened nothing breaks

none_out : (id : CallId) (i : ℕ) (past : Past) → arrivals id.conn past ≤ id.request → is_out id i past ≡ false
none_out id i past le = grind (arith, nat_tests, out_started, unbegun, unborn)

-- where nothing has come on it
cannot_break : (c : ℕ) (opened : List ℕ) (e : Event) (es : Before) (past : Past) → connections opened es ≤ c → arrivals c past ≡ 0 → can_break c opened e es past ≡ false
cannot_break c opened e es past le is = grind (arith, nat_tests, unopened_shut, eqb-true, none_out)

-- fewer had come before
none_before : (c : ℕ) (m : Mark) (past : Past) → arrivals c (m ∷ past) ≡ 0 → arrivals c past ≡ 0
none_before c m past e = grind arith

known_less : (opened : List ℕ) (later before : Before) → connections opened before ≤ connections opened (later ++ before)
known_less opened [] before = omega arith
known_less opened (e ∷ later) before = let less = known_less opened later before in let g = connections_grow opened e (later ++ before) in omega (arith, less, g)

pub never_broke : (opened : List ℕ) (c : ℕ) (es : Before) (lived : List Placed) → connections opened es ≤ c → arrivals c (marked (occurrences lived)) ≡ 0 → BreakAsTheyMay opened es lived
    → is_broken c (marked (occurrences lived)) ≡ false
never_broke opened c es [] le none may = refl
never_broke opened c es ((place, o) ∷ lived) le none (here, may) =
    ap (λ b. breaks c o || b) (never_broke opened c es lived le before may) ∙ or_false (breaks c o) ∙ by_each o here
  where
    before : arrivals c (marked (occurrences lived)) ≡ 0
    before = none_before c (mark_of (marked (occurrences lived)) o) (marked (occurrences lived)) none

    by_break : (d : ℕ) → CanBreakAt d place opened es (marked (occurrences lived)) → (b : Bool) → (d == c) ≡ b → (d == c) ≡ false
    by_break d fact b is = grind (arith, nat_tests, known_less, connections_grow, eqb-true, cannot_break, before)

    by_each : (x : Occurrence) → MayOccur opened es place x (marked (occurrences lived)) → breaks c x ≡ false
    by_each x fact = grind (arith, nat_tests, by_break)

-- ---- one more opening succeeds

pub succeeds_more : (opened : List ℕ) (place at : ℕ) → succeeds (opened ++ place ∷ []) at ≡ (succeeds opened at || (place == at))
succeeds_more [] place at = or_false (place == at)
succeeds_more (p ∷ opened) place at = grind (arith, succeeds_more opened place at)

pub not_yet : (opened : List ℕ) (n at : ℕ) → ((place : ℕ) → succeeds opened place ≡ true → place < n) → n ≤ at → succeeds opened at ≡ false
not_yet opened n at below le = grind arith

pub grown : (opened : List ℕ) (n : ℕ) → ((place : ℕ) → succeeds opened place ≡ true → place < n) → IsShifted n opened (opened ++ n ∷ [])
grown opened n below = grind (arith, nat_tests, succeeds_more, ne_eqb, or_false, not_yet)

pub occurs_before : (plans : List PlanRecord) (opened shifted : List ℕ) (n : ℕ) (es : Before) (past : List Placed) → length es ≤ n → IsShifted n opened shifted
    → Occurs plans shifted es past → Occurs plans opened es past
occurs_before plans opened shifted n [] past le h o = o
occurs_before plans opened shifted n (e ∷ es) past le h (before, o, (os, at, is)) = (
  before,
  occurs_before plans opened shifted n es before (omega (arith, le)) h o,
  (os, at_same plans opened shifted e es es os (same_before opened shifted n es (omega (arith, le)) h) (h.before (length es) (omega (arith, le))) at, is),
)

-- the openings without the last, which are those with it up to there
pub shrunk : (opened : List ℕ) (n : ℕ) → ((place : ℕ) → succeeds opened place ≡ true → place < n) → IsShifted n (opened ++ n ∷ []) opened
shrunk opened n below = grind (arith, grown, succeeds_more, ne_eqb)

-- an event can break the same connections, where the same ones listen before it
break_same : (c : ℕ) (opened later : List ℕ) (e : Event) (before : Before) (p : Past) → ((n : ℕ) → listens later n before ≡ listens opened n before)
    → can_break c opened e before p ≡ true → can_break c later e before p ≡ true
break_same c opened later e before p each is = grind (arith, nat_tests)

-- what connections could break before can do so with one opening more
pub can_more : (opened : List ℕ) (es : Before) → ((place : ℕ) → succeeds opened place ≡ true → place < length es) → (c place : ℕ) (p : Past)
    → CanBreakAt c place opened es p → CanBreakAt c place (opened ++ length es ∷ []) (Opening ∷ es) p
can_more opened es below c place p b = record {
  later = Opening ∷ b.later;
  event = b.event;
  before = b.before;
  events_are = ap (λ xs. Opening ∷ xs) b.events_are;
  place_is = b.place_is;
  first = b.first;
  can = break_same c opened (opened ++ length es ∷ []) b.event b.before p (λ m. listens_same opened (opened ++ length es ∷ []) b.before b.before m
      (same_before opened (opened ++ length es ∷ []) (length es) b.before (shorter b.later b.event b.before b.events_are) (grown opened (length es) below))) b.can;
}
  where
    shorter : (later : Before) (x : Event) (before : Before) → es ≡ later ++ x ∷ before → length before ≤ length es
    shorter later x before is = grind (arith, nat_tests, length-append)

-- ---- the openings that succeeded, and this one

module _ (opened : List ℕ) (es : Before) (below : (place : ℕ) → succeeds opened place ≡ true → place < length es) (count : ℕ) (count_is : connections opened es ≡ count) where
  abbrev more : List ℕ
  more = opened ++ length es ∷ []

  same : IsSame opened more es es
  same = same_before opened more (length es) es (omega arith) (grown opened (length es) below)

  pub succeeded : succeeds more (length es) ≡ true
  succeeded = succeeds_more opened (length es) (length es) ∙ ap (λ b. succeeds opened (length es) || b) (eq-eqb (length es) (length es) refl) ∙ or_true (succeeds opened (length es))

  was : connections more es ≡ count
  was = same.connections_are ∙ count_is

  total : connections more (events.Opening ∷ es) ≡ count + 1
  total = ap (λ b. if b then suc (connections more es) else connections more es) succeeded ∙ (let e = was in omega (arith, e))

  places : (place : ℕ) (b : Bool) → succeeds opened place ≡ b → succeeds more place ≡ true → place < length (events.Opening ∷ es)
  places place b is also = grind (arith, nat_tests, succeeds_more, eqb-true)

  count_other : (c : ℕ) → (count == c) ≡ false → nat_lt c (count + 1) ≡ nat_lt c count
  count_other c other = grind arith

  open_other : (c : ℕ) → (count == c) ≡ false → is_open more c (events.Opening ∷ es) ≡ is_open opened c es
  open_other c other = grind (arith, nat_tests, and_true, same, ltb-false, total, count_other, was, unopened_shut)

  -- the new connection
  new_each : (c : ℕ) (v : ConnectionValue) (s : StreamValue) → HasRead (reader_value 0 (Partial [])) [] [] → count ≡ c → StreamStands opened es count c v s → StreamStands more (events.Opening ∷ es) (count + 1) c v new_stream
  new_each c v s fresh at h = grind (arith, nat_tests, was, unborn, total, hung_still, same, unopened_hung, text_still, unopened_text, lt-ltb, le-ltb)

  each_opened : (c : ℕ) (v : ConnectionValue) (s : StreamValue) → HasRead (reader_value 0 (Partial [])) [] [] → (b : Bool) → (count == c) ≡ b → StreamStands opened es count c v s
      → StreamStands more (events.Opening ∷ es) (count + 1) c v (if b then new_stream else s)
  each_opened c v s fresh true is h = new_each c v s fresh (eqb-true count c is) h
  each_opened c v s fresh false is h = stream_stays opened more es (events.Opening ∷ es) count (count + 1) c v v s (stays_itself v) h (count_other c is) (open_other c is)
      (hung_still more c events.Opening es refl ∙ same.hung_is c) (text_still more c events.Opening es refl ∙ same.stream_is c)

  pub streams_opened : (conns : ℕ → ConnectionValue) (streams : ℕ → StreamValue) → HasRead (reader_value 0 (Partial [])) [] [] → HasStreams opened es count conns streams
      → HasStreams more (events.Opening ∷ es) (count + 1) conns (λ c. if count == c then new_stream else streams c)
  streams_opened conns streams fresh h = record {
    below = λ place its. places place (succeeds opened place) refl its;
    count_is = total;
    each = λ c. each_opened c (conns c) (streams c) fresh (count == c) refl (h.each c);
  }

-- ---- the event

-- of what is kept of the calls nothing changes
quiet : (n : Now) (conns : ℕ → ConnectionValue) (taken : ℕ → List ReplyEntry) (handed waiting : List JobValue) (os : List Occurrence) → AllStand n conns taken handed waiting os
    → AllStand n conns taken handed waiting (Opening ∷ os)
quiet n conns taken handed waiting os h = grind (arith, nat_tests, append-nil, all_step)

-- a connection more is open
abbrev pub opens : CoreValue → CoreValue
opens v = record v { streams = λ c. if v.opened == c then new_stream else v.streams c; opened = v.opened + 1 }

module _ (h : History) (v : CoreValue) where
  abbrev later : List ℕ
  later = h.opened ++ length h.events ∷ []

  pub opened_adds : HasRead (reader_value 0 (Partial [])) [] [] → Adds later events.Opening h v (opens v)
  opened_adds fresh = adds_by later events.Opening h v (opens v) refl (none_more later events.Opening h v (opens v) refl)
      (λ c. streams_opened h.opened h.events c.below v.opened c.count_is v.conns v.streams fresh c)
      (λ c lived l. (
        occurs_before v.plans later h.opened (length h.events) h.events (by_events lived) (omega arith) (shrunk h.opened (length h.events) c.below) l.occurs,
        breaks_later h.opened later events.Opening h.events (can_more h.opened h.events c.below) lived l.breaks,
      ))
      (λ c lived l os at. subst (λ us. Newer (MayBreak later events.Opening h.events) (StandsNow h (opens v)) us (occurrences lived))
      (sym (at ∙ ap (λ b. once b Opening) (succeeded h.opened h.events c.below v.opened c.count_is)))
      (one_newer (MayBreak later events.Opening h.events) (StandsNow h (opens v)) (occurrences lived) Opening [] refl tt (quiet v.now v.conns h.taken h.handed v.waiting (occurrences lived) l.stands)))

  -- one that does not succeed
  pub unopened_adds : Adds h.opened events.Opening h v v
  unopened_adds = none_adds h v events.Opening
      (λ c. streams_stay h.opened events.Opening h.events v.opened v.conns v.conns v.streams
      (record { opens_none = ap (λ b. if b then suc (connections h.opened h.events) else connections h.opened h.events) (fails c); closes_none = λ d. refl; hangs_none = λ d. refl; brings_none = λ d. refl })
      (λ d. stays_itself (v.conns d)) c)
      (λ c os at. at ∙ ap (λ b. once b Opening) (fails c))
    where
      fails : HasConns v h.opened h.events → succeeds h.opened (length h.events) ≡ false
      fails c = not_yet h.opened (length h.events) (length h.events) c.below (omega arith)

-- ---- how many are open

pub open_count : (opened : List ℕ) (es : Before) (count : ℕ) (conns : ℕ → ConnectionValue) (streams : ℕ → StreamValue) → HasStreams opened es count conns streams
    → open_connections opened es ≡ count_below count (λ c. is_open_value count c (conns c))
open_count opened es count conns streams h = grind arith
