-- What a piece of a connection's stream adds.
use Rattle.std.specs.Prelude.{◌≡◌, ◌+◌, ◌<◌, ◌≤◌, ◌∷◌, ◌++◌, ◌⊎◌, ◌||◌, ◌==◌, if◌then◌else◌, ◌&&◌, take, drop, Result, Ok, Err}
use Rattle.gateway_theory.specs.lemmas.Names.{ℕ, suc, Bool, true, false, List, [], length, refl, sym, ap, ◌∙◌, arith, inr, subst, map, append_assoc, nat_tests, MatchBool, nat_lt, reverse, not, eq-eqb, eqb-true, ne_eqb, length-append, append_cancel_left, reverse-append, append-nil, Done, HasRead, HasReadTo, Partial, ReaderValue, Reading, Stopped, Waiting, is_over, HttpRequest, closes, is_v10, most_requests, Closed, RefusedBy, Requests, StreamEnd, refusals, is_waiting, Adds, CoreValue, HasCome, HasConns, HasStreams, StreamStands, StreamValue, is_heard, refusal_gained, Gains, piece_of, requests_gained, Before, listens, stream, hung_up, PlanRecord, Piece, Coming, Comes, Occurrence, RequestLaws, without_breaks, ReplyEntry, History, JobValue, occurrences, calls_arrived, calls_in, AllStand, Now, all_after, all_started, arriving, breaks_of, entered, next, now_after, now_of, stepped, ConnectionValue, is_open_value}
use Rattle.std.proofs.Common.{append-nil}
use Rattle.http_pieces.specs.declared.refusal.Refusal.{Refusal}
use Rattle.httparse.specs.Grammar.{RequestHead}
use Rattle.httparse.specs.Spans.{name_and_value}
use Rattle.http_pieces.specs.Cut.{Complete, Cut, Incomplete, IsCutText, Refused, cut_after, most_head, skip_pairs, with_head, without_block, without_head}
use Rattle.http_pieces.specs.Fields.{asks_to_close}
use Rattle.http_pieces.specs.Head.{asks_with, body_length, request_kind, request_with, version_of}
use Rattle.gateway_theory.specs.Core.{IsKnown}
use Rattle.gateway_theory.specs.lemmas.Adding.{AreBreaks, breaks_join, without_both, MayBreak, Newer, without_these, BeginsFew, StandsNow, adds_event}
use Rattle.gateway_theory.specs.lemmas.EventLemmas.{gains_unique}
use Rattle.gateway_theory.specs.lemmas.ServedLemmas.{hung_still, open_still, Stays, is_listening, stays_itself, stream_stays}
use Rattle.gateway_theory.specs.Connection.{step}
use Rattle.gateway_theory.specs.lemmas.ConnectionSteps.{all_step}
use Rattle.gateway_theory.specs.lemmas.Broadcast.{all_broken, breaks_stand}
use Rattle.gateway_theory.specs.lemmas.Events.{MayAll, broken_stays, came, none_adds}

-- ---- a stream has at most 100 requests

-- the same, by the length of its body
numbered_after : (k : ℕ) (h : RequestHead) (size : Result ℕ Refusal) (after : List ℕ) (q : HttpRequest) (rest : List ℕ)
    → Complete q rest ≡ cut_after (asks_with size (request_with k h)) after → q.number ≡ k
numbered_after k h (Err r) after q rest e = absurd (cc)
numbered_after k h (Ok n) after q rest e = by_test (nat_lt (length after) n) refl
  where
    by_test : (t : Bool) → nat_lt (length after) n ≡ t → q.number ≡ k
    by_test true short = absurd (let same : Complete q rest ≡ Incomplete = rw short at e in cc)
    by_test false enough =
        let same : Complete q rest ≡ Complete (request_with k h (take n after)) (drop n after) = rw enough at e in
        let q_is : q ≡ request_with k h (take n after) = cc in
        ap (λ (x : HttpRequest). x.number) q_is

-- request k of a text has that number
numbered : (k : ℕ) (text : List ℕ) (whole : Cut Refusal HttpRequest) (q : HttpRequest) (rest : List ℕ) → whole ≡ Complete q rest → IsCutText (request_kind k) text whole → q.number ≡ k
numbered k text whole q rest is (without_block none e) = absurd (by_test (nat_lt (length text) most_head) refl)
  where
    by_test : (t : Bool) → nat_lt (length text) most_head ≡ t → ⊥
    by_test true short = let same : Complete q rest ≡ Incomplete = sym is ∙ rw short at e in cc
    by_test false long = let same : Complete q rest ≡ Refused (request_kind k).too_large = sym is ∙ rw long at e in cc
numbered k text whole q rest is (without_head n b other e) = absurd (cc)
numbered k text whole q rest is (with_head n a b head e) =
    numbered_after k head.head (body_length (version_of head.head.minor) (map name_and_value head.head.fields)) (drop n text) q rest
    (sym is ∙ e ∙ ap (λ asked. cut_after asked (drop n text)) head.asks_is)

third_off : (a b c : Bool) → (a || b || c) ≡ false → c ≡ false
third_off a b c is = grind (arith, nat_tests)

-- a text whose first request is number k has so many, and fewer where they do not end by the last
few_requests : (k : ℕ) (text : List ℕ) (given : List HttpRequest) (ending : StreamEnd) → k < most_requests → Requests k text given ending
    → (length given + k ≤ most_requests) × ((ending ≡ Closed) ⊎ (length given + k < most_requests))
few_requests k text [] ending room r = (omega (arith, room), inr (omega (arith, room)))
few_requests k text (q ∷ given) ending room (rest, cut, by_close) = by_it (numbered k (skip_pairs text) (Complete q rest) q rest refl cut) (closes q) refl (λ is. third_off (is_v10 q.version) (asks_to_close q.fields) (q.number + 1 == most_requests) is) (λ low more. few_requests (suc k) rest given ending low more) by_close
  where
    by_it : q.number ≡ k → (b : Bool) → closes q ≡ b → (closes q ≡ false → (q.number + 1 == most_requests) ≡ false) → (suc k < most_requests → Requests (suc k) rest given ending → (length given + suc k ≤ most_requests) × ((ending ≡ Closed) ⊎ (length given + suc k < most_requests)))
        → MatchBool b ((given ≡ []) × (ending ≡ Closed)) (Requests (suc k) rest given ending)
        → (suc (length given) + k ≤ most_requests) × ((ending ≡ Closed) ⊎ (suc (length given) + k < most_requests))
    by_it number_is b is each every fact = search (arith, nat_tests, eq-eqb)

-- so many were given, and a refusal counts
pub few_given : (reader : ReaderValue) (text : List ℕ) (given : List HttpRequest) → HasRead reader text given → length given + refusals reader.reading ≤ most_requests
few_given reader text given h = grind (arith, nat_tests, few_requests, length-append)

pub no_refusal : (r : Reading) → is_over r ≡ false → refusals r ≡ 0
no_refusal r is = grind (arith, nat_tests)

-- ---- what a piece brings

-- the reader is in the middle of a request
pub midway : (r : Reading) → is_over r ≡ false → is_waiting r ≡ false → (left : List ℕ) × (r ≡ Partial left)
midway r is also = grind (arith, nat_tests)

-- ---- no bytes

pub no_bytes : (c n : ℕ) → piece_of c (Piece n []) ≡ []
no_bytes c n = grind arith

none_refused : (e : StreamEnd) → refusal_gained e e ≡ []
none_refused e = grind (arith, nat_tests)

pub nothing_gained : RequestLaws → (plans : List PlanRecord) (text : List ℕ) (gained : List Coming) → Gains plans text (text ++ []) gained → gained ≡ []
nothing_gained laws plans text gained g =
    let same = laws.unique 0 text g.given (g.given ++ g.more) g.ending g.later g.text_is (subst (λ t. Requests 0 t (g.given ++ g.more) g.later) (append-nil text) g.longer_is) in
    let none : g.more ≡ [] = append_cancel_left g.given g.more [] (sym same.0 ∙ sym (append-nil g.given)) in
    g.gained_is ∙ ap (λ more. requests_gained plans more ++ refusal_gained g.ending g.later) none ∙ ap (λ e. refusal_gained g.ending e) (sym same.1) ∙ none_refused g.ending

-- what was read has a list of requests
pub read_requests : (reader : ReaderValue) (text : List ℕ) (given : List HttpRequest) → HasRead reader text given → IsKnown text
read_requests reader text given h = grind arith

-- what comes is no break
pub without_comings : (c : ℕ) (xs : List Coming) → without_breaks (reverse (map (Comes c) xs)) ≡ reverse (map (Comes c) xs)
without_comings c [] = refl
without_comings c (x ∷ xs) =
    ap (λ us. without_breaks us) (reverse-append (Comes c x ∷ []) (map (Comes c) xs))
    ∙ without_both (reverse (map (Comes c) xs)) (Comes c x ∷ [])
    ∙ ap (λ us. us ++ Comes c x ∷ []) (without_comings c xs) ∙ sym (reverse-append (Comes c x ∷ []) (map (Comes c) xs))

pub no_comings : (P : ℕ → List Occurrence → Type 0) (c : ℕ) (xs : List Coming) (os : List Occurrence) → AreBreaks P (reverse (map (Comes c) xs)) os
no_comings P c [] os = tt
no_comings P c (x ∷ xs) os = subst (λ us. AreBreaks P us os) (sym (reverse-append (Comes c x ∷ []) (map (Comes c) xs)))
    (breaks_join P (reverse (map (Comes c) xs)) (Comes c x ∷ []) os (no_comings P c xs (Comes c x ∷ os)) (tt, tt))

pub text_other : (opened : List ℕ) (c n : ℕ) (bytes : List ℕ) (es : Before) → (n == c) ≡ false → stream opened c (Piece n bytes ∷ es) ≡ stream opened c es
text_other opened c n bytes es ne = grind (arith, nat_tests, append-nil)

pub text_off : (opened : List ℕ) (c n : ℕ) (bytes : List ℕ) (es : Before) → listens opened n es ≡ false → stream opened c (Piece n bytes ∷ es) ≡ stream opened c es
text_off opened c n bytes es off = grind (arith, nat_tests, text_other, eqb-true)

pub text_on : (opened : List ℕ) (c n : ℕ) (bytes : List ℕ) (es : Before) → listens opened n es ≡ true → stream opened c (Piece n bytes ∷ es) ≡ (if c == n then stream opened c es ++ bytes else stream opened c es)
text_on opened c n bytes es on = grind (arith, nat_tests, eq-eqb, eqb-true, ne_eqb, text_other)

pub over_more : RequestLaws → (reader : ReaderValue) (text more : List ℕ) (given : List HttpRequest) → is_over reader.reading ≡ true → HasRead reader text given → HasRead reader (text ++ more) given
over_more laws reader text more given over h = grind (arith, nat_tests, length-append)

-- a stream that is over gains nothing
pub over_gains : RequestLaws → (plans : List PlanRecord) (reader : ReaderValue) (text more : List ℕ) (given : List HttpRequest) → is_over reader.reading ≡ true → HasRead reader text given → Gains plans text (text ++ more) []
over_gains laws plans reader text more given over h = by_reading reader.reading over h.reads
  where
    by_reading : (r : Reading) → is_over r ≡ true → HasReadTo r text given → Gains plans text (text ++ more) []
    by_reading (Partial left) e x = absurd (cc)
    by_reading (Waiting q) e x = absurd (cc)
    by_reading (Stopped r) e x = record {
      given = given;
      more = [];
      ending = RefusedBy r;
      later = RefusedBy r;
      text_is = x;
      longer_is = subst (λ gs. Requests 0 (text ++ more) gs (RefusedBy r)) (sym (append-nil given)) (laws.refused_stays 0 text more given r x);
      gained_is = refl;
    }
    by_reading Done e x = record {
      given = given;
      more = [];
      ending = Closed;
      later = Closed;
      text_is = x;
      longer_is = subst (λ gs. Requests 0 (text ++ more) gs Closed) (sym (append-nil given)) (laws.closed_stays 0 text more given x);
      gained_is = refl;
    }

-- ---- what the definitions bring

module _ (n : ℕ) (bytes : List ℕ) (h : History) (v w : CoreValue) (plans_are : w.plans ≡ v.plans)
    (conns : HasConns v h.opened h.events → HasConns w h.opened (Piece n bytes ∷ h.events)) where
  abbrev text : List ℕ
  text = stream h.opened n h.events

  -- by what the stream gains, with these breaks before it
  pub adds_gained : (cs : List ℕ) → ((gained : List Coming) → HasConns v h.opened h.events → Gains v.plans (stream h.opened n h.events) (stream h.opened n h.events ++ bytes) gained
      → w.begun ≤ v.begun + calls_arrived (map (Comes n) gained)) → (HasConns v h.opened h.events → listens h.opened n h.events ≡ true)
      → ((gained : List Coming) (os : List Occurrence) → HasConns v h.opened h.events → Gains v.plans (stream h.opened n h.events) (stream h.opened n h.events ++ bytes) gained → StandsNow h v os
      → AreBreaks (MayBreak h.opened (Piece n bytes) h.events) (breaks_of cs) os × StandsNow h w (reverse (map (Comes n) gained) ++ (breaks_of cs ++ os)))
      → Adds h.opened (Piece n bytes) h v w
  adds_gained cs few on step = adds_event (Piece n bytes) h v w plans_are begins conns (λ c lived l os at. by_gains c (occurrences lived) l.stands os (subst (λ b. MatchBool b
      ((gained : List Coming) × Gains v.plans (stream h.opened n h.events) (stream h.opened n h.events ++ bytes) gained × (os ≡ map (Comes n) gained)) (os ≡ [])) (on c) at))
    where
      begins : BeginsFew h.opened (Piece n bytes) h v w
      begins c os at =
          let (gained, gains, os_are) = subst (λ b. MatchBool b
          ((gained : List Coming) × Gains v.plans (stream h.opened n h.events) (stream h.opened n h.events ++ bytes) gained × (os ≡ map (Comes n) gained)) (os ≡ [])) (on c) at in
          subst (λ us. w.begun ≤ v.begun + calls_arrived us) (sym os_are) (few gained c gains)

      by_gains : HasConns v h.opened h.events → (us : List Occurrence) → StandsNow h v us → (os : List Occurrence)
          → ((gained : List Coming) × Gains v.plans (stream h.opened n h.events) (stream h.opened n h.events ++ bytes) gained × (os ≡ map (Comes n) gained))
          → Newer (MayBreak h.opened (Piece n bytes) h.events) (StandsNow h w) os us
      by_gains c us stands os (gained, gains, os_are) = let x = step gained us c gains stands in record {
        newer = reverse (map (Comes n) gained) ++ breaks_of cs;
        same = grind (arith, nat_tests, without_both, without_these, append-nil, without_comings);
        may = grind (arith, nat_tests, breaks_join, MayBreak, no_comings);
        stands = subst (StandsNow h w) (sym (append_assoc (reverse (map (Comes n) gained)) (breaks_of cs) us)) x.1;
      }

-- ---- the stream that was fed

-- so many requests came more, unless it broke
pub record Fed (more : ℕ) (v w : ConnectionValue) : Type 0 where
  pub closed_is : w.closed ≡ v.closed
  pub broken_was : w.broken ≡ false → v.broken ≡ false
  pub next_is : w.broken ≡ false → next w ≡ next v + more

-- the reader read the bytes behind that text, and this came
pub record Reads (plans : List PlanRecord) (old : ReaderValue) (bytes : List ℕ) (new : ReaderValue) (gained : List Coming) (text : List ℕ) (given : List HttpRequest) : Type 0 where
  pub gains : Gains plans text (text ++ bytes) gained
  pub now_given : List HttpRequest
  pub reads : HasRead new (text ++ bytes) now_given
  pub settled : is_waiting new.reading ≡ false
  pub count : length now_given + refusals new.reading ≡ length given + refusals old.reading + length gained

-- whatever the text was
abbrev pub ReadsTo : List PlanRecord → ReaderValue → List ℕ → ReaderValue → List Coming → Type 0
ReadsTo plans old bytes new gained = (text : List ℕ) (given : List HttpRequest) → HasRead old text given → Reads plans old bytes new gained text given

-- of one that is over nothing comes
pub over_reads : RequestLaws → (plans : List PlanRecord) (reader : ReaderValue) (bytes : List ℕ) → is_over reader.reading ≡ true → ReadsTo plans reader bytes reader []
over_reads laws plans reader bytes over text given read = record {
  gains = over_gains laws plans reader text bytes given over read;
  now_given = given;
  reads = over_more laws reader text bytes given over read;
  settled = not_waiting reader.reading over;
  count = omega arith;
}
  where
    not_waiting : (r : Reading) → is_over r ≡ true → is_waiting r ≡ false
    not_waiting r is = grind (arith, nat_tests)

abbrev pub read_if : Bool → ReaderValue → StreamValue → StreamValue
read_if b new s = if b then record s { reader = new } else s

module _ (opened : List ℕ) (n : ℕ) (bytes : List ℕ) (es : Before) (count c : ℕ) (plans : List PlanRecord) (v w : ConnectionValue) (s : StreamValue) (new : ReaderValue) (gained : List Coming)
    (there : is_open_value count c v ≡ true) (on : is_heard v s ≡ true) (reads : ReadsTo plans s.reader bytes new gained) (f : Fed (length gained) v w)
    (h : StreamStands opened es count c v s) (here : (n == c) ≡ true) where
  value_same : is_open_value count c w ≡ is_open_value count c v
  value_same = ap (λ b. nat_lt c count && not b) f.closed_is

  text_is : stream opened c (Piece n bytes ∷ es) ≡ stream opened c es ++ bytes
  text_is = grind arith

  come_more : w.broken ≡ false → HasCome v s.reader (stream opened c es) → HasCome w new (stream opened c es ++ bytes)
  come_more whole come = grind arith

  whole_part : (a b : Bool) → (not a && b) ≡ true → a ≡ false
  whole_part false b e = refl
  whole_part true b e = absurd (cc)

  pub fed_here : StreamStands opened (Piece n bytes ∷ es) count c w (record s { reader = new })
  fed_here = record {
    unopened = λ unborn. absurd (let clash : true ≡ false = sym there ∙ ap (λ b. b && not v.closed) unborn in cc);
    open_is = open_still opened c (Piece n bytes) es refl refl ∙ h.open_is ∙ sym value_same;
    hung_is = λ now_there whole. h.hung_is there (f.broken_was whole) ∙ sym (hung_still opened c (Piece n bytes) es refl);
    has_come = λ now_there heard. subst (λ text. HasCome w new text) (sym text_is) (come_more (whole_part w.broken (not s.hung_up) heard) (h.has_come there on));
  }

module _ (opened : List ℕ) (n : ℕ) (bytes : List ℕ) (es : Before) (count : ℕ) (plans : List PlanRecord) (conns later : ℕ → ConnectionValue) (streams : ℕ → StreamValue) (new : ReaderValue) (gained : List Coming)
    (there : is_open_value count n (conns n) ≡ true) (on : is_heard (conns n) (streams n) ≡ true) (reads : ReadsTo plans (streams n).reader bytes new gained)
    (this : Fed (length gained) (conns n) (later n)) (others : (c : ℕ) → (n == c) ≡ false → Stays (conns c) (later c)) where
  each_fed : (c : ℕ) (b : Bool) → (n == c) ≡ b → StreamStands opened es count c (conns c) (streams c) → StreamStands opened (Piece n bytes ∷ es) count c (later c) (read_if b new (streams c))
  each_fed c false is h = stream_stays opened opened es (Piece n bytes ∷ es) count count c (conns c) (later c) (streams c) (others c is) h refl
      (open_still opened c (Piece n bytes) es refl refl) (hung_still opened c (Piece n bytes) es refl) (text_other opened c n bytes es is)
  each_fed c true is h =
      let at : n ≡ c = eqb-true n c is in
      fed_here opened n bytes es count c plans (conns c) (later c) (streams c) new gained
      (ap (λ m. is_open_value count m (conns m)) (sym at) ∙ there) (ap (λ m. is_heard (conns m) (streams m)) (sym at) ∙ on)
      (subst (λ m. ReadsTo plans (streams m).reader bytes new gained) at reads) (subst (λ m. Fed (length gained) (conns m) (later m)) at this) h is

  pub streams_fed : HasStreams opened es count conns streams → HasStreams opened (Piece n bytes ∷ es) count later (λ c. read_if (n == c) new (streams c))
  streams_fed h = grind (arith, each_fed)

-- ---- nothing comes, or one request or refusal

enters_fed : (n : Now) (c : ℕ) (x : Coming) (v : ConnectionValue) → Fed 1 v (step n (Comes c x) v).conn
enters_fed n c x v = grind (arith, nat_tests, length-append)

fed_behind : (more : ℕ) (u v w : ConnectionValue) → Stays u v → Fed more v w → Fed more u w
fed_behind more u v w g f = grind arith

-- the bytes were read so far
abbrev pub read_to : ℕ → ReaderValue → CoreValue → CoreValue
read_to n new v = record v { streams = λ c. read_if (n == c) new (v.streams c) }

module _ (laws : RequestLaws) (n : ℕ) (bytes : List ℕ) (h : History) (v : CoreValue) (new : ReaderValue)
    (there : is_open_value v.opened n (v.conns n) ≡ true) (on : is_heard (v.conns n) (v.streams n) ≡ true) where
  hears : HasConns v h.opened h.events → listens h.opened n h.events ≡ true
  hears c = is_listening h.opened h.events v.opened n (v.conns n) (v.streams n) (c.each n) there on

  gained_is : (real : List Coming) → ReadsTo v.plans (v.streams n).reader bytes new real → HasConns v h.opened h.events → (gained : List Coming)
      → Gains v.plans (stream h.opened n h.events) (stream h.opened n h.events ++ bytes) gained → real ≡ gained
  gained_is real reads c gained gains =
      let come = (c.each n).has_come there on in
      gains_unique laws v.plans (stream h.opened n h.events) (stream h.opened n h.events ++ bytes) real gained (reads (stream h.opened n h.events) come.given come.reads).gains gains

  -- nothing comes
  pub read_adds : ReadsTo v.plans (v.streams n).reader bytes new [] → Adds h.opened (Piece n bytes) h v (read_to n new v)
  read_adds reads = adds_gained n bytes h v (read_to n new v) refl
      (λ c. streams_fed h.opened n bytes h.events v.opened v.plans v.conns v.conns v.streams new [] there on reads
      (record { closed_is = refl; broken_was = λ e. e; next_is = λ e. omega arith }) (λ d ne. stays_itself (v.conns d)) c) [] (λ gained c gains. omega arith) hears
      (λ gained os c gains all. (tt, subst (λ xs. StandsNow h v (reverse (map (Comes n) xs) ++ os)) (gained_is [] reads c gained gains) all))

  -- this comes; the connection may break
  pub came_adds : (x : Coming) (cs : List ℕ) (begun : ℕ) → begun ≤ v.begun + calls_in x → ReadsTo v.plans (v.streams n).reader bytes new (x ∷ []) → MayAll (Piece n bytes) h v cs
      → Adds h.opened (Piece n bytes) h v (record (came (Comes n x) cs (λ c. read_if (n == c) new (v.streams c)) v) { begun = begun })
  came_adds x cs begun few reads may = adds_gained n bytes h v (record (came (Comes n x) cs (λ c. read_if (n == c) new (v.streams c)) v) { begun = begun }) refl
      (λ c. streams_fed h.opened n bytes h.events v.opened v.plans v.conns (all_after v.now (Comes n x) (all_broken v.now cs v.conns)) v.streams new (x ∷ []) there on reads this others c) cs
      (λ gained c gains. subst (λ xs. begun ≤ v.begun + calls_arrived (map (Comes n) xs)) (gained_is (x ∷ []) reads c gained gains) (omega (arith, few))) hears
      (λ gained os c gains all. (
        may c os all,
        subst (λ xs. StandsNow h (came (Comes n x) cs (λ c. read_if (n == c) new (v.streams c)) v) (reverse (map (Comes n) xs) ++ (breaks_of cs ++ os))) (gained_is (x ∷ []) reads c gained gains)
            (let after = breaks_stand v.now h.taken h.handed v.waiting os v.conns all cs in
            all_step v.now (all_broken v.now cs v.conns) h.taken h.handed v.waiting (breaks_of cs ++ os) (Comes n x) after (λ d is whole. open_still_then d (is ∙ after.numbers d))),
      ))
    where
      this : Fed 1 (v.conns n) (all_after v.now (Comes n x) (all_broken v.now cs v.conns) n)
      this = subst (λ b. Fed 1 (v.conns n) (if b then (step v.now (Comes n x) (all_broken v.now cs v.conns n)).conn else all_broken v.now cs v.conns n)) (sym (eq-eqb n n refl))
          (fed_behind 1 (v.conns n) (all_broken v.now cs v.conns n) _ (broken_stays v.now v.conns cs n) (enters_fed v.now n x (all_broken v.now cs v.conns n)))

      others : (c : ℕ) → (n == c) ≡ false → Stays (v.conns c) (all_after v.now (Comes n x) (all_broken v.now cs v.conns) c)
      others c ne = subst (λ b. Stays (v.conns c) (if b then (step v.now (Comes n x) (all_broken v.now cs v.conns c)).conn else all_broken v.now cs v.conns c)) (sym ne) (broken_stays v.now v.conns cs c)

      not_closed : (a b : Bool) → (a && not b) ≡ true → b ≡ false
      not_closed a b is = grind (arith, nat_tests)

      open_still_then : (d : ℕ) → n ≡ d → (all_broken v.now cs v.conns d).closed ≡ false
      open_still_then d at = (broken_stays v.now v.conns cs d).closed_is ∙ ap (λ m. (v.conns m).closed) (sym at) ∙ not_closed (nat_lt n v.opened) (v.conns n).closed there

-- ---- what comes on a connection that is broken does nothing

module _ (n : Now) (conns : ℕ → ConnectionValue) (taken : ℕ → List ReplyEntry) (handed waiting : List JobValue) (c : ℕ) (broke : (conns c).broken ≡ true) where
  one_quiet : (os : List Occurrence) (x : Coming) → AllStand n conns taken handed waiting os → AllStand n conns taken handed waiting (Comes c x ∷ os)
  one_quiet os x h =
      subst (λ m. AllStand m conns taken handed waiting (Comes c x ∷ os)) (ap (λ m. now_of m n.drained) (omega arith))
      (subst (λ js. AllStand (now_after (Comes c x) n) conns taken handed js (Comes c x ∷ os)) (ap (λ js. waiting ++ js) none ∙ append-nil waiting)
      (subst (λ (k : ℕ → ConnectionValue). AllStand (now_after (Comes c x) n) k taken handed (waiting ++ all_started n (Comes c x) conns) (Comes c x ∷ os)) (λ i d. same d (c == d) refl i)
      (all_step n conns taken handed waiting os (Comes c x) h (λ d is whole. absurd (let clash : true ≡ false = sym broke ∙ ap (λ m. (conns m).broken) (is ∙ h.numbers d) ∙ whole in cc)))))
    where
      none : all_started n (Comes c x) conns ≡ []
      none = ap (λ b. (if b then stepped (conns c) [] else stepped (entered (arriving n x (conns c)) (conns c)) (arriving n x (conns c)).jobs).jobs) broke

      same : (d : ℕ) (b : Bool) → (c == d) ≡ b → (if b then (step n (Comes c x) (conns d)).conn else conns d) ≡ conns d
      same d b is = grind (arith, nat_tests)

  all_quiet : (xs : List Coming) (os : List Occurrence) → AllStand n conns taken handed waiting os → AllStand n conns taken handed waiting (reverse (map (Comes c) xs) ++ os)
  all_quiet [] os h = h
  all_quiet (x ∷ xs) os h =
      subst (λ us. AllStand n conns taken handed waiting us)
      (sym (append_assoc (reverse (map (Comes c) xs)) (Comes c x ∷ []) os) ∙ ap (λ us. us ++ os) (sym (reverse-append (Comes c x ∷ []) (map (Comes c) xs))))
      (all_quiet xs (Comes c x ∷ os) (one_quiet os x h))

-- those break
abbrev pub breaking : List ℕ → CoreValue → CoreValue
breaking cs v = record v { conns = all_broken v.now cs v.conns }

module _ (n : ℕ) (bytes : List ℕ) (h : History) (v : CoreValue) where
  each_quiet : (cs : List ℕ) (c : ℕ) (b : Bool) → (n == c) ≡ b → (all_broken v.now cs v.conns n).broken ≡ true → StreamStands h.opened h.events v.opened c (v.conns c) (v.streams c)
      → StreamStands h.opened (Piece n bytes ∷ h.events) v.opened c (all_broken v.now cs v.conns c) (v.streams c)
  each_quiet cs c false is broke s = stream_stays h.opened h.opened h.events (Piece n bytes ∷ h.events) v.opened v.opened c (v.conns c) (all_broken v.now cs v.conns c) (v.streams c) (broken_stays v.now v.conns cs c) s refl
      (open_still h.opened c (Piece n bytes) h.events refl refl) (hung_still h.opened c (Piece n bytes) h.events refl) (text_other h.opened c n bytes h.events is)
  each_quiet cs c true is broke s =
      let g : Stays (v.conns c) (all_broken v.now cs v.conns c) = broken_stays v.now v.conns cs c in
      let here : (all_broken v.now cs v.conns c).broken ≡ true = ap (λ m. (all_broken v.now cs v.conns m).broken) (sym (eqb-true n c is)) ∙ broke in record {
        unopened = λ unborn. let u = s.unopened unborn in (g.next_is ∙ u.0, g.closed_is ∙ u.1);
        open_is = open_still h.opened c (Piece n bytes) h.events refl refl ∙ s.open_is ∙ ap (λ b. nat_lt c v.opened && not b) (sym g.closed_is);
        hung_is = λ there whole. absurd (let clash : true ≡ false = sym here ∙ whole in cc);
        has_come = λ there heard. absurd (let clash : false ≡ true = ap (λ b. not b && not (v.streams c).hung_up) (sym here) ∙ heard in cc);
      }

  -- none of it is taken, or it breaks at it
  pub quiet_adds : (cs : List ℕ) → (HasConns v h.opened h.events → listens h.opened n h.events ≡ true) → (HasConns v h.opened h.events → (all_broken v.now cs v.conns n).broken ≡ true)
      → MayAll (Piece n bytes) h v cs → Adds h.opened (Piece n bytes) h v (breaking cs v)
  quiet_adds cs on broke may = adds_gained n bytes h v (breaking cs v) refl
      (λ c. record {
        below = λ place its. let lt = c.below place its in omega (arith, lt);
        count_is = c.count_is;
        each = λ d. each_quiet cs d (n == d) refl (broke c) (c.each d);
      }) cs (λ gained c gains. omega arith) on
      (λ gained os c gains all. (
        may c os all,
        all_quiet v.now (all_broken v.now cs v.conns) h.taken h.handed v.waiting n (broke c) gained (breaks_of cs ++ os) (breaks_stand v.now h.taken h.handed v.waiting os v.conns all cs),
      ))

  -- by the definitions none of it is taken
  off_adds : listens h.opened n h.events ≡ false → Adds h.opened (Piece n bytes) h v v
  off_adds off = none_adds h v (Piece n bytes)
      (λ c. record {
        below = λ place its. let lt = c.below place its in omega (arith, lt);
        count_is = c.count_is;
        each = λ d. stream_stays h.opened h.opened h.events (Piece n bytes ∷ h.events) v.opened v.opened d (v.conns d) (v.conns d) (v.streams d) (stays_itself (v.conns d)) (c.each d) refl
            (open_still h.opened d (Piece n bytes) h.events refl refl) (hung_still h.opened d (Piece n bytes) h.events refl) (text_off h.opened d n bytes h.events off);
      })
      (λ c os at. subst (λ b. MatchBool b ((gained : List Coming) × Gains v.plans (stream h.opened n h.events) (stream h.opened n h.events ++ bytes) gained × (os ≡ map (Comes n) gained)) (os ≡ [])) off at)

  -- the connection is not open, or no piece of it is taken any more
  pub not_fed_adds : (is_open_value v.opened n (v.conns n) && is_heard (v.conns n) (v.streams n)) ≡ false → Adds h.opened (Piece n bytes) h v v
  not_fed_adds deaf = by (listens h.opened n h.events) refl
    where
      both : (a b : Bool) → (a && not b) ≡ true → (a ≡ true) × (b ≡ false)
      both a b is = grind (arith, nat_tests)

      broke : HasConns v h.opened h.events → listens h.opened n h.events ≡ true → (b : Bool) → (v.conns n).broken ≡ b → (v.conns n).broken ≡ true
      broke fact is b also = grind (arith, nat_tests)

      by : (b : Bool) → listens h.opened n h.events ≡ b → Adds h.opened (Piece n bytes) h v v
      by false off = off_adds off
      by true on = quiet_adds [] (λ c. on) (λ c. broke c on (v.conns n).broken refl) (λ c os all. tt)
