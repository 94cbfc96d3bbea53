-- What bytes of a stream add, and at most one request of them.
use Rattle.std.specs.Prelude.{◌≡◌, ◌+◌, ◌≤◌, ◌∷◌, ◌++◌, ◌==◌, ◌&&◌, if◌then◌else◌}
use Rattle.gateway_theory.specs.lemmas.Names.{ℕ, Bool, true, false, List, [], length, Option, None, Some, Ok, Err, refl, sym, ap, ◌∙◌, subst, arith, append_assoc, map, nat_tests, MatchResult, option_to_list, take, IfOk, MatchBool, eq-eqb, append-nil, Done, HasRead, HasReadTo, Partial, ReaderValue, Reading, Stopped, Waiting, is_over, HttpRequest, Closed, Open, RefusedBy, Requests, StreamEnd, PlanRecord, Gains, listens, stream, History, after_event, JobValue, Break, Coming, Comes, Occurrence, Piece, calls_in, RequestLaws, StepFault, arriving, entered, is_shut_value, now_of, stepped, went, ConnectionValue, is_open_value, GatewayValue, conn_of, connection, HeldConnection, connection_of, Adds, CoreValue, FedUpTo, HasConns, is_heard, is_waiting, HasCome, core_of, stream_of, Holds, ReadsOn, TakesBytes, arriving_in, begun_by, broke, broken_held, coming_of, dropped, entered_held, hears, not_fed, read, read_held, stream_in, unread, IsServing, Feeds, Moves, absent, there, TakesOne, and_parts}
use Rattle.std.proofs.Common.{Result}
use Rattle.gateway_theory.specs.lemmas.ServedPieces.{midway, no_refusal, text_on, read_requests, Reads, ReadsTo, breaking, came_adds, not_fed_adds, over_reads, quiet_adds, read_adds, read_if, read_to, no_bytes, nothing_gained}
use Rattle.gateway_theory.specs.lemmas.ServedLemmas.{hung_still, open_still, is_listening, text_still, stays_itself, stream_stays}
use Rattle.gateway_theory.specs.Connection.{Stepped, step}
use Rattle.gateway_theory.specs.Core.{IsKnown}
use Rattle.gateway_theory.specs.Held.{came}
use Rattle.gateway_theory.specs.lemmas.Broadcast.{all_broken}
use Rattle.gateway_theory.specs.lemmas.Conns.{there_value}
use Rattle.gateway_theory.specs.lemmas.Events.{piece_may, none_adds}
use Rattle.gateway_theory.specs.lemmas.Moving.{fades_adds, same, Became, became_fades}
use Rattle.gateway_theory.specs.lemmas.BroadcastAdds.{deaf_absent, heard_there}
use Rattle.gateway_theory.specs.lemmas.HeldSteps.{given_then, hears_parts, one_if}
use Rattle.gateway_theory.specs.lemmas.HeldValues.{broken_value, entered_value}
use Rattle.gateway_theory.specs.lemmas.ServedJoins.{adds_joined, fed_more}
use Rattle.gateway_theory.specs.lemmas.EventLemmas.{gains_unique}
use Rattle.gateway_theory.specs.lemmas.Events as event_lemmas

-- so many bytes were taken
abbrev answer : ℕ → Result ℕ StepFault
answer n = Ok n

counted : (a b : ℕ) → answer a ≡ answer b → a ≡ b
counted a b e = cc

-- ---- what a reader brings

one_long : (o : Option Coming) → length (option_to_list o) ≡ one_if o
one_long None = refl
one_long (Some x) = refl

module _ (plans : List PlanRecord) (n : ℕ) (bytes text : List ℕ) (given : List HttpRequest) (left : List ℕ) (was : Requests 0 text given (Open left)) where
  gains_of : (request : Option HttpRequest) (old new : ReaderValue) → ReadsOn n request bytes old new → HasRead old text given
      → Gains plans text (text ++ take n bytes) (option_to_list (coming_of plans request new.reading))
  gains_of (Some q) old new r h = grind arith
  gains_of None old new r h = by new.reading refl
    where
      now_read : HasRead new (text ++ take n bytes) given
      now_read = subst (λ x. HasRead x (text ++ take n bytes) given) (sym r.gives.0) (r.reads.reads text given h)

      by : (y : Reading) → new.reading ≡ y → Gains plans text (text ++ take n bytes) (option_to_list (coming_of plans None new.reading))
      by (Partial l) is = subst (λ x. Gains plans text (text ++ take n bytes) (option_to_list (coming_of plans None x))) (sym is) (record {
        given = given;
        more = [];
        ending = Open left;
        later = Open l;
        text_is = was;
        longer_is = subst (λ g. Requests 0 (text ++ take n bytes) g (Open l)) (sym (append-nil given)) (subst (λ x. HasReadTo x (text ++ take n bytes) given) is now_read.reads);
        gained_is = refl;
      })
      by Done is = subst (λ x. Gains plans text (text ++ take n bytes) (option_to_list (coming_of plans None x))) (sym is) (record {
        given = given;
        more = [];
        ending = Open left;
        later = Closed;
        text_is = was;
        longer_is = subst (λ g. Requests 0 (text ++ take n bytes) g Closed) (sym (append-nil given)) (subst (λ x. HasReadTo x (text ++ take n bytes) given) is now_read.reads);
        gained_is = refl;
      })
      by (Stopped x) is = subst (λ y. Gains plans text (text ++ take n bytes) (option_to_list (coming_of plans None y))) (sym is) (record {
        given = given;
        more = [];
        ending = Open left;
        later = RefusedBy x;
        text_is = was;
        longer_is = subst (λ g. Requests 0 (text ++ take n bytes) g (RefusedBy x)) (sym (append-nil given)) (subst (λ y. HasReadTo y (text ++ take n bytes) given) is now_read.reads);
        gained_is = refl;
      })
      by (Waiting q) is = absurd (let clash : true ≡ false = sym (ap is_waiting is) ∙ ap (λ (x : ReaderValue). is_waiting x.reading) r.gives.0 ∙ r.gives.1 in cc)

-- bytes of a stream that goes on
pub reads_to : (plans : List PlanRecord) (n : ℕ) (bytes : List ℕ) (request : Option HttpRequest) (old new : ReaderValue) → ReadsOn n request bytes old new → is_over old.reading ≡ false → is_waiting old.reading ≡ false
    → ReadsTo plans old (take n bytes) new (option_to_list (coming_of plans request new.reading))
reads_to plans n bytes request old new r going settled = λ text given h.
    let left = midway old.reading going settled in
    let g = given_then plans n bytes text given request old new r h in
    record {
      gains = gains_of plans n bytes text given left.0 (subst (λ x. HasReadTo x text given) left.1 h.reads) request old new r h;
      now_given = g.now_given;
      reads = g.reads;
      settled = g.settled;
      count = let size = g.as_many in let none = no_refusal old.reading going in let one = one_long (coming_of plans request new.reading) in omega (arith, size, none, one);
    }

-- no more calls begin than come
begun_few : (moment : ℕ) (drained : Bool) (x : Coming) (k : HeldConnection) → begun_by (arriving_in moment drained x k) ≤ calls_in x
begun_few moment drained x k = grind (arith, nat_tests)

-- ---- bytes that the connection of that number takes

module _ (laws : RequestLaws) (number : ℕ) (bytes : List ℕ) (v w : GatewayValue) (s : IsServing v) (k l : HeldConnection) (k_is : conn_of number v ≡ Some k) (m : Moves number (Some l) v w)
    (jobs : List JobValue) (w_is : w ≡ record v { conns = w.conns; jobs = v.jobs ++ jobs; begun = w.begun }) (on : hears k ≡ true) where
  value_is : connection number v ≡ connection_of k
  value_is = there_value number v k k_is

  reader_is : (stream_of (conn_of number v)).reader ≡ k.reader
  reader_is = ap (λ o. (stream_of o).reader) k_is

  parts : (is_open_value v.opened number (connection number v) ≡ true) × (is_heard (connection number v) (stream_of (conn_of number v)) ≡ true)
  parts = and_parts _ _ (heard_there number v k s k_is ∙ on)

  goes_on : (connection number v).broken ≡ false
  goes_on = ap (λ (x : ConnectionValue). x.broken) value_is ∙ (hears_parts k on).1

  listens_now : (h : History) → HasConns (core_of v) h.opened h.events → listens h.opened number h.events ≡ true
  listens_now h c = is_listening h.opened h.events v.opened number (connection number v) (stream_of (conn_of number v)) (c.each number) parts.0 parts.1

  became : (u : CoreValue) → u.plans ≡ v.plans → u.now ≡ (core_of v).now → u.opened ≡ v.opened → u.begun ≡ w.begun → u.waiting ≡ v.jobs ++ jobs → u.conns number ≡ connection_of l
      → ((d : ℕ) → (number == d) ≡ false → u.conns d ≡ connection d v) → (is_shut_value (u.conns number) ≡ false → stream_in l ≡ u.streams number)
      → ((d : ℕ) → (number == d) ≡ false → u.streams d ≡ stream_of (conn_of d v)) → Became number l v w u
  became u plans now opened begun waiting here others stream streams = grind arith

  -- it breaks: what it brought does not count
  pub broke_adds : (q : List ℕ) (h : History) → connection_of l ≡ connection_of (broken_held k) → jobs ≡ [] → w.begun ≡ v.begun → Adds h.opened (Piece number q) h (core_of v) (core_of w)
  broke_adds q h l_is none begun_same = fades_adds (breaking (number ∷ []) (core_of v)) (core_of w)
      (became_fades number l v w (breaking (number ∷ []) (core_of v)) m (became (breaking (number ∷ []) (core_of v)) refl refl refl (sym begun_same) (sym (append-nil v.jobs) ∙ sym (ap (λ js. v.jobs ++ js) none))
      (broke_is ∙ sym (broken_value (core_of v).now k (hears_parts k on).0) ∙ sym l_is) (λ d ne. ap (λ b. if b then went (core_of v).now (Break number) (connection d v) else connection d v) ne)
      (λ open_now. absurd (let clash : true ≡ false = sym (shut_now) ∙ open_now in cc)) (λ d ne. refl)))
      h.opened (Piece number q) h (core_of v)
      (quiet_adds number q h (core_of v) (number ∷ []) (listens_now h) (λ c. broke_now) (piece_may h (core_of v) number goes_on q parts.0 parts.1))
    where
      broke_is : all_broken (core_of v).now (number ∷ []) (core_of v).conns number ≡ went (core_of v).now (Break k.number) (connection_of k)
      broke_is = grind (arith, nat_tests)

      broke_now : (all_broken (core_of v).now (number ∷ []) (core_of v).conns number).broken ≡ true
      broke_now = ap (λ (x : ConnectionValue). x.broken) (broke_is ∙ sym (broken_value (core_of v).now k (hears_parts k on).0))

      shut_now : is_shut_value (all_broken (core_of v).now (number ∷ []) (core_of v).conns number) ≡ true
      shut_now = grind (arith, nat_tests)

  -- nothing comes of it
  pub read_more : (q : List ℕ) (reader : ReaderValue) (h : History) → ReadsTo v.plans k.reader q reader [] → l ≡ read_held reader k → jobs ≡ [] → w.begun ≡ v.begun → Adds h.opened (Piece number q) h (core_of v) (core_of w)
  read_more q reader h reads l_is none begun_same = fades_adds (read_to number reader (core_of v)) (core_of w)
      (became_fades number l v w (read_to number reader (core_of v)) m (became (read_to number reader (core_of v)) refl refl refl (sym begun_same) (sym (append-nil v.jobs) ∙ sym (ap (λ js. v.jobs ++ js) none))
      (value_is ∙ sym (ap connection_of l_is)) (λ d ne. refl)
      (λ open_now. ap stream_in l_is ∙ sym (ap (λ b. read_if b reader (stream_of (conn_of number v))) (eq-eqb number number refl) ∙ ap (λ o. record (stream_of o) { reader = reader }) k_is))
      (λ d ne. ap (λ b. read_if b reader (stream_of (conn_of d v))) ne)))
      h.opened (Piece number q) h (core_of v)
      (read_adds laws number q h (core_of v) reader parts.0 parts.1 (subst (λ r. ReadsTo v.plans r q reader []) (sym reader_is) reads))

  abbrev after_coming : ReaderValue → Coming → CoreValue
  after_coming reader x = record (event_lemmas.came (Comes number x) [] (λ c. read_if (number == c) reader (stream_of (conn_of c v))) (core_of v)) { begun = w.begun }

  -- this comes
  pub come_more : (q : List ℕ) (reader : ReaderValue) (x : Coming) (h : History) → ReadsTo v.plans k.reader q reader (x ∷ []) → l ≡ entered_held (arriving_in v.moment v.drained x k) (read_held reader k)
      → jobs ≡ (arriving_in v.moment v.drained x k).jobs → w.begun ≡ v.begun + begun_by (arriving_in v.moment v.drained x k) → Adds h.opened (Piece number q) h (core_of v) (core_of w)
  come_more q reader x h reads l_is jobs_are begun_is = fades_adds (after_coming reader x) (core_of w)
      (became_fades number l v w (after_coming reader x) m (became (after_coming reader x) refl (ap (λ n. now_of n v.drained) (omega arith)) refl refl (ap (λ js. v.jobs ++ js) (ap (λ (y : Stepped). y.jobs) steps ∙ sym jobs_are))
      (ap (λ b. if b then (step (core_of v).now (Comes number x) (connection number v)).conn else connection number v) (eq-eqb number number refl) ∙ ap (λ (y : Stepped). y.conn) steps
      ∙ sym (entered_value (core_of v).now (read_held reader k) x held (hears_parts k on).0) ∙ sym (ap connection_of l_is))
      (λ d ne. ap (λ b. if b then (step (core_of v).now (Comes number x) (connection d v)).conn else connection d v) ne)
      (λ open_now. ap stream_in l_is ∙ sym (ap (λ b. read_if b reader (stream_of (conn_of number v))) (eq-eqb number number refl) ∙ ap (λ o. record (stream_of o) { reader = reader }) k_is))
      (λ d ne. ap (λ b. read_if b reader (stream_of (conn_of d v))) ne)))
      h.opened (Piece number q) h (core_of v)
      (came_adds laws number q h (core_of v) reader parts.0 parts.1 x [] w.begun (let few = begun_few v.moment v.drained x k in omega (arith, few, begun_is))
      (subst (λ r. ReadsTo v.plans r q reader (x ∷ [])) (sym reader_is) reads) (λ c os all. tt))
    where
      held : Holds (read_held reader k)
      held = let h = (s.each number k k_is).holds in record { own = h.own; apart = h.apart; came = h.came; dead = h.dead; few = h.few }

      steps : step (core_of v).now (Comes number x) (connection number v) ≡ stepped (entered (arriving (core_of v).now x (connection_of k)) (connection_of k)) (arriving (core_of v).now x (connection_of k)).jobs
      steps = grind (arith, nat_tests)

  -- the text has its requests, once the reader read it
  pub known_then : (q : List ℕ) (reader : ReaderValue) (gained : List Coming) (h : History) → ReadsTo v.plans k.reader q reader gained → HasConns (core_of v) h.opened h.events → IsKnown (stream h.opened number h.events ++ q)
  known_then q reader gained h reads c = grind (arith, nat_tests, parts, Reads, reader_is, read_requests)

-- ---- bytes of a piece, as the gateway takes them

-- the connection is not open, or no pieces of its stream are taken
gone_adds : (number : ℕ) (q : List ℕ) (v w : GatewayValue) (h : History) → (is_open_value v.opened number (connection number v) && is_heard (connection number v) (stream_of (conn_of number v))) ≡ false
    → w ≡ v → Adds h.opened (Piece number q) h (core_of v) (core_of w)
gone_adds number q v w h deaf w_is = subst (λ x. Adds h.opened (Piece number q) h (core_of v) (core_of x)) (sym w_is) (not_fed_adds number q h (core_of v) deaf)

module _ (laws : RequestLaws) (number : ℕ) (bytes : List ℕ) (v w : GatewayValue) (s : IsServing v) (h : History) where
  -- so many were taken

  -- what they add, and that the text is known then
  abbrev TakenAdds : ℕ → Type 0
  TakenAdds n = Adds h.opened (Piece number (take n bytes)) h (core_of v) (core_of w) × (HasConns (core_of v) h.opened h.events → (listens h.opened number h.events ≡ true) × IsKnown (stream h.opened number h.events ++ take n bytes))

  pub taken_adds : (n : ℕ) → Feeds number bytes v w (Ok n) → TakenAdds n
  taken_adds n (absent none r w_is) = absurd (cc)
  taken_adds n (there k l jobs k_is t m w_is) = by t
    where
      settled : is_waiting k.reader.reading ≡ false
      settled = (s.each number k k_is).settled

      by : TakesBytes v.plans v.moment v.drained bytes v.begun k w.begun l jobs (Ok n) → TakenAdds n
      by (not_fed off r l_is none begun) = absurd (cc)
      by (dropped on over r l_is none begun) = (
        read_more laws number bytes v w s k l k_is m jobs w_is on (take n bytes) k.reader h (over_reads laws v.plans k.reader (take n bytes) over) l_is none begun,
        λ c. (
          listens_now laws number bytes v w s k l k_is m jobs w_is on h c,
          known_then laws number bytes v w s k l k_is m jobs w_is on (take n bytes) k.reader [] h (over_reads laws v.plans k.reader (take n bytes) over) c,
        ),
      )
      by (unread on going r l_is none begun) = absurd (cc)
      by (read on going j reader reads none_comes r l_is none begun) = subst TakenAdds (sym (counted n j r)) (
        read_more laws number bytes v w s k l k_is m jobs w_is on (take j bytes) reader h
            (subst (λ o. ReadsTo v.plans k.reader (take j bytes) reader (option_to_list o)) none_comes (reads_to v.plans j bytes None k.reader reader reads going settled)) l_is none begun,
        λ c. (
          listens_now laws number bytes v w s k l k_is m jobs w_is on h c,
          known_then laws number bytes v w s k l k_is m jobs w_is on (take j bytes) reader (option_to_list (coming_of v.plans None reader.reading)) h (reads_to v.plans j bytes None k.reader reader reads going settled) c,
        ),
      )
      by (came on going j request reader x reads comes r l_is jobs_are begun few) = subst TakenAdds (sym (counted n j r)) (
        come_more laws number bytes v w s k l k_is m jobs w_is on (take j bytes) reader x h
            (subst (λ o. ReadsTo v.plans k.reader (take j bytes) reader (option_to_list o)) comes (reads_to v.plans j bytes request k.reader reader reads going settled)) l_is jobs_are begun,
        λ c. (
          listens_now laws number bytes v w s k l k_is m jobs w_is on h c,
          known_then laws number bytes v w s k l k_is m jobs w_is on (take j bytes) reader (option_to_list (coming_of v.plans request reader.reading)) h (reads_to v.plans j bytes request k.reader reader reads going settled) c,
        ),
      )
      by (broke on going j request reader x reads comes fault why r l_is none begun) = absurd (cc)

  -- at a fault all of the piece
  pub fault_adds : (fault : StepFault) → Feeds number bytes v w (Err fault) → Adds h.opened (Piece number bytes) h (core_of v) (core_of w)
  fault_adds fault (absent none r w_is) = gone_adds number bytes v w h (deaf_absent number v none) w_is
  fault_adds fault (there k l jobs k_is t m w_is) = by t
    where
      by : TakesBytes v.plans v.moment v.drained bytes v.begun k w.begun l jobs (Err fault) → Adds h.opened (Piece number bytes) h (core_of v) (core_of w)
      by (not_fed off r l_is none begun) =
          let conns_are : w.conns ≡ v.conns = m.same (ap (λ x. Some x) l_is ∙ sym k_is) in
          gone_adds number bytes v w h (heard_there number v k s k_is ∙ off)
          (w_is ∙ (λ i. record v { conns = conns_are i; jobs = (ap (λ js. v.jobs ++ js) none ∙ append-nil v.jobs) i; begun = begun i }))
      by (dropped on over r l_is none begun) = absurd (cc)
      by (unread on going r l_is none begun) = broke_adds laws number bytes v w s k l k_is m jobs w_is on bytes h (ap connection_of l_is) none begun
      by (read on going j reader reads none_comes r l_is none begun) = absurd (cc)
      by (came on going j request reader x reads comes r l_is jobs_are begun few) = absurd (cc)
      by (broke on going j request reader x reads comes f why r l_is none begun) = broke_adds laws number bytes v w s k l k_is m jobs w_is on bytes h (ap connection_of l_is) none begun

-- a piece changes nothing of whether its stream is heard
heard_before : (h : History) (n : ℕ) (p : List ℕ) → listens h.opened n (Piece n p ∷ h.events) ≡ true → listens h.opened n h.events ≡ true
heard_before h n p on = grind arith

text_then : (h : History) (n : ℕ) (p : List ℕ) → listens h.opened n h.events ≡ true → stream h.opened n (Piece n p ∷ h.events) ≡ stream h.opened n h.events ++ p
text_then h n p on = text_on h.opened n n p h.events on ∙ ap (λ b. if b then stream h.opened n h.events ++ p else stream h.opened n h.events) (eq-eqb n n refl)

-- bytes more of a piece, of which the first were fed before
pub feeds_stand : RequestLaws → (number : ℕ) (p q : List ℕ) (u v w : GatewayValue) (result : Result ℕ StepFault) (h : History) → IsServing v → Feeds number q v w result → FedUpTo number p h (core_of u) (core_of v)
    → MatchResult result (λ n. FedUpTo number (p ++ take n q) h (core_of u) (core_of w)) (λ _. Adds h.opened (Piece number (p ++ q)) h (core_of u) (core_of w))
feeds_stand laws number p q u v w (Ok n) h s f fed =
    let x = taken_adds laws number q v w s (after_event (Piece number p) h) n f in
    let known = x.1 (fed.adds.conns fed.before) in
    let heard : listens h.opened number h.events ≡ true = heard_before h number p known.0 in
    fed_more laws number p (take n q) (core_of u) (core_of v) (core_of w) h fed x.0
    (subst IsKnown (ap (λ text. text ++ take n q) (text_then h number p heard) ∙ append_assoc (stream h.opened number h.events) p (take n q)) known.1)
feeds_stand laws number p q u v w (Err fault) h s f fed =
    adds_joined laws number p q (core_of u) (core_of v) (core_of w) h (λ gained gains. fed.known q gained gains) fed.adds (fault_adds laws number q v w s (after_event (Piece number p) h) fault f)

-- ---- one at most

at_most_one : (o : Option Coming) → length (option_to_list o) ≤ 1
at_most_one None = omega arith
at_most_one (Some x) = omega arith

module _ (laws : RequestLaws) (number : ℕ) (bytes : List ℕ) (v w : GatewayValue) (h : History) (s : IsServing v) (c : HasConns (core_of v) h.opened h.events) where
  abbrev text : List ℕ
  text = stream h.opened number h.events

  module _ (k : HeldConnection) (k_is : conn_of number v ≡ Some k) (on : hears k ≡ true) where
    come : HasCome (connection number v) (stream_of (conn_of number v)).reader (stream h.opened number h.events)
    come = let parts = and_parts _ _ (heard_there number v k s k_is ∙ on) in (c.each number).has_come parts.0 parts.1

    was_read : HasRead k.reader (stream h.opened number h.events) come.given
    was_read = subst (λ r. HasRead r (stream h.opened number h.events) come.given) (ap (λ o. (stream_of o).reader) k_is) come.reads

    one_of : (n : ℕ) (reader : ReaderValue) (o : Option Coming) → ReadsTo v.plans k.reader (take n bytes) reader (option_to_list o) → (gained : List Coming)
        → Gains v.plans (stream h.opened number h.events) (stream h.opened number h.events ++ take n bytes) gained → length gained ≤ 1
    one_of n reader o reads gained gains =
        let r : Reads v.plans k.reader (take n bytes) reader (option_to_list o) (stream h.opened number h.events) come.given = reads (stream h.opened number h.events) come.given was_read in
        let is = gains_unique laws v.plans (stream h.opened number h.events) (stream h.opened number h.events ++ take n bytes) (option_to_list o) gained r.gains gains in
        subst (λ (xs : List Coming). length xs ≤ 1) is (at_most_one o)

    -- a stream that goes on has not ended
    not_ended : is_over k.reader.reading ≡ false → (given : List HttpRequest) (ending : StreamEnd) → Requests 0 (stream h.opened number h.events) given ending → ((left : List ℕ) → ending ≡ Open left → ⊥) → ⊥
    not_ended going given ending its ended = grind (arith, nat_tests, midway, come, was_read)

  one_taken : (n : ℕ) → Feeds number bytes v w (Ok n) → TakesOne v.plans (stream h.opened number h.events) bytes n
  one_taken n (absent none r w_is) = absurd (cc)
  one_taken n (there k l jobs k_is t m w_is) = by t
    where
      by : TakesBytes v.plans v.moment v.drained bytes v.begun k w.begun l jobs (Ok n) → TakesOne v.plans (stream h.opened number h.events) bytes n
      by (not_fed off r l_is none begun) = absurd (cc)
      by (dropped on over r l_is none begun) = record {
        one = one_of k k_is on n k.reader None (over_reads laws v.plans k.reader (take n bytes) over);
        all = λ given ending its ended. counted n (length bytes) r;
      }
      by (unread on going r l_is none begun) = absurd (cc)
      by (read on going j reader reads none_comes r l_is none begun) = subst (λ y. TakesOne v.plans (stream h.opened number h.events) bytes y) (sym (counted n j r)) (record {
        one = one_of k k_is on j reader (coming_of v.plans None reader.reading) (reads_to v.plans j bytes None k.reader reader reads going (s.each number k k_is).settled);
        all = λ given ending its ended. absurd (not_ended k k_is on going given ending its ended);
      })
      by (came on going j request reader x reads comes r l_is jobs_are begun few) = subst (λ y. TakesOne v.plans (stream h.opened number h.events) bytes y) (sym (counted n j r)) (record {
        one = one_of k k_is on j reader (coming_of v.plans request reader.reading) (reads_to v.plans j bytes request k.reader reader reads going (s.each number k k_is).settled);
        all = λ given ending its ended. absurd (not_ended k k_is on going given ending its ended);
      })
      by (broke on going j request reader x reads comes fault why r l_is none begun) = absurd (cc)

  pub feeds_one : (result : Result ℕ StepFault) → Feeds number bytes v w result → IfOk result (λ n. TakesOne v.plans (stream h.opened number h.events) bytes n)
  feeds_one (Ok n) f = one_taken n f
  feeds_one (Err fault) f = tt

-- ---- at the beginning of a piece

module _ (laws : RequestLaws) (n : ℕ) (v : CoreValue) (h : History) where
  nothing_adds : Adds h.opened (Piece n []) h v v
  nothing_adds = none_adds h v (Piece n [])
      (λ c. record {
        below = λ place its. let lt = c.below place its in omega (arith, lt);
        count_is = c.count_is;
        each = λ d. stream_stays h.opened h.opened h.events (Piece n [] ∷ h.events) v.opened v.opened d (v.conns d) (v.conns d) (v.streams d) (stays_itself (v.conns d)) (c.each d) refl
            (open_still h.opened d (Piece n []) h.events refl refl) (hung_still h.opened d (Piece n []) h.events refl) (text_still h.opened d (Piece n []) h.events (no_bytes d n));
      })
      (λ c os at. none (listens h.opened n h.events) os at)
    where
      none : (b : Bool) (os : List Occurrence)
          → MatchBool b ((gained : List Coming) × Gains v.plans (stream h.opened n h.events) (stream h.opened n h.events ++ []) gained × (os ≡ map (Comes n) gained)) (os ≡ []) → os ≡ []
      none true os (gained, gains, os_are) = os_are ∙ ap (map (Comes n)) (nothing_gained laws v.plans (stream h.opened n h.events) gained gains)
      none false os at = at

  pub begun_up : HasConns v h.opened h.events → FedUpTo n [] h v v
  begun_up c = grind (arith, nat_tests, nothing_adds, append-nil)
