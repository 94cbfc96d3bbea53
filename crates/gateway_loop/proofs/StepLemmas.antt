-- What steps of a client make of what it fits.
use Rattle.gateway_loop.proofs.Words.{Ready, ◌≡◌, ℕ, ◌<◌, Bool, true, false, List, [], ◌∷◌, ◌++◌, length, take, Option, None, Some, refl, sym, ap, ◌∙◌, subst, append_assoc, append-nil, ◌==◌, eq-eqb, map-append, PlanRecord, Event, Piece, HangUp, Closing, Occurs, connections, is_opening, stream, succeeds, History, after_event, after_opening, Past, marked, IsPrefixOf, answer_of, queued, Placed, occurrences, GatewayValue, Served, after_reply, ClientValue, client_value, is_drain, moment_in, result_in, Fits, FitsOn, HasStood, IsQuiet, Leads, MakesSteps, Stands, lingering, LoopLaws}
use Rattle.std.proofs.lemmas.Bool.Decides.{nat_tests}
use Rattle.std.specs.Prelude.{drop}
use Rattle.std.proofs.Common.{arith}
use Rattle.std.proofs.lemmas.Grind.{flat_map-append}
use Rattle.std.proofs.lemmas.List.{take-append-drop}
use Rattle.gateway_model.specs.declared.entry.ReplyEntry.{ReplyEntry}
use Rattle.gateway_model.specs.Run.{bytes_of}
use Rattle.gateway_theory.specs.Replies.{ReplyValue}
use Rattle.gateway_theory.specs.Served.{with_reply}
use Rattle.gateway_theory.specs.Told.{AddsEvent, LeavesReplied}
use Rattle.gateway_theory.specs.lemmas.OneEvent.{kept_open, now_hung, shut_open}
use Rattle.gateway_loop.proofs.LeadLemmas.{Elsewhere, born_is_open, born_known, born_on, born_queue, born_text, closing_elsewhere, follows_event, leads_event, leads_none, leads_reply, leads_then, extends_event, extends_none, extends_reply, extends_then}
use Rattle.gateway_loop.proofs.LivedLemmas.{lives_added, lives_left, lives_none, lives_then}
use Rattle.gateway_theory.specs.lemmas.ServedLemmas.{hung_still as kept_hung, text_still as kept_stream}

pub prefix_then : (a b c : List ℕ) → IsPrefixOf a b → IsPrefixOf b c → IsPrefixOf a c
prefix_then a b c p q = (p.0 ++ q.0, q.1 ∙ ap (λ (t : List ℕ). t ++ q.0) p.1 ∙ append_assoc a p.0 q.0)

off_is_not : (b : Bool) → b ≡ false → b ≡ true → ⊥
off_is_not b off on = let clash : true ≡ false = sym on ∙ off in absurd (let f : ⊥ = cc in f)

-- ---- going on

pub stands_on : (plans : List PlanRecord) (own : ℕ → Bool) (h k : History) (x : ClientValue) → Leads plans own h k → own x.conn ≡ false
    → Stands plans h x → Stands plans k x
stands_on plans own h k x l off s = search arith

queued_later : (laws : LoopLaws) (c : ℕ) (bytes : List ℕ) (since : Past) (before later : List Placed) → marked (occurrences later) ≡ since ++ marked (occurrences before)
    → IsPrefixOf bytes (queued c (marked (occurrences before))) → IsPrefixOf bytes (queued c (marked (occurrences later)))
queued_later laws c bytes since before later is p =
    subst (λ (past : Past). IsPrefixOf bytes (queued c past)) (sym is)
    (prefix_then bytes (queued c (marked (occurrences before))) (queued c (since ++ marked (occurrences before))) p (laws.nothing_later c since (marked (occurrences before))))

pub stood_on : (laws : LoopLaws) (plans : List PlanRecord) (own : ℕ → Bool) (h k : History) (x : ClientValue) → Leads plans own h k
    → HasStood plans h x → HasStood plans k x
stood_on laws plans own h k x l s =
    let e = s.explained in
    let st = l.shut x.conn e.known s.closed in record {
      explained = record {
        known = st.known;
        dropped = e.dropped;
        read = e.read ∙ ap (λ (t : List ℕ). t ++ e.dropped) (sym st.text);
        all_fed = e.all_fed;
        hangs_up = λ off. st.hung ∙ e.hangs_up off;
        no_other = λ hung. e.no_other (sym st.hung ∙ hung);
        written = λ later all.
            let f = l.follows later all in
            queued_later laws x.conn (x.got ++ x.waiting) f.since f.before later f.later_is (e.written f.before f.occurred);
      };
      closed = st.still_open ∙ s.closed;
    }

pub fits_on : (laws : LoopLaws) (plans : List PlanRecord) (own : ℕ → Bool) (h k : History) (x : ClientValue) → Leads plans own h k → own x.conn ≡ false
    → Fits plans h x → Fits plans k x
fits_on laws plans own h k x l off f = grind (arith, nat_tests, stands_on, stood_on)

quiet_then : (h k l : History) → IsQuiet h k → IsQuiet k l → IsQuiet h l
quiet_then h k l a b = search arith

pub quiet_event : (e : Event) (h : History) → moment_in e ≡ [] → result_in e ≡ [] → is_drain e ≡ false → IsQuiet h (after_event e h)
quiet_event e h no_moment no_result no_drain = grind (arith, nat_tests, append-nil)

-- ---- steps

pub steps_fit : (v : GatewayValue) (x y : ClientValue) → FitsOn x y → MakesSteps v v x y
steps_fit v x y on = record {
  conn = on.conn;
  plans = refl;
  steps = λ plans h are served f. record {
    later = h;
    serves = served;
    fits = on.fits plans h f;
    leads = leads_none plans (λ c. c == x.conn) h;
    quiet = record { moments_are = refl; results_are = refl; drains_are = refl; handed_are = refl };
    opens = refl;
    extends = extends_none h;
    lives = lives_none v h;
  };
}

pub steps_then : (u v w : GatewayValue) (x y z : ClientValue) → MakesSteps u v x y → MakesSteps v w y z → MakesSteps u w x z
steps_then u v w x y z first second = record {
  conn = second.conn ∙ first.conn;
  plans = second.plans ∙ first.plans;
  steps = λ plans h are served f.
      let a = first.steps plans h are served f in
      let b = second.steps plans a.later (first.plans ∙ are) a.serves a.fits in record {
        later = b.later;
        serves = b.serves;
        fits = b.fits;
        leads = leads_then plans (λ c. c == x.conn) h a.later b.later a.leads
            (subst (λ (n : ℕ). Leads plans (λ c. c == n) a.later b.later) first.conn b.leads);
        quiet = quiet_then h a.later b.later a.quiet b.quiet;
        opens = b.opens ∙ a.opens;
        extends = extends_then h a.later b.later a.extends b.extends;
        lives = lives_then u v w h a.later b.later second.plans a.extends b.extends a.lives b.lives;
      };
}

pub fits_as_before : (x : ClientValue) → FitsOn x x
fits_as_before x = record { conn = refl; fits = λ plans h f. f }

-- what may be done at its stream counts for nothing
pub fits_moved : (x : ClientValue) (reads writes : Bool) (watched : Option (ℕ × Bool)) (reported : List Ready) → FitsOn x (record x { reads = reads; writes = writes; watched = watched; reported = reported })
fits_moved x reads writes watched reported = record {
  conn = refl;
  fits = λ plans h f. record {
    stands = λ off.
        let s = f.stands off in record { known = s.known; still_open = s.still_open; read = s.read; hangs_up = s.hangs_up; written = s.written };
    stood = λ on. stood_as (f.stood on);
  };
}
  where
    stood_as : {plans : List PlanRecord} {h : History} → HasStood plans h x → HasStood plans h (record x { reads = reads; writes = writes; watched = watched; reported = reported })
    stood_as s =
        let e = s.explained in record {
          explained = record { known = e.known; dropped = e.dropped; read = e.read; all_fed = e.all_fed; hangs_up = e.hangs_up; no_other = e.no_other; written = e.written };
          closed = s.closed;
        }

-- nothing was read, and nothing written
pub fits_still : {reads writes reads' writes' : Bool} {watched watched' : Option (ℕ × Bool)} {reported reported' : List Ready} {until : Option ℕ} → (conn : ℕ) (lingers ended ended' : Bool) (given got waiting given' got' : List ℕ) → given' ≡ given → got' ≡ got → ended' ≡ ended
    → FitsOn (client_value conn lingers given got ended waiting reads writes watched reported until) (client_value conn lingers given' got' ended' waiting reads' writes' watched' reported' until)
fits_still {reads} {writes} {reads'} {writes'} {watched} {watched'} {reported} {reported'} {until} conn lingers ended ended' given got waiting given' got' same_given same_got same_ended =
    rw (same_given, same_got, same_ended) (fits_moved (client_value conn lingers given got ended waiting reads writes watched reported until) reads' writes' watched' reported')

pub steps_same : (v : GatewayValue) (x : ClientValue) → MakesSteps v v x x
steps_same v x = steps_fit v x x (fits_as_before x)

-- by an event of its own
pub steps_event : (v w : GatewayValue) (x y : ClientValue) (e : Event) → w.plans ≡ v.plans → y.conn ≡ x.conn
    → ((h : History) → Served v h → Served w (after_event e h)) → AddsEvent e v w
    → ((plans : List PlanRecord) (h : History) → Fits plans h x → Fits plans (after_event e h) y)
    → ((c : ℕ) → (c == x.conn) ≡ false → Elsewhere c e) → moment_in e ≡ [] → result_in e ≡ [] → is_drain e ≡ false → is_opening e ≡ false → MakesSteps v w x y
steps_event v w x y e same conn takes adds fits away no_moment no_result no_drain no_opening = record {
  conn = conn;
  plans = same;
  steps = λ plans h are served f. record {
    later = after_event e h;
    serves = takes h served;
    fits = fits plans h f;
    leads = leads_event plans (λ c. c == x.conn) e h away;
    quiet = quiet_event e h no_moment no_result no_drain;
    opens = rw no_opening refl;
    extends = extends_event e h;
    lives = lives_added h.opened e h v w (adds h);
  };
}

-- by a reply that was taken
pub steps_reply : (v w : GatewayValue) (x y : ClientValue) (reply : Option ReplyValue) → w.plans ≡ v.plans → y.conn ≡ x.conn
    → ((h : History) → Served v h → Served w (after_reply x.conn reply h))
    → LeavesReplied x.conn reply v w
    → ((plans : List PlanRecord) (h : History) → Fits plans h x → Fits plans (after_reply x.conn reply h) y) → MakesSteps v w x y
steps_reply v w x y reply same conn takes left fits = record {
  conn = conn;
  plans = same;
  steps = λ plans h are served f. record {
    later = after_reply x.conn reply h;
    serves = takes h served;
    fits = fits plans h f;
    leads = leads_reply plans x.conn reply h;
    quiet = record { moments_are = refl; results_are = refl; drains_are = refl; handed_are = refl };
    opens = refl;
    extends = extends_reply x.conn reply h;
    lives = lives_left v w h (after_reply x.conn reply h) (left h);
  };
}

-- ---- a client's own

-- a piece was read, and fed
pub fits_piece : {reads writes reads' writes' : Bool} {watched watched' : Option (ℕ × Bool)} {reported reported' : List Ready} {until : Option ℕ} → (conn n : ℕ) (lingers ended ended' : Bool) (given got waiting given' got' piece : List ℕ) → lingers ≡ false
    → given' ≡ given ++ take n piece → got' ≡ got → ended' ≡ ended → ended ≡ false → (plans : List PlanRecord) (h : History)
    → Fits plans h (client_value conn lingers given got ended waiting reads writes watched reported until) → Fits plans (after_event (Piece conn (take n piece)) h) (client_value conn lingers given' got' ended' waiting reads' writes' watched' reported' until)
fits_piece conn n lingers ended ended' given got waiting given' got' piece not_left more same_got same on plans h f = search arith

-- of one that lingers a piece was read, and dropped
pub fits_dropped : {reads writes reads' writes' : Bool} {watched watched' : Option (ℕ × Bool)} {reported reported' : List Ready} {until : Option ℕ} → (conn n : ℕ) (lingers ended ended' : Bool) (given got waiting given' got' piece : List ℕ) → lingers ≡ true
    → given' ≡ given ++ take n piece → got' ≡ got → ended' ≡ ended
    → FitsOn (client_value conn lingers given got ended waiting reads writes watched reported until) (client_value conn lingers given' got' ended' waiting reads' writes' watched' reported' until)
fits_dropped conn n lingers ended ended' given got waiting given' got' piece left more same_got same = record {
  conn = refl;
  fits = λ plans h f. record {
    stands = λ off. absurd (off_is_not lingers off left);
    stood = λ on.
        let s = f.stood on in
        let e = s.explained in record {
          explained = record {
            known = e.known;
            dropped = e.dropped ++ take n piece;
            read = more ∙ ap (λ (t : List ℕ). t ++ take n piece) e.read ∙ append_assoc (stream h.opened conn h.events) e.dropped (take n piece);
            all_fed = λ off. absurd (off_is_not lingers off left);
            hangs_up = λ off. absurd (off_is_not lingers off left);
            no_other = λ hung. same ∙ e.no_other hung;
            written = λ occurred all.
                subst (λ (t : List ℕ). IsPrefixOf (t ++ waiting) (queued conn (marked (occurrences occurred)))) (sym same_got) (e.written occurred all);
          };
          closed = s.closed;
        };
  };
}

-- .. its end was found
pub fits_over : {reads writes reads' writes' : Bool} {watched watched' : Option (ℕ × Bool)} {reported reported' : List Ready} {until : Option ℕ} → (conn : ℕ) (lingers ended ended' : Bool) (given got waiting given' got' : List ℕ) → lingers ≡ true
    → given' ≡ given → got' ≡ got → ended' ≡ true
    → FitsOn (client_value conn lingers given got ended waiting reads writes watched reported until) (client_value conn lingers given' got' ended' waiting reads' writes' watched' reported' until)
fits_over conn lingers ended ended' given got waiting given' got' left same_given same_got now = record {
  conn = refl;
  fits = λ plans h f. record {
    stands = λ off. absurd (off_is_not lingers off left);
    stood = λ on.
        let s = f.stood on in
        let e = s.explained in record {
          explained = record {
            known = e.known;
            dropped = e.dropped;
            read = same_given ∙ e.read;
            all_fed = λ off. absurd (off_is_not lingers off left);
            hangs_up = λ off. absurd (off_is_not lingers off left);
            no_other = λ hung. now;
            written = λ occurred all.
                subst (λ (t : List ℕ). IsPrefixOf (t ++ waiting) (queued conn (marked (occurrences occurred)))) (sym same_got) (e.written occurred all);
          };
          closed = s.closed;
        };
  };
}

-- some of what waited was written
pub fits_sent : {reads writes reads' writes' : Bool} {watched watched' : Option (ℕ × Bool)} {reported reported' : List Ready} {until : Option ℕ} → (conn n : ℕ) (lingers ended ended' : Bool) (given got waiting given' got' : List ℕ) → given' ≡ given → got' ≡ got ++ take n waiting → ended' ≡ ended
    → FitsOn (client_value conn lingers given got ended waiting reads writes watched reported until) (client_value conn lingers given' got' ended' (drop n waiting) reads' writes' watched' reported' until)
fits_sent conn n lingers ended ended' given got waiting given' got' same_given more same =
    let whole : got' ++ drop n waiting ≡ got ++ waiting =
    ap (λ (t : List ℕ). t ++ drop n waiting) more ∙ append_assoc got (take n waiting) (drop n waiting) ∙ ap (λ (t : List ℕ). got ++ t) (take-append-drop n waiting) in record {
      conn = refl;
      fits = λ plans h f. record {
        stands = λ off.
            let s = f.stands off in record {
              known = s.known;
              still_open = s.still_open;
              read = same_given ∙ s.read;
              hangs_up = s.hangs_up ∙ sym same;
              written = λ occurred all. whole ∙ s.written occurred all;
            };
        stood = λ on.
            let s = f.stood on in
            let e = s.explained in record {
              explained = record {
                known = e.known;
                dropped = e.dropped;
                read = same_given ∙ e.read;
                all_fed = e.all_fed;
                hangs_up = λ off. e.hangs_up off ∙ sym same;
                no_other = λ hung. same ∙ e.no_other hung;
                written = λ occurred all.
                    subst (λ (t : List ℕ). IsPrefixOf t (queued conn (marked (occurrences occurred)))) (sym whole) (e.written occurred all);
              };
              closed = s.closed;
            };
      };
    }

-- it hung up
pub fits_hang_up : {reads writes reads' writes' : Bool} {watched watched' : Option (ℕ × Bool)} {reported reported' : List Ready} {until : Option ℕ} → (conn : ℕ) (lingers ended ended' : Bool) (given got waiting given' got' : List ℕ) → lingers ≡ false
    → given' ≡ given → got' ≡ got → ended' ≡ true → (plans : List PlanRecord) (h : History)
    → Fits plans h (client_value conn lingers given got ended waiting reads writes watched reported until) → Fits plans (after_event (HangUp conn) h) (client_value conn lingers given' got' ended' waiting reads' writes' watched' reported' until)
fits_hang_up conn lingers ended ended' given got waiting given' got' not_left same_given same_got now plans h f =
    let s = f.stands not_left in record {
      stands = λ off. record {
        known = s.known;
        still_open = kept_open h.opened conn (HangUp conn) h.events s.known refl ∙ s.still_open;
        read = same_given ∙ s.read ∙ sym (kept_stream h.opened conn (HangUp conn) h.events refl);
        hangs_up = now_hung h.opened conn h.events s.still_open ∙ sym now;
        written = λ later all.
            let b = follows_event plans (HangUp conn) h later all in
            ap (λ (t : List ℕ). t ++ waiting) same_got ∙ s.written b.before b.occurred;
      };
      stood = λ is. absurd (off_is_not lingers not_left is);
    }

bytes_more : (entries : List ReplyEntry) (entry : ReplyEntry) → bytes_of (entries ++ entry ∷ []) ≡ bytes_of entries ++ (answer_of entry).bytes
bytes_more entries entry = grind (arith, nat_tests, map-append, flat_map-append, append-nil)

-- a reply was taken where nothing waited
pub fits_reply : {reads writes : Bool} {watched : Option (ℕ × Bool)} {reported : List Ready} {until : Option ℕ} → (conn : ℕ) (lingers ended : Bool) (given got waiting bytes : List ℕ) (reply : ReplyValue) → lingers ≡ false
    → waiting ≡ [] → bytes ≡ (answer_of reply.entry).bytes → (plans : List PlanRecord) (h : History)
    → Fits plans h (client_value conn lingers given got ended waiting reads writes watched reported until) → Fits plans (after_reply conn (Some reply) h) (client_value conn lingers given got ended bytes reads writes watched reported until)
fits_reply conn lingers ended given got waiting bytes reply not_left none is plans h f = grind (arith, nat_tests, append-nil, bytes_more, eq-eqb, off_is_not)

nothing_taken : (n : ℕ) (taken : ℕ → List ReplyEntry) (c : ℕ) → with_reply n None taken c ≡ taken c
nothing_taken n taken c = grind (arith, nat_tests, append-nil)

-- no reply was there
pub fits_no_reply : (conn : ℕ) (x : ClientValue) (plans : List PlanRecord) (h : History) → Fits plans h x → Fits plans (after_reply conn None h) x
fits_no_reply conn x plans h f = record {
  stands = λ off.
      let s = f.stands off in record {
        known = s.known;
        still_open = s.still_open;
        read = s.read;
        hangs_up = s.hangs_up;
        written = λ occurred all. s.written occurred all ∙ ap bytes_of (sym (nothing_taken conn h.taken x.conn));
      };
  stood = λ on.
      let s = f.stood on in
      let e = s.explained in record {
        explained = record {
          known = e.known;
          dropped = e.dropped;
          read = e.read;
          all_fed = e.all_fed;
          hangs_up = e.hangs_up;
          no_other = e.no_other;
          written = e.written;
        };
        closed = s.closed;
      };
}

-- ---- closing

closes_own : (laws : LoopLaws) (v : GatewayValue) (plans : List PlanRecord) (h : History) (x : ClientValue) (l : Bool) (until : Option ℕ) → v.plans ≡ plans → Served v h
    → Stands plans h x → HasStood plans (after_event (Closing x.conn) h) (record x { lingers = l; until = until })
closes_own laws v plans h x l until are served s = record {
  explained = record {
    known = s.known;
    dropped = [];
    read = s.read ∙ sym (kept_stream h.opened x.conn (Closing x.conn) h.events refl) ∙ sym (append-nil (stream h.opened x.conn (Closing x.conn ∷ h.events)));
    all_fed = λ off. refl;
    hangs_up = λ off. kept_hung h.opened x.conn (Closing x.conn) h.events refl ∙ s.hangs_up;
    no_other = λ hung. sym (kept_hung h.opened x.conn (Closing x.conn) h.events refl ∙ s.hangs_up) ∙ hung;
    written = λ later all.
        let b = follows_event plans (Closing x.conn) h later all in
        let begins = laws.bytes v h b.before served (subst (λ (ps : List PlanRecord). Occurs ps h.opened h.events b.before) (sym are) b.occurred) x.conn s.still_open in
        queued_later laws x.conn (x.got ++ x.waiting) b.since b.before later b.later_is
        (subst (λ (t : List ℕ). IsPrefixOf t (queued x.conn (marked (occurrences b.before)))) (sym (s.written b.before b.occurred)) begins);
  };
  closed = shut_open h.opened x.conn h.events s.known;
}

-- until when it lingers counts for nothing
stood_until : {plans : List PlanRecord} {h : History} {x : ClientValue} (until : Option ℕ) → HasStood plans h x → HasStood plans h (record x { until = until })
stood_until until s =
    let e = s.explained in record {
      explained = record { known = e.known; dropped = e.dropped; read = e.read; all_fed = e.all_fed; hangs_up = e.hangs_up; no_other = e.no_other; written = e.written };
      closed = s.closed;
    }

-- one that goes, or lingers, once its connection is closed
pub closes : (laws : LoopLaws) (v : GatewayValue) (plans : List PlanRecord) (h : History) (x : ClientValue) → v.plans ≡ plans → Served v h
    → Fits plans h x → HasStood plans (after_event (Closing x.conn) h) x
closes laws v plans h x are served f = by_it x.lingers refl
  where
    by_it : (l : Bool) → x.lingers ≡ l → HasStood plans (after_event (Closing x.conn) h) x
    by_it false is = closes_own laws v plans h x x.lingers x.until are served (f.stands is)
    by_it true is = stood_on laws plans (λ c. c == x.conn) h (after_event (Closing x.conn) h) x
        (leads_event plans (λ c. c == x.conn) (Closing x.conn) h (λ c off. closing_elsewhere x.conn c off)) (f.stood is)

pub leaves : (laws : LoopLaws) (v : GatewayValue) (plans : List PlanRecord) (h : History) (x : ClientValue) (until : ℕ) → v.plans ≡ plans → Served v h
    → Fits plans h x → Fits plans (after_event (Closing x.conn) h) (lingering until x)
leaves laws v plans h x until are served f = record {
  stands = λ off. absurd (off_is_not true off refl);
  stood = λ on. by_it x.lingers refl;
}
  where
    by_it : (l : Bool) → x.lingers ≡ l → HasStood plans (after_event (Closing x.conn) h) (lingering until x)
    by_it false is = closes_own laws v plans h x true (Some until) are served (f.stands is)
    by_it true is = subst (λ (l : Bool). HasStood plans (after_event (Closing x.conn) h) (record x { lingers = l; until = Some until })) is (stood_until (Some until) (closes laws v plans h x are served f))

-- ---- the client of a connection that just opened

pub born_fits : (laws : LoopLaws) (w : GatewayValue) (plans : List PlanRecord) (h : History) (below : (place : ℕ) → succeeds h.opened place ≡ true → place < length h.events)
    → w.plans ≡ plans → Served w (after_opening h) → (given got : List ℕ) (ended : Bool) → given ≡ [] → got ≡ [] → ended ≡ false → {reads writes : Bool} {watched : Option (ℕ × Bool)} {reported : List Ready}
    → Fits plans (after_opening h) (client_value (connections h.opened h.events) false given got ended [] reads writes watched reported None)
born_fits laws w plans h below are served given got ended none_given none_got on = record {
  stands = λ off. record {
    known = born_known h below;
    still_open = born_is_open h below;
    read = none_given ∙ sym (born_text h below);
    hangs_up = born_on h below ∙ sym on;
    written = λ later all.
        let c = connections h.opened h.events in
        let begins = laws.entries w (after_opening h) later served (subst (λ (ps : List PlanRecord). Occurs ps (after_opening h).opened (after_opening h).events later) (sym are) all) c (born_is_open h below) in
        let none = born_queue h below plans later all in
        ap (λ (t : List ℕ). t ++ []) none_got ∙ ap bytes_of (sym (nothing (h.taken c) begins.0 (sym begins.1 ∙ none)));
  };
  stood = λ on. absurd (off_is_not false refl on);
}
  where
    nothing : (xs rest : List ReplyEntry) → xs ++ rest ≡ [] → xs ≡ []
    nothing [] rest is = refl
    nothing (x ∷ xs) rest is = absurd (let f : ⊥ = cc in f)
