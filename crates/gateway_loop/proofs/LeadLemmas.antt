-- What one event more makes of each connection.
use Rattle.gateway_loop.proofs.Words.{◌≡◌, ℕ, suc, ◌+◌, ◌<◌, ◌≤◌, Bool, true, false, List, [], ◌∷◌, ◌++◌, length, Option, None, refl, sym, ap, ◌∙◌, subst, arith, append_assoc, ◌||◌, ◌==◌, map, ⊤, eq-eqb, ltb-false, ltb-true, ne_eqb, map-append, PlanRecord, Event, Opening, Piece, HangUp, Closing, Before, Occurs, OccursAt, connections, hung_up, is_closing_of, is_hang_up_of, is_open, once, onto, piece_of, stream, succeeds, History, after_event, after_jobs, after_opening, JobValue, Past, arrivals, coming_on, mark_of, marked, queued_entries, Placed, occurrences, after_reply, Extends, Follows, IsPrefixOf, IsStreamOf, Leads, prefix-refl, prefix-trans}
use Rattle.std.proofs.lemmas.List.{length-append}
use Rattle.std.proofs.lemmas.Bool.Decides.{nat_tests}
use Rattle.gateway_model.specs.Occurrence.{Coming, Comes, Occurrence}
use Rattle.gateway_model.specs.declared.entry.ReplyEntry.{ReplyEntry}
use Rattle.gateway_theory.specs.Replies.{ReplyValue}
use Rattle.std.specs.Prelude.{option_map, option_to_list, if◌then◌else◌}
use Rattle.gateway_theory.specs.lemmas.OneEvent.{same_openings, born_hung, born_open, born_stream, deaf_stream, kept_open, shut_deaf, shut_hung, stays_shut}
use Rattle.gateway_theory.specs.lemmas.ServedOpens.{grown, occurs_before, succeeds_more, unopened_shut as unborn_open}
use Rattle.gateway_theory.specs.lemmas.CutLemmas.{connections_grow}
use Rattle.gateway_theory.specs.lemmas.ServedLemmas.{hung_still as kept_hung, text_still as kept_stream}

-- ---- what had occurred

marked_more : (os older : List Occurrence) → (since : Past) × (marked (os ++ older) ≡ since ++ marked older)
marked_more [] older = ([], refl)
marked_more (o ∷ os) older =
    let m = marked_more os older in
    let mark = mark_of (marked (os ++ older)) o in (mark ∷ m.0, ap (λ (p : Past). mark ∷ p) m.1)

onto_more : (place : ℕ) (os : List Occurrence) (past : List Placed) → (newer : List Placed) × (onto place os past ≡ newer ++ past)
onto_more place [] past = ([], refl)
onto_more place (o ∷ os) past =
    let m = onto_more place os ((place, o) ∷ past) in
    (m.0 ++ (place, o) ∷ [], m.1 ∙ sym (append_assoc m.0 ((place, o) ∷ []) past))

later_marked : (newer before : List Placed) → (since : Past) × (marked (occurrences (newer ++ before)) ≡ since ++ marked (occurrences before))
later_marked newer before =
    let m = marked_more (occurrences newer) (occurrences before) in
    (m.0, ap marked (map-append (λ (o : Placed). o.1) newer before) ∙ m.1)

onto_follows : (plans : List PlanRecord) (h : History) (place : ℕ) (os : List Occurrence) (past later : List Placed) → Occurs plans h.opened h.events past
    → later ≡ onto place os past → Follows plans h later
onto_follows plans h place os past later occurred is =
    let m = onto_more place os past in
    let n = later_marked m.0 past in
    record { before = past; occurred = occurred; since = n.0; later_is = ap (λ (x : List Placed). marked (occurrences x)) (is ∙ m.1) ∙ n.1 }

pub follows_event : (plans : List PlanRecord) (e : Event) (h : History) (later : List Placed) → Occurs plans h.opened (e ∷ h.events) later → Follows plans h later
follows_event plans e h later (past, occurred, (os, at, is)) = onto_follows plans h (length h.events) os past later occurred is

-- ---- going on

streams_then : (c : ℕ) (h k l : History) → IsStreamOf c h k → IsStreamOf c k l → IsStreamOf c h l
streams_then c h k l a b = record { known = b.known; still_open = b.still_open ∙ a.still_open; hung = b.hung ∙ a.hung; text = b.text ∙ a.text }

pub leads_none : (plans : List PlanRecord) (own : ℕ → Bool) (h : History) → Leads plans own h h
leads_none plans own h = search arith

pub leads_then : (plans : List PlanRecord) (own : ℕ → Bool) (h k l : History) → Leads plans own h k → Leads plans own k l → Leads plans own h l
leads_then plans own h k l a b = record {
  others = λ c off lt.
      let x = a.others c off lt in
      let y = b.others c off x.of_stream.known in
      record { of_stream = streams_then c h k l x.of_stream y.of_stream; taken = y.taken ∙ x.taken };
  shut = λ c lt closed.
      let x = a.shut c lt closed in
      streams_then c h k l x (b.shut c x.known (x.still_open ∙ closed));
  follows = λ later all.
      let y = b.follows later all in
      let x = a.follows y.before y.occurred in
      record {
        before = x.before;
        occurred = x.occurred;
        since = y.since ++ x.since;
        later_is = y.later_is ∙ ap (λ (p : Past). y.since ++ p) x.later_is ∙ sym (append_assoc y.since x.since (marked (occurrences x.before)));
      };
}

pub extends_none : (h : History) → Extends h h
extends_none h = record { later = []; events_are = refl; openings = λ place lt. refl; taken = λ c. prefix-refl (h.taken c); handed = prefix-refl h.handed }

pub extends_then : (h k l : History) → Extends h k → Extends k l → Extends h l
extends_then h k l a b = record {
  later = b.later ++ a.later;
  events_are = b.events_are ∙ ap (λ (es : Before). b.later ++ es) a.events_are ∙ sym (append_assoc b.later a.later h.events);
  openings = λ place lt.
      let more : length k.events ≡ length a.later + length h.events = ap (λ (es : Before). length es) a.events_are ∙ length-append a.later h.events in
      b.openings place (omega (arith, more, lt)) ∙ a.openings place lt;
  taken = λ c. prefix-trans (h.taken c) (k.taken c) (l.taken c) (a.taken c) (b.taken c);
  handed = prefix-trans h.handed k.handed l.handed a.handed b.handed;
}

-- ---- an event

-- the event does not concern the connection
pub record Elsewhere (c : ℕ) (e : Event) : Type 0 where
  pub closing : is_closing_of c e ≡ false
  pub hang_up : is_hang_up_of c e ≡ false
  pub piece : piece_of c e ≡ []

turned : (c d : ℕ) → (d == c) ≡ false → (c == d) ≡ false
turned c d off = ne_eqb c d (λ at. let clash : true ≡ false = sym (eq-eqb d c (sym at)) ∙ off in absurd (let f : ⊥ = cc in f))

pub piece_elsewhere : (c : ℕ) (bytes : List ℕ) (d : ℕ) → (d == c) ≡ false → Elsewhere d (Piece c bytes)
piece_elsewhere c bytes d off = record { closing = refl; hang_up = refl; piece = rw (turned c d off) refl }

pub hang_up_elsewhere : (c d : ℕ) → (d == c) ≡ false → Elsewhere d (HangUp c)
hang_up_elsewhere c d off = record { closing = refl; hang_up = turned c d off; piece = refl }

pub closing_elsewhere : (c d : ℕ) → (d == c) ≡ false → Elsewhere d (Closing c)
closing_elsewhere c d off = record { closing = turned c d off; hang_up = refl; piece = refl }

pub leads_event : (plans : List PlanRecord) (own : ℕ → Bool) (e : Event) (h : History) → ((c : ℕ) → own c ≡ false → Elsewhere c e)
    → Leads plans own h (after_event e h)
leads_event plans own e h away = record {
  others = λ c off lt.
      let a = away c off in
      record {
        of_stream = record {
          known = let grown = connections_grow h.opened e h.events in omega (arith, grown, lt);
          still_open = kept_open h.opened c e h.events lt a.closing;
          hung = kept_hung h.opened c e h.events a.hang_up;
          text = kept_stream h.opened c e h.events a.piece;
        };
        taken = refl;
      };
  shut = λ c lt closed. record {
    known = let grown = connections_grow h.opened e h.events in omega (arith, grown, lt);
    still_open = stays_shut h.opened c e h.events lt closed ∙ sym closed;
    hung = shut_hung h.opened c e h.events closed;
    text = deaf_stream h.opened c e h.events (shut_deaf h.opened c h.events closed);
  };
  follows = λ later all. follows_event plans e h later all;
}

pub extends_event : (e : Event) (h : History) → Extends h (after_event e h)
extends_event e h = record { later = e ∷ []; events_are = refl; openings = λ place lt. refl; taken = λ c. prefix-refl (h.taken c); handed = prefix-refl h.handed }

begins_if : (b : Bool) (taken more : List ReplyEntry) → IsPrefixOf taken (if b then taken ++ more else taken)
begins_if true taken more = (more, refl)
begins_if false taken more = prefix-refl taken

pub extends_reply : (n : ℕ) (reply : Option ReplyValue) (h : History) → Extends h (after_reply n reply h)
extends_reply n reply h = record {
  later = [];
  events_are = refl;
  openings = λ place lt. refl;
  taken = λ c. begins_if (c == n) (h.taken c) (option_to_list (option_map (λ (r : ReplyValue). r.entry) reply));
  handed = prefix-refl h.handed;
}

pub extends_jobs : (jobs : List JobValue) (h : History) → Extends h (after_jobs jobs h)
extends_jobs jobs h = record { later = []; events_are = refl; openings = λ place lt. refl; taken = λ c. prefix-refl (h.taken c); handed = (jobs, refl) }

-- a reply or jobs were taken, and no event came
pub leads_reply : (plans : List PlanRecord) (n : ℕ) (reply : Option ReplyValue) (h : History) → Leads plans (λ c. c == n) h (after_reply n reply h)
leads_reply plans n reply h = search arith

pub leads_jobs : (plans : List PlanRecord) (own : ℕ → Bool) (jobs : List JobValue) (h : History) → Leads plans own h (after_jobs jobs h)
leads_jobs plans own jobs h = search arith

-- ---- an opening

module _ (h : History) (below : (place : ℕ) → succeeds h.opened place ≡ true → place < length h.events) where
  abbrev pub more : List ℕ
  more = h.opened ++ length h.events ∷ []

  or_true : (b : Bool) → (b || true) ≡ true
  or_true b = grind (arith, nat_tests)

  succeeded : succeeds more (length h.events) ≡ true
  succeeded = grind (arith, nat_tests, succeeds_more, eq-eqb, or_true)

  as_many : connections more h.events ≡ connections h.opened h.events
  as_many = (same_openings h.opened (length h.events) h.events below (omega arith)).connections_are

  pub leads_opening : (plans : List PlanRecord) (own : ℕ → Bool) → Leads plans own h (after_opening h)
  leads_opening plans own =
      let same = same_openings h.opened (length h.events) h.events below (omega arith) in
      let of_stream : (c : ℕ) → c < connections h.opened h.events → IsStreamOf c h (after_opening h) =
      λ c lt.
      let lt' : c < connections more h.events = let e = as_many in omega (arith, e, lt) in record {
        known = let grown = connections_grow more Opening h.events in omega (arith, grown, lt');
        still_open = kept_open more c Opening h.events lt' refl ∙ same.open_is c;
        hung = kept_hung more c Opening h.events refl ∙ same.hung_is c;
        text = kept_stream more c Opening h.events refl ∙ same.stream_is c;
      } in record {
        others = λ c off lt. record { of_stream = of_stream c lt; taken = refl };
        shut = λ c lt closed. of_stream c lt;
        follows = λ later (past, occurred, (os, at, is)).
            onto_follows plans h (length h.events) os past later (occurs_before plans h.opened more (length h.events) h.events past (omega arith) (grown h.opened (length h.events) below) occurred) is;
      }

  pub extends_opening : Extends h (after_opening h)
  extends_opening = record {
    later = Opening ∷ [];
    events_are = refl;
    openings = λ place lt. (grown h.opened (length h.events) below).before place lt;
    taken = λ c. prefix-refl (h.taken c);
    handed = prefix-refl h.handed;
  }

  -- the connection that opened
  pub born_known : connections h.opened h.events < connections more (Opening ∷ h.events)
  born_known = subst (λ n. n < connections more (Opening ∷ h.events)) as_many (rw succeeded (omega arith))

  pub born_count : connections more (Opening ∷ h.events) ≡ suc (connections h.opened h.events)
  born_count = rw succeeded (ap suc as_many)

  pub born_is_open : is_open more (connections h.opened h.events) (Opening ∷ h.events) ≡ true
  born_is_open = subst (λ n. is_open more n (Opening ∷ h.events) ≡ true) as_many (born_open more h.events succeeded)

  pub born_on : hung_up more (connections h.opened h.events) (Opening ∷ h.events) ≡ false
  born_on = subst (λ n. hung_up more n (Opening ∷ h.events) ≡ false) as_many (born_hung more h.events)

  pub born_text : stream more (connections h.opened h.events) (Opening ∷ h.events) ≡ []
  born_text = subst (λ n. stream more n (Opening ∷ h.events) ≡ []) as_many (born_stream more h.events)

-- ---- no request comes on a connection that was not opened

abbrev NotComing : ℕ → List Occurrence → Type 0
NotComing c [] = ⊤
NotComing c (o ∷ os) = ((b : Bool) → coming_on c o b ≡ None) × NotComing c os

quiet_onto : (c place : ℕ) (os : List Occurrence) (past : List Placed) → NotComing c os
    → arrivals c (marked (occurrences (onto place os past))) ≡ arrivals c (marked (occurrences past))
quiet_onto c place [] past quiet = refl
quiet_onto c place (o ∷ os) past quiet = search (arith, quiet_onto c place os ((place, o) ∷ past) quiet.1)

quiet_once : (c : ℕ) (b : Bool) (o : Occurrence) → ((x : Bool) → coming_on c o x ≡ None) → NotComing c (once b o)
quiet_once c b o h3 = grind (arith, nat_tests)

quiet_comes : (c d : ℕ) (gained : List Coming) → (d == c) ≡ false → NotComing c (map (Comes d) gained)
quiet_comes c d [] off = tt
quiet_comes c d (x ∷ gained) off = (λ b. rw off refl, quiet_comes c d gained off)

below_apart : (c d n : ℕ) → d < n → n ≤ c → (d == c) ≡ false
below_apart c d n lt le = ne_eqb d c (λ at. omega (arith, at, lt, le))

quiet_at : (plans : List PlanRecord) (opened : List ℕ) (e : Event) (es : Before) (os : List Occurrence) (c : ℕ) → connections opened es ≤ c
    → OccursAt plans opened e es os → NotComing c os
quiet_at plans opened e es os c h6 h7 = grind (arith, nat_tests, quiet_once, quiet_comes, below_apart, ltb-true, shut_deaf, unborn_open, ltb-false)

pub none_came : (plans : List PlanRecord) (opened : List ℕ) (es : Before) (occurred : List Placed) (c : ℕ) → Occurs plans opened es occurred
    → connections opened es ≤ c → arrivals c (marked (occurrences occurred)) ≡ 0
none_came plans opened [] occurred c is le = rw is refl
none_came plans opened (e ∷ es) occurred c (past, o, (os, at, is)) le =
    let before : connections opened es ≤ c = let grown = connections_grow opened e es in omega (arith, grown, le) in
    ap (λ (x : List Placed). arrivals c (marked (occurrences x))) is
    ∙ quiet_onto c (length es) os past (quiet_at plans opened e es os c before at)
    ∙ none_came plans opened es past c o before

-- nothing is queued for a connection that has just opened
pub none_queued : (plans : List PlanRecord) (opened : List ℕ) (es : Before) (occurred : List Placed) → Occurs plans opened (Opening ∷ es) occurred
    → queued_entries (connections opened es) (marked (occurrences occurred)) ≡ []
none_queued plans opened es occurred (past, o, (os, at, is)) = grind (arith, nat_tests, quiet_onto, quiet_at, none_came)

pub born_queue : (h : History) (below : (place : ℕ) → succeeds h.opened place ≡ true → place < length h.events) (plans : List PlanRecord) (later : List Placed)
    → Occurs plans (more h below) (Opening ∷ h.events) later → queued_entries (connections h.opened h.events) (marked (occurrences later)) ≡ []
born_queue h below plans later all =
    subst (λ n. queued_entries n (marked (occurrences later)) ≡ []) (as_many h below) (none_queued plans (more h below) h.events later all)
