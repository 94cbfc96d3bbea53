-- What an event leaves alone of the connections and their streams.
use Rattle.std.specs.Prelude.{◌≡◌, ◌∷◌, if◌then◌else◌, ◌&&◌, ◌||◌, ◌==◌}
use Rattle.gateway_theory.specs.lemmas.Names.{ℕ, Bool, true, false, List, [], refl, sym, ap, ◌∙◌, arith, subst, nat_tests, not, nat_lt, ltb-false, eqb-true, Before, connections, hung_up, is_closing_of, is_hang_up_of, is_open, listens, piece_of, stream, Event, Occurrence, next, Now, went, ConnectionValue, is_open_value, HasStreams, StreamStands, StreamValue, is_heard}
use Rattle.std.proofs.Common.{append-nil}
use Rattle.gateway_theory.specs.lemmas.ConnectionSteps.{filled_size}
use Rattle.gateway_theory.specs.lemmas.Cases.{and_true, and_false, or_false, or_true}
use Rattle.gateway_theory.specs.lemmas.CutLemmas.{open_known}
use Rattle.gateway_model.specs.declared.event.Event.TheVariants.{Closing, HangUp}
use Rattle.gateway_theory.specs.Connection.{closes}

-- ---- what an event leaves alone

pub open_after : (opened : List ℕ) (c : ℕ) (e : Event) (es : Before) → connections opened (e ∷ es) ≡ connections opened es
    → is_open opened c (e ∷ es) ≡ (is_open opened c es && not (is_closing_of c e))
open_after opened c e es same = grind (arith, nat_tests, open_known, ltb-false)

pub open_still : (opened : List ℕ) (c : ℕ) (e : Event) (es : Before) → connections opened (e ∷ es) ≡ connections opened es → is_closing_of c e ≡ false
    → is_open opened c (e ∷ es) ≡ is_open opened c es
open_still opened c e es same not_closed = open_after opened c e es same ∙ ap (λ k. is_open opened c es && not k) not_closed ∙ and_true (is_open opened c es)

pub hung_still : (opened : List ℕ) (c : ℕ) (e : Event) (es : Before) → is_hang_up_of c e ≡ false → hung_up opened c (e ∷ es) ≡ hung_up opened c es
hung_still opened c e es other = ap (λ b. hung_up opened c es || (is_open opened c es && b)) other ∙ ap (λ b. hung_up opened c es || b) (and_false (is_open opened c es)) ∙ or_false (hung_up opened c es)

pub text_still : (opened : List ℕ) (c : ℕ) (e : Event) (es : Before) → piece_of c e ≡ [] → stream opened c (e ∷ es) ≡ stream opened c es
text_still opened c e es none = grind (arith, nat_tests, append-nil)

-- the event neither opens, nor closes, nor hangs up, nor brings a piece
pub record IsPlain (opened : List ℕ) (e : Event) (es : Before) : Type 0 where
  pub opens_none : connections opened (e ∷ es) ≡ connections opened es
  pub closes_none : (c : ℕ) → is_closing_of c e ≡ false
  pub hangs_none : (c : ℕ) → is_hang_up_of c e ≡ false
  pub brings_none : (c : ℕ) → piece_of c e ≡ []

-- ---- connections whose pieces are taken

pub going_parts : (a b : Bool) → (not a && not b) ≡ true → (a ≡ false) × (b ≡ false)
going_parts a b is = grind (arith, nat_tests)

-- no request came more, and it is as closed as it was; it may have broken
pub record Stays (v w : ConnectionValue) : Type 0 where
  pub closed_is : w.closed ≡ v.closed
  pub broken_was : w.broken ≡ false → v.broken ≡ false
  pub next_is : next w ≡ next v

pub stays_itself : (v : ConnectionValue) → Stays v v
stays_itself v = record { closed_is = refl; broken_was = λ e. e; next_is = refl }

pub stays_then : (u v w : ConnectionValue) → Stays u v → Stays v w → Stays u w
stays_then u v w g h = record { closed_is = h.closed_is ∙ g.closed_is; broken_was = λ e. g.broken_was (h.broken_was e); next_is = h.next_is ∙ g.next_is }

whole_before : (closes_now breaks_now broken : Bool) → closes_now ≡ false → (not closes_now && (breaks_now || broken)) ≡ false → broken ≡ false
whole_before closes_now breaks_now broken is also = grind (arith, nat_tests)

open_part : (a b : Bool) → (a && not b) ≡ true → b ≡ false
open_part a b is = grind (arith, nat_tests)

-- one that is open is not closed
pub unclosed : (count c : ℕ) (v : ConnectionValue) → is_open_value count c v ≡ true → v.closed ≡ false
unclosed count c v there = open_part (nat_lt c count) v.closed there

-- a step at which nothing comes, and which does not close it
pub went_stays : (n : Now) (o : Occurrence) (v : ConnectionValue) → closes v.number o ≡ false → Stays v (went n o v)
went_stays n o v still = grind (arith, nat_tests, whole_before, filled_size)

-- events by which a connection is open and hung up, and its text, as by those before
module _ (opened later : List ℕ) (es fs : Before) (count total c : ℕ) (v w : ConnectionValue) (s : StreamValue) (g : Stays v w) (h : StreamStands opened es count c v s)
    (count_same : nat_lt c total ≡ nat_lt c count) (open_same : is_open later c fs ≡ is_open opened c es)
    (hung_same : hung_up later c fs ≡ hung_up opened c es) (text_same : stream later c fs ≡ stream opened c es) where
  value_same : is_open_value total c w ≡ is_open_value count c v
  value_same = ap (λ b. b && not w.closed) count_same ∙ ap (λ b. nat_lt c count && not b) g.closed_is

  pub stream_stays : StreamStands later fs total c w s
  stream_stays = grind arith

-- an event of no connection's stream
pub streams_stay : (opened : List ℕ) (e : Event) (es : Before) (count : ℕ) (conns later : ℕ → ConnectionValue) (streams : ℕ → StreamValue) → IsPlain opened e es
    → ((c : ℕ) → Stays (conns c) (later c)) → HasStreams opened es count conns streams → HasStreams opened (e ∷ es) count later streams
streams_stay opened e es count conns later streams plain g h = grind (arith, nat_tests, stream_stays, open_still, hung_still, text_still)

-- pieces of its stream are taken by the definitions too
pub is_listening : (opened : List ℕ) (es : Before) (count c : ℕ) (v : ConnectionValue) (s : StreamValue) → StreamStands opened es count c v s
    → is_open_value count c v ≡ true → is_heard v s ≡ true → listens opened c es ≡ true
is_listening opened es count c v s h there on = grind arith

-- ---- a hang-up

abbrev pub hung_if : Bool → StreamValue → StreamValue
hung_if b s = if b then record s { hung_up = true } else s

-- of that connection, which is open
hung_each : (opened : List ℕ) (n : ℕ) (es : Before) (count c : ℕ) (v w : ConnectionValue) (s : StreamValue) → Stays v w → StreamStands opened es count c v s → (b : Bool) → (n == c) ≡ b
    → StreamStands opened (HangUp n ∷ es) count c w (hung_if b s)
hung_each opened n es count c v w s g h false is =
    stream_stays opened opened es (HangUp n ∷ es) count count c v w s g h refl (open_still opened c (HangUp n) es refl refl) (hung_still opened c (HangUp n) es is) (text_still opened c (HangUp n) es refl)
hung_each opened n es count c v w s g h true is = record {
  unopened = λ new. let u = h.unopened new in (g.next_is ∙ u.0, g.closed_is ∙ u.1);
  open_is = open_still opened c (HangUp n) es refl refl ∙ h.open_is ∙ sym value_same;
  hung_is = λ there on. sym (ap (λ b. hung_up opened c es || (b && (n == c))) (h.open_is ∙ sym value_same ∙ there) ∙ ap (λ b. hung_up opened c es || b) is ∙ or_true (hung_up opened c es));
  has_come = λ there on. absurd (let clash : true ≡ false = (going_parts w.broken true on).1 in cc);
}
  where
    value_same : is_open_value count c w ≡ is_open_value count c v
    value_same = ap (λ b. nat_lt c count && not b) g.closed_is

pub streams_hung : (opened : List ℕ) (n : ℕ) (es : Before) (count : ℕ) (conns later : ℕ → ConnectionValue) (streams : ℕ → StreamValue)
    → ((c : ℕ) → Stays (conns c) (later c)) → HasStreams opened es count conns streams → HasStreams opened (HangUp n ∷ es) count later (λ c. hung_if (n == c) (streams c))
streams_hung opened n es count conns later streams g h = record {
  below = λ place its. let lt = h.below place its in omega (arith, lt);
  count_is = h.count_is;
  each = λ c. hung_each opened n es count c (conns c) (later c) (streams c) (g c) (h.each c) (n == c) refl;
}

-- ---- a closing

-- of that connection, which was open
closed_each : (opened : List ℕ) (n : ℕ) (es : Before) (count c : ℕ) (v w : ConnectionValue) (s : StreamValue) → StreamStands opened es count c v s → (b : Bool) → (n == c) ≡ b
    → (b ≡ true → (is_open_value count c v ≡ true) × (w.closed ≡ true)) → (b ≡ false → w ≡ v) → StreamStands opened (Closing n ∷ es) count c w s
closed_each opened n es count c v w s h false is shuts other =
    stream_stays opened opened es (Closing n ∷ es) count count c v w s (subst (λ x. Stays v x) (sym (other refl)) (stays_itself v)) h refl
    (open_still opened c (Closing n) es refl is) (hung_still opened c (Closing n) es refl) (text_still opened c (Closing n) es refl)
closed_each opened n es count c v w s h true is shuts other = grind arith

pub streams_closed : (opened : List ℕ) (n : ℕ) (es : Before) (count : ℕ) (conns later : ℕ → ConnectionValue) (streams : ℕ → StreamValue)
    → ((c : ℕ) → (n == c) ≡ true → (is_open_value count c (conns c) ≡ true) × ((later c).closed ≡ true)) → ((c : ℕ) → (n == c) ≡ false → later c ≡ conns c)
    → HasStreams opened es count conns streams → HasStreams opened (Closing n ∷ es) count later streams
streams_closed opened n es count conns later streams shuts other h = record {
  below = λ place its. let lt = h.below place its in omega (arith, lt);
  count_is = h.count_is;
  each = λ c. closed_each opened n es count c (conns c) (later c) (streams c) (h.each c) (n == c) refl (shuts c) (other c);
}

-- of one that is not open
pub streams_unclosed : (opened : List ℕ) (n : ℕ) (es : Before) (count : ℕ) (conns : ℕ → ConnectionValue) (streams : ℕ → StreamValue) → is_open_value count n (conns n) ≡ false
    → HasStreams opened es count conns streams → HasStreams opened (Closing n ∷ es) count conns streams
streams_unclosed opened n es count conns streams shut h = record {
  below = λ place its. let lt = h.below place its in omega (arith, lt);
  count_is = h.count_is;
  each = λ c. stream_stays opened opened es (Closing n ∷ es) count count c (conns c) (conns c) (streams c) (stays_itself (conns c)) (h.each c) refl
      (open_after opened c (Closing n) es refl ∙ by c (n == c) refl) (hung_still opened c (Closing n) es refl) (text_still opened c (Closing n) es refl);
}
  where
    by : (c : ℕ) (b : Bool) → (n == c) ≡ b → (is_open opened c es && not (n == c)) ≡ is_open opened c es
    by c true is =
        let off : is_open opened c es ≡ false = ap (λ m. is_open opened m es) (sym (eqb-true n c is)) ∙ (h.each n).open_is ∙ shut in
        ap (λ b. b && not (n == c)) off ∙ sym off
    by c false is = ap (λ b. is_open opened c es && not b) is ∙ and_true (is_open opened c es)
