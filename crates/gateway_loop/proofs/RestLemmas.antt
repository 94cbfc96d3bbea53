-- What it tells that a test answers true.
use Rattle.gateway_loop.proofs.Words.{◌≡◌, ℕ, zero, suc, ◌+◌, ◌≤◌, Bool, true, false, ◌||◌, option_map, List, [], ◌∷◌, ◌++◌, map, Option, None, Some, refl, sym, ap, ◌∙◌, subst, arith, inl, inr, length, append-nil, count_by, sum_by-cons, is_some, not, slice_index_or, ◌==◌, entries_from, ClientValue, AskingValue, AskingState, GatewayValue, WholeLoop, asked_at, asked_for, shown, IsPrefixOf, request_of, Contains, SocketAddr, got_for, StreamValue, Manner, KeptValue, IsKept, All}
use Rattle.std.proofs.lemmas.Bool.{eqb-true, leb-true, ltb-false}
use Rattle.std.proofs.lemmas.Bool.Decides.{nat_tests}
use Rattle.std.proofs.lemmas.List.{length-append, nil_from_length}
use Rattle.std.specs.Prelude.{nat_le, nat_lt, ◌&&◌, ◌*◌, ◌/◌, ◌%◌, if◌then◌else◌}
use Rattle.std.specs.List.{list_all}
use Rattle.branch_asking.specs.Asking.{got_by, until_of}
use Rattle.branch_asking.specs.Rests.{is_sent, rests_watched}
use Rattle.gateway_model.specs.Known.{Shown}
use Rattle.loop_model.specs.Rest.{AtMost, IsWatched, IsWritten, RestsAsking, RestsClient, RestsKept}
use Rattle.gateway_loop.proofs.AskLemmas.{shown_at}
use Rattle.gateway_loop.proofs.FairLemmas.{HasUntouched}
use Rattle.gateway_loop.proofs.NameLemmas.{among_there}
use Rattle.gateway_loop.specs.Names.{is_among}
use Rattle.gateway_loop.specs.NextTurns.{due_by}
use Rattle.gateway_loop.specs.Rests.{WaitsForPlace, is_at_most, is_clients, is_exchanges, is_named, is_watched, is_watched_as, is_written, rests_asking, rests_client, waits_client}
use Rattle.gateway_loop.specs.declared.next_turn.NextTurn.TheVariants.{AtOnce, At, Never}

pub both_true : (a b : Bool) → (a && b) ≡ true → (a ≡ true) × (b ≡ true)
both_true true b h = (refl, h)
both_true false b h = search arith

-- where all have the property, whoever is there has it
pub all_there : {A : Type 0} (p : ℕ × A → Bool) (key : ℕ) (slots : List (Option A)) → list_all p (entries_from key slots) ≡ true
    → (i : ℕ) (x : A) → slice_index_or slots i None ≡ Some x → p (key + i, x) ≡ true
all_there {A} p key [] all i x is = absurd (nobody is)
  where
    nobody : None ≡ Some x → ⊥
    nobody e = cc
all_there {A} p key (None ∷ rest) all zero x is = absurd (nobody is)
  where
    nobody : None ≡ Some x → ⊥
    nobody e = cc
all_there {A} p key (None ∷ rest) all (suc i) x is = subst (λ (n : ℕ). p (n, x) ≡ true) (omega arith) (all_there p (key + 1) rest all i x is)
all_there {A} p key (Some y ∷ rest) all zero x is = subst (λ (n : ℕ). p (n, x) ≡ true) (omega arith) (subst (λ (z : A). p (key, z) ≡ true) (some_is is) (both_true _ _ all).0)
  where
    some_is : Some y ≡ Some x → y ≡ x
    some_is e = cc
all_there {A} p key (Some y ∷ rest) all (suc i) x is = subst (λ (n : ℕ). p (n, x) ≡ true) (omega arith) (all_there p (key + 1) rest (both_true _ _ all).1 i x is)

pub at_most : (until limit : Option ℕ) → is_at_most until limit ≡ true → AtMost until limit
at_most until None h = tt
at_most None (Some limit) h = search arith
at_most (Some until) (Some limit) h = search (arith, nat_tests)

-- ---- a client

not_true : (a : Bool) → not a ≡ true → a ≡ false
not_true a h = search arith

or_swap : (a : Bool) → (a || false) ≡ true → (false || a) ≡ true
or_swap true h = refl
or_swap false h = h

one_true : (a b : Bool) → (a || b) ≡ true → a ≡ false → b ≡ true
one_true a b h off = search arith

none_long : {A : Type 0} (xs : List A) → (length xs == 0) ≡ true → xs ≡ []
none_long [] h = refl
none_long (x ∷ xs) h = search (arith, nat_tests)

on_off : {A : Type 0} (b : Bool) → b ≡ true → b ≡ false → A
on_off b on off = absurd (let clash : true ≡ false = sym on ∙ off in let f : ⊥ = cc in f)

written_all : (s : Shown) (x : ClientValue) → is_written s x ≡ true → IsWritten s x
written_all s x h = let b = both_true _ _ h in record { nothing_waits = none_long x.waiting b.0; nothing_untaken = none_long (s.untaken x.conn) b.1 }

all_written : (s : Shown) (x : ClientValue) → IsWritten s x → is_written s x ≡ true
all_written s x w = rw (w.nothing_waits, w.nothing_untaken) refl

-- who is watched by a token is watched by that of its place
token_of : (token place : ℕ) → is_clients token place ≡ true → token ≡ 2 * place
token_of token place h = let b = both_true (token % 2 == 0) (token / 2 == place) h in search (arith, eqb-true (token % 2) 0 b.0, eqb-true (token / 2) place b.1)

exchange_of : (token place : ℕ) → is_exchanges token place ≡ true → token ≡ 2 * place + 1
exchange_of token place h = let b = both_true (token % 2 == 1) (token / 2 == place) h in search (arith, eqb-true (token % 2) 1 b.0, eqb-true (token / 2) place b.1)

watched_as : (place : ℕ) (o : Option (ℕ × Bool)) → is_watched place o ≡ true → IsWatched (2 * place) o
watched_as place None h = absurd (let clash : false ≡ true = h in let f : ⊥ = cc in f)
watched_as place (Some w) h =
    let b = both_true _ _ h in
    ap (λ (t : ℕ). Some (t, w.1)) (token_of w.0 place b.1) ∙ ap (λ (for_writes : Bool). Some (2 * place, for_writes)) b.0

module _ (s : Shown) (until : Option ℕ) (i : ℕ) (x : ClientValue) (watched : IsWatched (2 * i) x.watched) where
  lingers_rests : x.lingers ≡ true → (not x.ended && (not x.reads && (is_some x.until && is_at_most until x.until))) ≡ true → RestsClient s until i x
  lingers_rests on h =
      let a = both_true _ _ h in
      let b = both_true _ _ a.1 in
      let c = both_true _ _ b.1 in record {
        watched = watched;
        written = λ off. on_off x.lingers on off;
        goes_on = λ off w. on_off x.lingers on off;
        unread = λ off w goes. on_off x.lingers on off;
        dropped = λ l. (not_true x.ended a.0, not_true x.reads b.0);
        limited = λ l. (c.0, at_most until x.until c.1);
      }

  written_rests : x.lingers ≡ false → is_written s x ≡ true → (not (s.is_ended x.conn) && (x.ended || not x.reads)) ≡ true → RestsClient s until i x
  written_rests off w h =
      let a = both_true _ _ h in record {
        watched = watched;
        written = λ l. inl (written_all s x w);
        goes_on = λ l v. not_true (s.is_ended x.conn) a.0;
        unread = λ l v goes. not_true x.reads (one_true x.ended (not x.reads) a.1 goes);
        dropped = λ on. on_off x.lingers on off;
        limited = λ on. on_off x.lingers on off;
      }

  waits_rests : x.lingers ≡ false → is_written s x ≡ false → not x.writes ≡ true → RestsClient s until i x
  waits_rests off w h = record {
    watched = watched;
    written = λ l. inr (not_true x.writes h);
    goes_on = λ l v. on_off (is_written s x) (all_written s x v) w;
    unread = λ l v goes. on_off (is_written s x) (all_written s x v) w;
    dropped = λ on. on_off x.lingers on off;
    limited = λ on. on_off x.lingers on off;
  }

  client_waits : waits_client s until x ≡ true → RestsClient s until i x
  client_waits h = by_it x.lingers refl h
    where
      open_by : (w : Bool) → is_written s x ≡ w → x.lingers ≡ false
          → (if w then not (s.is_ended x.conn) && (x.ended || not x.reads) else not x.writes) ≡ true → RestsClient s until i x
      open_by true is off k = written_rests off is k
      open_by false is off k = waits_rests off is k

      by_it : (b : Bool) → x.lingers ≡ b
          → (if b then not x.ended && (not x.reads && (is_some x.until && is_at_most until x.until))
          else (if is_written s x then not (s.is_ended x.conn) && (x.ended || not x.reads) else not x.writes)) ≡ true
          → RestsClient s until i x
      by_it true is k = lingers_rests is k
      by_it false is k = open_by (is_written s x) refl is k

pub client_rests : (s : Shown) (until : Option ℕ) (i : ℕ) (x : ClientValue) → rests_client s until i x ≡ true → RestsClient s until i x
client_rests s until i x h = let b = both_true _ _ h in client_waits s until i x (watched_as i x.watched b.0) b.1

-- ---- a job that is asked for

nothing_more : (got request : List ℕ) → IsPrefixOf got request → nat_le (length request) (length got) ≡ true → got ≡ request
nothing_more got request begins h =
    let rest = begins.0 in
    let none : rest ≡ [] = nil_from_length rest (by_length (leb_true (length request) (length got) h) (ap (λ (l : List ℕ). length l) begins.1) (length-append got rest)) in
    sym (begins.1 ∙ ap (λ (l : List ℕ). got ++ l) none ∙ append-nil got)
  where
    leb_true : (m n : ℕ) → nat_le m n ≡ true → m ≤ n
    leb_true m n e = leb-true m n e

    by_length : {r g a t : ℕ} → r ≤ g → r ≡ a → a ≡ g + t → t ≡ 0
    by_length le is sum = omega (arith, le, is, sum)

module _ (s : Shown) (until : Option ℕ) (i : ℕ) (x : AskingState) (begins : IsPrefixOf (got_by x.attempt.stream) (request_of x.manner x.job.job)) (untouched : HasUntouched x) where
  abbrev Sent : Bool
  Sent = is_sent x.manner (asked_for x)

  all_sent : Sent ≡ true → got_by x.attempt.stream ≡ request_of x.manner x.job.job
  all_sent h = nothing_more (got_by x.attempt.stream) (request_of x.manner x.job.job) begins h

  read_by : (b : Bool) → x.attempt.connected ≡ b → (got_by x.attempt.stream ≡ [] → ⊥) → (not x.attempt.reads || not b) ≡ true → not x.attempt.reads ≡ true
  read_by true is some h = one_true (not true) (not x.attempt.reads) (or_swap (not x.attempt.reads) h) refl
  read_by false is some h = absurd (some (untouched is))

  -- what its stream, watched so, says of it
  pub record RestsStream (watched : Option (ℕ × Bool)) : Type 0 where
    pub unread : (got_by x.attempt.stream ≡ [] → ⊥) → x.attempt.reads ≡ false
    pub unsent : (got_by x.attempt.stream ≡ request_of x.manner x.job.job → ⊥) → x.attempt.writes ≡ false
    pub watches : is_some x.attempt.stream ≡ true → (writes : Bool) × (watched ≡ Some (2 * i + 1, writes)) × ((got_by x.attempt.stream ≡ request_of x.manner x.job.job → ⊥) → writes ≡ true)

  unsent_by : (b w : Bool) → Sent ≡ b → (b || w) ≡ true → (got_by x.attempt.stream ≡ request_of x.manner x.job.job → ⊥) → w ≡ true
  unsent_by true w is h unsent = absurd (unsent (all_sent is))
  unsent_by false w is h unsent = h

  streams : (watched : Option (ℕ × Bool)) → rests_watched Sent x.attempt watched ≡ true → is_watched_as i watched ≡ true → RestsStream watched
  streams None h k = absurd (let clash : false ≡ true = h in let f : ⊥ = cc in f)
  streams (Some w) h k =
      let b = both_true _ _ h in
      let writes : (got_by x.attempt.stream ≡ request_of x.manner x.job.job → ⊥) → (w.1 && not x.attempt.writes) ≡ true = unsent_by Sent (w.1 && not x.attempt.writes) refl b.1 in record {
        unread = λ some. not_true x.attempt.reads (read_by x.attempt.connected refl some b.0);
        unsent = λ unsent. not_true x.attempt.writes (both_true _ _ (writes unsent)).1;
        watches = λ there. (w.1, ap (λ (t : ℕ). Some (t, w.1)) (exchange_of w.0 i k), λ unsent. (both_true _ _ (writes unsent)).0);
      }

  -- without a stream nothing may be read or written
  nowhere : is_some x.attempt.stream ≡ false → (not x.attempt.reads && not x.attempt.writes) ≡ true → RestsStream x.attempt.watched
  nowhere off h = record {
    unread = λ some. not_true x.attempt.reads (both_true _ _ h).0;
    unsent = λ unsent. not_true x.attempt.writes (both_true _ _ h).1;
    watches = λ there. on_off (is_some x.attempt.stream) there off;
  }

  stream_by : (b : Bool) → is_some x.attempt.stream ≡ b → (if b then rests_watched Sent x.attempt x.attempt.watched else not x.attempt.reads && not x.attempt.writes) ≡ true → is_watched_as i x.attempt.watched ≡ true
      → RestsStream x.attempt.watched
  stream_by true is h k = streams x.attempt.watched h k
  stream_by false is h k = nowhere is h

  pub asking_rests : rests_asking s until i x ≡ true → RestsAsking x.manner s until i (asked_for x)
  asking_rests h =
      let a = both_true _ _ h in
      let b = both_true _ _ a.1 in
      let c = both_true _ _ b.1 in
      let d = both_true _ _ c.1 in
      let e = both_true _ _ a.0 in
      let stream = stream_by (is_some x.attempt.stream) refl e.1 b.0 in record {
        wanted = d.1;
        goes_on = not_true (is_some x.end) e.0;
        limited = (at_most until x.job.job.deadline d.0, at_most until (until_of x.attempt) c.0);
        watched = stream.watches;
        unread = stream.unread;
        unsent = stream.unsent;
      }

-- ---- all of them

shown_none : {A B : Type 0} (f : A → B) (slots : List (Option A)) → count_by is_some (map (λ (o : Option A). option_map f o) slots) ≡ count_by is_some slots
shown_none f [] = refl
shown_none f (None ∷ rest) = search (arith, nat_tests, shown_none f rest)
shown_none f (Some x ∷ rest) = search (arith, nat_tests, shown_none f rest, sum_by-cons)

pub as_many : {A B : Type 0} (f : A → B) (slots : List (Option A)) (n : ℕ) → n ≤ count_by is_some slots
    → n ≤ count_by is_some (map (λ (o : Option A). option_map f o) slots)
as_many f slots n le = rw (shown_none f slots) le

-- each of these was asked for so
pub all_asking : (manner : Manner) (s : Shown) (until : Option ℕ) (slots : List (Option AskingState))
    → ((i : ℕ) (x : AskingValue) → asked_at i (map (λ (o : Option AskingState). option_map asked_for o) slots) ≡ Some x → IsPrefixOf (got_for x) (request_of manner x.job))
    → ((i : ℕ) (x : AskingState) → slice_index_or slots i None ≡ Some x → x.manner ≡ manner)
    → ((i : ℕ) (x : AskingState) → slice_index_or slots i None ≡ Some x → HasUntouched x)
    → ((i : ℕ) (x : AskingState) → slice_index_or slots i None ≡ Some x → rests_asking s until i x ≡ true)
    → (i : ℕ) (x : AskingValue) → asked_at i (map (λ (o : Option AskingState). option_map asked_for o) slots) ≡ Some x → RestsAsking manner s until i x
all_asking manner s until slots begins mannered untouched rest i x is = by_slot (slice_index_or slots i None) refl
  where
    nobody : None ≡ Some x → ⊥
    nobody e = cc

    some_is : (y : AskingValue) → Some y ≡ Some x → y ≡ x
    some_is y e = cc

    by_slot : (o : Option AskingState) → slice_index_or slots i None ≡ o → RestsAsking manner s until i x
    by_slot None at_it = absurd (nobody (sym (shown_at slots i ∙ ap (λ (p : Option AskingState). option_map asked_for p) at_it) ∙ is))
    by_slot (Some y) at_it =
        let same = some_is (asked_for y) (sym (shown_at slots i ∙ ap (λ (p : Option AskingState). option_map asked_for p) at_it) ∙ is) in
        let its = mannered i y at_it in
        subst (λ (z : AskingValue). RestsAsking manner s until i z) same
        (subst (λ (m : Manner). RestsAsking m s until i (asked_for y)) its
        (asking_rests s until i y
        (subst (λ (m : Manner). IsPrefixOf (got_for (asked_for y)) (request_of m y.job.job)) (sym its) (subst (λ (z : AskingValue). IsPrefixOf (got_for z) (request_of manner z.job)) (sym same) (begins i x is)))
        (untouched i y at_it) (rest i y at_it)))

-- .. of the streams that are kept, where none is due
pub kept_rest : (manner : Manner) (until : Option ℕ) (kept : List KeptValue) → All (IsKept manner) kept → All (λ (x : KeptValue). AtMost until (Some x.until)) kept → All (RestsKept until) kept
kept_rest manner until kept are due = λ k d lt. record { watched = (are k d lt).watched; unread = (are k d lt).unread; limited = due k d lt }

-- each of these that has no stream waits for its name
pub all_named : (waits : List (List ℕ)) (slots : List (Option AskingState)) → ((i : ℕ) (x : AskingState) → slice_index_or slots i None ≡ Some x → is_named waits x ≡ true)
    → (i : ℕ) (x : AskingValue) → asked_at i (map (λ (o : Option AskingState). option_map asked_for o) slots) ≡ Some x → x.stream ≡ None → Contains waits x.job.address
all_named waits slots named i x is = by_slot (slice_index_or slots i None) refl
  where
    nobody : None ≡ Some x → ⊥
    nobody e = cc

    some_is : (y : AskingValue) → Some y ≡ Some x → y ≡ x
    some_is y e = cc

    without : (o : Option StreamValue) (b : Bool) → (is_some o || b) ≡ true → o ≡ None → b ≡ true
    without o b h none = sym (ap (λ (p : Option StreamValue). is_some p || b) none) ∙ h

    by_state : (y : AskingState) → is_named waits y ≡ true → (asked_for y).stream ≡ None → Contains waits (asked_for y).job.address
    by_state y h none = among_there y.job.job.address waits (without y.attempt.stream (is_among y.job.job.address waits) h none)

    by_slot : (o : Option AskingState) → slice_index_or slots i None ≡ o → x.stream ≡ None → Contains waits x.job.address
    by_slot None at_it none = absurd (nobody (sym (shown_at slots i ∙ ap (λ (p : Option AskingState). option_map asked_for p) at_it) ∙ is))
    by_slot (Some y) at_it none =
        let same = some_is (asked_for y) (sym (shown_at slots i ∙ ap (λ (p : Option AskingState). option_map asked_for p) at_it) ∙ is) in
        subst (λ (z : AskingValue). z.stream ≡ None → Contains waits z.job.address) same (by_state y (named i y at_it)) none

-- the next turn is due at that moment, or not before something comes
pub due_at : (until : Option ℕ) (now moment : ℕ) → due_by until now ≡ At moment → until ≡ Some moment
due_at None now moment is = absurd (never_at is)
  where
    never_at : Never ≡ At moment → ⊥
    never_at e = cc
due_at (Some limit) now moment is = by_it (nat_le limit now) is
  where
    at_once : AtOnce ≡ At moment → ⊥
    at_once e = cc

    same : At limit ≡ At moment → Some limit ≡ Some moment
    same e = cc

    by_it : (b : Bool) → (if b then AtOnce else At limit) ≡ At moment → Some limit ≡ Some moment
    by_it true e = absurd (at_once e)
    by_it false e = same e

pub due_never : (until : Option ℕ) (now : ℕ) → due_by until now ≡ Never → until ≡ None
due_never None now is = refl
due_never (Some limit) now is = by_it (nat_le limit now) is
  where
    at_once : AtOnce ≡ Never → ⊥
    at_once e = cc

    at_limit : At limit ≡ Never → ⊥
    at_limit e = cc

    by_it : (b : Bool) → (if b then AtOnce else At limit) ≡ Never → Some limit ≡ None
    by_it true e = absurd (at_once e)
    by_it false e = absurd (at_limit e)

-- where none of so many jobs waits
pub none_waits : (w : WholeLoop) (core : GatewayValue) (n : ℕ) → core ≡ w.side.core → n ≡ length (shown core).waiting → nat_lt 0 n ≡ false → WaitsForPlace w
none_waits w core n same count none =
    let least = ltb-false 0 n none in
    inl (nil_from_length (shown w.side.core).waiting (omega (arith, least, count, ap (λ (v : GatewayValue). length (shown v).waiting) same)))
