-- How a step turns a connection, and how it grows.
use Rattle.std.specs.Prelude.{◌≡◌, ◌<◌, ◌∷◌, ◌++◌, ◌==◌, ◌||◌, if◌then◌else◌, ◌&&◌}
use Rattle.gateway_theory.specs.lemmas.Names.{ℕ, suc, Bool, true, false, List, [], length, Option, None, Some, refl, sym, ap, ◌∙◌, subst, append_assoc, arith, nat_tests, nat_lt, not, append-nil, All-get_or, Outcome, IsPrefixOf, front, ReplyEntry, CallId, KeptValue, is_broken_value, is_open_value, untaken_value, HeldConnection, connection_of, GatewayValue, conn_of, value_of, Step, kept_at, no_call, Trigger, filled, Forgets, Holds, broken_held, ended_entry, ended_held, entered_held, forgotten, lost_held, result_in, settled_held, stays, stepped_held, left_of, option_map_or, eqb-true, lt-ltb, if_open, Moves}
use Rattle.gateway_theory.specs.lemmas.HeldValues.{late_step, replied_rest, replied_slots}
use Rattle.gateway_theory.specs.lemmas.Broadcast.{filled_none}
use Rattle.gateway_theory.specs.lemmas.Moving.{dead_call}

-- ---- slots

front_behind : (slots more : List (Option ReplyEntry)) → IsPrefixOf (front slots) (front (slots ++ more))
front_behind [] more = (front more, refl)
front_behind (None ∷ slots) more = ([], refl)
front_behind (Some x ∷ slots) more = let later = front_behind slots more in (later.0, ap (λ xs. x ∷ xs) later.1)

front_filled : (reply : ℕ → Option ReplyEntry) (n : ℕ) (slots : List (Option ReplyEntry)) → IsPrefixOf (front slots) (front (filled reply n slots))
front_filled reply n [] = ([], refl)
front_filled reply n (None ∷ slots) = (front (filled reply n (None ∷ slots)), refl)
front_filled reply n (Some x ∷ slots) = let later = front_filled reply (suc n) slots in (later.0, ap (λ xs. x ∷ xs) later.1)

-- ---- a connection

pub record Grown (k l : HeldConnection) : Type 0 where
  pub closed_is : l.closed ≡ k.closed
  pub stays_broken : k.broken ≡ true → l.broken ≡ true
  pub replies_stay : IsPrefixOf (front k.slots) (front l.slots)
  pub replies_same : k.broken ≡ true → front l.slots ≡ front k.slots

-- its slots are the same
pub grown_same : (k l : HeldConnection) → l.closed ≡ k.closed → (k.broken ≡ true → l.broken ≡ true) → l.slots ≡ k.slots → Grown k l
grown_same k l closed_is stays_broken slots_are = grind (arith, nat_tests, append-nil)

pub grown_then : (j k l : HeldConnection) → Grown j k → Grown k l → Grown j l
grown_then j k l a b = grind (arith, nat_tests, append_assoc)

pub grown_broken : (k : HeldConnection) → Grown k (broken_held k)
grown_broken k = grown_same k (broken_held k) refl (λ e. refl) refl

pub grown_forgotten : (id : CallId) (k l : HeldConnection) → Forgets id k l → Grown k l
grown_forgotten id k l (stays spent is) = grown_same k l (ap (λ (x : HeldConnection). x.closed) is) (λ e. ap (λ (x : HeldConnection). x.broken) is ∙ e) (ap (λ (x : HeldConnection). x.slots) is)
grown_forgotten id k l (forgotten spent is) = grown_same k l (ap (λ (x : HeldConnection). x.closed) is) (λ e. ap (λ (x : HeldConnection). x.broken) is ∙ e) (ap (λ (x : HeldConnection). x.slots) is)

pub grown_lost : (i branch : ℕ) (k : HeldConnection) → Grown k (lost_held i branch k)
grown_lost i branch k = grown_same k (lost_held i branch k) refl (λ e. refl) refl

-- slots are filled, but for one that is broken
grown_filled : (reply : ℕ → Option ReplyEntry) (k : HeldConnection) → (k.broken ≡ true → (r : ℕ) → reply r ≡ None) → Grown k (record k { slots = filled reply k.taken k.slots })
grown_filled reply k none = grind (arith, nat_tests, front_filled, filled_none)

-- of one that is broken no call ends
none_ended : (t : Trigger) (k : HeldConnection) → Holds k → k.broken ≡ true → (r : ℕ) → ended_entry t k r ≡ None
none_ended t k h broke_now r = grind (arith, nat_tests, dead_call)

pub grown_ended : (t : Trigger) (k : HeldConnection) → Holds k → Grown k (ended_held t k)
grown_ended t k h = grown_then k (record k { slots = filled (ended_entry t k) k.taken k.slots }) (ended_held t k) (grown_filled (ended_entry t k) k (none_ended t k h))
    (grown_same (record k { slots = filled (ended_entry t k) k.taken k.slots }) (ended_held t k) refl (λ e. e) refl)

-- a call of it made its step
pub grown_settled : (moment i branch : ℕ) (outcome : Outcome) (k : HeldConnection) → i < length k.calls → Holds k → Grown k (settled_held i (result_in moment i branch outcome k) k)
grown_settled moment i branch outcome k lt h = grown_then k (stepped_held i s k) (settled_held i s k) (grown_same k (stepped_held i s k) refl (λ e. e) refl)
    (subst (Grown (stepped_held i s k)) (sym (replied_rest (kept_at i k.calls).id.request s.reply (stepped_held i s k) ∙ ap (λ slots. record (stepped_held i s k) { slots = slots }) (replied_slots (kept_at i k.calls).id.request s.reply (stepped_held i s k))))
    (grown_filled (λ r. if (kept_at i k.calls).id.request == r then s.reply else None) (stepped_held i s k) (λ e r. none e ((kept_at i k.calls).id.request == r))))
  where
    s : Step
    s = result_in moment i branch outcome k

    none : k.broken ≡ true → (b : Bool) → (if b then s.reply else None) ≡ None
    none e false = refl
    none e true =
        let dead : (kept_at i k.calls).call.live ≡ None = All-get_or (λ (c : KeptValue). c.call.live ≡ None) k.calls i no_call lt (h.dead (ap (λ b. k.closed || b) e ∙ or_true k.closed)) in
        ap (λ (x : Step). x.reply) (late_step moment branch outcome i k dead)
      where
        or_true : (b : Bool) → (b || true) ≡ true
        or_true true = refl
        or_true false = refl

-- something comes on one that is not broken
pub grown_entered : (s : Step) (k : HeldConnection) → k.broken ≡ false → Grown k (entered_held s k)
grown_entered s k whole = grind (arith, nat_tests, front_behind)

-- ---- the words, by what is kept under a number where so many were opened

abbrev pub silent_at : ℕ → ℕ → Option HeldConnection → Bool
silent_at n c o = nat_lt c n && option_map_or (λ (k : HeldConnection). k.broken) (if_open o) true

abbrev pub broken_at : ℕ → ℕ → Option HeldConnection → Bool
broken_at n c o = is_broken_value n c (value_of n c o)

abbrev pub untaken_at : ℕ → ℕ → Option HeldConnection → List ReplyEntry
untaken_at n c o = untaken_value n c (value_of n c o)

-- what is kept of a connection from the one to the other
pub record Turns (n m c : ℕ) (o p : Option HeldConnection) : Type 0 where
  pub silent : silent_at n c o ≡ true → silent_at m c p ≡ true
  pub broken : broken_at n c o ≡ true → broken_at m c p ≡ true
  pub replies : IsPrefixOf (untaken_at n c o) (untaken_at m c p)
  pub replies_same : silent_at n c o ≡ true → untaken_at m c p ≡ untaken_at n c o

pub turns_same : (n c : ℕ) (o p : Option HeldConnection) → p ≡ o → Turns n n c o p
turns_same n c o p is = subst (Turns n n c o) (sym is) (record { silent = λ e. e; broken = λ e. e; replies = ([], sym (append-nil (untaken_at n c o))); replies_same = λ e. refl })

pub turns_born : (n m c : ℕ) (o : Option HeldConnection) → nat_lt c m ≡ nat_lt c n → Turns n m c o o
turns_born n m c o is = grind (arith, nat_tests, append-nil)

-- ---- one that is kept

pub silent_some : (n c : ℕ) (k : HeldConnection) → silent_at n c (Some k) ≡ (nat_lt c n && (k.closed || k.broken))
silent_some n c k = grind arith

and_right : (a b : Bool) → (a && b) ≡ true → b ≡ true
and_right true b e = e
and_right false b e = absurd (cc)

module _ (n c : ℕ) (k l : HeldConnection) (g : Grown k l) where
  stays_off : (a : Bool) → (k.closed || k.broken) ≡ true → (l.closed || l.broken) ≡ true
  stays_off a e = grind arith

  open_same : is_open_value n c (connection_of l) ≡ is_open_value n c (connection_of k)
  open_same = ap (λ b. nat_lt c n && not b) g.closed_is

  -- it became another
  pub turns_grown : Turns n n c (Some k) (Some l)
  turns_grown = grind (arith, nat_tests, silent_some, stays_off, and_right, open_same)

  -- .. and is gone, or not
  pub turns_left : c < n → Turns n n c (Some k) (left_of l)
  turns_left born = grind (arith, nat_tests, turns_grown, lt-ltb)

-- ---- the words of the gateway

-- each connection, where one of them made a step
module _ (c : ℕ) (now : Option HeldConnection) (v w : GatewayValue) (m : Moves c now v w) (opened_is : w.opened ≡ v.opened) (here : Turns v.opened v.opened c (conn_of c v) now) where
  pub turns_moved : (d : ℕ) → Turns v.opened w.opened d (conn_of d v) (conn_of d w)
  turns_moved d = subst (λ n. Turns v.opened n d (conn_of d v) (conn_of d w)) (sym opened_is) (by (c == d) refl)
    where
      by : (b : Bool) → (c == d) ≡ b → Turns v.opened v.opened d (conn_of d v) (conn_of d w)
      by true at = subst (λ n. Turns v.opened v.opened n (conn_of n v) (conn_of n w)) (eqb-true c d at) (subst (Turns v.opened v.opened c (conn_of c v)) (sym m.here) here)
      by false ne = turns_same v.opened d (conn_of d v) (conn_of d w) (m.others d ne)
