-- Contexts over the list of operations, newest first (Go package `context`). Times are milliseconds.
use Rattle.std.specs.Prelude.{ℕ, ◌+◌, min, Bool, true, false, ◌&&◌, ◌||◌, not, ◌==◌, nat_le, nat_lt, if◌then◌else◌, is_some, ◌≡◌, List, [], ◌∷◌, length, filter, Option, Some, None, option_map, option_and_then}
use Rattle.std.specs.List.{list_any}
use Rattle.std.specs.Option.{option_or, option_map_or}
use Rattle.context_tree.specs.declared.error.CtxErr.{CtxErr}
use Rattle.context_tree.specs.declared.error.CtxErr.TheVariants.{Canceled, DeadlineExceeded}
use Rattle.context_tree.specs.declared.error.Cause.{Cause}
use Rattle.context_tree.specs.declared.error.Cause.TheVariants.{Given, Plain}
use Rattle.context_tree.specs.declared.node.Due.{Due}
use Rattle.context_tree.specs.declared.node.Kind.{Kind}
use Rattle.context_tree.specs.declared.node.Kind.TheVariants.{Background, Cancel, Deadline, Value, WithoutCancel}

-- the id of a context: its number by creation, and the slot that it is kept in
abbrev pub Id : Type 0
Id = ℕ × ℕ

-- the ids are equal
abbrev pub same : Id → Id → Bool
same a b = (a.0 == b.0) && (a.1 == b.1)

-- What is done to a tree: a context of that id is made in that way, at that moment where it is made with a deadline; one
-- is cancelled, for a cause if one is given; a moment is handed in; an ended one is handed out; one is released. A refused
-- call, and a cancel that ends nothing, is none of these.
pub data TreeOp (C V : Type 0) : Type 0 where
  Makes : Id → Kind C V → ℕ → TreeOp C V
  Cancels : Id → Option C → TreeOp C V
  Advances : ℕ → TreeOp C V
  HandsOut : Id → TreeOp C V
  Releases : Id → TreeOp C V

-- a context and how it was made
abbrev pub Member : Type 0 → Type 0 → Type 0
Member C V = Id × Kind C V

-- the lesser of two times, either of which may be absent
abbrev pub sooner : Option ℕ → Option ℕ → Option ℕ
sooner None b = b
sooner (Some a) None = Some a
sooner (Some a) (Some b) = Some (min a b)

-- what ended a context: the error and the cause, the context whose cancel or deadline it was (the context itself, where
-- its own making ended it), and how many operations came before
pub record Ended (C : Type 0) : Type 0 where
  pub error : CtxErr
  pub cause : Cause C
  pub member : Id
  pub turn : ℕ

module _ {C : Type 0} where
  -- the cause that was given, or the error itself
  abbrev pub cause_or : CtxErr → Option C → Cause C
  cause_or error None = Plain error
  cause_or error (Some cause) = Given cause

  -- the one of the lesser time, and of equal times the second, which was made earlier
  abbrev pub first_of : Option (Due C) → Option (Due C) → Option (Due C)
  first_of None b = b
  first_of (Some a) None = Some a
  first_of (Some a) (Some b) = if nat_le b.at a.at then Some b else Some a

  -- the end by a deadline
  abbrev pub expiry : ℕ → Due C → Ended C
  expiry turn d = record { error = DeadlineExceeded; cause = cause_or DeadlineExceeded d.cause; member = d.member; turn = turn }

  -- the end of one that is made from a context that was ended so
  abbrev pub inherited : ℕ → Id → Ended C → Ended C
  inherited turn id e = record { error = e.error; cause = e.cause; member = id; turn = turn }

  -- Of two ended contexts the one that an earlier operation ended comes first, and within one operation a context before
  -- the others that its cancel or deadline ended.
  abbrev pub precedes : Id → Id → Option (Ended C) → Option (Ended C) → Bool
  precedes a b (Some ea) (Some eb) = nat_lt ea.turn eb.turn || (ea.turn == eb.turn && (same eb.member a && not (same a b)))
  precedes a b _ _ = false

module _ {C V : Type 0} where
  -- the context that one made in this way derives from
  abbrev pub parent_of : Kind C V → Option Id
  parent_of Background = None
  parent_of (Cancel parent) = Some parent
  parent_of (Deadline parent at cause) = Some parent
  parent_of (Value parent key value) = Some parent
  parent_of (WithoutCancel parent) = Some parent

  -- the context whose end is its end too: the parent, but of one made without cancel
  abbrev pub follows : Kind C V → Option Id
  follows Background = None
  follows (Cancel parent) = Some parent
  follows (Deadline parent at cause) = Some parent
  follows (Value parent key value) = Some parent
  follows (WithoutCancel parent) = None

  -- whether a context made in this way can be cancelled
  abbrev pub can_cancel : Kind C V → Bool
  can_cancel Background = false
  can_cancel (Cancel parent) = true
  can_cancel (Deadline parent at cause) = true
  can_cancel (Value parent key value) = false
  can_cancel (WithoutCancel parent) = false

  -- its own deadline
  abbrev pub own_deadline : Kind C V → Option ℕ
  own_deadline Background = None
  own_deadline (Cancel parent) = None
  own_deadline (Deadline parent at cause) = Some at
  own_deadline (Value parent key value) = None
  own_deadline (WithoutCancel parent) = None

  -- how many contexts were made
  abbrev pub makes : List (TreeOp C V) → ℕ
  makes [] = 0
  makes (Makes id kind now ∷ past) = makes past + 1
  makes (Cancels id cause ∷ past) = makes past
  makes (Advances now ∷ past) = makes past
  makes (HandsOut id ∷ past) = makes past
  makes (Releases id ∷ past) = makes past

  -- how the context was made, if it was made and not released since
  abbrev pub held : Id → List (TreeOp C V) → Option (Kind C V)
  held x [] = None
  held x (Makes id kind now ∷ past) = if same id x then Some kind else held x past
  held x (Cancels id cause ∷ past) = held x past
  held x (Advances now ∷ past) = held x past
  held x (HandsOut id ∷ past) = held x past
  held x (Releases id ∷ past) = if same id x then None else held x past

  -- The whole line of parents: the context, its parent, and so on.
  abbrev pub line : Id → List (TreeOp C V) → List (Member C V)
  line x [] = []
  line x (Makes id kind now ∷ past) = if same id x then (id, kind) ∷ option_map_or (λ p. line p past) (parent_of kind) [] else line x past
  line x (Cancels id cause ∷ past) = line x past
  line x (Advances now ∷ past) = line x past
  line x (HandsOut id ∷ past) = line x past
  line x (Releases id ∷ past) = line x past

  -- The chain: the line up to the first context made without cancel or as background.
  abbrev pub chain : Id → List (TreeOp C V) → List (Member C V)
  chain x [] = []
  chain x (Makes id kind now ∷ past) = if same id x then (id, kind) ∷ option_map_or (λ p. chain p past) (follows kind) [] else chain x past
  chain x (Cancels id cause ∷ past) = chain x past
  chain x (Advances now ∷ past) = chain x past
  chain x (HandsOut id ∷ past) = chain x past
  chain x (Releases id ∷ past) = chain x past

  -- the contexts that are held, the newest first
  abbrev pub held_ids : List (TreeOp C V) → List Id
  held_ids [] = []
  held_ids (Makes id kind now ∷ past) = id ∷ held_ids past
  held_ids (Cancels id cause ∷ past) = held_ids past
  held_ids (Advances now ∷ past) = held_ids past
  held_ids (HandsOut id ∷ past) = held_ids past
  held_ids (Releases id ∷ past) = filter (λ x. not (same id x)) (held_ids past)

  -- the context is one of these
  abbrev pub is_member : Id → List (Member C V) → Bool
  is_member t ms = list_any (λ m. same m.0 t) ms

  -- the contexts that are held and derive from that one, at any depth
  abbrev pub descendants : Id → List (TreeOp C V) → List Id
  descendants t past = filter (λ x. not (same x t) && is_member t (line x past)) (held_ids past)

  -- ---- deadlines and values

  -- the least deadline of these
  abbrev pub least : List (Member C V) → Option ℕ
  least [] = None
  least (m ∷ ms) = sooner (own_deadline m.1) (least ms)

  -- The deadline of a context is the least on its chain.
  abbrev pub deadline : Id → List (TreeOp C V) → Option ℕ
  deadline x past = least (chain x past)

  -- the value at a key of a context made in this way
  abbrev pub own_value : ℕ → Kind C V → Option V
  own_value k (Value parent key value) = if key == k then Some value else None
  own_value k _ = None

  -- the value at a key of the first that has one
  abbrev pub nearest : ℕ → List (Member C V) → Option V
  nearest k [] = None
  nearest k (m ∷ ms) = option_or (own_value k m.1) (nearest k ms)

  -- The value of a context at a key is the nearest on the whole line of parents.
  abbrev pub value : Id → ℕ → List (TreeOp C V) → Option V
  value x k past = nearest k (line x past)

  -- ---- endings

  -- its own deadline, if the moment has reached it
  abbrev pub own_due : ℕ → Member C V → Option (Due C)
  own_due now (id, Deadline parent at cause) = if nat_le at now then Some (record { member = id; at = at; cause = cause }) else None
  own_due now _ = None

  -- the deadline on a chain that is least by its time and then by creation, among those that the moment has reached
  abbrev pub first_due : ℕ → List (Member C V) → Option (Due C)
  first_due now [] = None
  first_due now (m ∷ ms) = first_of (own_due now m) (first_due now ms)

  -- the context is one of these, and can be cancelled
  abbrev pub has_cancel : Id → List (Member C V) → Bool
  has_cancel id ms = list_any (λ m. same m.0 id && can_cancel m.1) ms

  -- how an operation ends a context of this chain
  abbrev pub ends : ℕ → List (Member C V) → TreeOp C V → Option (Ended C)
  ends turn ms (Makes id kind now) = None
  ends turn ms (Cancels id cause) = if has_cancel id ms then Some (record { error = Canceled; cause = cause_or Canceled cause; member = id; turn = turn }) else None
  ends turn ms (Advances now) = option_map (expiry turn) (first_due now ms)
  ends turn ms (HandsOut id) = None
  ends turn ms (Releases id) = None

  -- What ended a context, if anything did: its own making, where its parent was ended or its deadline reached, or else the
  -- first operation that ends it.
  abbrev pub ending : Id → List (TreeOp C V) → Option (Ended C)
  ending x [] = None
  ending x (Makes id kind now ∷ past) =
      if same id x
      then option_or
      (option_map (inherited (length past) id) (option_and_then (λ p. ending p past) (follows kind)))
      (option_map (expiry (length past)) (own_due now (id, kind)))
      else ending x past
  ending x (Cancels id cause ∷ past) = option_or (ending x past) (ends (length past) (chain x past) (Cancels id cause))
  ending x (Advances now ∷ past) = option_or (ending x past) (ends (length past) (chain x past) (Advances now))
  ending x (HandsOut id ∷ past) = ending x past
  ending x (Releases id ∷ past) = ending x past

  -- ---- ended contexts are handed out

  -- the context was handed out
  abbrev pub handed : Id → List (TreeOp C V) → Bool
  handed x [] = false
  handed x (Makes id kind now ∷ past) = handed x past
  handed x (Cancels id cause ∷ past) = handed x past
  handed x (Advances now ∷ past) = handed x past
  handed x (HandsOut id ∷ past) = same id x || handed x past
  handed x (Releases id ∷ past) = handed x past

  -- an ended context that is neither released nor handed out
  abbrev pub is_waiting : Id → List (TreeOp C V) → Bool
  is_waiting x past = is_some (held x past) && is_some (ending x past) && not (handed x past)

  -- It waits, and no other that waits precedes it.
  pub record IsFirstDone (x : Id) (past : List (TreeOp C V)) : Type 0 where
    pub waits : is_waiting x past ≡ true
    pub first : (y : Id) → is_waiting y past ≡ true → precedes y x (ending y past) (ending x past) ≡ false

  -- ---- releases

  -- a context that is held derives from it
  pub record HasChild (x : Id) (past : List (TreeOp C V)) : Type 0 where
    pub child : Id
    pub kind : Kind C V
    pub is_held : held child past ≡ Some kind
    pub derives : parent_of kind ≡ Some x
