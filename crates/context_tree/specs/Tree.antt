-- What a tree stands for.
use Rattle.std.specs.Prelude.{◌≡◌, ◌≤◌, ◌+◌, ℕ, ◌^◌, not, nat_le, ◌&&◌, ◌==◌, Bool, true, false, is_some, is_none, if◌then◌else◌, List, [], ◌∷◌, length, slice_index_or, Option, Some, None, option_map, option_and_then, Result, IfOk, IfErr, OnErr}
use Rattle.std.specs.List.{list_any}
use Rattle.std.specs.Option.{option_map_or}
use Rattle.timer_heap.specs.Timers.{Timing}
use Rattle.context_tree.specs.Timed.{Timed}
use Rattle.context_tree.specs.Links.{no_links, bare}
use Rattle.context_tree.specs.declared.error.CtxError.{CtxError}
use Rattle.context_tree.specs.declared.error.CtxError.TheVariants.{Unknown, Exhausted, Memory}
use Rattle.context_tree.specs.declared.node.Kind.{Kind}
use Rattle.context_tree.specs.declared.node.Ending.{Ending}
use Rattle.context_tree.specs.declared.node.Node.{Node}
use Rattle.context_tree.specs.Context.{Id, same, TreeOp, Makes, Cancels, Advances, HandsOut, Releases, Ended, makes, held, parent_of, can_cancel, deadline, ending, is_waiting, precedes, descendants}

-- what contracts see of a tree: the slots, the contexts that are ended and wait to be handed out, the timers, how many
-- contexts were made, and how many the walk of the last cancel looked at
pub record TreeValue (C V : Type 0) : Type 0 where
  pub slots : List (Option (Node C V))
  pub done : List Id
  pub timers : Timing
  pub made : ℕ
  pub visits : ℕ

-- The error of a refused call is this fault, or want of memory where there is no fault.
abbrev pub IsFault : Option CtxError → CtxError → Type 0
IsFault None e = e ≡ Memory
IsFault (Some fault) e = e ≡ fault

-- one of these
abbrev pub is_among : Id → List Id → Bool
is_among x ids = list_any (same x) ids

-- each of these stands in the relation to each that comes later
abbrev pub EachBefore : (Id → Id → Type 0) → List Id → Type 0
EachBefore R [] = Unit {0}
EachBefore R (x ∷ xs) = ((y : Id) → is_among y xs ≡ true → R x y) × EachBefore R xs

module _ {C : Type 0} where
  -- the error and the cause
  abbrev pub told : Ended C → Ending C
  told e = record { error = e.error; cause = e.cause }

module _ {C V : Type 0} where
  -- the node, if it has that number
  abbrev pub numbered : ℕ → Option (Node C V) → Option (Node C V)
  numbered n None = None
  numbered n (Some node) = if node.number == n then Some node else None

  -- the node of an id
  abbrev pub node_at : List (Option (Node C V)) → Id → Option (Node C V)
  node_at slots x = numbered x.0 (slice_index_or slots x.1 None)

  -- the ending of an id's node
  abbrev pub ending_in : List (Option (Node C V)) → Id → Option (Ending C)
  ending_in slots x = option_and_then (λ n. n.ending) (node_at slots x)

  -- the id's node has no ending
  abbrev pub is_live : List (Option (Node C V)) → Id → Bool
  is_live slots x = is_none (ending_in slots x)

  -- the deadline of an id's node
  abbrev pub deadline_in : List (Option (Node C V)) → Id → Option ℕ
  deadline_in slots x = option_and_then (λ n. n.deadline) (node_at slots x)

  -- the node of a context that is held, without its links
  abbrev pub context : Id → List (TreeOp C V) → Option (Node C V)
  context x past =
      option_map
      (λ kind. record { number = x.0; kind = kind; ending = option_map told (ending x past); deadline = deadline x past; links = no_links })
      (held x past)

  -- the parent, if there is one, is held
  abbrev pub ParentHeld : Option Id → List (TreeOp C V) → Type 0
  ParentHeld None past = Unit {0}
  ParentHeld (Some p) past = (kind : Kind C V) × (held p past ≡ Some kind)

  -- contexts are numbered by creation, each is derived from one that is held, those are handed out that wait for it, and
  -- none is released before those that are derived from it
  abbrev pub IsLawful : List (TreeOp C V) → Type 0
  IsLawful [] = Unit {0}
  IsLawful (Makes id kind now ∷ past) = (id.0 ≡ makes past) × ParentHeld (parent_of kind) past × IsLawful past
  IsLawful (Cancels id cause ∷ past) = IsLawful past
  IsLawful (Advances now ∷ past) = IsLawful past
  IsLawful (HandsOut id ∷ past) = (is_waiting id past ≡ true) × IsLawful past
  IsLawful (Releases id ∷ past) = ((x : Id) (kind : Kind C V) → held x past ≡ Some kind → parent_of kind ≡ Some id → ⊥) × IsLawful past

  -- each is known as it was made and not released since
  pub record Keeps (slots : List (Option (Node C V))) (past : List (TreeOp C V)) : Type 0 where
    pub lawful : IsLawful past
    pub kinds_are : (x : Id) → option_map (λ n. n.kind) (node_at slots x) ≡ held x past

  -- each context that is held is known
  pub record KnowsContexts (t : TreeValue C V) (past : List (TreeOp C V)) : Type 0 where
    pub lawful : IsLawful past
    pub made_is : t.made ≡ makes past
    pub nodes_are : (x : Id) → bare (node_at t.slots x) ≡ context x past

  -- two contexts, of which the second does not precede the first
  abbrev pub ComesFirst : List (TreeOp C V) → Id → Id → Type 0
  ComesFirst past x y = (same x y ≡ false) × (precedes y x (ending y past) (ending x past) ≡ false)

  -- those are queued that wait to be handed out, each once and in the order of their endings
  pub record QueuesDone (done : List Id) (past : List (TreeOp C V)) : Type 0 where
    pub are_waiting : (x : Id) → is_among x done ≡ is_waiting x past
    pub in_order : EachBefore (ComesFirst past) done

  -- how many contexts a walk of the last cancel may look at: the cancelled one, and those that derive from it
  abbrev pub most_visits : List (TreeOp C V) → ℕ
  most_visits [] = 0
  most_visits (Makes id kind now ∷ past) = most_visits past
  most_visits (Cancels id cause ∷ past) = 1 + length (descendants id past)
  most_visits (Advances now ∷ past) = most_visits past
  most_visits (HandsOut id ∷ past) = most_visits past
  most_visits (Releases id ∷ past) = most_visits past

  -- The tree stands for the operations, newest first.
  pub record StandsFor (t : TreeValue C V) (past : List (TreeOp C V)) : Type 0 where
    pub contexts : KnowsContexts t past
    pub queue : QueuesDone t.done past
    pub timers : Timed t.timers past
    pub visits_few : t.visits ≤ most_visits past

  -- the context is held, as the slots keep it
  pub record IsKept (slots : List (Option (Node C V))) (x : Id) : Type 0 where
    pub past : List (TreeOp C V)
    pub keeps : Keeps slots past
    pub kind : Kind C V
    pub is_held : held x past ≡ Some kind

  -- some operations lead to it
  abbrev pub IsReached : TreeValue C V → Type 0
  IsReached t = (past : List (TreeOp C V)) × StandsFor t past

  -- ---- what the calls answer

  -- why no context is made from this parent, but for want of memory
  abbrev pub make_fault : Option Id → List (TreeOp C V) → Option CtxError
  make_fault parent past =
      if not (option_map_or (λ p. is_some (held p past)) parent true) then Some Unknown
      else (if nat_le (2 ^ 62) (makes past) then Some Exhausted else None)

  -- the answer of a context that is held; nothing for another
  abbrev pub if_held : {A : Type 0} → Id → List (TreeOp C V) → A → Option A
  if_held x past a = option_map (λ kind. a) (held x past)

  -- a cancel ends the context: it is held, can be cancelled and is not ended
  abbrev pub is_ended_by_cancel : Id → List (TreeOp C V) → Bool
  is_ended_by_cancel x past = option_map_or can_cancel (held x past) false && is_none (ending x past)

  -- ---- what the calls do

  -- the tree stands for all that it stood for
  abbrev pub StandsAsBefore : TreeValue C V → TreeValue C V → Type 0
  StandsAsBefore old new = (past : List (TreeOp C V)) → StandsFor old past → StandsFor new past

  -- a context of that id was made in that way, at that moment where it is made with a deadline; nothing was against it
  abbrev pub IsMade : TreeValue C V → TreeValue C V → Kind C V → ℕ → Id → Type 0
  IsMade old new kind now id = (past : List (TreeOp C V)) → StandsFor old past → (make_fault (parent_of kind) past ≡ None) × StandsFor new (Makes id kind now ∷ past)

  -- it was not made, for this error
  abbrev pub IsRefused : TreeValue C V → Kind C V → CtxError → Type 0
  IsRefused old kind e = (past : List (TreeOp C V)) → StandsFor old past → IsFault (make_fault (parent_of kind) past) e

-- What a call answers that makes a context in that way, at that moment where it is made with a deadline: its id, or in the
-- error why none is made; then the tree is as it was.
pub record Answers {C V E : Type 0} (old new : TreeValue C V) (kind : Kind C V) (now : ℕ) (error_of : E → CtxError) (result : Result Id E) : Type 0 where
  pub made : IfOk result (IsMade old new kind now)
  pub refused : IfErr result (λ e. IsRefused old kind (error_of e))
  pub unchanged : OnErr result (new ≡ old)
  pub keeps : OnErr result (StandsAsBefore old new)

-- the first is not after the second; where there is no first, nothing is
abbrev pub IsNotAfter : Option ℕ → ℕ → Type 0
IsNotAfter None at = ⊥
IsNotAfter (Some first) at = first ≤ at

module _ {C V : Type 0} where
  -- no context that is held and not ended has a deadline before this one; without one, none has a deadline
  abbrev pub IsFirstDeadline : Option ℕ → List (TreeOp C V) → Type 0
  IsFirstDeadline first past =
      (x : Id) (kind : Kind C V) (at : ℕ) → held x past ≡ Some kind → ending x past ≡ None → deadline x past ≡ Some at → IsNotAfter first at

  -- a context that is held and not ended has this deadline
  pub record IsDeadline (first : ℕ) (past : List (TreeOp C V)) : Type 0 where
    pub context : Id
    pub kind : Kind C V
    pub is_held : held context past ≡ Some kind
    pub goes_on : ending context past ≡ None
    pub deadline_is : deadline context past ≡ Some first

-- how many ended contexts are still to be handed out
abbrev pub left_to_hand_out : {C V : Type 0} → TreeValue C V → ℕ
left_to_hand_out t = length t.done
