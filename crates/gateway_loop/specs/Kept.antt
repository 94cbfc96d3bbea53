-- Streams that are kept, to be used again.
use Rattle.std.specs.Prelude.{◌≡◌, ◌⊎◌, ℕ, ◌<◌, ◌≤◌, Bool, true, false, All, List, [], ◌∷◌, ◌++◌, is_some, length, remove, slice_index_or, Option, None, Some}
use Rattle.loop_model.specs.Accounts.{NetworkValue}
use Rattle.loop_model.specs.Streams.{KeptValue, StreamValue, closed_stream, kept_value}
use Rattle.wires.specs.Turns.{Quiet, Turn}
use Rattle.branch_asking.specs.Asking.{BackendValue, HasLookedAt, with_turns}

-- this one is kept beside those, for jobs of this address: nothing was done at it but that reads may have found nothing there
pub record HasKept (address : List ℕ) (s : StreamValue) (before after : List KeptValue) : Type 0 where
  pub kept : KeptValue
  pub after_are : after ≡ before ++ kept ∷ []
  pub address_is : kept.address ≡ address
  pub turns : List Turn
  pub stream_is : kept.stream ≡ with_turns turns s
  pub still : All (λ (turn : Turn). turn ≡ Quiet) turns
  pub unread : kept.reads ≡ false
  pub watched : is_some kept.watched ≡ true

-- .. or it is given back
abbrev pub Keeps : List ℕ → StreamValue → Option BackendValue → List KeptValue → List KeptValue → Type 0
Keeps address s None before after = HasKept address s before after
Keeps address s (Some back) before after = (after ≡ before) × HasLookedAt s back.stream

-- where there is one, and it may be kept
abbrev pub KeepsIf : Bool → List ℕ → Option BackendValue → Option BackendValue → List KeptValue → List KeptValue → Type 0
KeepsIf may address None back before after = (back ≡ None) × (after ≡ before)
KeepsIf false address (Some s) back before after = (after ≡ before) × ((b : BackendValue) × (back ≡ Some b) × (b.stream ≡ s.stream))
KeepsIf true address (Some s) back before after = Keeps address s.stream back before after

-- this one is beside those, until then, as it stands; or it is given back
abbrev pub AddsLast : List ℕ → BackendValue → Option BackendValue → List KeptValue → List KeptValue → Type 0
AddsLast address s None before after = (until : ℕ) × (after ≡ before ++ kept_value s.stream address s.reads s.watched until ∷ [])
AddsLast address s (Some back) before after = (after ≡ before) × (back.stream ≡ s.stream)

-- this one is no more kept
pub record TakesOut (x : KeptValue) (before after : List KeptValue) : Type 0 where
  pub front : List KeptValue
  pub back : List KeptValue
  pub before_are : before ≡ front ++ x ∷ back
  pub after_are : after ≡ front ++ back

-- the one at that place is taken, if there is one; one of this address; or any
abbrev pub TakesAt : ℕ → Option BackendValue → List KeptValue → List KeptValue → Type 0
TakesAt index None before after = (after ≡ before) × (length before ≤ index)
TakesAt index (Some b) before after =
    (x : KeptValue) × (x ≡ slice_index_or before index x) × (index < length before) × (after ≡ remove before index) × (b.stream ≡ x.stream)

abbrev pub Takes : List ℕ → Option BackendValue → List KeptValue → List KeptValue → Type 0
Takes address None before after = after ≡ before
Takes address (Some b) before after = (x : KeptValue) × TakesOut x before after × (x.address ≡ address) × (b.stream ≡ x.stream)

abbrev pub TakesAny : Option BackendValue → List KeptValue → List KeptValue → Type 0
TakesAny None before after = after ≡ before
TakesAny (Some b) before after = (x : KeptValue) × TakesOut x before after × (b.stream ≡ x.stream)

-- it was read once, and nothing was there; or something was
pub record IsQuietStill (x y : KeptValue) : Type 0 where
  pub address : y.address ≡ x.address
  pub stream_is : y.stream ≡ with_turns (Quiet ∷ []) x.stream
  pub unread : y.reads ≡ false
  pub watched : y.watched ≡ x.watched

abbrev pub Hears : Bool → KeptValue → KeptValue → Type 0
Hears true x y = IsQuietStill x y
Hears false x y = HasLookedAt x.stream y.stream

-- one of them was
pub record OneIsQuiet (before after : List KeptValue) : Type 0 where
  pub x : KeptValue
  pub y : KeptValue
  pub front : List KeptValue
  pub back : List KeptValue
  pub before_are : before ≡ front ++ x ∷ back
  pub after_are : after ≡ front ++ y ∷ back
  pub quiet : IsQuietStill x y

abbrev pub LooksAt : Option BackendValue → List KeptValue → List KeptValue → Type 0
LooksAt None before after = (after ≡ before) ⊎ OneIsQuiet before after
LooksAt (Some b) before after = (x : KeptValue) × TakesOut x before after × HasLookedAt x.stream b.stream

-- the stream was closed, and is among those that were left
pub record ClosesOne (s : BackendValue) (a b : NetworkValue) (before after : List (BackendValue × Unit {0})) : Type 0 where
  pub noted : after ≡ before ++ (s, tt) ∷ []
  pub closed : b ≡ record a { closed = a.closed ++ closed_stream s.stream ∷ [] }
