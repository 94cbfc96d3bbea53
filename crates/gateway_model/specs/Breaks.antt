-- Where connections break among what occurs.
use Rattle.std.specs.Prelude.{◌≡◌, ⊤, ℕ, suc, ◌<◌, true, false, not, List, [], ◌∷◌, ◌++◌, filter, length}
use Rattle.gateway_model.specs.Concerns.{can_break}
use Rattle.gateway_model.specs.Events.{Before}
use Rattle.gateway_model.specs.Occurrence.{Occurrence, Break}
use Rattle.gateway_model.specs.Own.{is_break}
use Rattle.gateway_model.specs.Past.{Past, is_broken, marked}
use Rattle.gateway_model.specs.Starts.{Placed, occurrences}
use Rattle.gateway_model.specs.declared.event.Event.{Event}

-- what occurred by the events alone
abbrev pub by_events : List Placed → List Placed
by_events lived = filter (λ o. not (is_break o.1)) lived

-- the places are below n, and what came later stands at no lower place
abbrev pub InOrder : ℕ → List Placed → Type 0
InOrder n [] = ⊤
InOrder n (o ∷ lived) = (o.0 < n) × InOrder (suc o.0) lived

-- the connection breaks at the event of that place: it had not broken before, and the event can break it by what had occurred
pub record CanBreakAt (c place : ℕ) (opened : List ℕ) (events : Before) (past : Past) : Type 0 where
  pub later : Before
  pub event : Event
  pub before : Before
  pub events_are : events ≡ later ++ event ∷ before
  pub place_is : length before ≡ place
  pub first : is_broken c past ≡ false
  pub can : can_break c opened event before past ≡ true

-- a break may occur there, where the connection can break; all else is by the events
abbrev pub MayOccur : List ℕ → Before → ℕ → Occurrence → Past → Type 0
MayOccur opened events place (Break c) past = CanBreakAt c place opened events past
MayOccur opened events place o past = ⊤

-- connections break once, each at an event that can break it
abbrev pub BreakAsTheyMay : List ℕ → Before → List Placed → Type 0
BreakAsTheyMay opened events [] = ⊤
BreakAsTheyMay opened events (o ∷ lived) = MayOccur opened events o.0 o.1 (marked (occurrences lived)) × BreakAsTheyMay opened events lived
