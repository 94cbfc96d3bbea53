-- The event that decides a call, by its place in the finished list of what occurs: a least number.
use Rattle.std.specs.Prelude.{◌≡◌, ℕ, ◌<◌, List, take, slice_get, Option, None, Some}
use Rattle.gateway_model.specs.declared.id.CallId.{CallId}
use Rattle.gateway_model.specs.Occurrence.{Occurrence}
use Rattle.gateway_model.specs.declared.call_event.CallEvent.{CallEvent}
use Rattle.gateway_model.specs.Past.{Past, past_of, mark_of, deciding}

-- what stood before place t
abbrev pub before : List Occurrence → ℕ → Past
before occurred t = past_of (take t occurred)

abbrev pub deciding_next : CallId → Past → Option Occurrence → Option CallEvent
deciding_next id past None = None
deciding_next id past (Some o) = deciding id (mark_of past o) past

-- how place t decides the call, if it does
abbrev pub deciding_at : CallId → List Occurrence → ℕ → Option CallEvent
deciding_at id occurred t = deciding_next id (before occurred t) (slice_get occurred t)

-- place t is the least that decides the call, and does so by this event
pub record IsDecidedAt (id : CallId) (occurred : List Occurrence) (t : ℕ) (e : CallEvent) : Type 0 where
  pub here : deciding_at id occurred t ≡ Some e
  pub least : (u : ℕ) → u < t → deciding_at id occurred u ≡ None
