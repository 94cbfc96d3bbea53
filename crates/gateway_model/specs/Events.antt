-- The events of a run, and what occurs by them: the bytes of each connection's stream are cut into requests.
use Rattle.std.specs.Prelude.{◌≡◌, ℕ, suc, ◌<◌, ⊤, Bool, true, false, ◌&&◌, ◌||◌, not, if◌then◌else◌, ◌==◌, nat_lt, List, [], ◌∷◌, ◌++◌, map, length, MatchBool}
use Rattle.std.specs.List.{list_any}
use Rattle.http_pieces.specs.Request.{HttpRequest}
use Rattle.http_pieces.specs.Requests.{StreamEnd, Open, RefusedBy, Requests}
use Rattle.call_plan.specs.Plan.{PlanRecord}
use Rattle.gateway_model.specs.Arrival.{arrival_of}
use Rattle.gateway_model.specs.Occurrence.{Occurrence, Coming, Request, Refused, Comes}
use Rattle.gateway_model.specs.Occurrence as occurs
use Rattle.gateway_model.specs.Past.{call_id, count_below}
use Rattle.gateway_model.specs.Starts.{Placed}
use Rattle.gateway_model.specs.declared.event.Event.{Event}
use Rattle.gateway_model.specs.declared.event.Event.TheVariants.{Opening, Piece, HangUp, Moment, BranchResult, Drain, Closing}

-- the events before one, newest first; the place of the next is their number
abbrev pub Before : Type 0
Before = List Event

-- ---- connections; `opened` lists the places of the openings that succeeded

-- an opening at that place succeeded
abbrev pub succeeds : List ℕ → ℕ → Bool
succeeds opened place = list_any (λ p. p == place) opened

-- it opens a connection
abbrev pub is_opening : Event → Bool
is_opening Opening = true
is_opening _ = false

-- how many connections were opened
abbrev pub connections : List ℕ → Before → ℕ
connections opened [] = 0
connections opened (e ∷ before) =
    if is_opening e && succeeds opened (length before) then suc (connections opened before) else connections opened before

abbrev pub is_closing_of : ℕ → Event → Bool
is_closing_of conn (Closing c) = c == conn
is_closing_of conn _ = false

-- the connection was opened, and not closed since
abbrev pub is_open : List ℕ → ℕ → Before → Bool
is_open opened conn [] = false
is_open opened conn (e ∷ before) =
    if nat_lt conn (connections opened before)
    then is_open opened conn before && not (is_closing_of conn e)
    else nat_lt conn (connections opened (e ∷ before))

-- how many connections are open
abbrev pub open_connections : List ℕ → Before → ℕ
open_connections opened before = count_below (connections opened before) (λ c. is_open opened c before)

-- so many connections may be open at once (this project's choice)
abbrev pub most_open : ℕ
most_open = 64

-- the event at that place is an opening, before which fewer connections were open than may be
pub record OpensAt (opened : List ℕ) (events : Before) (place : ℕ) : Type 0 where
  pub later : Before
  pub before : Before
  pub event_is : events ≡ later ++ Opening ∷ before
  pub place_is : length before ≡ place
  pub few : open_connections opened before < most_open

-- each is greater than the one before it
abbrev pub IsRising : List ℕ → Type 0
IsRising (p ∷ q ∷ places) = (p < q) × IsRising (q ∷ places)
IsRising _ = ⊤

-- these are the places of the openings that succeeded, of which number c is connection c
pub record IsOpened (opened : List ℕ) (events : Before) : Type 0 where
  pub rising : IsRising opened
  pub openings : (place : ℕ) → succeeds opened place ≡ true → OpensAt opened events place

abbrev pub is_hang_up_of : ℕ → Event → Bool
is_hang_up_of conn (HangUp c) = c == conn
is_hang_up_of conn _ = false

-- the peer of the connection hung up
abbrev pub hung_up : List ℕ → ℕ → Before → Bool
hung_up opened conn [] = false
hung_up opened conn (e ∷ before) = hung_up opened conn before || (is_open opened conn before && is_hang_up_of conn e)

-- pieces of the connection's stream are taken
abbrev pub listens : List ℕ → ℕ → Before → Bool
listens opened conn before = is_open opened conn before && not (hung_up opened conn before)

-- the piece of the connection's stream that an event brings
abbrev pub piece_of : ℕ → Event → List ℕ
piece_of conn (Piece c bytes) = if c == conn then bytes else []
piece_of conn _ = []

-- the pieces of the connection joined, from its opening on, and none after it hung up or was closed
abbrev pub stream : List ℕ → ℕ → Before → List ℕ
stream opened conn [] = []
stream opened conn (e ∷ before) =
    if listens opened conn before then stream opened conn before ++ piece_of conn e else stream opened conn before

-- ---- what a piece brings

-- the refusal that a longer stream gains
abbrev pub refusal_gained : StreamEnd → StreamEnd → List Coming
refusal_gained (Open left) (RefusedBy r) = Refused r ∷ []
refusal_gained _ later = []

-- the requests that come, with what each comes to
abbrev pub requests_gained : List PlanRecord → List HttpRequest → List Coming
requests_gained plans more = map (λ q. Request q (arrival_of plans q)) more

-- what the stream gains when it grows from one text to the other: the requests that the other has more, and its refusal
pub record Gains (plans : List PlanRecord) (text longer : List ℕ) (gained : List Coming) : Type 0 where
  pub given : List HttpRequest
  pub more : List HttpRequest
  pub ending : StreamEnd
  pub later : StreamEnd
  pub text_is : Requests 0 text given ending
  pub longer_is : Requests 0 longer (given ++ more) later
  pub gained_is : gained ≡ requests_gained plans more ++ refusal_gained ending later

-- ---- what occurs

-- one occurrence where a condition holds, and else none
abbrev pub once : Bool → Occurrence → List Occurrence
once occurs o = if occurs then o ∷ [] else []

-- what occurs at an event, behind these: an event of a connection that is not open has no effect, and so has a piece or a
-- hang-up after its first hang-up
abbrev pub OccursAt : List PlanRecord → List ℕ → Event → Before → List Occurrence → Type 0
OccursAt plans opened Opening before os = os ≡ once (succeeds opened (length before)) occurs.Opening
OccursAt plans opened (Piece conn bytes) before os =
    MatchBool (listens opened conn before)
    ((gained : List Coming) × Gains plans (stream opened conn before) (stream opened conn before ++ bytes) gained × (os ≡ map (Comes conn) gained))
    (os ≡ [])
OccursAt plans opened (HangUp conn) before os = os ≡ once (listens opened conn before) (occurs.HangUp conn)
OccursAt plans opened (Moment m) before os = os ≡ occurs.Moment m ∷ []
OccursAt plans opened (BranchResult conn request branch outcome) before os = os ≡ occurs.Result (call_id conn request) branch outcome ∷ []
OccursAt plans opened Drain before os = os ≡ occurs.Drain ∷ []
OccursAt plans opened (Closing conn) before os = os ≡ once (is_open opened conn before) (occurs.Closing conn)

-- the event has no effect: it names a connection that is not open, is a piece or a hang-up after the connection's first hang-up, or an
-- opening that does not succeed
abbrev pub has_no_effect : List ℕ → Event → Before → Bool
has_no_effect opened Opening before = not (succeeds opened (length before))
has_no_effect opened (Piece conn bytes) before = not (listens opened conn before)
has_no_effect opened (HangUp conn) before = not (listens opened conn before)
has_no_effect opened (Closing conn) before = not (is_open opened conn before)
has_no_effect opened e before = false

-- occurrences in their order at an event of that place, onto those before, newest first
abbrev pub onto : ℕ → List Occurrence → List Placed → List Placed
onto place [] past = past
onto place (o ∷ os) past = onto place os ((place, o) ∷ past)

-- what occurs by these events, newest first
abbrev pub Occurs : List PlanRecord → List ℕ → Before → List Placed → Type 0
Occurs plans opened [] occurred = occurred ≡ []
Occurs plans opened (e ∷ before) occurred =
    (past : List Placed) × Occurs plans opened before past × ((os : List Occurrence) × OccursAt plans opened e before os × (occurred ≡ onto (length before) os past))

-- the same openings succeed where one more event stands at place n: later places are greater by one
pub record IsShifted (n : ℕ) (opened shifted : List ℕ) : Type 0 where
  pub before : (t : ℕ) → t < n → succeeds shifted t ≡ succeeds opened t
  pub after : (t : ℕ) → n < t → succeeds shifted (suc t) ≡ succeeds opened t
