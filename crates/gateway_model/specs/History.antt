-- What has come of a gateway: its events, and what was taken of it.
use Rattle.std.specs.Prelude.{ℕ, List, [], ◌∷◌, ◌++◌, length}
use Rattle.gateway_model.specs.declared.entry.ReplyEntry.{ReplyEntry}
use Rattle.gateway_model.specs.declared.event.Event.TheVariants.{Opening}
use Rattle.gateway_model.specs.declared.event.Event.{Event}
use Rattle.gateway_model.specs.Events.{Before}
use Rattle.gateway_model.specs.Job.{JobValue}

pub record History : Type 0 where
  -- the places of the openings that succeeded
  pub opened : List ℕ
  -- the events, newest first
  pub events : Before
  -- the replies that were taken of each connection
  pub taken : ℕ → List ReplyEntry
  -- the jobs that were taken
  pub handed : List JobValue

abbrev pub history_of : List ℕ → Before → (ℕ → List ReplyEntry) → List JobValue → History
history_of opened events taken handed = record { opened = opened; events = events; taken = taken; handed = handed }

-- nothing has come yet
abbrev pub no_history : History
no_history = history_of [] [] (λ c. []) []

-- this event more
abbrev pub after_event : Event → History → History
after_event e h = record h { events = e ∷ h.events }

-- an opening more, which succeeded
abbrev pub after_opening : History → History
after_opening h = record h { opened = h.opened ++ length h.events ∷ []; events = Opening ∷ h.events }

-- these jobs taken more
abbrev pub after_jobs : List JobValue → History → History
after_jobs jobs h = record h { handed = h.handed ++ jobs }
