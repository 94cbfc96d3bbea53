-- One list of events explains all clients of a loop.
use Rattle.std.specs.Prelude.{◌≡◌, ℕ, ◌+◌, ◌==◌, Bool, false, if◌then◌else◌, nat_lt, not, All, List, ◌++◌, count_by, slice_index_or, reverse, Option, Some, None}
use Rattle.std.specs.List.{AllZip}
use Rattle.std.specs.Option.{option_map_or}
use Rattle.connect_codec.specs.declared.answer.Outcome.{Outcome}
use Rattle.gateway_model.specs.Breaks.{by_events}
use Rattle.gateway_model.specs.Events.{Occurs, connections, is_open}
use Rattle.gateway_model.specs.History.{History}
use Rattle.gateway_model.specs.Job.{JobValue}
use Rattle.gateway_model.specs.Known.{IsKnown, Shown}
use Rattle.gateway_model.specs.Run.{bytes_of}
use Rattle.gateway_model.specs.Starts.{Placed}
use Rattle.gateway_theory.specs.Served.{Lives}
use Rattle.gateway_theory.specs.Values.{GatewayValue, shown}
use Rattle.loop_model.specs.Clients.{ClientValue, IsExplainedClient}
use Rattle.loop_model.specs.Streams.{ClosedValue, IsUnused}
use Rattle.loop_model.specs.Handed.{HandsIn, IsResultOf, has_drained, moments, results}

-- what is seen of a loop's clients, and of what went in and out of its core
pub record LoopValue : Type 0 where
  pub core : GatewayValue
  -- the clients in their places, and those that have gone, in order
  pub clients : List (Option ClientValue)
  pub gone : List ClientValue
  -- the streams that were dealt to it and not taken in, as they were closed
  pub unserved : List ClosedValue
  -- the moments that its clock told, in order
  pub told : List ℕ
  -- the results that were handed in, each with its job, and the jobs that were taken, both in order
  pub results : List (JobValue × Option Outcome)
  pub handed : List JobValue
  -- whether it was told to drain
  pub drained : Bool

-- the client in that place
abbrev pub at : ℕ → List (Option ClientValue) → Option ClientValue
at i clients = slice_index_or clients i None

-- 1 for a connection that was opened, where so many were, and 0 for any other number
abbrev pub one_below : ℕ → ℕ → ℕ
one_below c opened = if nat_lt c opened then 1 else 0

-- how many clients, present or gone, have that connection
abbrev pub count_of : ℕ → LoopValue → ℕ
count_of c l =
    count_by (λ (o : Option ClientValue). option_map_or (λ (x : ClientValue). x.conn == c) o false) l.clients + count_by (λ (x : ClientValue). x.conn == c) l.gone

-- the core is known by what was lived, with these breaks of connections and no others
abbrev pub IsKnownBy : Shown → History → List Placed → Type 0
IsKnownBy s history lived = (known : IsKnown s history (by_events lived)) × (known.lived ≡ lived)

-- The core stands for the history, which explains each client, present or gone, each moment and each result, if this is what those branches
-- ended with for whose outcome there was no memory. The drain is in it if the loop was told to drain, and else not. No byte went over a stream
-- that was not taken in.
pub record Explains (unknown : Outcome) (history : History) (l : LoopValue) : Type 0 where
  pub knows : (occurred : List Placed) → Occurs l.core.plans history.opened history.events occurred → IsKnown (shown l.core) history occurred
  -- whatever occurred, breaks of connections were lived among it; and whatever was lived, the core is known by that. What else `Lives` says
  -- need not be read
  pub lives : (occurred : List Placed) → Occurs l.core.plans history.opened history.events occurred
      → (lived : List Placed) × (by_events lived ≡ occurred) × Lives l.core history lived
  pub known_by : (lived : List Placed) → Lives l.core history lived → IsKnownBy (shown l.core) history lived
  pub clients : (i : ℕ) (x : ClientValue) → at i l.clients ≡ Some x → IsExplainedClient l.core.plans history x
  -- what was written to one whose connection is open, and then what waits, is all that was taken of its queue
  pub taken : (occurred : List Placed) → Occurs l.core.plans history.opened history.events occurred
      → (i : ℕ) (x : ClientValue) → at i l.clients ≡ Some x → x.lingers ≡ false → x.got ++ x.waiting ≡ bytes_of (history.taken x.conn)
  -- the connection of one that is there is open, unless it lingers
  pub still_open : (i : ℕ) (x : ClientValue) → at i l.clients ≡ Some x → is_open history.opened x.conn history.events ≡ not x.lingers
  -- each connection that was opened is that of one client, and no two have one
  pub each : (c : ℕ) → count_of c l ≡ one_below c (connections history.opened history.events)
  pub gone : All (λ (x : ClientValue). IsExplainedClient l.core.plans history x) l.gone
  pub closed : All (λ (x : ClientValue). is_open history.opened x.conn history.events ≡ false) l.gone
  pub unserved : All IsUnused l.unserved
  pub told : HandsIn (reverse l.told) (moments history.events)
  pub results : AllZip (IsResultOf unknown) (results history.events) l.results
  pub handed : history.handed ≡ l.handed
  pub drained : has_drained history.events ≡ l.drained
