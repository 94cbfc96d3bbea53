-- A client of a loop, and how events explain what was read from its stream and written to it.
use Rattle.std.specs.Prelude.{◌≡◌, ℕ, ◌<◌, Bool, true, false, List, [], ◌++◌, Option}
use Rattle.call_plan.specs.Plan.{PlanRecord}
use Rattle.gateway_model.specs.Events.{Occurs, connections, hung_up, stream}
use Rattle.gateway_model.specs.History.{History}
use Rattle.gateway_model.specs.Past.{marked}
use Rattle.gateway_model.specs.Queue.{IsPrefixOf, queued}
use Rattle.gateway_model.specs.Starts.{Placed, occurrences}
use Rattle.wires.specs.declared.ready.Ready.{Ready}

-- a client's stream with its connection
pub record ClientValue : Type 0 where
  pub conn : ℕ
  -- its connection was closed, and it lingers: what still comes is dropped
  pub lingers : Bool
  -- all the bytes that were read from its stream, and all that were written to it
  pub given : List ℕ
  pub got : List ℕ
  -- whether a read found its end, or failed
  pub ended : Bool
  -- what waits to be written
  pub waiting : List ℕ
  -- by all that was reported and answered: whether a read may bring something, and whether a write may be taken
  pub reads : Bool
  pub writes : Bool
  -- by what token it is watched, and whether for room to write too; and all that was reported of it, in order
  pub watched : Option (ℕ × Bool)
  pub reported : List Ready
  -- until when it lingers at most
  pub until : Option ℕ

abbrev pub client_value : ℕ → Bool → List ℕ → List ℕ → Bool → List ℕ → Bool → Bool → Option (ℕ × Bool) → List Ready → Option ℕ → ClientValue
client_value conn lingers given got ended waiting reads writes watched reported until = record {
  conn = conn;
  lingers = lingers;
  given = given;
  got = got;
  ended = ended;
  waiting = waiting;
  reads = reads;
  writes = writes;
  watched = watched;
  reported = reported;
  until = until;
}

-- What was read from it are the pieces of its connection among the events, joined; it has hung up exactly if a read found its end; and
-- what was written to it, and then what waits, begins what is queued for it. Of one that lingers what came since is dropped.
pub record IsExplainedClient (plans : List PlanRecord) (h : History) (x : ClientValue) : Type 0 where
  pub known : x.conn < connections h.opened h.events
  pub dropped : List ℕ
  pub read : x.given ≡ stream h.opened x.conn h.events ++ dropped
  pub all_fed : x.lingers ≡ false → dropped ≡ []
  pub hangs_up : x.lingers ≡ false → hung_up h.opened x.conn h.events ≡ x.ended
  pub no_other : hung_up h.opened x.conn h.events ≡ true → x.ended ≡ true
  pub written : (occurred : List Placed) → Occurs plans h.opened h.events occurred → IsPrefixOf (x.got ++ x.waiting) (queued x.conn (marked (occurrences occurred)))
