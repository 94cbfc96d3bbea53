-- What each call of the gateway makes of it, exactly.
use Rattle.std.specs.List.Sorted.{IsStrictlySortedBy}
use Rattle.std.specs.Map.{keys_of}
use Rattle.std.specs.Option.{option_map_or}
use Rattle.std.specs.Ordering.{nat_cmp}
use Rattle.std.specs.Prelude.{◌≡◌, ⊤, ℕ, ◌+◌, ◌<◌, ◌==◌, Bool, true, false, List, [], ◌∷◌, ◌++◌, length, Option, None, Some, Result, Err, is_some, option_map, option_to_list}
use Rattle.call_plan.specs.Plan.{PlanRecord}
use Rattle.connect_codec.specs.declared.answer.Outcome.{Outcome}
use Rattle.gateway_model.specs.Events.{most_open}
use Rattle.gateway_model.specs.Job.{JobValue}
use Rattle.gateway_model.specs.declared.id.CallId.{CallId}
use Rattle.gateway_model.specs.declared.seen.Seen.{Seen}
use Rattle.gateway_model.specs.declared.seen.Seen.TheVariants.{Unknown}
use Rattle.gateway_theory.specs.Replies.{ReplyValue}
use Rattle.gateway_theory.specs.Tally.{tally_of}
use Rattle.gateway_theory.specs.Task.{HandedJob}
use Rattle.gateway_theory.specs.declared.fault.StepFault.{StepFault}
use Rattle.gateway_theory.specs.declared.fault.StepFault.TheVariants.{Gone}
use Rattle.gateway_theory.specs.declared.fault.Took.{Took}
use Rattle.gateway_theory.specs.declared.trigger.Trigger.{Trigger}
use Rattle.gateway_theory.specs.declared.trigger.Trigger.TheVariants.{Drained, Reached}
use Rattle.gateway_theory.specs.Gateway.{call_in, calls_kept, one_if_open, open_count}
use Rattle.gateway_theory.specs.Values.{GatewayValue, conn_of, gateway_value, HeldConnection, moment_after}
use Rattle.gateway_theory.specs.Held.{CallsEnd, HangsUp, TakesBytes, TakesReply, TakesResult, TakesStarved, closed_held, left_of, new_held}
use Rattle.gateway_theory.specs.Serving.{Breaks}

-- how many are open, and how many calls are kept, of one that is there
abbrev pub open_in : Option HeldConnection → ℕ
open_in o = option_map_or one_if_open o 0

abbrev pub kept_in : Option HeldConnection → ℕ
kept_in o = option_map_or (λ (k : HeldConnection). length k.calls) o 0

-- under that number this connection is kept then, or none is; the others stay
pub record Moves (c : ℕ) (now : Option HeldConnection) (v w : GatewayValue) : Type 0 where
  pub here : conn_of c w ≡ now
  pub others : (d : ℕ) → (c == d) ≡ false → conn_of d w ≡ conn_of d v
  pub sorted : IsStrictlySortedBy nat_cmp (keys_of w.conns)
  pub open_is : open_count w + open_in (conn_of c v) ≡ open_count v + open_in now
  pub kept_is : calls_kept w + kept_in (conn_of c v) ≡ calls_kept v + kept_in now
  -- where it is the same, all is
  pub same : now ≡ conn_of c v → w.conns ≡ v.conns

-- ---- openings and closings

-- a connection of that number opened
pub record Opens (v w : GatewayValue) (number : ℕ) : Type 0 where
  pub number_is : number ≡ v.opened
  pub few : open_count v < most_open
  pub moves : Moves v.opened (Some (new_held v.opened)) v w
  pub rest : w ≡ record v { conns = w.conns; opened = v.opened + 1 }

-- the connection of that number closes, if it is open
pub data Closes (number : ℕ) (v w : GatewayValue) (result : Bool) : Type 0 where
  absent : conn_of number v ≡ None → result ≡ false → w ≡ v → Closes number v w result
  shut : (k : HeldConnection) → conn_of number v ≡ Some k → k.closed ≡ true → result ≡ false → w ≡ v → Closes number v w result
  closes : (k : HeldConnection) → conn_of number v ≡ Some k → k.closed ≡ false → result ≡ true → Moves number (left_of (closed_held k)) v w
      → w ≡ record v { conns = w.conns } → Closes number v w result

-- ---- what comes on a connection

-- bytes of its stream
pub data Feeds (number : ℕ) (bytes : List ℕ) (v w : GatewayValue) (result : Result ℕ StepFault) : Type 0 where
  absent : conn_of number v ≡ None → result ≡ Err Gone → w ≡ v → Feeds number bytes v w result
  there : (k l : HeldConnection) (jobs : List JobValue) → conn_of number v ≡ Some k → TakesBytes v.plans v.moment v.drained bytes v.begun k w.begun l jobs result
      → Moves number (Some l) v w → w ≡ record v { conns = w.conns; jobs = v.jobs ++ jobs; begun = w.begun } → Feeds number bytes v w result

-- its peer hangs up
pub data HangsUpAt (number : ℕ) (v w : GatewayValue) (result : Result ⊤ StepFault) : Type 0 where
  absent : conn_of number v ≡ None → result ≡ Err Gone → w ≡ v → HangsUpAt number v w result
  there : (k l : HeldConnection) → conn_of number v ≡ Some k → HangsUp k l result → Moves number (Some l) v w → w ≡ record v { conns = w.conns } → HangsUpAt number v w result

-- ---- a moment, and the drain

-- of a connection the calls end that this ends, or it breaks
abbrev pub MayEnd : Trigger → Option HeldConnection → Option HeldConnection → Type 0
MayEnd trigger None o = o ≡ None
MayEnd trigger (Some k) o = (l : HeldConnection) × (o ≡ Some l) × CallsEnd trigger k l

-- so it is of each; and whether one breaks
pub record Broadcast (trigger : Trigger) (v w : GatewayValue) (broke : Bool) : Type 0 where
  pub each : (c : ℕ) → MayEnd trigger (conn_of c v) (conn_of c w)
  pub keys_are : keys_of w.conns ≡ keys_of v.conns
  pub broke_is : Breaks v w broke

-- a moment comes
pub record Reaches (moment : ℕ) (v w : GatewayValue) (broke : Bool) : Type 0 where
  pub ends : Broadcast (Reached (moment_after v.moment moment)) v w broke
  pub rest : w ≡ record v { moment = moment_after v.moment moment; conns = w.conns }

-- the drain has begun
pub record Drains (v w : GatewayValue) (broke : Bool) : Type 0 where
  pub ends : Broadcast Drained v w broke
  pub rest : w ≡ record v { drained = true; conns = w.conns }

-- ---- results

-- this result more was seen so
abbrev pub Tallies : Seen → GatewayValue → GatewayValue → Type 0
Tallies seen v w = (before : List Seen) → v.tally ≡ tally_of before → w.tally ≡ tally_of (seen ∷ before)

-- a branch of a call ends with that outcome
pub data Results (id : CallId) (branch : ℕ) (outcome : Outcome) (v w : GatewayValue) (took : Took) : Type 0 where
  absent : conn_of id.conn v ≡ None → took ≡ record { seen = Unknown; broke = false } → Tallies took.seen v w → w ≡ record v { tally = w.tally } → Results id branch outcome v w took
  there : (k l : HeldConnection) (jobs : List JobValue) → conn_of id.conn v ≡ Some k → TakesResult v.moment id branch outcome k l jobs took → Moves id.conn (left_of l) v w
      → Tallies took.seen v w → w ≡ record v { conns = w.conns; jobs = v.jobs ++ jobs; tally = w.tally } → Results id branch outcome v w took

-- nothing is known of how a branch of a call ended
pub data Starves (id : CallId) (branch : ℕ) (v w : GatewayValue) (took : Took) : Type 0 where
  absent : conn_of id.conn v ≡ None → took ≡ record { seen = Unknown; broke = false } → Tallies took.seen v w → w ≡ record v { tally = w.tally } → Starves id branch v w took
  there : (k l : HeldConnection) → conn_of id.conn v ≡ Some k → TakesStarved id branch k l took → Moves id.conn (left_of l) v w
      → Tallies took.seen v w → w ≡ record v { conns = w.conns; tally = w.tally } → Starves id branch v w took

-- ---- what is taken

-- the first job, and none where no job waits; its answer is wanted while its call can be decided
pub record TakesJob (v w : GatewayValue) (job : Option HandedJob) : Type 0 where
  pub first : v.jobs ≡ option_to_list (option_map (λ j. j.job) job) ++ w.jobs
  pub none : job ≡ None → v.jobs ≡ []
  pub wanted : (j : HandedJob) → job ≡ Some j → j.wanted ≡ is_some (call_in j.job.call v).live
  pub rest : w ≡ record v { jobs = w.jobs }

-- the next reply of the connection of that number, if it has one
pub data TakesReplyAt (number : ℕ) (v w : GatewayValue) (reply : Option ReplyValue) : Type 0 where
  absent : conn_of number v ≡ None → reply ≡ None → w ≡ v → TakesReplyAt number v w reply
  there : (k l : HeldConnection) → conn_of number v ≡ Some k → TakesReply k l reply → Moves number (Some l) v w → w ≡ record v { conns = w.conns } → TakesReplyAt number v w reply

-- ---- at first

-- no connection was opened
abbrev pub first_gateway : List PlanRecord → GatewayValue
first_gateway plans = gateway_value plans 0 false [] [] 0 0 (tally_of [])
