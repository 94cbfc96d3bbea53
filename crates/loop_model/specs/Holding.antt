-- What a loop holds on to of the history that its core stands for. No theorem needs its words to be read: some history holds of a new loop,
-- each step goes on from what held to what holds (`GoesOn`), and what holds explains the loop (`IsExplained`).
use Rattle.std.specs.Prelude.{◌≡◌, ℕ, ◌<◌, true, false, All, List, ◌++◌, reverse, Some}
use Rattle.std.specs.List.{AllZip}
use Rattle.call_plan.specs.Plan.{PlanRecord}
use Rattle.connect_codec.specs.declared.answer.Outcome.{Outcome}
use Rattle.gateway_model.specs.Events.{Occurs, connections, hung_up, is_open, stream}
use Rattle.gateway_model.specs.History.{History}
use Rattle.gateway_model.specs.Run.{bytes_of}
use Rattle.gateway_model.specs.Starts.{Placed}
use Rattle.gateway_theory.specs.Served.{Served}
use Rattle.loop_model.specs.Clients.{ClientValue, IsExplainedClient}
use Rattle.loop_model.specs.Explained.{LoopValue, at, count_of, one_below}
use Rattle.loop_model.specs.Handed.{HandsIn, IsResultOf, has_drained, moments, results}
use Rattle.loop_model.specs.Streams.{ClosedValue, IsUnused}

-- ---- one client

-- one whose connection is open: what was read is its stream, it hung up if a read found the end, and what was written and waits was taken
-- of its queue
pub record Stands (plans : List PlanRecord) (h : History) (x : ClientValue) : Type 0 where
  pub known : x.conn < connections h.opened h.events
  pub still_open : is_open h.opened x.conn h.events ≡ true
  pub read : x.given ≡ stream h.opened x.conn h.events
  pub hangs_up : hung_up h.opened x.conn h.events ≡ x.ended
  pub written : (occurred : List Placed) → Occurs plans h.opened h.events occurred → x.got ++ x.waiting ≡ bytes_of (h.taken x.conn)

-- one whose connection was closed
pub record HasStood (plans : List PlanRecord) (h : History) (x : ClientValue) : Type 0 where
  pub explained : IsExplainedClient plans h x
  pub closed : is_open h.opened x.conn h.events ≡ false

-- one that is there
pub record Fits (plans : List PlanRecord) (h : History) (x : ClientValue) : Type 0 where
  pub stands : x.lingers ≡ false → Stands plans h x
  pub stood : x.lingers ≡ true → HasStood plans h x

-- ---- the loop

-- the history explains all of this but its clients, if this is what those ended with for whose outcome there was no memory
pub record HoldsRest (unknown : Outcome) (h : History) (l : LoopValue) : Type 0 where
  pub told : HandsIn (reverse l.told) (moments h.events)
  pub results : AllZip (IsResultOf unknown) (results h.events) l.results
  pub handed : h.handed ≡ l.handed
  pub drained : has_drained h.events ≡ l.drained
  pub unserved : All IsUnused l.unserved

-- .. and its clients
pub record IsHeld (unknown : Outcome) (plans : List PlanRecord) (h : History) (l : LoopValue) : Type 0 where
  pub fits : (i : ℕ) (x : ClientValue) → at i l.clients ≡ Some x → Fits plans h x
  pub apart : (i j : ℕ) (x y : ClientValue) → at i l.clients ≡ Some x → at j l.clients ≡ Some y → x.conn ≡ y.conn → i ≡ j
  pub each : (c : ℕ) → count_of c l ≡ one_below c (connections h.opened h.events)
  pub gone : All (λ (x : ClientValue). HasStood plans h x) l.gone
  pub rest : HoldsRest unknown h l

-- the core stands for the history, which holds of all else
pub record Holds (unknown : Outcome) (h : History) (l : LoopValue) : Type 0 where
  pub serves : Served l.core h
  pub held : IsHeld unknown l.core.plans h l
