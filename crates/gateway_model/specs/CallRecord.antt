-- The record of a call: what it was asked for, and what happened to it.
use Rattle.std.specs.Prelude.{ℕ, Bool, ◌==◌, if◌then◌else◌, List, [], ◌∷◌, map, Option, None, Some}
use Rattle.std.specs.List.{range_with_len}
use Rattle.std.specs.Option.{option_or, unwrap_or}
use Rattle.call_plan.specs.Plan.{PlanRecord}
use Rattle.gateway_model.specs.declared.call_event.CallEvent.{CallEvent}
use Rattle.gateway_model.specs.declared.call_event.CallEvent.TheVariants.{Answer}

-- a call, and its own events in their order, by the event that decides it
pub record CallRecord : Type 0 where
  pub plan : PlanRecord
  -- the moment of its arrival, and the one at which it expires
  pub start : ℕ
  pub deadline : Option ℕ
  -- its reply is the connection's last
  pub last : Bool
  -- of the branches that started before it was decided, in declared order, the moment at which each expires
  pub branch_deadlines : List (Option ℕ)
  pub events : List CallEvent

-- the answer that this event brings of the branch
abbrev pub answer_in : ℕ → CallEvent → Option (List ℕ)
answer_in i (Answer j body) = if j == i then Some body else None
answer_in i _ = None

-- the answer of a branch among these events
abbrev pub answer_of_branch : ℕ → List CallEvent → Option (List ℕ)
answer_of_branch i [] = None
answer_of_branch i (e ∷ events) = option_or (answer_of_branch i events) (answer_in i e)

-- the answers among these events, of so many branches in declared order; one that is not there has no bytes
abbrev pub answers_in : ℕ → List CallEvent → List (List ℕ)
answers_in n events = map (λ i. unwrap_or (answer_of_branch i events) []) (range_with_len 0 n)

-- the last of some events
abbrev pub last_event : List CallEvent → Option CallEvent
last_event [] = None
last_event (e ∷ []) = Some e
last_event (e ∷ f ∷ events) = last_event (f ∷ events)
