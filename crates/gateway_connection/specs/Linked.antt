-- The contexts beside a connection's calls: each call that can be decided has one, and each branch of it that is out and has a timeout.
use Rattle.std.specs.Prelude.{◌≡◌, ⊤, ◌==◌, ℕ, zero, suc, Bool, true, if◌then◌else◌, length, List, [], ◌∷◌, ◌++◌, Option, None, Some, option_map, option_to_list}
use Rattle.std.specs.Option.{option_or}
use Rattle.call_plan.specs.Plan.{PlanRecord}
use Rattle.connect_codec.specs.declared.answer.Outcome.{Outcome}
use Rattle.connect_codec.specs.declared.answer.Outcome.TheVariants.{Answer, Fail}
use Rattle.gateway_model.specs.declared.call_event.CallEvent.{CallEvent}
use Rattle.gateway_model.specs.declared.id.CallId.{CallId}
use Rattle.gateway_model.specs.Past.{deadline_from}
use Rattle.gateway_replies.specs.Contexts.{ContextsValue, Ended, LifeValue, TimedBranch, by_deadline, by_drain, by_hang_up, contexts_value, ending_life, finished, on_branches}
use Rattle.gateway_theory.specs.declared.trigger.Trigger.{Trigger}
use Rattle.gateway_theory.specs.declared.trigger.Trigger.TheVariants.{Reached, HungUp, Drained}
use Rattle.gateway_theory.specs.Begins.{begun_live, first_out}
use Rattle.gateway_theory.specs.Values.{KeptValue, Live, call_state, deadlines_in}
use Rattle.gateway_theory.specs.Step.{Step, ended_by, is_last_answer, kept}
use Rattle.gateway_connection.specs.declared.arriving.Arriving.{Arriving}
use Rattle.gateway_connection.specs.declared.arriving.Arriving.TheVariants.{Answered, Begins}

-- what ended the contexts of a call and of its branches: the one that has this deadline of its own
abbrev pub Over : Type 0
Over = CallId → Option ℕ → Ended

abbrev pub none_over : Over
none_over id deadline = None

-- those of the calls and branches that this ends
abbrev pub over_by : Trigger → Over
over_by (Reached now) id deadline = by_deadline now deadline
over_by (HungUp conn) id deadline = by_hang_up (conn == id.conn)
over_by Drained id deadline = by_drain true

-- the trigger is of this moment
abbrev pub IsNow : Trigger → ℕ → Type 0
IsNow (Reached now) moment = now ≡ moment
IsNow (HungUp conn) moment = ⊤
IsNow Drained moment = ⊤

-- the event by which a call ends, as its context tells it at a moment
abbrev pub event_for : ℕ → CallId → ContextsValue → Option CallEvent
event_for moment id c = ending_life moment id c.calls

-- a call that this event ends, if there is one
abbrev pub ends_with : Option CallEvent → List Bool → Option Live → Step
ends_with e out None = kept (call_state out None)
ends_with e out (Some l) = ended_by e l out

-- the branches of a call of that deadline which have one of their own: these, numbered from k on
abbrev pub timed : Over → CallId → Option ℕ → ℕ → List (Option ℕ) → List TimedBranch
timed over id call k [] = []
timed over id call k (None ∷ ds) = timed over id call (suc k) ds
timed over id call k (Some at ∷ ds) = record { branch = k; deadline = at; ended = option_or (over id call) (over id (Some at)) } ∷ timed over id call (suc k) ds

-- the context of a call, and those of its branches that are out
abbrev pub life_in : Over → CallId → List Bool → Live → LifeValue
life_in over id out l =
    record {
      id = id;
      deadline = l.asked.deadline;
      request_id = l.asked.request_id;
      ended = over id l.asked.deadline;
      branches = timed over id l.asked.deadline 0 (deadlines_in out l.deadlines);
    }

-- while that can be decided
abbrev pub lives_in : Over → KeptValue → List LifeValue
lives_in over k = option_to_list (option_map (life_in over k.id k.call.out) k.call.live)

abbrev pub linked_calls : Over → List KeptValue → List LifeValue
linked_calls over [] = []
linked_calls over (k ∷ ks) = lives_in over k ++ linked_calls over ks

-- what comes of a request: its answer, which leaves no context, or its call, which has one, as have its first branches that have a timeout
abbrev pub ComesWith : Arriving → CallId → ℕ → ContextsValue → ContextsValue → Type 0
ComesWith (Answered reply) id moment v w = w ≡ v
ComesWith (Begins a) id moment v w = w ≡ contexts_value v.drained v.conns (v.calls ++ life_in none_over id (first_out a) (begun_live moment id a) ∷ [])

-- a branch of a call starts: with a deadline of its own it has a context, which has ended if its call's has
abbrev pub branch_started : CallId → ℕ → Option ℕ → ContextsValue → ContextsValue
branch_started id branch None c = c
branch_started id branch (Some at) c = on_branches id (λ l. l.branches ++ record { branch = branch; deadline = at; ended = l.ended } ∷ []) c

-- the branches of a call below this number start as it begins
abbrev pub first_started : CallId → ℕ → PlanRecord → ℕ → ContextsValue → ContextsValue
first_started id moment plan zero c = c
first_started id moment plan (suc k) c = branch_started id k (deadline_from moment plan k) (first_started id moment plan k c)

-- a branch of a call answered: the next one starts, if one waits, and then the context of the one that answered is gone
abbrev pub passed_by : ℕ → ℕ → CallId → Option Live → ContextsValue → ContextsValue
passed_by moment branch id None c = c
passed_by moment branch id (Some l) c =
    if is_last_answer l then c
    else finished id branch (branch_started id (length l.deadlines) (deadline_from moment l.asked.plan (length l.deadlines)) c)

-- a result of a branch came: a call that it decides keeps its contexts until it ends
abbrev pub passed_on : ℕ → ℕ → Outcome → KeptValue → ContextsValue → ContextsValue
passed_on moment branch (Fail error) k c = c
passed_on moment branch (Answer body) k c = passed_by moment branch k.id k.call.live c
