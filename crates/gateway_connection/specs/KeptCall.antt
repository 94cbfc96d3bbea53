-- A call that is kept, as the code keeps it: its branches as a group.
use Rattle.std.specs.Prelude.{◌≡◌, ◌⊎◌, ℕ, ◌+◌, ◌-◌, ◌≤◌, min, Bool, false, All, List, [], map, length, slice_index_or, Option, None, Some, option_map, option_to_list}
use Rattle.std.specs.List.{count_by, range_with_len}
use Rattle.err_group.specs.GroupState.{GroupState}
use Rattle.gateway_model.specs.declared.entry.ReplyEntry.TheVariants.{Call as Calling}
use Rattle.gateway_model.specs.declared.call_event.CallEvent.{CallEvent}
use Rattle.gateway_model.specs.declared.id.CallId.{CallId}
use Rattle.gateway_model.specs.CallRecord.{CallRecord}
use Rattle.gateway_theory.specs.Begins.{begun_live, first_ones, first_out}
use Rattle.gateway_model.specs.Job.{JobValue}
use Rattle.gateway_theory.specs.Task.{task_of, job_at}
use Rattle.gateway_theory.specs.Values.{TaskValue, Live, call_state, KeptValue}
use Rattle.gateway_theory.specs.LiveStands.{tasks_from}
use Rattle.gateway_model.specs.Past.{ArrivedCall}
use Rattle.gateway_theory.specs.Step.{Step}

-- a call that can still be decided: what it asks for, its own events so far, and the deadlines of its branches that have started
pub record LiveValue : Type 0 where
  pub asked : ArrivedCall
  pub events : List CallEvent
  pub deadlines : List (Option ℕ)

abbrev pub live_value : ArrivedCall → List CallEvent → List (Option ℕ) → LiveValue
live_value asked events deadlines = record { asked = asked; events = events; deadlines = deadlines }

abbrev pub live_of : List TaskValue → LiveValue → Live
live_of waiting l = record { asked = l.asked; events = l.events; deadlines = l.deadlines; waiting = waiting }

abbrev pub kept_value : CallId → List Bool → List TaskValue → Option LiveValue → KeptValue
kept_value id out waiting live = record { id = id; call = call_state out (option_map (live_of waiting) live) }

-- how many branches have started: those below the limit, and one more for each answer
abbrev pub started_of : LiveValue → ℕ
started_of l = min (length l.asked.plan.branches) (l.asked.plan.limit + length l.events)

-- the branches that have not started wait, in declared order, and are not out
pub record IsGoing (id : CallId) (out : List Bool) (queue : List TaskValue) (l : LiveValue) : Type 0 where
  pub size_is : length out ≡ length l.asked.plan.branches
  pub timed : length l.deadlines ≡ started_of l
  pub waiting_are : queue ≡ tasks_from (started_of l) id l.asked
  pub unstarted : (j : ℕ) → started_of l ≤ j → slice_index_or out j false ≡ false

-- the same of its value: the deadlines of those that have started, and the next one waits in front
pub record GoesOn (id : CallId) (out : List Bool) (l : Live) : Type 0 where
  pub size_is : length out ≡ length l.asked.plan.branches
  pub waiting_are : l.waiting ≡ tasks_from (length l.deadlines) id l.asked
  pub unstarted : (j : ℕ) → length l.deadlines ≤ j → slice_index_or out j false ≡ false

-- nothing waits in a call that can't be decided any more
abbrev pub MayGo : CallId → List Bool → List TaskValue → Option LiveValue → Type 0
MayGo id out queue None = queue ≡ []
MayGo id out queue (Some l) = IsGoing id out queue l

-- as many tasks are active as branches are out
pub record IsKept (id : CallId) (out : List Bool) (group : GroupState TaskValue (Unit {0})) (live : Option LiveValue) : Type 0 where
  pub active_is : group.active ≡ count_by (λ b. b) out
  pub live_is : MayGo id out group.queue live

-- the call made this step at a moment: its record, if it was decided by it, and the branch that starts; both at once never come
pub record IsStep (moment : ℕ) (old new : KeptValue) (decided : Option CallRecord) (next : Option TaskValue) (step : Step) : Type 0 where
  pub new_is : new ≡ record { id = old.id; call = step.call }
  pub reply_is : option_map Calling decided ≡ step.reply
  pub jobs_are : map (job_at moment) (option_to_list next) ≡ step.jobs
  pub alone : (decided ≡ None) ⊎ (next ≡ None)
  pub its : All (λ (j : JobValue). j.call ≡ old.id) step.jobs

-- the call as it begins at a moment, and the branches that start at once
pub record IsBegun (moment : ℕ) (id : CallId) (a : ArrivedCall) (call : KeptValue) (first : List TaskValue) : Type 0 where
  pub call_is : call ≡ record { id = id; call = call_state (first_out a) (Some (begun_live moment id a)) }
  pub first_are : first ≡ map (task_of id a) (range_with_len 0 (first_ones a))

-- so many of the call's branches were given to its group: as many as its limit allows have started, and the others wait
pub record HasGone (id : CallId) (a : ArrivedCall) (count : ℕ) (group : GroupState TaskValue (Unit {0})) (first : List TaskValue) : Type 0 where
  pub active_is : group.active ≡ min count a.plan.limit
  pub limit_is : group.limit ≡ a.plan.limit
  pub queue_is : group.queue ≡ map (task_of id a) (range_with_len (min count a.plan.limit) (count - min count a.plan.limit))
  pub first_are : first ≡ map (task_of id a) (range_with_len 0 (min count a.plan.limit))
