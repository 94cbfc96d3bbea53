-- What is kept of a call, beside what has occurred.
use Rattle.std.specs.Prelude.{◌≡◌, ℕ, ◌-◌, Bool, true, false, ◌&&◌, is_some, List, ◌∷◌, map, length, Option, None, Some}
use Rattle.std.specs.List.{range_with_len}
use Rattle.std.specs.Option.{option_or}
use Rattle.gateway_model.specs.declared.id.CallId.{CallId}
use Rattle.gateway_theory.specs.Task.{task_of}
use Rattle.gateway_theory.specs.Values.{TaskValue, Live, CallState}
use Rattle.gateway_model.specs.Past.{Mark, Past, ArrivedCall, call, answers, began, started, is_out, can_be_decided, is_shut, decided, branch_deadlines}
use Rattle.gateway_model.specs.Queue.{own_events, entry}
use Rattle.gateway_model.specs.Starts.{jobs_started}
use Rattle.gateway_theory.specs.Step.{Step, has_out}

-- the call has arrived, and can still be decided
abbrev pub is_live : CallId → Past → Bool
is_live id past = is_some (call id past) && can_be_decided id past

-- the branches from this one on
abbrev pub tasks_from : ℕ → CallId → ArrivedCall → List TaskValue
tasks_from k id a = map (task_of id a) (range_with_len k (length a.plan.branches - k))

pub record LiveStands (id : CallId) (l : Live) (out : List Bool) (past : Past) : Type 0 where
  pub call_is : call id past ≡ Some l.asked
  pub began_is : began id past ≡ true
  pub undecided : decided id past ≡ None
  pub unshut : is_shut id.conn past ≡ false
  pub size_is : length out ≡ length l.asked.plan.branches
  pub events_are : l.events ≡ own_events id past
  pub answers_are : length l.events ≡ answers id past
  pub deadlines_are : l.deadlines ≡ branch_deadlines id past
  pub waiting_are : l.waiting ≡ tasks_from (started id past) id l.asked

abbrev pub MayLive : CallId → Option Live → List Bool → Past → Type 0
MayLive id None out past = is_live id past ≡ false
MayLive id (Some l) out past = LiveStands id l out past

pub record CallStands (id : CallId) (c : CallState) (past : Past) : Type 0 where
  pub out_is : (i : ℕ) → has_out c i ≡ is_out id i past
  pub live_is : MayLive id c.live c.out past

-- what an occurrence made of the call is what it should
pub record Stepped (id : CallId) (s : Step) (m : Mark) (past : Past) : Type 0 where
  pub stands : CallStands id s.call (m ∷ past)
  pub replies : option_or (entry id past) s.reply ≡ entry id (m ∷ past)
  pub starts : s.jobs ≡ jobs_started id m past
