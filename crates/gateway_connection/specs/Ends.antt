-- Calls of a connection that end, and results of their branches, as the code takes them.
use Rattle.std.specs.Prelude.{◌≡◌, ◌⊎◌, ℕ, ◌+◌, ◌<◌, ◌++◌, All, Bool, true, false, if◌then◌else◌, is_none, is_some, length, List, [], map, option_map, option_to_list, slice_set, Option, None, Some, OnErr, OnOk, Result}
use Rattle.connect_codec.specs.declared.answer.Outcome.{Outcome}
use Rattle.gateway_model.specs.CallRecord.{CallRecord}
use Rattle.gateway_model.specs.Job.{JobValue}
use Rattle.gateway_model.specs.Past.{call_id}
use Rattle.gateway_model.specs.declared.entry.ReplyEntry.{ReplyEntry}
use Rattle.gateway_model.specs.declared.id.CallId.{CallId}
use Rattle.gateway_replies.specs.Contexts.{ContextsValue, KeepsOthers, ends_of, is_life, without}
use Rattle.gateway_replies.specs.Hooks.{HookedContexts}
use Rattle.gateway_theory.specs.Conn.{slot_at}
use Rattle.gateway_theory.specs.Ends.{reply_for}
use Rattle.gateway_theory.specs.Values.{KeptValue, call_at, TaskValue, HeldConnection}
use Rattle.gateway_theory.specs.Replies.{ReplyValue, reply_with}
use Rattle.gateway_theory.specs.Step.{Step, has_out}
use Rattle.gateway_theory.specs.Store.{IsFound, kept_at}
use Rattle.gateway_theory.specs.Task.{job_at}
use Rattle.gateway_theory.specs.declared.fault.Took.{Took}
use Rattle.gateway_theory.specs.declared.trigger.Trigger.{Trigger}
use Rattle.gateway_theory.specs.Connection.{filled}
use Rattle.gateway_theory.specs.Held.{EndsIn, TakesResult, back_held, broken_held, ended_held, replied, result_in, settled_held, stepped_held}
use Rattle.gateway_connection.specs.KeptCall.{IsStep}
use Rattle.gateway_connection.specs.Lent.{LeavesRest}
use Rattle.gateway_connection.specs.Linked.{ends_with, event_for, none_over}
use Rattle.gateway_connection.specs.OwnContexts.{IsTied, linked_conn, own_contexts}
use Rattle.gateway_connection.specs.declared.shared.Shared.{Shared}

-- the call's contexts go, and no stock changes; where its reply finds no memory, only the contexts of calls of its connection have changed
pub record LetsGo {H A B : Type 0} (id : CallId) (result : Result A B) (v w : HookedContexts H) : Type 0 where
  pub gone : OnOk result (w.standing ≡ without id v.standing)
  pub others : OnErr result (KeepsOthers id.conn v.standing w.standing)
  pub stocks_are : w.stocks ≡ v.stocks

-- ---- results

-- the call of that id stands at this place, and that branch of it is out; or that is out of none
abbrev pub IsOut : CallId → ℕ → List KeptValue → Option ℕ → Type 0
IsOut id branch calls None = has_out (call_at id calls) branch ≡ false
IsOut id branch calls (Some i) = IsFound id calls (Some i) × (has_out (kept_at i calls).call branch ≡ true)

-- they are these contexts, and one of the call, where that was decided
abbrev pub OwnWith : CallId → Option CallRecord → ContextsValue → ContextsValue → Type 0
OwnWith id None d w = d ≡ w
OwnWith id (Some r) d w = (is_life id d.calls ≡ true) × (without id d ≡ w)

module _ {H : Type 0} where
  -- the call at a place made this step, and its reply is in its slot
  pub record Settles (i : ℕ) (s : Step) (k l : HeldConnection) (a b : Shared H) : Type 0 where
    pub conn_is : l ≡ settled_held i s k
    pub its : All (λ (j : JobValue). j.call ≡ (kept_at i k.calls).id) s.jobs
    pub tied : IsTied none_over l b.contexts
    pub begun_is : b.begun ≡ a.begun
    pub rest : LeavesRest s.jobs k l a b

  -- memory was refused, where the result counted: the branch has come back, or has not
  pub record Unsettled (i branch : ℕ) (k l : HeldConnection) (a b : Shared H) : Type 0 where
    pub live : is_some (kept_at i k.calls).call.live ≡ true
    pub conn_is : (l ≡ k) ⊎ (l ≡ back_held i branch k)
    pub begun_is : b.begun ≡ a.begun
    pub rest : LeavesRest [] k l a b

  -- the call made its step: its record, if that decides it, its contexts, and the job of the branch that starts
  pub record TakesAt (i branch : ℕ) (outcome : Outcome) (decided : Option CallRecord) (k l : HeldConnection) (a b : Shared H) : Type 0 where
    pub new : KeptValue
    pub next : Option TaskValue
    pub step : IsStep a.moment (kept_at i k.calls) new decided next (result_in a.moment i branch outcome k)
    pub conn_is : l ≡ record k { calls = slice_set k.calls i new }
    pub keeps : KeepsOthers k.number a.contexts.standing b.contexts.standing
    pub own : OwnWith (kept_at i k.calls).id decided (own_contexts k.number b.contexts.standing)
        (linked_conn (ends_of a.contexts.standing k.number) a.contexts.standing.drained none_over (record k { calls = slice_set k.calls i new }))
    pub stocks_are : b.contexts.stocks ≡ a.contexts.stocks
    pub begun_is : b.begun ≡ a.begun
    pub rest : LeavesRest (map (job_at a.moment) (option_to_list next)) k l a b

  -- what the result of a branch of the call of that request makes of it
  pub record TakesFrom (request branch : ℕ) (outcome : Outcome) (took : Took) (k l : HeldConnection) (a b : Shared H) : Type 0 where
    pub jobs : List JobValue
    pub takes : TakesResult a.moment (call_id k.number request) branch outcome k l jobs took
    pub rest : LeavesRest jobs k l a b

-- ---- calls that end

-- all have ended that this ends; or memory was refused to the reply of one, and it broke
abbrev pub EndsBy : Trigger → Bool → HeldConnection → HeldConnection → Type 0
EndsBy trigger false k l = l ≡ ended_held trigger k
EndsBy trigger true k l = (k.closed ≡ false) × (k.broken ≡ false) × EndsIn trigger k × (l ≡ broken_held k)

-- the reply that a step of a call makes
abbrev pub replies_by : CallId → Step → List ReplyValue
replies_by id s = option_to_list (option_map (reply_with id) s.reply)

module _ {H : Type 0} where
  -- the step of a call at a place, as its contexts tell it
  abbrev pub ending_of : ℕ → HeldConnection → Shared H → Step
  ending_of i k a = ends_with (event_for a.moment (kept_at i k.calls).id a.contexts.standing) (kept_at i k.calls).call.out (kept_at i k.calls).call.live

  -- the call made this step, and its reply was made
  pub record EndsOne (i : ℕ) (s : Step) (k l : HeldConnection) (a b : Shared H) : Type 0 where
    pub conn_is : l ≡ stepped_held i s k
    pub made_are : b.made.items ≡ a.made.items ++ replies_by (kept_at i k.calls).id s
    pub standing_is : b.contexts.standing ≡ (if is_some s.reply then without (kept_at i k.calls).id a.contexts.standing else a.contexts.standing)
    pub stocks_are : b.contexts.stocks ≡ a.contexts.stocks
    pub begun_is : b.begun ≡ a.begun
    pub rest : LeavesRest [] k l a b

  -- memory was refused to its reply
  pub record FailsOne (s : Step) (k l : HeldConnection) (a b : Shared H) : Type 0 where
    pub ends : is_some s.reply ≡ true
    pub broken : broken_held l ≡ broken_held k
    pub number_is : l.number ≡ k.number
    pub begun_is : b.begun ≡ a.begun
    pub rest : LeavesRest [] k l a b

-- ---- replies

-- the slot of that request stands at this place, and is empty; or no reply fills it
abbrev pub IsEmptyAt : ℕ → HeldConnection → Option ℕ → Type 0
IsEmptyAt request k None = (e : ReplyEntry) → k ≡ replied request (Some e) k
IsEmptyAt request k (Some i) = (k.taken + i ≡ request) × (i < length k.slots) × (is_none (slot_at i k.slots) ≡ true)

-- of these replies the one to that request of the connection
abbrev pub reply_in : HeldConnection → List ReplyValue → ℕ → Option ReplyEntry
reply_in k made request = reply_for (call_id k.number request) made

-- these went into their slots
abbrev pub filled_by : List ReplyValue → HeldConnection → HeldConnection
filled_by made k = record k { slots = filled (reply_in k made) k.taken k.slots }
