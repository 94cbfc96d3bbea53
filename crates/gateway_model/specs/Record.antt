-- When the record of a call is lawful: its events can have come so.
use Rattle.std.specs.Prelude.{ℕ, suc, ◌+◌, min, Bool, true, false, not, ◌&&◌, ◌||◌, ◌==◌, nat_lt, is_none, None, List, [], ◌∷◌, ◌++◌, length, slice_index_or}
use Rattle.std.specs.Option.{option_map_or}
use Rattle.gateway_model.specs.declared.call_event.CallEvent.{CallEvent}
use Rattle.gateway_model.specs.declared.call_event.CallEvent.TheVariants.{Answer, Failed, Expired, BranchExpired, Drained}
use Rattle.gateway_model.specs.CallRecord.{CallRecord, answer_of_branch, last_event}
use Rattle.gateway_model.specs.Past.{decides, is_due}

-- how many answers are among these events
abbrev pub answers_among : List CallEvent → ℕ
answers_among [] = 0
answers_among (Answer i body ∷ events) = suc (answers_among events)
answers_among (e ∷ events) = answers_among events

-- the branch is out after these events: it has started, as the limit and the answers allow, and has not answered
abbrev pub is_out_after : CallRecord → List CallEvent → ℕ → Bool
is_out_after r events i = nat_lt i (min (length r.plan.branches) (r.plan.limit + answers_among events)) && is_none (answer_of_branch i events)

-- the event can come behind those
abbrev pub may_come : CallRecord → List CallEvent → CallEvent → Bool
may_come r before (Answer i body) = is_out_after r before i
may_come r before (Failed i error) = is_out_after r before i
may_come r before (Expired moment) = is_due moment r.deadline
may_come r before (BranchExpired i moment) = is_out_after r before i && is_due moment (slice_index_or r.branch_deadlines i None)
may_come r before e = true

-- these events can come behind those, each in its turn, and none behind one that decides the call
abbrev pub may_follow : CallRecord → List CallEvent → List CallEvent → Bool
may_follow r before [] = true
may_follow r before (e ∷ events) =
    may_come r before e && (length events == 0 || not (decides (answers_among before) (length r.plan.branches) e)) && may_follow r (before ++ e ∷ []) events

-- the call was decided as it arrived: by its deadline, or by the drain
abbrev pub ends_at_start : List CallEvent → Bool
ends_at_start (Expired moment ∷ []) = true
ends_at_start (Drained ∷ []) = true
ends_at_start events = false

-- the record is lawful
abbrev pub is_lawful : CallRecord → Bool
is_lawful r = may_follow r [] r.events && (not (is_due r.start r.deadline) || ends_at_start r.events)

-- an event after which so many answers are among the events, of which it is the last, decides the call
abbrev pub is_ending : ℕ → ℕ → CallEvent → Bool
is_ending answered n (Answer i body) = answered == n
is_ending answered n e = true

-- the record is decided: its last event is none of its first answers
abbrev pub is_decided : CallRecord → Bool
is_decided r = option_map_or (is_ending (answers_among r.events) (length r.plan.branches)) (last_event r.events) false
