-- Hooks, over the list of operations on them, newest first. (Go package `context`, `AfterFunc`; that a due hook runs when it is asked to,
-- and the order, are this project's.)
use Rattle.std.specs.Prelude.{◌≡◌, ℕ, ◌+◌, Bool, not, nat_eq, if◌then◌else◌, List, [], ◌∷◌, ◌++◌, filter, drop, Option, None, Some, IsSomeAnd, Result}
use Rattle.std.specs.List.{list_any}
use Rattle.std.specs.declared.alloc.AllocError.{AllocError}
use Rattle.context_tree.specs.declared.id.CtxId.{CtxId}
use Rattle.context_tree.specs.Context.{same}
use Rattle.after_funcs.specs.declared.id.AfterId.{AfterId}
use Rattle.after_funcs.specs.declared.registration.Registration.{Registration}

-- what is done to hooks
pub data Operation (H : Type 0) : Type 0 where
  -- a hook is registered on a context, which has ended already (true) or not (false); a registration that is refused is none
  AfterFunc : CtxId → Bool → H → Operation H
  -- the context ends
  Fire : CtxId → Operation H
  -- the first due hook, if there is one, is called
  RunNext : Operation H
  -- the hook of that number is stopped
  Stop : AfterId → Operation H

-- how many hooks were registered
abbrev pub registered : {H : Type 0} → List (Operation H) → ℕ
registered [] = 0
registered (AfterFunc ctx done hook ∷ past) = registered past + 1
registered (Fire ctx ∷ past) = registered past
registered (RunNext ∷ past) = registered past
registered (Stop id ∷ past) = registered past

-- the next hook, which has the number of those before it
abbrev pub next : {H : Type 0} → CtxId → H → List (Operation H) → List (Registration H)
next ctx hook past = record { id = registered past; ctx = ctx; hook = hook } ∷ []

abbrev pub is_on : {H : Type 0} → CtxId → Registration H → Bool
is_on ctx r = same r.ctx ctx

abbrev pub is_named : {H : Type 0} → AfterId → Registration H → Bool
is_named id r = nat_eq r.id id

-- The hooks that wait, in order of registration: a hook waits from its registration until a fire of its context or a stop. One
-- registered with `done` never waits.
abbrev pub waiting : {H : Type 0} → List (Operation H) → List (Registration H)
waiting [] = []
waiting (AfterFunc ctx done hook ∷ past) = if done then waiting past else (waiting past ++ next ctx hook past)
waiting (Fire ctx ∷ past) = filter (λ r. not (is_on ctx r)) (waiting past)
waiting (RunNext ∷ past) = waiting past
waiting (Stop id ∷ past) = filter (λ r. not (is_named id r)) (waiting past)

-- The hooks that are due and were not called, in the order in which they became due, within one fire by registration. One registered
-- with `done` is due at once.
abbrev pub due : {H : Type 0} → List (Operation H) → List (Registration H)
due [] = []
due (AfterFunc ctx done hook ∷ past) = if done then (due past ++ next ctx hook past) else due past
due (Fire ctx ∷ past) = due past ++ filter (is_on ctx) (waiting past)
due (RunNext ∷ past) = drop 1 (due past)
due (Stop id ∷ past) = due past

-- the hook of that number waits
abbrev pub is_waiting : {H : Type 0} → AfterId → List (Operation H) → Bool
is_waiting id past = list_any (is_named id) (waiting past)

-- the first of the due hooks, and its context
abbrev pub first_due : {H : Type 0} → List (Registration H) → Option (AfterId × CtxId)
first_due [] = None
first_due (first ∷ later) = Some (first.id, first.ctx)

-- What comes of calling the first of the due hooks with this event: its number, and what it may return; nothing where none is due.
abbrev pub IsAnswerOfFirst : {H E O : Type 0} → (H → E → Result O AllocError → Type 0) → E → List (Registration H) → Option (AfterId × Result O AllocError) → Type 0
IsAnswerOfFirst gives event [] answer = answer ≡ None
IsAnswerOfFirst gives event (first ∷ later) answer = IsSomeAnd answer (λ ran. (ran.0 ≡ first.id) × gives first.hook event ran.1)
