-- The contexts with their hooks: those that each open connection brought and has not used, those of its calls, and those that were called.
use Rattle.std.specs.Prelude.{◌≡◌, ◌⊎◌, ◌==◌, ℕ, false, not, if◌then◌else◌, length, List, [], ◌∷◌, ◌++◌, filter, Option, None, Some, option_and_then, option_map, Result, Ok}
use Rattle.http_pieces.specs.Request.{most_requests}
use Rattle.gateway_model.specs.declared.ending.Ending.{Ending}
use Rattle.gateway_model.specs.CallRecord.{CallRecord, last_event}
use Rattle.gateway_model.specs.Errors.{cause_of}
use Rattle.gateway_theory.specs.Endings.{ending_with}
use Rattle.std.specs.declared.alloc.AllocError.{AllocError}
use Rattle.gateway_model.specs.declared.id.CallId.{CallId}
use Rattle.gateway_model.specs.Past.{is_call}
use Rattle.gateway_replies.specs.Contexts.{ContextsValue, no_contexts}

-- the connections' numbers, each with the hooks that it has not used
abbrev pub Stocks : Type 0 → Type 0
Stocks H = List (ℕ × List H)

-- the calls' ids, each with its hook
abbrev pub Hooks : Type 0 → Type 0
Hooks H = List (CallId × H)

-- the calls whose hooks were called, each with the ending that its hook was told, in that order
abbrev pub Called : Type 0
Called = List (CallId × Ending)

-- how the last event of a decided call ends it; an answer does not
abbrev pub ending_for : CallRecord → Option Ending
ending_for call = option_map (λ cause. ending_with cause call.last) (option_and_then (cause_of call.plan) (last_event call.events))

-- the call, and what its hook is told, if it is told anything
abbrev pub called_on : CallId → Option Ending → Called
called_on id None = []
called_on id (Some ending) = (id, ending) ∷ []

-- no hook is called, or that one
abbrev pub CallsAtMost : Called → Called → Called → Type 0
CallsAtMost more old new = (new ≡ old) ⊎ (new ≡ old ++ more)

-- the contexts, and the hooks
pub record HookedContexts (H : Type 0) : Type 0 where
  pub standing : ContextsValue
  pub stocks : Stocks H
  pub hooks : Hooks H
  pub called : Called

module _ {H : Type 0} where
  abbrev pub hooked : ContextsValue → Stocks H → Hooks H → Called → HookedContexts H
  hooked standing stocks hooks called = record { standing = standing; stocks = stocks; hooks = hooks; called = called }

  abbrev pub none_hooked : HookedContexts H
  none_hooked = hooked no_contexts [] [] []

  -- the hooks that the connection of that number has not used
  abbrev pub stock_of : ℕ → Stocks H → List H
  stock_of number [] = []
  stock_of number (s ∷ ss) = if s.0 == number then s.1 else stock_of number ss

  -- the same, if it has a stock
  abbrev pub stock_in : ℕ → Stocks H → Option (List H)
  stock_in number [] = None
  stock_in number (s ∷ ss) = if s.0 == number then Some s.1 else stock_in number ss

  -- the hook of the call
  abbrev pub hook_of : CallId → Hooks H → Option H
  hook_of id [] = None
  hook_of id (h ∷ hs) = if is_call h.0 id then Some h.1 else hook_of id hs

  -- the hooks of other calls, and those of the calls of other connections
  abbrev pub hooks_but : CallId → Hooks H → Hooks H
  hooks_but id hooks = filter (λ h. not (is_call h.0 id)) hooks

  abbrev pub hooks_of_others : ℕ → Hooks H → Hooks H
  hooks_of_others number hooks = filter (λ h. not (h.0.conn == number)) hooks

  -- ---- what becomes of them

  -- all hooks stay, and none is called
  pub record KeepsHooks (v w : HookedContexts H) : Type 0 where
    pub stocks_are : w.stocks ≡ v.stocks
    pub hooks_are : w.hooks ≡ v.hooks
    pub called_are : w.called ≡ v.called

  -- a connection brings its hooks, one for each request that it may make
  pub record BringsHooks (number : ℕ) (stock : List H) (v w : HookedContexts H) : Type 0 where
    pub full : length stock ≡ most_requests
    pub none : stock_in number v.stocks ≡ None
    pub stocks_are : w.stocks ≡ v.stocks ++ (number, stock) ∷ []
    pub hooks_are : w.hooks ≡ v.hooks
    pub called_are : w.called ≡ v.called

  -- the call takes the first hook that its connection has not used
  pub record TakesHook (id : CallId) (v w : HookedContexts H) : Type 0 where
    pub hook : H
    pub first : stock_of id.conn v.stocks ≡ hook ∷ stock_of id.conn w.stocks
    pub hooks_are : w.hooks ≡ v.hooks ++ (id, hook) ∷ []
    pub called_are : w.called ≡ v.called

  -- no stock changes, though some may go
  abbrev pub StocksStay : HookedContexts H → HookedContexts H → Type 0
  StocksStay v w = (number : ℕ) (stock : List H) → stock_in number w.stocks ≡ Some stock → stock_in number v.stocks ≡ Some stock

  -- the connection of that number loses at most its first hook, and no other stock changes, though some may go
  abbrev pub TakesAtMostOne : ℕ → HookedContexts H → HookedContexts H → Type 0
  TakesAtMostOne number v w = (other : ℕ) (stock : List H) → stock_in other w.stocks ≡ Some stock
      → (stock_in other v.stocks ≡ Some stock) ⊎ ((other ≡ number) × ((hook : H) × (stock_in other v.stocks ≡ Some (hook ∷ stock))))

  -- the stocks of other connections stay
  abbrev pub KeepsStocks : ℕ → Stocks H → Stocks H → Type 0
  KeepsStocks number v w = (other : ℕ) → (other == number) ≡ false → stock_of other w ≡ stock_of other v

  -- none is taken, or its first one, and that is lost
  pub record MayLoseHook (number : ℕ) (v w : HookedContexts H) : Type 0 where
    pub hooks_are : w.hooks ≡ v.hooks
    pub called_are : w.called ≡ v.called
    pub stock_is : (stock_of number w.stocks ≡ stock_of number v.stocks) ⊎ ((hook : H) × (stock_of number v.stocks ≡ hook ∷ stock_of number w.stocks))

  -- the hook of the call goes, and all others stay; these are called
  pub record LosesHook (id : CallId) (more : Called) (v w : HookedContexts H) : Type 0 where
    pub stocks_are : w.stocks ≡ v.stocks
    pub hooks_are : w.hooks ≡ hooks_but id v.hooks
    pub called_are : w.called ≡ v.called ++ more

  -- it is called, and told this ending
  abbrev pub CallsHook : CallId → Ending → HookedContexts H → HookedContexts H → Type 0
  CallsHook id ending = LosesHook id ((id, ending) ∷ [])

  -- it is dropped uncalled
  abbrev pub DropsHook : CallId → HookedContexts H → HookedContexts H → Type 0
  DropsHook id = LosesHook id []

  -- where it is told an ending, the hook of the call gives these bytes
  abbrev pub GivesBytes : (H → Ending → Result (List ℕ) AllocError → Type 0) → CallId → Option Ending → List ℕ → HookedContexts H → Type 0
  GivesBytes gives id told bytes v = (hook : H) (ending : Ending) → hook_of id v.hooks ≡ Some hook → told ≡ Some ending → gives hook ending (Ok bytes)

  -- those of the connection and of its calls go, and all others stay; none is called
  pub record DropsHooks (number : ℕ) (v w : HookedContexts H) : Type 0 where
    pub stocks_are : w.stocks ≡ filter (λ s. not (s.0 == number)) v.stocks
    pub hooks_are : w.hooks ≡ hooks_of_others number v.hooks
    pub called_are : w.called ≡ v.called
