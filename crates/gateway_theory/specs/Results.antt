-- A result of a branch, as the machine takes it.
use Rattle.std.specs.Prelude.{◌≡◌, ℕ, Bool, false, ◌&&◌, not, Some, None, is_none, slice_set, List}
use Rattle.std.specs.List.{list_any}
use Rattle.gateway_model.specs.declared.id.CallId.{CallId}
use Rattle.gateway_theory.specs.Values.{KeptValue, CallState, call_state}
use Rattle.gateway_theory.specs.Step.{Step}
use Rattle.gateway_theory.specs.Store.{kept_at, IsFound}

abbrev pub stepped_kept : Step → KeptValue → KeptValue
stepped_kept s k = record { id = k.id; call = s.call }

-- no branch of the call is out, and it can't be decided any more
abbrev pub is_spent : CallState → Bool
is_spent c = is_none c.live && not (list_any (λ b. b) c.out)

-- no call of that id is kept of which nothing is left
abbrev pub NoneSpent : CallId → List KeptValue → Type 0
NoneSpent id calls = (i : ℕ) → IsFound id calls (Some i) → is_spent (kept_at i calls).call ≡ false

-- a branch of a call that can't be decided any more comes back
abbrev pub back_kept : ℕ → KeptValue → KeptValue
back_kept branch k = record { id = k.id; call = call_state (slice_set k.call.out branch false) None }
