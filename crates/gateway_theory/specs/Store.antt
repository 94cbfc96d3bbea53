-- The calls that are kept of a connection, and where one stands.
use Rattle.std.specs.Prelude.{◌≡◌, ℕ, ◌<◌, true, false, List, length, Option, None, Some, slice_index_or}
use Rattle.std.specs.Option.{option_map_or}
use Rattle.std.specs.List.{sum_by}
use Rattle.gateway_model.specs.declared.id.CallId.{CallId}
use Rattle.gateway_model.specs.Past.{is_call}
use Rattle.gateway_theory.specs.Values.{Live, call_state, gone, KeptValue}

abbrev pub no_call : KeptValue
no_call = record { id = record { conn = 0; request = 0 }; call = gone }

abbrev pub kept_at : ℕ → List KeptValue → KeptValue
kept_at i calls = slice_index_or calls i no_call

-- the first call of that id stands at this place, or none does
abbrev pub IsFound : CallId → List KeptValue → Option ℕ → Type 0
IsFound id calls None = (j : ℕ) → j < length calls → is_call (kept_at j calls).id id ≡ false
IsFound id calls (Some i) = (i < length calls) × (is_call (kept_at i calls).id id ≡ true) × ((j : ℕ) → j < i → is_call (kept_at j calls).id id ≡ false)

-- how many branches wait in a call, and in all
abbrev pub waiting_in : KeptValue → ℕ
waiting_in k = option_map_or (λ (l : Live). length l.waiting) k.call.live 0

abbrev pub waiting : List KeptValue → ℕ
waiting calls = sum_by waiting_in calls

-- a call that is given up: its branches may be out, and nothing decides it
abbrev pub given_up : KeptValue → KeptValue
given_up k = record { id = k.id; call = call_state k.call.out None }
