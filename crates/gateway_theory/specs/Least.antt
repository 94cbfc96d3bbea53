-- The least deadline that a call or a branch still has, and whether a moment ends a call.
use Rattle.std.specs.Prelude.{ℕ, Bool, List, map, Option, is_some}
use Rattle.std.specs.List.{list_any}
use Rattle.gateway_model.specs.Past.{least_of}
use Rattle.gateway_theory.specs.declared.trigger.Trigger.TheVariants.{Reached}
use Rattle.gateway_theory.specs.Ends.{ended_call}
use Rattle.gateway_theory.specs.Values.{KeptValue, call_deadline}

-- the least deadline of a call that is kept
abbrev pub deadline_of : KeptValue → Option ℕ
deadline_of k = call_deadline k.call

-- that of all calls; none where none has one
abbrev pub least_deadline : List KeptValue → Option ℕ
least_deadline calls = least_of (map deadline_of calls)

-- the moment ends one of these calls
abbrev pub ends_any : ℕ → List KeptValue → Bool
ends_any moment calls = list_any (λ (k : KeptValue). is_some (ended_call (Reached moment) k.id k.call).reply) calls
