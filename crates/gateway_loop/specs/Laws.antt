-- What a loop rests on.
use Rattle.std.specs.Prelude.{◌≡◌, ℕ, true, ◌++◌}
use Rattle.gateway_model.specs.Events.{Occurs, is_open}
use Rattle.gateway_model.specs.History.{History}
use Rattle.gateway_model.specs.Known.{IsKnown}
use Rattle.gateway_model.specs.Past.{Past, marked}
use Rattle.gateway_model.specs.Queue.{IsPrefixOf, queued, queued_entries}
use Rattle.gateway_model.specs.Run.{bytes_of}
use Rattle.gateway_model.specs.Starts.{Placed, occurrences}
use Rattle.gateway_theory.specs.Values.{GatewayValue, shown}
use Rattle.gateway_theory.specs.Served.{Served}
use Rattle.std.specs.Prelude.{List}

pub record LoopLaws : Type 0 where
  pub known : (v : GatewayValue) (h : History) (occurred : List Placed) → Served v h → Occurs v.plans h.opened h.events occurred
      → IsKnown (shown v) h occurred
  -- what was taken of an open connection begins what is queued for it
  pub entries : (v : GatewayValue) (h : History) (occurred : List Placed) → Served v h → Occurs v.plans h.opened h.events occurred
      → (c : ℕ) → is_open h.opened c h.events ≡ true → IsPrefixOf (h.taken c) (queued_entries c (marked (occurrences occurred)))
  pub bytes : (v : GatewayValue) (h : History) (occurred : List Placed) → Served v h → Occurs v.plans h.opened h.events occurred
      → (c : ℕ) → is_open h.opened c h.events ≡ true → IsPrefixOf (bytes_of (h.taken c)) (queued c (marked (occurrences occurred)))
  -- nothing later changes what is queued
  pub nothing_later : (c : ℕ) (later past : Past) → IsPrefixOf (queued c past) (queued c (later ++ past))
