-- What is told to all connections at once.
use Rattle.std.specs.Prelude.{⊤, Bool, true}
use Rattle.gateway_theory.specs.declared.trigger.Trigger.{Trigger}
use Rattle.gateway_theory.specs.declared.trigger.Trigger.TheVariants.{Reached, HungUp, Drained}

-- it concerns all: a moment, or the drain
abbrev pub IsForAll : Trigger → Type 0
IsForAll (Reached now) = ⊤
IsForAll (HungUp conn) = ⊥
IsForAll Drained = ⊤

-- whether all were drained then
abbrev pub drained_by : Trigger → Bool → Bool
drained_by Drained before = true
drained_by trigger before = before
