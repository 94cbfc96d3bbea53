-- When the next turn of a loop is due.
use Rattle.std.specs.Prelude.{ℕ, nat_le, if◌then◌else◌, Option, Some, None}
use Rattle.gateway_loop.specs.declared.next_turn.NextTurn.{NextTurn}
use Rattle.gateway_loop.specs.declared.next_turn.NextTurn.TheVariants.{AtOnce, At, Never}

-- where the first limit ends at that moment, if there is one: at once, if it has come by the present one
abbrev pub due_by : Option ℕ → ℕ → NextTurn
due_by None moment = Never
due_by (Some until) moment = if nat_le until moment then AtOnce else At until
