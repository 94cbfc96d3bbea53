-- What the worked rows speak of.
use Rattle.std.specs.Prelude.{false, true, [], ◌∷◌, Option, None}
use Rattle.gateway_theory.specs.Values.{Live, call_state, ConnectionValue}

-- connection 0, on which one request came: a call of which a branch is out
abbrev pub one_out : Option Live → ConnectionValue
one_out live = record { number = 0; taken = 0; slots = None ∷ []; calls = λ k. call_state (true ∷ []) live; broken = false; closed = false }
