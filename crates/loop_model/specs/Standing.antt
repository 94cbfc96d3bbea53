-- How a loop stands.
use Rattle.std.specs.Prelude.{ℕ, Bool, false, List, Option, is_some, count_by}
use Rattle.std.specs.Option.{option_map_or}
use Rattle.loop_model.specs.Clients.{ClientValue}

-- how many clients are there
abbrev pub count_clients : List (Option ClientValue) → ℕ
count_clients clients = count_by is_some clients

-- how many of them linger
abbrev pub count_lingering : List (Option ClientValue) → ℕ
count_lingering clients = count_by (λ (c : Option ClientValue). option_map_or (λ (x : ClientValue). x.lingers) c false) clients
