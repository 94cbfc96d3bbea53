-- What the gateway stands for after events.
use Rattle.std.specs.Prelude.{ℕ, List, Option, ◌++◌, ◌==◌, if◌then◌else◌, option_map, option_to_list}
use Rattle.gateway_model.specs.Events.{Before}
use Rattle.gateway_model.specs.History.{History}
use Rattle.gateway_model.specs.Starts.{Placed}
use Rattle.gateway_model.specs.declared.event.Event.{Event}
use Rattle.gateway_model.specs.declared.entry.ReplyEntry.{ReplyEntry}
use Rattle.gateway_theory.specs.Replies.{ReplyValue}
use Rattle.gateway_theory.specs.Core as core
use Rattle.gateway_theory.specs.Gateway.{core_of}
use Rattle.gateway_theory.specs.Values.{GatewayValue}

-- the connections of the gateway are those of these events, newest first, of which the openings at those places succeeded
abbrev pub HasConns : GatewayValue → List ℕ → Before → Type 0
HasConns v opened events = core.HasConns (core_of v) opened events

-- the gateway after all that came, where this was lived: what occurred by the events, and breaks of connections among it
abbrev pub Lives : GatewayValue → History → List Placed → Type 0
Lives v h lived = core.Lives (core_of v) h lived

-- the gateway after all that came: whatever occurred by the events, connections broke among it so that it stands for that
abbrev pub Served : GatewayValue → History → Type 0
Served v h = core.Served (core_of v) h

-- one event adds what occurs at it, perhaps with breaks, to what was lived, and changes nothing before it
abbrev pub Adds : List ℕ → Event → History → GatewayValue → GatewayValue → Type 0
Adds opened e h v w = core.Adds opened e h (core_of v) (core_of w)

-- the gateway after the first bytes of one event more, a piece of that connection's stream, and the one before them
abbrev pub FedUpTo : ℕ → List ℕ → History → GatewayValue → GatewayValue → Type 0
FedUpTo n fed h v w = core.FedUpTo n fed h (core_of v) (core_of w)

-- the replies taken, and one of that connection more, if it is given
abbrev pub with_reply : ℕ → Option ReplyValue → (ℕ → List ReplyEntry) → ℕ → List ReplyEntry
with_reply n reply taken c = if c == n then taken c ++ option_to_list (option_map (λ r. r.entry) reply) else taken c

-- the reply of that connection taken more, if it is given
abbrev pub after_reply : ℕ → Option ReplyValue → History → History
after_reply n reply h = record h { taken = with_reply n reply h.taken }
