-- What a client ends as, where what else is known of it is lent.
use Rattle.std.specs.Borrow.{Fml, Lends, MutBor, RattleType}
use Rattle.wires.specs.declared.wire.Wire.{Ghosts}
use Rattle.loop_model.specs.Clients.{ClientValue}
use Rattle.gateway_loop.specs.declared.hints.Hints.{Hints}
use Rattle.gateway_loop.specs.contracts.client.Client.{the_row}
use Rattle.gateway_loop.specs.contracts.hints.Hints.{the_row as hints_row}

-- whatever is noted, it stays the same
abbrev pub LendsHints : (W : RattleType) → Ghosts W.Denot → MutBor ClientValue → MutBor Hints → Fml
LendsHints W wire s r = Lends (the_row W wire) hints_row s r (λ _. s.now)
