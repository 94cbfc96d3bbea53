use Rattle.gateway_connection.specs.lemmas.Names.{◌≡◌, ℕ, ◌<◌, true, is_some, slot_at}
use Rattle.gateway_connection.proofs.connection.Connection.untaken.Given as goal

abbrev pub invariant-loop-index : goal.invariant-loop-index
invariant-loop-index l = (j : ℕ) → j < l.index → is_some (slot_at j l.self.slots) ≡ true
