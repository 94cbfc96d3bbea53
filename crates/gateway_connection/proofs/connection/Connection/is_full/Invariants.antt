use Rattle.gateway_connection.specs.lemmas.Names.{◌≡◌, ◌≤◌, count_by, is_none, take}
use Rattle.gateway_connection.proofs.connection.Connection.is_full.Given as goal

abbrev pub invariant-loop-index : goal.invariant-loop-index
invariant-loop-index l = (l.undecided ≡ count_by is_none (take l.index l.self.slots)) × (l.undecided ≤ l.index)
