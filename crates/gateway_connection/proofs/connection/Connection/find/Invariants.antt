use Rattle.gateway_connection.specs.lemmas.Names.{◌≡◌, ℕ, ◌<◌, false, call_id, is_call, kept_at}
use Rattle.gateway_connection.proofs.connection.Connection.find.Given as goal

abbrev pub invariant-loop-index : goal.invariant-loop-index
invariant-loop-index l = (j : ℕ) → j < l.index → is_call (kept_at j l.self.calls).id (call_id l.self.number l.request) ≡ false
