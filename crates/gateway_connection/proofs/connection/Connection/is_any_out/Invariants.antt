use Rattle.gateway_connection.specs.lemmas.Names.{◌≡◌, ℕ, ◌<◌, false, list_any, kept_at}
use Rattle.gateway_connection.proofs.connection.Connection.is_any_out.Given as goal

abbrev pub invariant-loop-index : goal.invariant-loop-index
invariant-loop-index l = (j : ℕ) → j < l.index → list_any (λ b. b) (kept_at j l.self.calls).call.out ≡ false
