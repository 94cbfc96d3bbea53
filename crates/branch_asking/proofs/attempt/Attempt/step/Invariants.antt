use Rattle.branch_asking.proofs.Words.{ℕ, List, Asks, HasGrown}
use Rattle.http_pieces.specs.declared.framing.Framing.{Framing}
use Rattle.branch_asking.proofs.attempt.Attempt.step.Given as goal

-- it goes on, and nothing is forgotten
abbrev pub invariant-loop-step : goal.invariant-loop-step
invariant-loop-step g l = ((framing : Framing) (request : List ℕ) → Asks framing request l.initial.self → Asks framing request l.self) × HasGrown l.initial.self l.self
