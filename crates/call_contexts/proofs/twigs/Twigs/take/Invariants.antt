use Rattle.call_contexts.proofs.Names.{◌≡◌, ℕ, ◌<◌, slice_index_or, Twig}
use Rattle.call_contexts.proofs.twigs.Twigs.take.Given as goal

-- those that were passed have other numbers
abbrev pub invariant-loop-index : goal.invariant-loop-index
invariant-loop-index l = (l.self-inside.items.items ≡ l.fn.self) × ((j : ℕ) (d : Twig) → j < l.index → (slice_index_or l.fn.self j d).branch ≡ l.branch → ⊥)
