use Rattle.call_contexts.proofs.Names.{◌≡◌, List, length, Id, IsPlaced, IsSound}
use Rattle.call_contexts.proofs.Going.{SomeGone, left_at}
use Rattle.call_contexts.proofs.contexts.free_branches.Given as goal

-- those that were passed are gone
abbrev pub invariant-loop-twig : goal.invariant-loop-twig
invariant-loop-twig g l = (length l.calls.items ≡ length l.fn.calls.items)
    × ((base : Id) (conns : List Id) (id : Id) → IsSound l.fn.tree l.hooks base conns l.fn.calls.items → IsPlaced id l.place l.fn.calls.items
    → SomeGone id l.place l.fn.tree l.tree l.hooks base conns l.fn.calls.items l.calls.items)

abbrev pub decreases-loop-twig : goal.decreases-loop-twig
decreases-loop-twig g l = left_at l.place l.calls.items
