use Rattle.call_contexts.proofs.Names.{◌≡◌, List, Id, left_to_hand_out, IsSound, seen}
use Rattle.call_contexts.proofs.ends.first_ended.Given as goal

abbrev pub invariant-loop-ctx : goal.invariant-loop-ctx
invariant-loop-ctx g l = (base : Id) (conns : List Id) → IsSound l.fn.tree l.hooks base conns l.calls
    → IsSound l.tree l.hooks base conns l.calls × (seen l.tree.slots base conns l.calls ≡ seen l.fn.tree.slots base conns l.calls)

abbrev pub decreases-loop-ctx : goal.decreases-loop-ctx
decreases-loop-ctx g l = left_to_hand_out l.tree
