use Rattle.std.proofs.Common.{◌≡◌, ◌-◌, ◌^◌, ℕ, List, true, false, Some}
use Rattle.std.specs.Option.{option_map_or}
use Rattle.timer_heap.specs.Timers.{timing}
use Rattle.context_tree.specs.Links.{number_in}
use Rattle.context_tree.specs.Walks.{is_in, IsReady, Start, IsWalk, IsWalkingOn}
use Rattle.context_tree.proofs.WalkSteps.{IsChild}
use Rattle.context_tree.proofs.ending.end_children.Given as goal

-- so many of the children were looked at
abbrev pub invariant-loop-next : goal.invariant-loop-next
invariant-loop-next g l = record {
  ready : IsReady l.nodes.slots l.done.items l.done.room;
  room : l.done.room ≡ l.fn.done.room;
  child : (k : ℕ) → l.next ≡ Some k → IsChild l.nodes.slots l.visits k;
  walking : (s : Start _ _) (keys visited front : List ℕ) → s.ending ≡ l.ending
      → is_in l.key keys ≡ true → is_in l.key front ≡ false
      → IsWalk s l.fn.nodes.slots l.fn.done.items (timing l.fn.timers) keys visited front l.key 0
      → IsWalkingOn s l.nodes.slots l.done.items (timing l.timers) keys visited front l.key l.next l.visits;
}

abbrev pub decreases-loop-next : goal.decreases-loop-next
decreases-loop-next g l = option_map_or (λ k. 2 ^ 62 - number_in l.nodes.slots k) l.next 0
