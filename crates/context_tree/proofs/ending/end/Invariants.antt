use Rattle.std.proofs.Common.{◌≡◌, ◌-◌}
use Rattle.std.specs.Option.{option_map_or}
use Rattle.timer_heap.specs.Timers.{timing}
use Rattle.context_tree.specs.Walks.{keys_of, IsReady, IsWalking}
use Rattle.context_tree.proofs.Turns.{place_of}
use Rattle.context_tree.proofs.ending.end.Given as goal

-- the children of some of those that it ended were looked at
abbrev pub invariant-loop-next : goal.invariant-loop-next
invariant-loop-next g l = record {
  ready : IsReady l.nodes.slots l.done.items l.done.room;
  room : l.done.room ≡ l.fn.done.room;
  walking : IsWalking (record { slots = l.fn.nodes.slots; done = l.fn.done.items; timers = timing l.fn.timers; target = l.fn.target.1; ending = l.ending }) l.nodes.slots l.done.items (timing l.timers) l.next l.visits;
}

abbrev pub decreases-loop-next : goal.decreases-loop-next
decreases-loop-next g l = option_map_or (λ k. l.done.room - place_of k (keys_of l.done.items)) l.next 0
