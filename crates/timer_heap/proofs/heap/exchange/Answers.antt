use Rattle.timer_heap.proofs.Places.{exchange_placed, second_there}
use Rattle.timer_heap.proofs.heap.exchange.Goals as goal

pub put_place-requires-2 : goal.put_place-requires-2
put_place-requires-2 c = second_there _ _ _ _ _ _ c.requires.placed c.requires.one_within c.requires.other_within c.requires.apart c.swap.ensures.after c.put_place.ensures

pub returns : goal.returns
returns c = record {
  swapped = c.swap.ensures.after;
  placed = exchange_placed _ _ _ _ _ _ _ c.requires.placed c.requires.one_within c.requires.other_within c.requires.apart c.swap.ensures.len c.swap.ensures.after c.put_place.ensures c.put_place-2.ensures;
}
