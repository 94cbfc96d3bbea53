use Rattle.gateway_run.proofs.Names.{◌≡◌, ◌++◌, [], false, length, count_by, HasRun, newest_first, is_opening}
use Rattle.std.specs.Vec.Iter.{into_iter_items}
use Rattle.gateway_run.proofs.whole.take_events.Given as goal

abbrev pub invariant-loop-event : goal.invariant-loop-event
invariant-loop-event g l = record {
  place_is : l.place ≡ length l.yielded;
  all : l.yielded ++ l.event-iterator.rest.items ≡ l.fn.events.items;
  stocked : length (into_iter_items l.stocks) ≡ count_by is_opening l.event-iterator.rest.items;
  plans_are : l.core.plans ≡ l.fn.core.plans;
  ran : HasRun (λ c. false) l.fn.core l.fn.log [] → HasRun (λ c. false) l.core l.log (newest_first l.yielded);
}
