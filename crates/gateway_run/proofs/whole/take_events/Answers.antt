use Rattle.gateway_run.proofs.Names.{length, arith, ap, sym, ◌∙◌, ◌++◌, ◌∷◌, [], append_assoc, common_steps, newest_first}
use Rattle.std.specs.Vec.Iter.{into_iter_items}
use Rattle.gateway_run.proofs.WholeLemmas.{newest_more, newest_size, stock_left}
use Rattle.gateway_run.proofs.whole.take_events.Goals as goal

pub loop-event-preserved : goal.loop-event-preserved
loop-event-preserved g c = record {
  place_is = grind (arith, common_steps);
  all = append_assoc c.loop-event.yielded (c.in-Some.event ∷ []) c.next.new.self.rest.items ∙ ap (λ xs. c.loop-event.yielded ++ xs) (sym c.in-Some.ensures.steps.0) ∙ c.loop-event.invariant.all;
  stocked = stock_left c.in-Some.event c.loop-event.event-iterator.rest.items c.next.new.self.rest.items (length (into_iter_items c.loop-event.stocks)) (length (into_iter_items c.stock_for-stock.new.stocks))
      c.in-Some.ensures.steps.0 c.loop-event.invariant.stocked c.stock_for-stock.ensures.left;
  plans_are = c.in_ok-take_event.ensures.plans ∙ c.loop-event.invariant.plans_are;
  ran = λ h. rw (newest_more c.loop-event.yielded c.in-Some.event) (c.in_ok-take_event.ensures.ran (newest_first c.loop-event.yielded) (newest_size c.loop-event.yielded ∙ sym c.loop-event.invariant.place_is) (c.loop-event.invariant.ran h));
}
