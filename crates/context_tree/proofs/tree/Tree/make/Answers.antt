use Rattle.std.proofs.Common.{◌∙◌, ◌≤◌, refl, sym, ap, subst, arith}
use Rattle.timer_heap.specs.Timers.{timing}
use Rattle.context_tree.specs.Context.{Id, parent_of}
use Rattle.context_tree.specs.Links.{ArePlaced, slot_of}
use Rattle.context_tree.specs.Timed.{with_timer}
use Rattle.context_tree.specs.Tree.{StandsFor}
use Rattle.context_tree.specs.Walks.{is_in, keys_of}
use Rattle.context_tree.proofs.Family.{places_of, ready_of}
use Rattle.context_tree.proofs.Standing.{known_parent, parent_held, no_fault}
use Rattle.context_tree.proofs.WalkSteps.{not_there}
use Rattle.context_tree.proofs.Whole.{put_stands, room_with, unless_err}
use Rattle.context_tree.proofs.tree.Tree.make.Goals as goal

pub insert-requires-clause-placed : goal.insert-requires-clause-placed
insert-requires-clause-placed g c = subst (λ s. ArePlaced s c.self.inside.made) (sym (ap (λ x. x.slots) c.reserve.ensures.rest_kept)) (places_of _ c.self.invariant.reached.0 c.self.invariant.reached.1.contexts)

pub add_new-requires : goal.add_new-requires
add_new-requires g c =
    let slots_are = ap (λ x. x.slots) c.reserve.ensures.rest_kept in
    let roomy = unless_err c.reserve-else-is_err.result _ c.reserve-else-is_err.ensures.room (sym c.is_err-else-is_err.ensures.value ∙ c.if-is_err-2.false) in
    let more = subst (λ n. n ≤ c.reserve-else-is_err.new.self.room) c.capacity.ensures.value roomy in
    let within = c.insert.ensures.within in
    let key = c.insert.ensures.key ∙ sym c.vacant_key.ensures.value in
    let ready = ready_of _ c.self.invariant.reached.0 _ c.self.invariant.reached.1 c.self.invariant.linked c.self.invariant.few c.self.invariant.room in
    let out = not_there c.self.inside.nodes.slots c.self.inside.done.items _ c.insert.result ready (ap (λ s. slot_of s c.insert.result) (sym slots_are) ∙ c.insert.ensures.was_vacant) in
    record {
      room = omega (arith, within, more, key);
      apart = ap (λ k. is_in k (keys_of c.reserve-else-is_err.new.self.items)) (sym key) ∙ ap (λ ids. is_in c.insert.result (keys_of ids)) c.reserve-else-is_err.ensures.items ∙ out;
    }

pub invariant_of-self-2 : goal.invariant_of-self-2
invariant_of-self-2 g c =
    let past = c.self.invariant.reached.0 in
    let s = c.self.invariant.reached.1 in
    let known = sym (known_parent _ past s.contexts (parent_of c.args.kind)) ∙ rw (← c.parent.ensures) (sym c.knows_parent.ensures ∙ c.if-not-knows_parent.false) in
    let timed = unless_err c.set_timer.result _ c.set_timer.ensures.set (sym c.is_err-2.ensures.value ∙ c.if-is_err-3.false) ∙ ap (λ k. with_timer c.time_of_new-time.result k (timing c.self.inside.timers)) (ap (λ (z : Id). z.1) c.id.view_is) ∙ ap (λ time. with_timer time c.vacant_key.result (timing c.self.inside.timers)) c.time_of_new-time.ensures in
    let slots_are = ap (λ x. x.slots) c.reserve.ensures.rest_kept in
    let roomy = unless_err c.reserve-else-is_err.result _ c.reserve-else-is_err.ensures.room (sym c.is_err-else-is_err.ensures.value ∙ c.if-is_err-2.false) in
    let more = subst (λ n. n ≤ c.reserve-else-is_err.new.self.room) c.capacity.ensures.value roomy in
    let within = c.insert.ensures.within in
    let made = c.if-self-ge-MOST_CONTEXTS.false in
    record {
      reached = (
        _,
        put_stands _ _ past s c.reserve.new.self c.insert.new.nodes c.vacant_key.result c.insert.result c.reserve-else-is_err.new.self.items c.args.kind c.args.now
            c.ending_of_new-ending.result c.deadline_of_new-deadline.result c.deadline_above.result
            slots_are c.reserve-else-is_err.ensures.items
            (c.insert.ensures.key ∙ sym c.vacant_key.ensures.value) c.vacant_key.ensures.vacant c.insert.ensures.put c.insert.ensures.others
            (parent_held past (parent_of c.args.kind) known) c.ending_of_new-ending.ensures c.deadline_of_new-deadline.ensures c.deadline_above.ensures refl c.add_new.ensures.done refl refl timed,
      );
      linked = c.insert.ensures.linked;
      few = omega (arith, made);
      room = rw c.add_new.ensures.room (room_with c.reserve.new.self.slots c.insert.new.nodes.slots _ _ c.insert.result
          (rw slots_are c.self.invariant.room) c.reserve-else-is_err.ensures.grown c.insert.ensures.others (omega (arith, within, more)));
    }

pub returns-clause-made : goal.returns-clause-made
returns-clause-made g c = λ past stood.
    let s = subst (λ t. StandsFor t past) (sym c.self.view_is) stood in
    let known = sym (known_parent _ past s.contexts (parent_of c.args.kind)) ∙ rw (← c.parent.ensures) (sym c.knows_parent.ensures ∙ c.if-not-knows_parent.false) in
    let timed = unless_err c.set_timer.result _ c.set_timer.ensures.set (sym c.is_err-2.ensures.value ∙ c.if-is_err-3.false) ∙ ap (λ k. with_timer c.time_of_new-time.result k (timing c.self.inside.timers)) (ap (λ (z : Id). z.1) c.id.view_is) ∙ ap (λ time. with_timer time c.vacant_key.result (timing c.self.inside.timers)) c.time_of_new-time.ensures in
    let slots_are = ap (λ x. x.slots) c.reserve.ensures.rest_kept in (
      no_fault past (parent_of c.args.kind) known (rw (← s.contexts.made_is) c.if-self-ge-MOST_CONTEXTS.false),
      put_stands _ _ past s c.reserve.new.self c.insert.new.nodes c.vacant_key.result c.insert.result c.reserve-else-is_err.new.self.items c.args.kind c.args.now
          c.ending_of_new-ending.result c.deadline_of_new-deadline.result c.deadline_above.result
          slots_are c.reserve-else-is_err.ensures.items
          (c.insert.ensures.key ∙ sym c.vacant_key.ensures.value) c.vacant_key.ensures.vacant c.insert.ensures.put c.insert.ensures.others
          (parent_held past (parent_of c.args.kind) known) c.ending_of_new-ending.ensures c.deadline_of_new-deadline.ensures c.deadline_above.ensures refl c.add_new.ensures.done refl refl timed,
    )
