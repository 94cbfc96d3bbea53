use Rattle.std.proofs.Common.{arith}
use Rattle.context_tree.specs.Queue.{empty_place}
use Rattle.context_tree.proofs.Places.{beside_below, lent_back, take_done}
use Rattle.context_tree.proofs.queue.Queue.take.Goals as goal

pub join-requires-clause-before : goal.join-requires-clause-before
join-requires-clause-before c =
    (beside_below c.self.inside.places.items c.args.self.now c.self.inside.first c.self.inside.last c.self.view_is c.self.invariant c.args.slot c.deref_mut.result.now c.index-place.result.now c.requires c.index-place.ensures c.deref_mut.ensures.value).0

pub join-requires-clause-after : goal.join-requires-clause-after
join-requires-clause-after c =
    (beside_below c.self.inside.places.items c.args.self.now c.self.inside.first c.self.inside.last c.self.view_is c.self.invariant c.args.slot c.deref_mut.result.now c.index-place.result.now c.requires c.index-place.ensures c.deref_mut.ensures.value).1

pub invariant_of-self : goal.invariant_of-self
invariant_of-self c =
    let long = c.self.inside.places.ok.0 in
    let done = take_done c.self.inside.places.items c.args.self.now c.self.inside.first c.self.inside.last c.self.view_is c.self.invariant c.deref_mut.result.now c.join.new.places c.args.slot c.index-place.result.now
    c.end_past-self-inside.result c.end_past-self-inside-2.result c.requires c.index-place.ensures c.deref_mut.ensures.value c.join.ensures.joined c.end_past-self-inside.ensures c.end_past-self-inside-2.ensures in
    rw (lent_back c.self.inside.places.items c.deref_mut.result.now c.join.new.places c.args.slot c.self.inside.places.len empty_place (omega (arith, long)) c.deref_mut.ensures.value c.join.ensures.len) done.0

pub returns-clause-items : goal.returns-clause-items
returns-clause-items c =
    let long = c.self.inside.places.ok.0 in
    let done = take_done c.self.inside.places.items c.args.self.now c.self.inside.first c.self.inside.last c.self.view_is c.self.invariant c.deref_mut.result.now c.join.new.places c.args.slot c.index-place.result.now
    c.end_past-self-inside.result c.end_past-self-inside-2.result c.requires c.index-place.ensures c.deref_mut.ensures.value c.join.ensures.joined c.end_past-self-inside.ensures c.end_past-self-inside-2.ensures in
    rw (lent_back c.self.inside.places.items c.deref_mut.result.now c.join.new.places c.args.slot c.self.inside.places.len empty_place (omega (arith, long)) c.deref_mut.ensures.value c.join.ensures.len) done.1
