use Rattle.std.proofs.Common.{Some, None, arith}
use Rattle.context_tree.proofs.Chaining.{place}
use Rattle.context_tree.proofs.Places.{last_below, lent_back, push_done}
use Rattle.context_tree.proofs.queue.Queue.push.Goals as goal

pub join-requires-clause-before : goal.join-requires-clause-before
join-requires-clause-before c = last_below c.self.inside.places.items _ _ _ c.self.inside.first c.self.inside.last c.self.invariant c.deref_mut.ensures.value

pub invariant_of-self : goal.invariant_of-self
invariant_of-self c =
    let long = c.self.inside.places.ok.0 in
    let done = push_done c.self.inside.places.items c.args.self.now c.self.inside.first c.self.inside.last c.self.view_is c.self.invariant c.deref_mut.result.now c.join.new.places
    (c.id.inside.number, c.id.inside.slot) c.args.id c.end_past-self-inside.result c.requires.room c.requires.apart c.id.view_is c.deref_mut.ensures.value c.join.ensures.joined c.end_past-self-inside.ensures in
    rw (lent_back c.self.inside.places.items c.deref_mut.result.now c.join.new.places c.id.inside.slot c.self.inside.places.len (place (Some c.id.inside.number) c.self.inside.last None) (omega (arith, long)) c.deref_mut.ensures.value c.join.ensures.len) done.0

pub returns-clause-items : goal.returns-clause-items
returns-clause-items c =
    let long = c.self.inside.places.ok.0 in
    let done = push_done c.self.inside.places.items c.args.self.now c.self.inside.first c.self.inside.last c.self.view_is c.self.invariant c.deref_mut.result.now c.join.new.places
    (c.id.inside.number, c.id.inside.slot) c.args.id c.end_past-self-inside.result c.requires.room c.requires.apart c.id.view_is c.deref_mut.ensures.value c.join.ensures.joined c.end_past-self-inside.ensures in
    rw (lent_back c.self.inside.places.items c.deref_mut.result.now c.join.new.places c.id.inside.slot c.self.inside.places.len (place (Some c.id.inside.number) c.self.inside.last None) (omega (arith, long)) c.deref_mut.ensures.value c.join.ensures.len) done.1
