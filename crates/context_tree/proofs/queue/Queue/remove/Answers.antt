use Rattle.std.proofs.Common.{◌∙◌, sym}
use Rattle.context_tree.proofs.Places.{remove_found, remove_none, remove_other}
use Rattle.context_tree.proofs.queue.Queue.remove.Goals as goal

pub returns-in_default-clause-items : goal.returns-in_default-clause-items
returns-in_default-clause-items c =
    remove_none c.self.inside.places.items c.args.self.now c.self.inside.first c.self.inside.last c.self.view_is c.self.invariant c.deref.result.now (c.id.inside.number, c.id.inside.slot) c.args.id c.get.result
    c.deref.ensures.value c.id.view_is c.get.ensures.lookup c.in_default.is

pub returns-then-eq-clause-items : goal.returns-then-eq-clause-items
returns-then-eq-clause-items c =
    remove_found c.self.inside.places.items c.args.self.now c.self.inside.first c.self.inside.last c.self.view_is c.self.invariant c.deref.result.now (c.id.inside.number, c.id.inside.slot) c.args.id c.get.result
    c.in-Some.place c.take.new.self.items c.deref.ensures.value c.id.view_is c.get.ensures.lookup c.in-Some.is (sym c.eq.ensures ∙ c.if-eq.true) c.take.ensures.items

pub returns-else-eq-clause-items : goal.returns-else-eq-clause-items
returns-else-eq-clause-items c =
    remove_other c.self.inside.places.items c.args.self.now c.self.inside.first c.self.inside.last c.self.view_is c.self.invariant c.deref.result.now (c.id.inside.number, c.id.inside.slot) c.args.id c.get.result
    c.in-Some.place c.deref.ensures.value c.id.view_is c.get.ensures.lookup c.in-Some.is (sym c.eq.ensures ∙ c.if-eq.false)
