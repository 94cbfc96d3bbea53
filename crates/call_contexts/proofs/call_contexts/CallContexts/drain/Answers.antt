use Rattle.call_contexts.proofs.Names.{refl, all_ended}
use Rattle.call_contexts.proofs.Seeing.{same_slots, seen_drained, sound_after_cancel}
use Rattle.call_contexts.proofs.Hooking.{standing_is}
use Rattle.call_contexts.proofs.call_contexts.CallContexts.drain.Goals as goal

pub invariant_of-self : goal.invariant_of-self
invariant_of-self g c =
    let s = c.self.invariant.sound in
    record { sound = sound_after_cancel s.laws s c.args.cause c.cancel.new.self c.cancel.result c.self.inside.base s.root s.base_is (c.cancel.ensures.answer s.past s.tree_is) (λ y. c.cancel.ensures.cancelled y s.past s.tree_is) (λ y. same_slots c.cancel.new.self c.self.inside.tree (c.cancel.ensures.unchanged y)) (λ y. c.cancel.ensures.keeps y s.past s.tree_is); rising = c.self.invariant.rising; indexed = c.self.invariant.indexed }

pub returns : goal.returns
returns g c =
    let s = c.self.invariant.sound in
    standing_is (all_ended c.args.cause) c.self.view_is (seen_drained s.laws s c.args.cause c.cancel.new.self c.cancel.result (c.cancel.ensures.answer s.past s.tree_is) (λ y. c.cancel.ensures.cancelled y s.past s.tree_is) (λ y. same_slots c.cancel.new.self c.self.inside.tree (c.cancel.ensures.unchanged y))) refl
