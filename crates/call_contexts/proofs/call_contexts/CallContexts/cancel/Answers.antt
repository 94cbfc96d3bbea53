use Rattle.call_contexts.proofs.Names.{◌∙◌, ap, refl, ◌≡◌, Some, true, Cancel, held, is_among, WithHooks, cancelled, is_conn}
use Rattle.call_contexts.proofs.Seeing.{conn_stands, conn_held, same_slots, sound_after_cancel}
use Rattle.call_contexts.proofs.Cancelling.{seen_cancelled}
use Rattle.call_contexts.proofs.Hooking.{standing_is}
use Rattle.call_contexts.proofs.call_contexts.CallContexts.cancel.Goals as goal

pub invariant_of-self : goal.invariant_of-self
invariant_of-self g c =
    let s = c.self.invariant.sound in
    let is : held c.args.conn s.past ≡ Some (Cancel c.self.inside.base) = conn_held c.self.inside.base s.past c.self.inside.tree.slots c.self.inside.conns.items c.args.conn s.conns_are (ap (λ (v : WithHooks _ _ _). is_conn c.args.conn v.standing.conns) c.self.view_is ∙ c.requires) in
    record { sound = sound_after_cancel s.laws s c.args.cause c.cancel.new.self c.cancel.result c.args.conn c.self.inside.base is (c.cancel.ensures.answer s.past s.tree_is) (λ y. c.cancel.ensures.cancelled y s.past s.tree_is) (λ y. same_slots c.cancel.new.self c.self.inside.tree (c.cancel.ensures.unchanged y)) (λ y. c.cancel.ensures.keeps y s.past s.tree_is); rising = c.self.invariant.rising; indexed = c.self.invariant.indexed }

pub returns : goal.returns
returns g c =
    let s = c.self.invariant.sound in
    let there : is_among c.args.conn c.self.inside.conns.items ≡ true = conn_stands c.self.inside.tree.slots c.self.inside.conns.items c.args.conn c.self.view_is refl c.requires in
    standing_is (cancelled c.args.conn c.args.cause) c.self.view_is (seen_cancelled s.laws s c.args.conn c.args.cause there c.cancel.new.self c.cancel.result (c.cancel.ensures.answer s.past s.tree_is) (λ y. c.cancel.ensures.cancelled y s.past s.tree_is) (λ y. same_slots c.cancel.new.self c.self.inside.tree (c.cancel.ensures.unchanged y))) refl
