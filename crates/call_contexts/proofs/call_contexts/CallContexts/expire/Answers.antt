use Rattle.call_contexts.proofs.Names.{refl, expired}
use Rattle.call_contexts.proofs.Seeing.{seen_expired, sound_expired}
use Rattle.call_contexts.proofs.Hooking.{standing_is}
use Rattle.call_contexts.proofs.call_contexts.CallContexts.expire.Goals as goal

pub invariant_of-self : goal.invariant_of-self
invariant_of-self g c =
    let s = c.self.invariant.sound in
    record { sound = sound_expired s.laws s c.advance.new.self c.args.now (c.advance.ensures s.past s.tree_is); rising = c.self.invariant.rising; indexed = c.self.invariant.indexed }

pub returns : goal.returns
returns g c =
    let s = c.self.invariant.sound in
    standing_is (expired c.args.now) c.self.view_is (seen_expired s.laws s c.advance.new.self c.args.now (c.advance.ensures s.past s.tree_is)) refl
