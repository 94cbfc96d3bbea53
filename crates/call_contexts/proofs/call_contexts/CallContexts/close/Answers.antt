use Rattle.call_contexts.proofs.Names.{◌∙◌, ap, refl, ◌≡◌, true, false, rules, not, filter, map, list_any, same, is_among, WithHooks, closed, seen_call}
use Rattle.std.proofs.lemmas.Fn.{filter_same}
use Rattle.call_contexts.proofs.Seeing.{conn_stands}
use Rattle.call_contexts.proofs.Leaving.{conn_free, sound_closed, seen_closed}
use Rattle.call_contexts.proofs.Hooking.{standing_is}
use Rattle.call_contexts.proofs.call_contexts.CallContexts.close.Goals as goal

pub invariant_of-self : goal.invariant_of-self
invariant_of-self g c =
    let s = c.self.invariant.sound in
    let laws = s.laws in
    let there : is_among c.args.conn c.self.inside.conns.items ≡ true = conn_stands c.self.inside.tree.slots c.self.inside.conns.items c.args.conn c.self.view_is refl c.requires.known in
    let none : list_any (λ d. same d.conn c.args.conn) (map (seen_call c.self.inside.tree.slots) c.self.inside.calls.items) ≡ false = ap (λ (v : WithHooks _ _ _). list_any (λ d. same d.conn c.args.conn) v.standing.calls) c.self.view_is ∙ c.requires.none in
    let left : c.retain.new.self.items ≡ filter (λ d. not (same d c.args.conn)) c.self.inside.conns.items = filter_same _ _ _ (λ x b f' k. search rules) _ _ c.retain.ensures.filtered in
    record { sound = rw left (sound_closed laws s c.args.conn there none c.free.new.tree (c.free.ensures s.past s.tree_is (conn_free laws s c.args.conn there none))); rising = c.self.invariant.rising; indexed = c.self.invariant.indexed }

pub returns : goal.returns
returns g c =
    let s = c.self.invariant.sound in
    let laws = s.laws in
    let there : is_among c.args.conn c.self.inside.conns.items ≡ true = conn_stands c.self.inside.tree.slots c.self.inside.conns.items c.args.conn c.self.view_is refl c.requires.known in
    let none : list_any (λ d. same d.conn c.args.conn) (map (seen_call c.self.inside.tree.slots) c.self.inside.calls.items) ≡ false = ap (λ (v : WithHooks _ _ _). list_any (λ d. same d.conn c.args.conn) v.standing.calls) c.self.view_is ∙ c.requires.none in
    let left : c.retain.new.self.items ≡ filter (λ d. not (same d c.args.conn)) c.self.inside.conns.items = filter_same _ _ _ (λ x b f' k. search rules) _ _ c.retain.ensures.filtered in
    rw left (standing_is (closed c.args.conn) c.self.view_is (seen_closed laws s c.args.conn there none c.free.new.tree (c.free.ensures s.past s.tree_is (conn_free laws s c.args.conn there none))) refl)
