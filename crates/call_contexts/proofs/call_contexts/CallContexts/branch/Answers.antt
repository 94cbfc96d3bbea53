use Rattle.call_contexts.proofs.Names.{◌≡◌, ◌∙◌, ◌<◌, ap, refl, sym, subst, length, true, false, None, list_any, same, WithHooks, branched, is_call, seen_call, IsPlaced, life_at}
use Rattle.call_contexts.proofs.Branching.{same_set, seen_started, sound_started}
use Rattle.call_contexts.proofs.Hooking.{standing_is}
use Rattle.call_contexts.proofs.Indexing.{indexed_set}
use Rattle.call_contexts.proofs.Order.{rising_set}
use Rattle.call_contexts.proofs.Lists.{any_map, by_answer, if_ok, none_found, on_err}
use Rattle.call_contexts.proofs.call_contexts.CallContexts.branch.Goals as goal

pub unreachable-requires : goal.unreachable-requires
unreachable-requires g c =
    let s = c.self.inside in
    let none : life_at c.args.call s.calls.items ≡ None = ap (life_at c.args.call) (sym c.deref.ensures.value) ∙ c.in_default.ensures.none in
    let known : list_any (λ l. same l.ctx c.args.call) s.calls.items ≡ true = sym (any_map (λ d. same d.id c.args.call) (seen_call s.tree.slots) s.calls.items)
    ∙ ap (λ (v : WithHooks _ _ _). is_call c.args.call v.standing.calls) c.self.view_is ∙ c.requires in
    let clash : true ≡ false = sym known ∙ none_found c.args.call s.calls.items none in cc

pub invariant_of-self : goal.invariant_of-self
invariant_of-self g c =
    let s = c.self.inside in
    let lt : c.in-Some.place < length s.calls.items = subst (λ ls. c.in-Some.place < length ls) c.deref.ensures.value c.in-Some.ensures.some in
    let placed : IsPlaced c.args.call c.in-Some.place s.calls.items = subst (IsPlaced c.args.call c.in-Some.place) c.deref.ensures.value c.in-Some.ensures.its in
    record { sound = by_answer c.start.result c.start.ensures.made c.start.ensures.same_twigs c.start.ensures.same_tree (λ m. sound_started c.self.invariant.sound c.args.call c.in-Some.place c.index_mut.result.now c.start.new.self lt placed c.index_mut.ensures.value c.start.new.tree c.args.branch c.args.at c.args.now m) (λ twigs tree. rw (tree, same_set c.self.invariant.sound c.args.call c.in-Some.place c.index_mut.result.now c.start.new.self lt placed c.index_mut.ensures.value s.tree twigs) c.self.invariant.sound); rising = rising_set c.in-Some.place c.index_mut.result.now c.start.new.self s.calls.items c.index_mut.ensures.value c.self.invariant.rising; indexed = indexed_set c.in-Some.place c.index_mut.result.now c.start.new.self s.calls.items c.index_mut.ensures.value c.self.invariant.indexed }

pub returns-clause-stands : goal.returns-clause-stands
returns-clause-stands g c =
    let s = c.self.inside in
    let lt : c.in-Some.place < length s.calls.items = subst (λ ls. c.in-Some.place < length ls) c.deref.ensures.value c.in-Some.ensures.some in
    let placed : IsPlaced c.args.call c.in-Some.place s.calls.items = subst (IsPlaced c.args.call c.in-Some.place) c.deref.ensures.value c.in-Some.ensures.its in
    if_ok c.start.result c.start.ensures.made (λ m. standing_is (branched c.args.call c.args.branch c.args.at c.args.now) c.self.view_is (seen_started c.self.invariant.sound c.args.call c.in-Some.place c.index_mut.result.now c.start.new.self lt placed c.index_mut.ensures.value c.start.new.tree c.args.branch c.args.at c.args.now m) refl)

pub returns-clause-unchanged : goal.returns-clause-unchanged
returns-clause-unchanged g c =
    let s = c.self.inside in
    let lt : c.in-Some.place < length s.calls.items = subst (λ ls. c.in-Some.place < length ls) c.deref.ensures.value c.in-Some.ensures.some in
    let placed : IsPlaced c.args.call c.in-Some.place s.calls.items = subst (IsPlaced c.args.call c.in-Some.place) c.deref.ensures.value c.in-Some.ensures.its in
    on_err c.start.result c.start.ensures.same_twigs c.start.ensures.same_tree (λ twigs tree. rw (
      tree,
      same_set c.self.invariant.sound c.args.call c.in-Some.place c.index_mut.result.now c.start.new.self lt placed c.index_mut.ensures.value s.tree twigs,
    ) c.self.view_is)
