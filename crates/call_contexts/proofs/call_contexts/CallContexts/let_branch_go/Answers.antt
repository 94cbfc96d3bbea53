use Rattle.call_contexts.proofs.Names.{◌≡◌, ◌∙◌, ◌<◌, ap, arith, refl, sym, subst, length, None, WithHooks, drop_branch, seen, seen_branches, unbranched, IsPlaced, life_at}
use Rattle.call_contexts.proofs.Branches.{none_seen}
use Rattle.call_contexts.proofs.Branching.{dropped_seen, same_set, seen_same, seen_taken, sound_taken}
use Rattle.call_contexts.proofs.Hooking.{pair_is, standing_is}
use Rattle.call_contexts.proofs.Indexing.{indexed_set}
use Rattle.call_contexts.proofs.Order.{rising_set}
use Rattle.call_contexts.proofs.Lists.{none_found}
use Rattle.call_contexts.proofs.call_contexts.CallContexts.let_branch_go.Goals as goal

pub returns-in_default : goal.returns-in_default
returns-in_default g c =
    let s = c.self.inside in
    let none : life_at c.args.call s.calls.items ≡ None = ap (life_at c.args.call) (sym c.deref.ensures.value) ∙ c.in_default.ensures.none in
    pair_is _ _ (ap (λ (v : WithHooks _ _ _). v.standing) (sym c.self.view_is)
    ∙ none_seen s.tree.slots c.args.call (λ d. drop_branch c.args.branch d.branches) s.base s.conns.items s.calls.items (none_found c.args.call s.calls.items none)
    ∙ ap (λ (v : WithHooks _ _ _). unbranched c.args.call c.args.branch v.standing) c.self.view_is) (λ i. c.args.self.now.hooks)

pub invariant_of-self : goal.invariant_of-self
invariant_of-self g c =
    let s = c.self.inside in
    let lt : c.in-Some.place < length s.calls.items = subst (λ ls. c.in-Some.place < length ls) c.deref.ensures.value c.in-Some.ensures.some in
    let placed : IsPlaced c.args.call c.in-Some.place s.calls.items = subst (IsPlaced c.args.call c.in-Some.place) c.deref.ensures.value c.in-Some.ensures.its in
    record { sound = sound_taken c.self.invariant.sound c.args.call c.in-Some.place c.index_mut.result.now c.take.new.self lt placed c.index_mut.ensures.value c.free.new.tree c.in-Some-take.twig c.in-Some-take.ensures.taken c.free.ensures; rising = rising_set c.in-Some.place c.index_mut.result.now c.take.new.self s.calls.items c.index_mut.ensures.value c.self.invariant.rising; indexed = indexed_set c.in-Some.place c.index_mut.result.now c.take.new.self s.calls.items c.index_mut.ensures.value c.self.invariant.indexed }

pub returns-in-Some-take : goal.returns-in-Some-take
returns-in-Some-take g c =
    let s = c.self.inside in
    let lt : c.in-Some.place < length s.calls.items = subst (λ ls. c.in-Some.place < length ls) c.deref.ensures.value c.in-Some.ensures.some in
    let placed : IsPlaced c.args.call c.in-Some.place s.calls.items = subst (IsPlaced c.args.call c.in-Some.place) c.deref.ensures.value c.in-Some.ensures.its in
    standing_is (unbranched c.args.call c.args.branch) c.self.view_is
    (seen_taken c.self.invariant.sound c.args.call c.in-Some.place c.index_mut.result.now c.take.new.self lt placed c.index_mut.ensures.value c.free.new.tree c.in-Some-take.twig c.in-Some-take.ensures.taken c.free.ensures
    (λ d. drop_branch c.args.branch d.branches) (dropped_seen s.tree.slots c.args.branch c.index_mut.result.now.twigs ∙ ap (seen_branches s.tree.slots) (sym c.take.ensures.first))) refl

pub returns-in_default-take : goal.returns-in_default-take
returns-in_default-take g c =
    let s = c.self.inside in
    let lt : c.in-Some.place < length s.calls.items = subst (λ ls. c.in-Some.place < length ls) c.deref.ensures.value c.in-Some.ensures.some in
    let placed : IsPlaced c.args.call c.in-Some.place s.calls.items = subst (IsPlaced c.args.call c.in-Some.place) c.deref.ensures.value c.in-Some.ensures.its in
    standing_is (unbranched c.args.call c.args.branch) c.self.view_is
    (ap (seen s.tree.slots s.base s.conns.items)
    (same_set c.self.invariant.sound c.args.call c.in-Some.place c.index_mut.result.now c.take.new.self lt placed c.index_mut.ensures.value s.tree c.in_default-take.ensures.none)
    ∙ seen_same c.self.invariant.sound c.args.call c.in-Some.place c.index_mut.result.now c.take.new.self lt placed c.index_mut.ensures.value s.tree (λ d. drop_branch c.args.branch d.branches)
    (dropped_seen s.tree.slots c.args.branch c.index_mut.result.now.twigs ∙ ap (seen_branches s.tree.slots) (sym c.take.ensures.first ∙ c.in_default-take.ensures.none))) refl

pub invariant_of-self-in_default-take : goal.invariant_of-self-in_default-take
invariant_of-self-in_default-take g c =
    let s = c.self.inside in
    let lt : c.in-Some.place < length s.calls.items = subst (λ ls. c.in-Some.place < length ls) c.deref.ensures.value c.in-Some.ensures.some in
    let placed : IsPlaced c.args.call c.in-Some.place s.calls.items = subst (IsPlaced c.args.call c.in-Some.place) c.deref.ensures.value c.in-Some.ensures.its in
    rw (same_set c.self.invariant.sound c.args.call c.in-Some.place c.index_mut.result.now c.take.new.self lt placed c.index_mut.ensures.value s.tree c.in_default-take.ensures.none) c.self.invariant

pub place-requires : goal.place-requires
place-requires g c = rw c.deref.ensures.value c.self.invariant.rising

pub index_mut-requires : goal.index_mut-requires
index_mut-requires g c = omega (arith, c.in-Some.ensures.some, c.deref.ensures.len)
