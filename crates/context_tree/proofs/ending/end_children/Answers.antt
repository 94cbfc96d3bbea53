use Rattle.std.proofs.Common.{◌≡◌, ◌+◌, ◌++◌, ◌∷◌, [], Option, refl, sym, ap, subst, ◌∙◌, arith}
use Rattle.std.specs.Prelude.{ℕ}
use Rattle.timer_heap.specs.Timers.{timing}
use Rattle.context_tree.specs.declared.node.Links.{Links}
use Rattle.context_tree.specs.declared.node.Ending.{Ending}
use Rattle.context_tree.specs.Walks.{EndsAt, IsWalkingOn}
use Rattle.context_tree.proofs.WalkSteps.{child_few, child_stays, child_there, fewer_left, first_child, look_on, next_child, none_yet, same_numbers, slot_goes, slot_links, slot_number, take_on}
use Rattle.context_tree.proofs.ending.end_children.Goals as goal

pub loop-next-init : goal.loop-next-init
loop-next-init g c =
    let slots = c.args.nodes.now.slots in
    let first = ap (λ (l : Links). l.first) (slot_links slots c.args.key c.index.result.now c.index.ensures) in
    record {
      ready = c.requires.ready;
      room = refl;
      child = λ k is. first_child slots c.args.key k c.requires.ready.linked (first ∙ is);
      walking = λ s keys visited front e here out w.
          subst (λ (next : Option ℕ). IsWalkingOn s slots c.args.done.now.items (timing c.args.timers.now) keys visited front c.args.key next 0) first
          (none_yet s slots c.args.done.now.items (timing c.args.timers.now) keys visited front c.args.key w);
    }

pub index-node-requires : goal.index-node-requires
index-node-requires g c = child_there c.loop-next.nodes.slots c.loop-next.visits c.in-Some.child (c.loop-next.invariant.child c.in-Some.child c.in-Some.is)

pub overflow_add-visits : goal.overflow_add-visits
overflow_add-visits g c =
    let few = child_few c.loop-next.nodes.slots c.loop-next.done.items _ c.loop-next.visits c.in-Some.child c.loop-next.invariant.ready (c.loop-next.invariant.child c.in-Some.child c.in-Some.is) in
    omega (arith, few)

pub loop-next-smaller-then-ends : goal.loop-next-smaller-then-ends
loop-next-smaller-then-ends g c =
    let slots = c.loop-next.nodes.slots in
    rw c.in-Some.is
    (fewer_left slots c.end_one.new.nodes.slots c.loop-next.done.items _ c.in-Some.child c.loop-next.visits c.index-node.result.now.links.next c.loop-next.invariant.ready
    (c.loop-next.invariant.child c.in-Some.child c.in-Some.is)
    (ap (λ (l : Links). l.next) (slot_links slots c.in-Some.child c.index-node.result.now c.index-node.ensures))
    (same_numbers slots c.end_one.new.nodes.slots c.in-Some.child c.args.ending c.end_one.ensures.ends))

pub loop-next-preserved-then-ends : goal.loop-next-preserved-then-ends
loop-next-preserved-then-ends g c =
    let slots = c.loop-next.nodes.slots in
    let child = c.in-Some.child in
    let next = ap (λ (l : Links). l.next) (slot_links slots child c.index-node.result.now c.index-node.ensures) in
    let here = c.loop-next.invariant.child child c.in-Some.is in
    let goes = slot_goes slots child c.index-node.result.now c.ends_with_parent-ends.result c.index-node.ensures c.ends_with_parent-ends.ensures ∙ c.if-ends.true in
    let number = slot_number slots child c.index-node.result.now c.index-node.ensures in
    record {
      ready = c.end_one.ensures.ready;
      room = c.end_one.ensures.room ∙ c.loop-next.invariant.room;
      child = λ k is. child_stays slots c.end_one.new.nodes.slots child (c.loop-next.visits + 1) k c.args.ending c.end_one.ensures.ends
          (next_child slots child k c.loop-next.visits c.loop-next.invariant.ready.linked here (next ∙ is));
      walking = λ s keys visited front e inside out w.
          subst (λ (n : Option ℕ). IsWalkingOn s c.end_one.new.nodes.slots c.end_one.new.done.items (timing c.end_one.new.timers) keys visited front c.args.key n (c.loop-next.visits + 1)) next
          (take_on s slots c.loop-next.done.items (timing c.loop-next.timers) keys visited front c.args.key _ c.loop-next.invariant.ready inside out child c.loop-next.visits goes
          c.end_one.new.nodes.slots c.end_one.new.done.items (timing c.end_one.new.timers)
          (subst (λ (how : Ending _). EndsAt slots c.end_one.new.nodes.slots child how) (sym e) c.end_one.ensures.ends)
          (subst (λ (n : ℕ). c.end_one.new.done.items ≡ c.loop-next.done.items ++ (n, child) ∷ []) (sym number) c.end_one.ensures.done)
          c.end_one.ensures.timers
          (subst (λ (n : Option ℕ). IsWalkingOn s slots c.loop-next.done.items (timing c.loop-next.timers) keys visited front c.args.key n c.loop-next.visits) c.in-Some.is
          (c.loop-next.invariant.walking s keys visited front e inside out w)));
    }

pub loop-next-smaller : goal.loop-next-smaller
loop-next-smaller g c =
    let slots = c.loop-next.nodes.slots in
    rw c.in-Some.is
    (fewer_left slots slots c.loop-next.done.items _ c.in-Some.child c.loop-next.visits c.index-node.result.now.links.next c.loop-next.invariant.ready
    (c.loop-next.invariant.child c.in-Some.child c.in-Some.is)
    (ap (λ (l : Links). l.next) (slot_links slots c.in-Some.child c.index-node.result.now c.index-node.ensures))
    (λ j. refl))

pub loop-next-preserved : goal.loop-next-preserved
loop-next-preserved g c =
    let slots = c.loop-next.nodes.slots in
    let child = c.in-Some.child in
    let next = ap (λ (l : Links). l.next) (slot_links slots child c.index-node.result.now c.index-node.ensures) in
    let here = c.loop-next.invariant.child child c.in-Some.is in
    let goes = slot_goes slots child c.index-node.result.now c.ends_with_parent-ends.result c.index-node.ensures c.ends_with_parent-ends.ensures ∙ c.if-ends.false in
    record {
      ready = c.loop-next.invariant.ready;
      room = c.loop-next.invariant.room;
      child = λ k is. next_child slots child k c.loop-next.visits c.loop-next.invariant.ready.linked here (next ∙ is);
      walking = λ s keys visited front e inside out w.
          subst (λ (n : Option ℕ). IsWalkingOn s slots c.loop-next.done.items (timing c.loop-next.timers) keys visited front c.args.key n (c.loop-next.visits + 1)) next
          (look_on s slots c.loop-next.done.items (timing c.loop-next.timers) keys visited front c.args.key c.loop-next.invariant.ready.linked inside out child c.loop-next.visits goes
          (subst (λ (n : Option ℕ). IsWalkingOn s slots c.loop-next.done.items (timing c.loop-next.timers) keys visited front c.args.key n c.loop-next.visits) c.in-Some.is
          (c.loop-next.invariant.walking s keys visited front e inside out w)));
    }
