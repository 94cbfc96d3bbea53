use Rattle.std.proofs.Common.{◌≡◌, ◌++◌, ◌∷◌, [], ℕ, Some, refl, sym, ap, subst, ◌∙◌, arith}
use Rattle.timer_heap.specs.Timers.{timing}
use Rattle.context_tree.specs.Context.{Id}
use Rattle.context_tree.specs.Walks.{Start}
use Rattle.context_tree.proofs.WalkSteps.{begin}
use Rattle.context_tree.proofs.Turns.{few_seen, nearer, next_turn, turn_at, turn_there, turn_waits, walk_on}
use Rattle.context_tree.proofs.ending.end.Goals as goal

pub loop-next-init : goal.loop-next-init
loop-next-init g c =
    let start : Start _ _ = record { slots = c.args.nodes.now.slots; done = c.args.done.now.items; timers = timing c.args.timers.now; target = c.args.target.1; ending = c.args.ending } in
    record {
      ready = c.end_one.ensures.ready;
      room = c.end_one.ensures.room;
      walking = record {
        keys = c.args.target.1 ∷ [];
        visited = [];
        front = [];
        back = c.args.target.1 ∷ [];
        parts = refl;
        at_is = ap (λ (z : Id). Some z.1) c.target.view_is;
        visits_is = omega arith;
        walk = begin start c.end_one.new.nodes.slots c.end_one.new.done.items (timing c.end_one.new.timers) c.requires.live c.end_one.ensures.ends
            (subst (λ (n : ℕ). c.end_one.new.done.items ≡ c.args.done.now.items ++ (n, c.args.target.1) ∷ []) (sym c.requires.number) c.end_one.ensures.done)
            c.end_one.ensures.timers;
      };
    }

pub end_children-looked-requires-clause-there : goal.end_children-looked-requires-clause-there
end_children-looked-requires-clause-there g c =
    let turn = turn_at _ c.loop-next.nodes.slots c.loop-next.done.items (timing c.loop-next.timers) c.loop-next.next c.loop-next.visits c.in-Some.key c.loop-next.invariant.walking c.in-Some.is in
    turn_there _ c.loop-next.nodes.slots c.loop-next.done.items (timing c.loop-next.timers) c.loop-next.visits c.in-Some.key turn

pub after-next-requires : goal.after-next-requires
after-next-requires g c =
    let turn = turn_at _ c.loop-next.nodes.slots c.loop-next.done.items (timing c.loop-next.timers) c.loop-next.next c.loop-next.visits c.in-Some.key c.loop-next.invariant.walking c.in-Some.is in
    let on = c.end_children-looked.ensures.walked _ turn.keys turn.visited turn.front refl turn.inside turn.out turn.walk in
    turn_waits _ c.loop-next.nodes.slots c.end_children-looked.new.nodes.slots c.loop-next.done.items c.end_children-looked.new.done.items (timing c.loop-next.timers) (timing c.end_children-looked.new.timers)
    c.loop-next.visits c.in-Some.key c.end_children-looked.result turn on

pub overflow_add-visits : goal.overflow_add-visits
overflow_add-visits g c =
    let turn = turn_at _ c.loop-next.nodes.slots c.loop-next.done.items (timing c.loop-next.timers) c.loop-next.next c.loop-next.visits c.in-Some.key c.loop-next.invariant.walking c.in-Some.is in
    let on = c.end_children-looked.ensures.walked _ turn.keys turn.visited turn.front refl turn.inside turn.out turn.walk in
    let few = few_seen _ c.end_children-looked.new.nodes.slots c.end_children-looked.new.done.items (timing c.end_children-looked.new.timers) _ on.seen turn.front c.in-Some.key on.place _ c.end_children-looked.ensures.ready on.walk in
    let small = c.after-next.ensures.small in
    let visits = turn.visits_is in
    let more = on.visits_is in
    omega (arith, few, small, visits, more)

pub loop-next-smaller : goal.loop-next-smaller
loop-next-smaller g c =
    let turn = turn_at _ c.loop-next.nodes.slots c.loop-next.done.items (timing c.loop-next.timers) c.loop-next.next c.loop-next.visits c.in-Some.key c.loop-next.invariant.walking c.in-Some.is in
    let on = c.end_children-looked.ensures.walked _ turn.keys turn.visited turn.front refl turn.inside turn.out turn.walk in
    let next = next_turn _ c.loop-next.nodes.slots c.end_children-looked.new.nodes.slots c.loop-next.done.items c.end_children-looked.new.done.items (timing c.loop-next.timers) (timing c.end_children-looked.new.timers)
    c.loop-next.visits c.in-Some.key c.end_children-looked.result turn on c.after-next.result c.after-next.ensures.next in
    rw c.in-Some.is
    (nearer _ c.loop-next.nodes.slots c.end_children-looked.new.nodes.slots c.loop-next.done.items c.end_children-looked.new.done.items (timing c.loop-next.timers) (timing c.end_children-looked.new.timers)
    c.loop-next.visits c.in-Some.key c.end_children-looked.result turn on c.loop-next.done.room c.end_children-looked.new.done.room c.end_children-looked.ensures.room c.loop-next.invariant.ready c.end_children-looked.ensures.ready.apart c.after-next.result next)

pub loop-next-preserved : goal.loop-next-preserved
loop-next-preserved g c =
    let turn = turn_at _ c.loop-next.nodes.slots c.loop-next.done.items (timing c.loop-next.timers) c.loop-next.next c.loop-next.visits c.in-Some.key c.loop-next.invariant.walking c.in-Some.is in
    let on = c.end_children-looked.ensures.walked _ turn.keys turn.visited turn.front refl turn.inside turn.out turn.walk in
    record {
      ready = c.end_children-looked.ensures.ready;
      room = c.end_children-looked.ensures.room ∙ c.loop-next.invariant.room;
      walking = walk_on _ c.loop-next.nodes.slots c.end_children-looked.new.nodes.slots c.loop-next.done.items c.end_children-looked.new.done.items (timing c.loop-next.timers) (timing c.end_children-looked.new.timers)
          c.loop-next.visits c.in-Some.key c.end_children-looked.result turn on c.end_children-looked.ensures.ready.linked c.after-next.result
          (next_turn _ c.loop-next.nodes.slots c.end_children-looked.new.nodes.slots c.loop-next.done.items c.end_children-looked.new.done.items (timing c.loop-next.timers) (timing c.end_children-looked.new.timers)
          c.loop-next.visits c.in-Some.key c.end_children-looked.result turn on c.after-next.result c.after-next.ensures.next);
    }
