use Rattle.call_contexts.proofs.Names.{◌<◌, ◌∙◌, ap, arith, length, length-set, Life}
use Rattle.call_contexts.proofs.Going.{all_gone, fewer_left, left_is, left_set, one_gone}
use Rattle.call_contexts.proofs.contexts.free_branches.Goals as goal

pub loop-twig-smaller : goal.loop-twig-smaller
loop-twig-smaller g c =
    let lt : c.args.place < length c.loop-twig.calls.items = omega (arith, c.requires, c.loop-twig.invariant.0) in
    let now = left_set c.args.place (record c.index_mut.result.now { twigs = c.take_last.new.self }) c.loop-twig.calls.items lt in
    let was = left_is c.args.place c.index_mut.result.now c.loop-twig.calls.items lt in
    let same = ap (λ (k : Life). length k.twigs) c.index_mut.ensures.value in
    let less = fewer_left c.in-Some.twig c.index_mut.result.now.twigs c.take_last.new.self c.in-Some.ensures.taken in
    omega (arith, now, was, same, less)

pub loop-twig-preserved : goal.loop-twig-preserved
loop-twig-preserved g c =
    let lt : c.args.place < length c.loop-twig.calls.items = omega (arith, c.requires, c.loop-twig.invariant.0) in (
      length-set c.loop-twig.calls.items c.args.place _ ∙ c.loop-twig.invariant.0,
      λ base conns id s placed. one_gone id c.args.place base conns c.args.calls.now.items c.loop-twig.calls.items c.index_mut.result.now c.take_last.new.self lt c.index_mut.ensures.value
          (c.loop-twig.invariant.1 base conns id s placed) c.in-Some.twig c.in-Some.ensures.taken c.free.new.tree c.free.ensures,
    )

pub returns-clause-length : goal.returns-clause-length
returns-clause-length g c = length-set c.loop-twig.calls.items c.args.place _ ∙ c.loop-twig.invariant.0

pub returns-clause-gone : goal.returns-clause-gone
returns-clause-gone g c = λ base conns id s placed.
    let lt : c.args.place < length c.loop-twig.calls.items = omega (arith, c.requires, c.loop-twig.invariant.0) in
    all_gone id c.args.place base conns c.args.calls.now.items c.loop-twig.calls.items c.index_mut.result.now c.take_last.new.self lt c.index_mut.ensures.value
    (c.loop-twig.invariant.1 base conns id s placed) c.in_default.ensures.none c.in_default.ensures.unchanged
