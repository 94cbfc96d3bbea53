use Rattle.backend_pool.proofs.Lemmas.{arith, false, true, works_none, works_then}
use Rattle.backend_pool.proofs.working.work.Goals as goal

pub loop-init : goal.loop-init
loop-init g c = (tt, tt, works_none _ _, omega arith, omega arith, omega arith)

pub loop-preserved : goal.loop-preserved
loop-preserved g c =
    let before = c.loop.invariant in (
      tt,
      tt,
      works_then _ _ _ _ _ _ _ true before.2 c.in-Some-next.ensures.told c.if-not-record.ensures.told c.serve-outcome.ensures,
      omega (arith, before.3, c.in-Some-next.ensures.gave, c.if-not-record.ensures.gave),
      omega (arith, before.4, c.in-Some-next.ensures.gave, c.if-not-record.ensures.gave, c.in-Some-next.ensures.took, c.if-not-record.ensures.took),
      omega (arith, before.5, c.in-Some-next.ensures.took, c.if-not-record.ensures.took),
    )

pub returns-then-not-record-clause-told : goal.returns-then-not-record-clause-told
returns-then-not-record-clause-told g c =
    works_then _ _ _ _ _ _ _ false c.loop.invariant.2 c.in-Some-next.ensures.told c.if-not-record.ensures.told c.serve-outcome.ensures
