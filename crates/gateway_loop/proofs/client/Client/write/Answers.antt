use Rattle.gateway_loop.proofs.Words.{◌∙◌}
use Rattle.gateway_loop.proofs.GrowLemmas.{grows_then}
use Rattle.gateway_loop.proofs.StepLemmas.{steps_fit, steps_then}
use Rattle.gateway_loop.proofs.client.Client.write.Goals as goal

pub returns-in-Some-clause-steps : goal.returns-in-Some-clause-steps
returns-in-Some-clause-steps g c =
    steps_then _ _ _ _ _ _ (steps_then _ _ _ _ _ _ c.loop-write.invariant.0 c.fill.ensures.steps) (steps_fit _ _ _ c.in-Some.ensures.fits)

pub loop-write-preserved : goal.loop-write-preserved
loop-write-preserved g c = (
  steps_then _ _ _ _ _ _ (steps_then _ _ _ _ _ _ c.loop-write.invariant.0 c.fill.ensures.steps) (steps_fit _ _ _ c.in_default.ensures.fits),
  grows_then _ _ _ (grows_then _ _ _ c.loop-write.invariant.1 c.fill.ensures.grows) c.in_default.ensures.grows,
  c.in_default.ensures.net ∙ c.loop-write.invariant.2,
)

pub returns-in-Some-clause-grows : goal.returns-in-Some-clause-grows
returns-in-Some-clause-grows g c = grows_then _ _ _ (grows_then _ _ _ c.loop-write.invariant.1 c.fill.ensures.grows) c.in-Some.ensures.grows
