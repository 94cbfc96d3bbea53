use Rattle.branch_asking.proofs.BegunLemmas.{grown_then}
use Rattle.branch_asking.proofs.attempt.Attempt.step.Goals as goal

pub loop-step-preserved : goal.loop-step-preserved
loop-step-preserved g c =
    let before = c.loop-step.invariant in
    (λ framing request a. c.in-More.ensures.steps framing request (before.0 framing request a), grown_then c.args.self.now c.loop-step.self c.step_once.new.self before.1 c.step_once.ensures.grows)
