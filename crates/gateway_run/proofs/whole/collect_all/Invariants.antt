use Rattle.gateway_run.proofs.Names.{◌≡◌, false, nat_lt, Before, HasRun}
use Rattle.gateway_run.proofs.whole.collect_all.Given as goal

abbrev pub invariant-loop-number : goal.invariant-loop-number
invariant-loop-number g l = record {
  opened_is : l.log.opened ≡ l.initial.log.opened;
  plans_are : l.core.plans ≡ l.initial.core.plans;
  ran : (es : Before) → HasRun (λ c. false) l.initial.core l.initial.log es → HasRun (λ c. nat_lt c l.number) l.core l.log es;
}
