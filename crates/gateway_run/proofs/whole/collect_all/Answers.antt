use Rattle.gateway_run.proofs.Names.{◌∙◌, ◌+◌, ◌||◌, ◌==◌, nat_lt}
use Rattle.gateway_run.proofs.EventRuns.{same_gathered}
use Rattle.gateway_run.proofs.Finally.{below_next, collects_opened, collects_plans}
use Rattle.gateway_run.proofs.Gathering.{collected_run}
use Rattle.gateway_run.proofs.whole.collect_all.Goals as goal

pub loop-number-preserved : goal.loop-number-preserved
loop-number-preserved g c = record {
  opened_is = collects_opened c.loop-number.number c.loop-number.core c.collect.new.core c.loop-number.log c.collect.new.self c.in_ok-collect.ensures ∙ c.loop-number.invariant.opened_is;
  plans_are = collects_plans c.loop-number.number c.loop-number.core c.collect.new.core c.loop-number.log c.collect.new.self c.in_ok-collect.ensures ∙ c.loop-number.invariant.plans_are;
  ran = λ es h. same_gathered (λ n. nat_lt n c.loop-number.number || n == c.loop-number.number) (λ n. nat_lt n (c.loop-number.number + 1)) c.collect.new.core c.collect.new.self es
      (λ n. below_next n c.loop-number.number)
      (collected_run (λ n. nat_lt n c.loop-number.number) c.loop-number.number c.loop-number.core c.collect.new.core c.loop-number.log c.collect.new.self es (c.loop-number.invariant.ran es h) c.in_ok-collect.ensures);
}
