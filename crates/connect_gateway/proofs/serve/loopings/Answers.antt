use Rattle.std.proofs.Common.{◌≡◌, ◌∙◌, List, Some, All, ap, subst, sym}
use Rattle.std.proofs.lemmas.List.Elements.{All-pop, All-push}
use Rattle.std.specs.Prelude.{Ok}
use Rattle.call_plan.specs.Plan.{PlanRecord}
use Rattle.call_plan.specs.PlanFile.{plans_in}
use Rattle.connect_gateway.specs.Looping.{LoopingValue}
use Rattle.connect_gateway.proofs.serve.loopings.Goals as goal

-- the last of the plans went to one loop more
pub loop-last-preserved : goal.loop-last-preserved
loop-last-preserved g c = λ file all.
    let before = c.loop-last.invariant file all in
    let left = All-pop (λ (p : List PlanRecord). plans_in file ≡ Ok p) c.loop-last.plans.items c.pop.new.self.items (Some c.in-Some.last) c.in-Some.ensures.items before.0 in
    let serves = λ (l : LoopingValue). plans_in file ≡ Ok l.plans in (
      left.0,
      subst (λ (loops : List LoopingValue). All serves loops) (sym c.in_ok-push.ensures.items)
          (All-push serves c.loop-last.loopings.items c.in_ok-new.field-0 before.1 (left.1 ∙ ap (λ (p : List PlanRecord). Ok p) (sym c.in_ok-new.ensures.serves))),
    )
