use Rattle.std.proofs.Common.{bytes_eq, ◌∙◌, rules, tests}
use Rattle.std.specs.Arc.{arc_value}
use Rattle.std.proofs.lemmas.Iterator.{YieldsList-from_slice}
use Rattle.std.proofs.lemmas.Iterator.Search.{find_from_yields_List}
use Rattle.call_plan.proofs.Inserting.{Shared, plan_at-map}
use Rattle.call_plan.proofs.plans.Plans.find.Goals as goal

pub returns-clause-found : goal.returns-clause-found
returns-clause-found c =
    let rest = c.iter.ensures.rest ∙ c.deref.ensures.value in
    let found =
    find_from_yields_List (λ (a : Shared). bytes_eq (arc_value a).path c.args.path.now) _ _ c.find.result c.find.ensures.ran
    (YieldsList-from_slice _ rest) (λ x b q k. search (rules, tests)) in
    rw (← c.self.view_is) (plan_at-map c.args.path.now c.self.inside.shared.items c.find.result found)
