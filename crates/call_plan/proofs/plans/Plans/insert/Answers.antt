use Rattle.std.proofs.Common.{◌≡◌, ◌<◌, map, length, false, is_some, rules, arith}
use Rattle.std.specs.Arc.{arc_value}
use Rattle.call_plan.specs.Plans.{plan_at}
use Rattle.call_plan.proofs.Inserting.{AreLawful-shared}
use Rattle.call_plan.proofs.plans.Plans.insert.Goals as goal

pub invariant_of-self-2 : goal.invariant_of-self-2
invariant_of-self-2 c =
    let plans = c.self.inside.shared.items in
    let a = c.in_ok-plan.plan in
    let same : arc_value a ≡ c.args.plan = search rules in
    let new : is_some (plan_at (arc_value a).path (map arc_value plans)) ≡ false = rw (same, c.self.view_is) (search rules) in
    let room : length (map arc_value plans) < 256 = rw c.self.view_is (omega arith) in
    rw c.in_ok-push.ensures.items (AreLawful-shared plans a c.self.invariant (rw same c.path.ensures.lawful) new room)
