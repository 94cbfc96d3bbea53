use Rattle.gateway_core.proofs.Names.{subst, [], first_stands, first_lives}
use Rattle.gateway_core.proofs.TakenLemmas.{first_is, first_whole}
use Rattle.gateway_theory.specs.Served.{Served, Lives}
use Rattle.gateway_model.specs.History.{no_history}
use Rattle.gateway_core.proofs.gateway.Core.new.Goals as goal

pub returns-clause-stands : goal.returns-clause-stands
returns-clause-stands g c = subst (λ x. Served x no_history) (first_is c.in_ok-new.field-0 c.new-2.result.entries c.new-3.result c.args.plans c.in_ok-new.ensures.plans c.in_ok-new.ensures.moment c.in_ok-new.ensures.contexts c.in_ok-new.ensures.jobs c.in_ok-new.ensures.begun c.new-2.ensures.empty c.new-3.ensures) (first_stands c.args.plans)

pub returns-clause-lives : goal.returns-clause-lives
returns-clause-lives g c = subst (λ x. Lives x no_history []) (first_is c.in_ok-new.field-0 c.new-2.result.entries c.new-3.result c.args.plans c.in_ok-new.ensures.plans c.in_ok-new.ensures.moment c.in_ok-new.ensures.contexts c.in_ok-new.ensures.jobs c.in_ok-new.ensures.begun c.new-2.ensures.empty c.new-3.ensures) (first_lives c.args.plans)

pub invariant_of-result : goal.invariant_of-result
invariant_of-result g c = first_whole c.in_ok-new.field-0 c.new-2.result.entries c.new-3.result c.in_ok-new.ensures.moment c.in_ok-new.ensures.contexts c.in_ok-new.ensures.jobs c.new-2.ensures.empty c.new-2.ensures.ordered
