use Rattle.gateway_core.proofs.Names.{sym, subst, ap, ◌∙◌, refl, true, false, gateway_of, max}
use Rattle.gateway_core.proofs.TellLemmas.{later_fit, none_breaks, none_due, reaches_step, reaches_whole, moment_early}
use Rattle.gateway_core.proofs.StepLemmas.{numbered}
use Rattle.gateway_core.proofs.ClauseLemmas.{Reached, reached}
use Rattle.gateway_core.proofs.gateway.Core.moment.Goals as goal

pub end_calls-requires : goal.end_calls-requires
end_calls-requires g c =
    record {
      all = tt;
      now = refl;
      fit = later_fit c.self.inside.shared c.self.inside.conns.entries c.max-self-inside.result (moment_early c.self.inside.shared.moment c.args.moment c.max-self-inside.result (c.max-self-inside.ensures ∙ ap (max c.self.inside.shared.moment) c.min.ensures) c.self.invariant.fit.early) c.self.invariant.fit;
      numbered = numbered c.self.inside.shared c.self.inside.conns.entries c.self.inside.opened c.self.inside.tally c.self.invariant.serving;
    }

pub invariant_of-self-2 : goal.invariant_of-self-2
invariant_of-self-2 g c = reaches_whole c.end_calls.new.shared c.end_calls.new.conns.entries c.self.invariant c.end_calls.result c.args.moment c.end_calls.ensures.fit (reaches_step c.end_calls.new.shared c.end_calls.new.conns.entries c.self.invariant c.end_calls.result c.args.moment c.max-self-inside.result (c.max-self-inside.ensures ∙ ap (max c.self.inside.shared.moment) c.min.ensures) c.end_calls.ensures.ended c.end_calls.ensures.broke c.end_calls.ensures.drained c.end_calls.ensures.rest)

pub returns-then-not-is_due : goal.returns-then-not-is_due
returns-then-not-is_due g c =
    let w = gateway_of (record c.self.inside.shared { moment = c.max-self-inside.result }) c.self.inside.conns.entries c.self.inside.opened c.self.inside.tally in
    let all = subst (λ x. Reached c.args.moment false x w) c.self.view_is (reached c.self.invariant.serving (reaches_step (record c.self.inside.shared { moment = c.max-self-inside.result }) c.self.inside.conns.entries c.self.invariant false c.args.moment c.max-self-inside.result (c.max-self-inside.ensures ∙ ap (max c.self.inside.shared.moment) c.min.ensures) (none_due c.self.inside.shared c.self.inside.conns.entries c.max-self-inside.result c.self.invariant.fit (sym c.is_due.ensures.exact ∙ c.if-not-is_due.true)) (none_breaks c.self.inside.conns.entries) refl (record { plans_are = refl; moment_is = refl; jobs_are = refl; begun_is = refl }))) in
    record { stands = all.stands; adds = all.adds; broke = all.told; keeps = all.keeps }

pub returns : goal.returns
returns g c =
    let w = gateway_of c.end_calls.new.shared c.end_calls.new.conns.entries c.self.inside.opened c.self.inside.tally in
    let all = subst (λ x. Reached c.args.moment c.end_calls.result x w) c.self.view_is (reached c.self.invariant.serving (reaches_step c.end_calls.new.shared c.end_calls.new.conns.entries c.self.invariant c.end_calls.result c.args.moment c.max-self-inside.result (c.max-self-inside.ensures ∙ ap (max c.self.inside.shared.moment) c.min.ensures) c.end_calls.ensures.ended c.end_calls.ensures.broke c.end_calls.ensures.drained c.end_calls.ensures.rest)) in
    record { stands = all.stands; adds = all.adds; broke = all.told; keeps = all.keeps }
