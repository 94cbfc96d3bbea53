use Rattle.gateway_core.proofs.Names.{subst, gateway_of}
use Rattle.gateway_core.proofs.TellLemmas.{drains_step, drains_whole}
use Rattle.gateway_core.proofs.StepLemmas.{numbered}
use Rattle.gateway_core.proofs.ClauseLemmas.{Drained, drained}
use Rattle.gateway_core.proofs.gateway.Core.drain.Goals as goal

pub end_calls-requires : goal.end_calls-requires
end_calls-requires g c = record { all = tt; now = tt; fit = c.self.invariant.fit; numbered = numbered c.self.inside.shared c.self.inside.conns.entries c.self.inside.opened c.self.inside.tally c.self.invariant.serving }

pub invariant_of-self : goal.invariant_of-self
invariant_of-self g c = drains_whole c.end_calls.new.shared c.end_calls.new.conns.entries c.self.invariant c.end_calls.result c.end_calls.ensures.fit (drains_step c.end_calls.new.shared c.end_calls.new.conns.entries c.self.invariant c.end_calls.result c.end_calls.ensures.ended c.end_calls.ensures.broke c.end_calls.ensures.drained c.end_calls.ensures.rest)

pub returns : goal.returns
returns g c =
    let w = gateway_of c.end_calls.new.shared c.end_calls.new.conns.entries c.self.inside.opened c.self.inside.tally in
    let all = subst (λ x. Drained c.end_calls.result x w) c.self.view_is (drained c.self.invariant.serving (drains_step c.end_calls.new.shared c.end_calls.new.conns.entries c.self.invariant c.end_calls.result c.end_calls.ensures.ended c.end_calls.ensures.broke c.end_calls.ensures.drained c.end_calls.ensures.rest)) in
    record { stands = all.stands; adds = all.adds; broke = all.told; keeps = all.keeps }
