use Rattle.gateway_core.proofs.Names.{sym, ap, Err, refl, [], absent, hangs_serving, hung_closed, gateway_of, Gone}
use Rattle.gateway_core.proofs.StepLemmas.{at_both, hangs_step, may_step, set_whole}
use Rattle.gateway_core.proofs.ClauseLemmas.{HungUp, hung_up}
use Rattle.gateway_core.proofs.gateway.Core.hang_up.Goals as goal

pub hang_up-requires : goal.hang_up-requires
hang_up-requires g c = record { may = may_step c.self.invariant c.number.result c.in-Some.held.now c.in-Some.ensures.value }

pub invariant_of-self-2 : goal.invariant_of-self-2
invariant_of-self-2 g c =
    set_whole c.self.invariant c.number.result c.in-Some.held.now c.hang_up.new.self c.in-Some.ensures.value (c.get_mut.follows.holds c.hang_up.new.self).0 c.hang_up.new.shared [] c.self.inside.tally c.hang_up.ensures.rest c.hang_up.ensures.tied
    (hung_closed c.in-Some.held.now c.hang_up.new.self c.hang_up.result c.hang_up.ensures.hangs)
    (hangs_serving c.number.result (gateway_of c.self.inside.shared c.self.inside.conns.entries c.self.inside.opened c.self.inside.tally) (gateway_of c.hang_up.new.shared (c.get_mut.follows.lender c.hang_up.new.self).entries c.self.inside.opened c.self.inside.tally) c.hang_up.result (hangs_step c.self.invariant c.number.result c.in-Some.held.now c.hang_up.new.self c.in-Some.ensures.value (c.get_mut.follows.holds c.hang_up.new.self).0 c.hang_up.new.shared c.hang_up.result c.hang_up.ensures.hangs c.hang_up.ensures.rest c.hang_up.ensures.begun) c.self.invariant.serving)

pub returns-in_default : goal.returns-in_default
returns-in_default g c =
    let w = gateway_of c.self.inside.shared c.get_mut.follows.lender-at-none.entries c.self.inside.opened c.self.inside.tally in
    let all = at_both (λ m x. HungUp m (Err Gone) x w) c.number.ensures c.self.view_is (hung_up c.self.invariant.serving (absent (sym c.in_default.ensures.value) refl (ap (λ m. gateway_of c.self.inside.shared m.entries c.self.inside.opened c.self.inside.tally) c.get_mut.follows.holds-at-none))) in
    record { stands = all.stands; adds = all.adds; tells = all.tells; begins = all.begins; keeps = all.keeps }

pub returns : goal.returns
returns g c =
    let w = gateway_of c.hang_up.new.shared (c.get_mut.follows.lender c.hang_up.new.self).entries c.self.inside.opened c.self.inside.tally in
    let all = at_both (λ m x. HungUp m c.hang_up.result x w) c.number.ensures c.self.view_is (hung_up c.self.invariant.serving (hangs_step c.self.invariant c.number.result c.in-Some.held.now c.hang_up.new.self c.in-Some.ensures.value (c.get_mut.follows.holds c.hang_up.new.self).0 c.hang_up.new.shared c.hang_up.result c.hang_up.ensures.hangs c.hang_up.ensures.rest c.hang_up.ensures.begun)) in
    record { stands = all.stands; adds = all.adds; tells = all.tells; begins = all.begins; keeps = all.keeps }
