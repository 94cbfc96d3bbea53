use Rattle.gateway_core.proofs.Names.{sym, ap, Err, refl, absent, fed_closed, feeds_serving, gateway_of, Gone}
use Rattle.gateway_core.proofs.StepLemmas.{at_both, feeds_step, may_step, set_whole}
use Rattle.gateway_core.proofs.ClauseLemmas.{Fed, fed}
use Rattle.gateway_core.proofs.gateway.Core.feed.Goals as goal

pub feed-requires : goal.feed-requires
feed-requires g c = record { may = may_step c.self.invariant c.number.result c.in-Some.held.now c.in-Some.ensures.value; brought = (c.self.invariant.serving.each c.number.result c.in-Some.held.now (sym c.in-Some.ensures.value)).brought }

pub invariant_of-self-2 : goal.invariant_of-self-2
invariant_of-self-2 g c =
    let f = c.feed.ensures.takes in
    set_whole c.self.invariant c.number.result c.in-Some.held.now c.feed.new.self c.in-Some.ensures.value (c.get_mut.follows.holds c.feed.new.self).0 c.feed.new.shared f.jobs c.self.inside.tally f.rest c.feed.ensures.tied
    (fed_closed _ _ _ c.args.bytes.now _ c.in-Some.held.now _ c.feed.new.self f.jobs c.feed.result f.takes)
    (feeds_serving c.number.result c.args.bytes.now (gateway_of c.self.inside.shared c.self.inside.conns.entries c.self.inside.opened c.self.inside.tally) (gateway_of c.feed.new.shared (c.get_mut.follows.lender c.feed.new.self).entries c.self.inside.opened c.self.inside.tally) c.feed.result (feeds_step c.self.invariant c.number.result c.in-Some.held.now c.feed.new.self c.in-Some.ensures.value (c.get_mut.follows.holds c.feed.new.self).0 c.feed.new.shared c.args.bytes.now c.feed.result c.feed.ensures.takes) c.self.invariant.serving)

pub returns-in_default : goal.returns-in_default
returns-in_default g c =
    let w = gateway_of c.self.inside.shared c.get_mut.follows.lender-at-none.entries c.self.inside.opened c.self.inside.tally in
    let all = at_both (λ m x. Fed m c.args.bytes.now (Err Gone) x w) c.number.ensures c.self.view_is (fed c.request_laws.ensures c.self.invariant.serving (absent (sym c.in_default.ensures.value) refl (ap (λ m. gateway_of c.self.inside.shared m.entries c.self.inside.opened c.self.inside.tally) c.get_mut.follows.holds-at-none))) in
    record { stands = all.stands; takes = all.takes; one = all.one; tells = all.tells; begins = all.begins; listens = all.listens; counts = all.counts; keeps = all.keeps }

pub returns : goal.returns
returns g c =
    let w = gateway_of c.feed.new.shared (c.get_mut.follows.lender c.feed.new.self).entries c.self.inside.opened c.self.inside.tally in
    let all = at_both (λ m x. Fed m c.args.bytes.now c.feed.result x w) c.number.ensures c.self.view_is (fed c.request_laws.ensures c.self.invariant.serving (feeds_step c.self.invariant c.number.result c.in-Some.held.now c.feed.new.self c.in-Some.ensures.value (c.get_mut.follows.holds c.feed.new.self).0 c.feed.new.shared c.args.bytes.now c.feed.result c.feed.ensures.takes)) in
    record { stands = all.stands; takes = all.takes; one = all.one; tells = all.tells; begins = all.begins; listens = all.listens; counts = all.counts; keeps = all.keeps }
