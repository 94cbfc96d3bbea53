use Rattle.gateway_core.proofs.Names.{sym, ap, None, refl, [], absent, reply_held, reply_serving, gateway_of}
use Rattle.gateway_core.proofs.StepLemmas.{at_both, may_step, reply_step, set_whole}
use Rattle.gateway_core.proofs.TakenLemmas.{taken_rest, taken_tied}
use Rattle.gateway_core.proofs.ClauseLemmas.{GivesReply, gives_reply}
use Rattle.gateway_core.proofs.gateway.Core.take_reply.Goals as goal

pub invariant_of-self-2 : goal.invariant_of-self-2
invariant_of-self-2 g c =
    set_whole c.self.invariant c.number.result c.in-Some.held.now c.take_reply.new.self c.in-Some.ensures.value (c.get_mut.follows.holds c.take_reply.new.self).0 c.self.inside.shared [] c.self.inside.tally (taken_rest c.in-Some.held.now c.take_reply.new.self c.take_reply.result c.self.inside.shared c.take_reply.ensures)
    (taken_tied c.in-Some.held.now c.take_reply.new.self c.take_reply.result c.self.inside.shared.contexts c.take_reply.ensures (may_step c.self.invariant c.number.result c.in-Some.held.now c.in-Some.ensures.value).tied)
    (reply_held c.self.inside.opened c.number.result c.in-Some.held.now c.take_reply.new.self c.take_reply.result c.take_reply.ensures (c.self.invariant.serving.each c.number.result c.in-Some.held.now (sym c.in-Some.ensures.value))).0
    (reply_serving c.number.result (gateway_of c.self.inside.shared c.self.inside.conns.entries c.self.inside.opened c.self.inside.tally) (gateway_of c.self.inside.shared (c.get_mut.follows.lender c.take_reply.new.self).entries c.self.inside.opened c.self.inside.tally) c.take_reply.result (reply_step c.self.invariant c.number.result c.in-Some.held.now c.take_reply.new.self c.in-Some.ensures.value (c.get_mut.follows.holds c.take_reply.new.self).0 c.take_reply.result c.take_reply.ensures) c.self.invariant.serving)

pub returns-in_default : goal.returns-in_default
returns-in_default g c =
    let w = gateway_of c.self.inside.shared c.get_mut.follows.lender-at-none.entries c.self.inside.opened c.self.inside.tally in
    let all = at_both (λ m x. GivesReply m None x w) c.number.ensures c.self.view_is (gives_reply c.self.invariant.serving (absent (sym c.in_default.ensures.value) refl (ap (λ m. gateway_of c.self.inside.shared m.entries c.self.inside.opened c.self.inside.tally) c.get_mut.follows.holds-at-none))) in
    record { stands = all.stands; lives = all.lives; first = all.first; its = all.its; none = all.none; only = all.only }

pub returns : goal.returns
returns g c =
    let w = gateway_of c.self.inside.shared (c.get_mut.follows.lender c.take_reply.new.self).entries c.self.inside.opened c.self.inside.tally in
    let all = at_both (λ m x. GivesReply m c.take_reply.result x w) c.number.ensures c.self.view_is (gives_reply c.self.invariant.serving (reply_step c.self.invariant c.number.result c.in-Some.held.now c.take_reply.new.self c.in-Some.ensures.value (c.get_mut.follows.holds c.take_reply.new.self).0 c.take_reply.result c.take_reply.ensures)) in
    record { stands = all.stands; lives = all.lives; first = all.first; its = all.its; none = all.none; only = all.only }
