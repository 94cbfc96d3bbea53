use Rattle.gateway_core.proofs.Names.{refl, sym, subst, true, false, none_over, AreFit}
use Rattle.gateway_core.proofs.BroadcastLemmas.{all_end, all_fit, ends_next, may_next, none_absent, same_shared, told_first}
use Rattle.gateway_core.proofs.broadcast.end_calls.Goals as goal

pub loop-id-init : goal.loop-id-init
loop-id-init g c = told_first c.args.trigger.now c.args.shared.now _ c.args.conns.now.entries c.requires.all c.requires.fit c.requires.numbered c.tell.ensures.ended c.tell.ensures.hooks refl

pub unreachable-requires : goal.unreachable-requires
unreachable-requires g c =
    none_absent c.args.trigger.now _ c.loop-id.shared c.args.conns.now.entries c.loop-id.conns.entries c.loop-id.broke c.loop-id.invariant c.in-Some.id c.number.result c.in-Some.ensures.its c.number.ensures
    c.in_default-get_mut.ensures.value

pub end_calls-requires-clause-may : goal.end_calls-requires-clause-may
end_calls-requires-clause-may g c =
    may_next c.args.trigger.now _ c.loop-id.shared c.args.conns.now.entries c.loop-id.conns.entries c.loop-id.broke c.loop-id.invariant c.in-Some.id c.number.result c.first_ended.new.self
    c.in-Some.ensures.its c.in-Some-get_mut.held.now c.number.ensures c.first_ended.ensures.same c.in-Some-get_mut.ensures.value

pub loop-id-smaller-then-end_calls : goal.loop-id-smaller-then-end_calls
loop-id-smaller-then-end_calls g c =
    (ends_next c.args.trigger.now _ c.loop-id.shared c.end_calls.new.shared c.args.conns.now.entries c.loop-id.conns.entries (c.get_mut.follows.lender c.end_calls.new.self).entries c.loop-id.broke
    c.loop-id.invariant c.in-Some.id c.number.result c.first_ended.new.self c.in-Some.ensures.its c.in-Some-get_mut.held.now c.end_calls.new.self true c.number.ensures c.first_ended.ensures.same
    c.in-Some-get_mut.ensures.value (c.get_mut.follows.holds c.end_calls.new.self).0 c.if-end_calls.ensures.ends c.end_calls.ensures.tied c.end_calls.ensures.rest c.end_calls.ensures.begun).1

pub loop-id-preserved-then-end_calls : goal.loop-id-preserved-then-end_calls
loop-id-preserved-then-end_calls g c =
    (ends_next c.args.trigger.now _ c.loop-id.shared c.end_calls.new.shared c.args.conns.now.entries c.loop-id.conns.entries (c.get_mut.follows.lender c.end_calls.new.self).entries c.loop-id.broke
    c.loop-id.invariant c.in-Some.id c.number.result c.first_ended.new.self c.in-Some.ensures.its c.in-Some-get_mut.held.now c.end_calls.new.self true c.number.ensures c.first_ended.ensures.same
    c.in-Some-get_mut.ensures.value (c.get_mut.follows.holds c.end_calls.new.self).0 c.if-end_calls.ensures.ends c.end_calls.ensures.tied c.end_calls.ensures.rest c.end_calls.ensures.begun).0

pub loop-id-smaller : goal.loop-id-smaller
loop-id-smaller g c =
    (ends_next c.args.trigger.now _ c.loop-id.shared c.end_calls.new.shared c.args.conns.now.entries c.loop-id.conns.entries (c.get_mut.follows.lender c.end_calls.new.self).entries c.loop-id.broke
    c.loop-id.invariant c.in-Some.id c.number.result c.first_ended.new.self c.in-Some.ensures.its c.in-Some-get_mut.held.now c.end_calls.new.self false c.number.ensures c.first_ended.ensures.same
    c.in-Some-get_mut.ensures.value (c.get_mut.follows.holds c.end_calls.new.self).0 c.if-end_calls.ensures.ends c.end_calls.ensures.tied c.end_calls.ensures.rest c.end_calls.ensures.begun).1

pub loop-id-preserved : goal.loop-id-preserved
loop-id-preserved g c =
    (ends_next c.args.trigger.now _ c.loop-id.shared c.end_calls.new.shared c.args.conns.now.entries c.loop-id.conns.entries (c.get_mut.follows.lender c.end_calls.new.self).entries c.loop-id.broke
    c.loop-id.invariant c.in-Some.id c.number.result c.first_ended.new.self c.in-Some.ensures.its c.in-Some-get_mut.held.now c.end_calls.new.self false c.number.ensures c.first_ended.ensures.same
    c.in-Some-get_mut.ensures.value (c.get_mut.follows.holds c.end_calls.new.self).0 c.if-end_calls.ensures.ends c.end_calls.ensures.tied c.end_calls.ensures.rest c.end_calls.ensures.begun).0

pub returns-clause-ended : goal.returns-clause-ended
returns-clause-ended g c = all_end c.loop-id.invariant c.in_default.ensures.none

pub returns-clause-fit : goal.returns-clause-fit
returns-clause-fit g c = subst (λ t. AreFit none_over t c.loop-id.conns.entries) (sym (same_shared c.loop-id.shared c.first_ended.new.self c.first_ended.ensures.same))
    (all_fit c.loop-id.invariant c.in_default.ensures.none)
