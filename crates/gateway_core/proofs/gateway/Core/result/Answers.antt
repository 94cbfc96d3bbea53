use Rattle.gateway_core.proofs.Names.{sym, subst, ap, ◌∙◌, arith, ◌≡◌, one_if_open, absent, Tallies, results_serving, taken_like, gateway_of, held_at, IsWithout, is_at, set_value, nat_cmp, is_gone, if◌then◌else◌, call_id}
use Rattle.gateway_core.proofs.StepLemmas.{left_out, left_whole, may_step, moves_left, results_step}
use Rattle.gateway_core.proofs.ClauseLemmas.{Ended, ended}
use Rattle.gateway_core.proofs.gateway.Core.result.Goals as goal

pub result-took-requires : goal.result-took-requires
result-took-requires g c = may_step c.self.invariant c.number-number.result c.in-Some.held.now c.in-Some.ensures.value

pub invariant_of-self-2 : goal.invariant_of-self-2
invariant_of-self-2 g c =
    let found = c.in-Some.ensures.value ∙ ap (λ m. held_at m c.self.inside.conns.entries) c.number-number.ensures in
    let set = (c.get_mut.follows.holds c.result-took.new.self).0 ∙ ap (λ m. set_value (is_at (nat_cmp m)) c.self.inside.conns.entries c.result-took.new.self) c.number-number.ensures in
    let left = subst (λ m. IsWithout (is_gone c.result-took.new.self) m (c.get_mut.follows.lender c.result-took.new.self).entries c.remove_gone.new.conns.entries) c.number-number.ensures
    (left_out c.number-number.result c.in-Some.held.now c.result-took.new.self c.self.inside.conns.entries (c.get_mut.follows.lender c.result-took.new.self).entries c.remove_gone.new.conns.entries
    c.in-Some.ensures.value (c.get_mut.follows.holds c.result-took.new.self).0 c.remove_gone.ensures) in
    let x = taken_like c.self.inside.shared.moment (call_id c.in-Some.held.now.number c.args.call.now.request) c.args.branch c.args.outcome c.in-Some.held.now c.result-took.new.self c.result-took.ensures.takes.jobs c.result-took.result c.result-took.ensures.takes.takes (c.self.invariant.serving.each c.number-number.result c.in-Some.held.now (sym c.in-Some.ensures.value)).holds in
    let one : one_if_open c.result-took.new.self ≡ one_if_open c.in-Some.held.now = ap (λ b. if b then 0 else 1) x.0.closed_is in
    left_whole c.self.invariant c.args.call.now.conn c.in-Some.held.now c.result-took.new.self found set left c.result-took.new.shared c.result-took.ensures.takes.jobs c.add-2.new.self c.self.inside.open c.result-took.ensures.takes.rest c.result-took.ensures.tied x.0.number_is x.1
    (omega (arith, one)) (results_serving c.args.call.now c.args.branch c.args.outcome (gateway_of c.self.inside.shared c.self.inside.conns.entries c.self.inside.opened c.self.inside.tally) (gateway_of c.result-took.new.shared c.remove_gone.new.conns.entries c.self.inside.opened c.add-2.new.self) c.result-took.result (results_step c.self.invariant c.args.call.now c.args.branch c.result-took.result c.in-Some.held.now c.result-took.new.self found (moves_left c.self.invariant c.args.call.now.conn c.in-Some.held.now c.result-took.new.self found set left c.result-took.new.shared c.add-2.new.self) c.add-2.ensures c.args.outcome c.result-took.ensures.takes c.result-took.ensures.begun) c.self.invariant.serving)

pub returns-in_default : goal.returns-in_default
returns-in_default g c =
    let w = gateway_of c.self.inside.shared c.get_mut.follows.lender-at-none.entries c.self.inside.opened c.add.new.self in
    let all = subst (λ x. Ended c.args.call.now c.args.branch c.args.outcome c.unknown.result x w) c.self.view_is (ended c.self.invariant.serving (absent (sym (c.in_default.ensures.value ∙ ap (λ m. held_at m c.self.inside.conns.entries) c.number-number.ensures)) c.unknown.ensures (subst (λ q. Tallies q.seen (gateway_of c.self.inside.shared c.self.inside.conns.entries c.self.inside.opened c.self.inside.tally) (gateway_of c.self.inside.shared c.get_mut.follows.lender-at-none.entries c.self.inside.opened c.add.new.self)) (sym c.unknown.ensures) c.add.ensures) (ap (λ m. gateway_of c.self.inside.shared m.entries c.self.inside.opened c.add.new.self) c.get_mut.follows.holds-at-none))) in
    record { stands = all.stands; adds = all.adds; tells = all.tells; keeps = all.keeps }

pub returns : goal.returns
returns g c =
    let found = c.in-Some.ensures.value ∙ ap (λ m. held_at m c.self.inside.conns.entries) c.number-number.ensures in
    let set = (c.get_mut.follows.holds c.result-took.new.self).0 ∙ ap (λ m. set_value (is_at (nat_cmp m)) c.self.inside.conns.entries c.result-took.new.self) c.number-number.ensures in
    let left = subst (λ m. IsWithout (is_gone c.result-took.new.self) m (c.get_mut.follows.lender c.result-took.new.self).entries c.remove_gone.new.conns.entries) c.number-number.ensures
    (left_out c.number-number.result c.in-Some.held.now c.result-took.new.self c.self.inside.conns.entries (c.get_mut.follows.lender c.result-took.new.self).entries c.remove_gone.new.conns.entries
    c.in-Some.ensures.value (c.get_mut.follows.holds c.result-took.new.self).0 c.remove_gone.ensures) in
    let w = gateway_of c.result-took.new.shared c.remove_gone.new.conns.entries c.self.inside.opened c.add-2.new.self in
    let all = subst (λ x. Ended c.args.call.now c.args.branch c.args.outcome c.result-took.result x w) c.self.view_is (ended c.self.invariant.serving (results_step c.self.invariant c.args.call.now c.args.branch c.result-took.result c.in-Some.held.now c.result-took.new.self found (moves_left c.self.invariant c.args.call.now.conn c.in-Some.held.now c.result-took.new.self found set left c.result-took.new.shared c.add-2.new.self) c.add-2.ensures c.args.outcome c.result-took.ensures.takes c.result-took.ensures.begun)) in
    record { stands = all.stands; adds = all.adds; tells = all.tells; keeps = all.keeps }
