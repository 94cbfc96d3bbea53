use Rattle.gateway_connection.specs.lemmas.Names.{◌≡◌, ◌∙◌, None, ap, append-nil, arith, refl, sym, subst, true, waiting, or_true, broken_held, HeldConnection, KeptValue, All, held_by, LeavesOthers}
use Rattle.gateway_connection.specs.lemmas.OwnContexts.{others_closed}
use Rattle.gateway_connection.proofs.HoldsLemmas.{all_dead, holds_given}
use Rattle.gateway_connection.proofs.LentLemmas.{tied_shut}
use Rattle.gateway_connection.proofs.connection.Connection.break_now.Goals as goal

pub give_up-requires : goal.give_up-requires
give_up-requires g c = omega (arith, c.requires, ap (λ (k : HeldConnection). waiting k.calls) c.self.view_is)

pub invariant_of-self : goal.invariant_of-self
invariant_of-self g c = (
  c.self.invariant.0,
  holds_given (held_by c.self.inside.number c.self.inside.taken c.self.inside.slots.items c.self.inside.calls.items c.self.inside.broken c.self.inside.closed c.self.inside.hung_up c.self.inside.reader)
      (held_by c.self.inside.number c.self.inside.taken c.self.inside.slots.items c.give_up.new.calls.items true c.self.inside.closed c.self.inside.hung_up c.self.inside.reader)
      refl c.give_up.ensures.given (λ on. (on, omega arith)) c.self.invariant.1.few c.self.invariant.1,
)

pub returns-clause-broken : goal.returns-clause-broken
returns-clause-broken g c =
    ap (λ ks. held_by c.self.inside.number c.self.inside.taken c.self.inside.slots.items ks true c.self.inside.closed c.self.inside.hung_up c.self.inside.reader) c.give_up.ensures.given
    ∙ ap broken_held c.self.view_is

pub returns-clause-tied : goal.returns-clause-tied
returns-clause-tied g c =
    tied_shut (held_by c.self.inside.number c.self.inside.taken c.self.inside.slots.items c.give_up.new.calls.items true c.self.inside.closed c.self.inside.hung_up c.self.inside.reader)
    c.args.shared.now.contexts c.close.new.self c.close.ensures.closed (or_true c.self.inside.closed)
    (subst (All (λ (k : KeptValue). k.call.live ≡ None)) (sym c.give_up.ensures.given) (all_dead c.self.inside.calls.items))

pub returns-clause-rest : goal.returns-clause-rest
returns-clause-rest g c = record {
  plans_are = refl;
  moment_is = refl;
  jobs_are = c.give_up.ensures.jobs ∙ sym (append-nil c.args.shared.now.jobs.jobs);
  waits = omega (arith, c.give_up.ensures.waits, ap (λ (k : HeldConnection). waiting k.calls) c.self.view_is);
  others = subst (λ n. LeavesOthers n c.args.shared.now.contexts c.close.new.self) (ap (λ (k : HeldConnection). k.number) c.self.view_is)
      (others_closed c.self.inside.number c.args.shared.now.contexts c.close.new.self c.close.ensures.closed c.close.ensures.hooks);
}
