use Rattle.gateway_connection.specs.lemmas.Names.{◌≡◌, ◌∙◌, None, ap, append-nil, arith, false, length, map, refl, sym, subst, true, [], All, entry_in, KeptValue, HeldConnection, given_up, waiting, closed_held, held_by, LeavesOthers}
use Rattle.gateway_connection.specs.lemmas.OwnContexts.{others_closed}
use Rattle.gateway_connection.proofs.HoldsLemmas.{all_dead, holds_given}
use Rattle.gateway_connection.proofs.SlotLemmas.{none_placed}
use Rattle.gateway_connection.proofs.LentLemmas.{tied_shut}
use Rattle.gateway_connection.proofs.connection.Connection.close.Goals as goal

pub give_up-requires : goal.give_up-requires
give_up-requires g c = omega (arith, c.requires, ap (λ (k : HeldConnection). waiting k.calls) c.self.view_is)

pub invariant_of-self : goal.invariant_of-self
invariant_of-self g c =
    let few = c.self.invariant.1.few in
    let none : length (map entry_in c.new-2.result.items) ≡ 0 = ap (λ xs. length (map entry_in xs)) c.new-2.ensures.items in (
      none_placed c.self.inside.number c.self.inside.taken c.new-2.result.items c.new-2.ensures.items,
      holds_given (held_by c.self.inside.number c.self.inside.taken c.self.inside.slots.items c.self.inside.calls.items c.self.inside.broken c.self.inside.closed c.self.inside.hung_up c.self.inside.reader)
          (held_by c.self.inside.number c.self.inside.taken c.new-2.result.items c.give_up.new.calls.items false true c.self.inside.hung_up c.new.result)
          refl c.give_up.ensures.given (λ on. absurd (cc)) (omega (arith, few, none)) c.self.invariant.1,
    )

pub returns-clause-closed : goal.returns-clause-closed
returns-clause-closed g c =
    ap (λ xs. held_by c.self.inside.number c.self.inside.taken xs c.give_up.new.calls.items false true c.self.inside.hung_up c.new.result) c.new-2.ensures.items
    ∙ ap (λ ks. held_by c.self.inside.number c.self.inside.taken [] ks false true c.self.inside.hung_up c.new.result) c.give_up.ensures.given
    ∙ ap (λ r. held_by c.self.inside.number c.self.inside.taken [] (map given_up c.self.inside.calls.items) false true c.self.inside.hung_up r) c.new.ensures.reader
    ∙ ap closed_held c.self.view_is

pub returns-clause-tied : goal.returns-clause-tied
returns-clause-tied g c =
    tied_shut (held_by c.self.inside.number c.self.inside.taken c.new-2.result.items c.give_up.new.calls.items false true c.self.inside.hung_up c.new.result)
    c.args.shared.now.contexts c.close.new.self c.close.ensures.closed refl
    (subst (All (λ (k : KeptValue). k.call.live ≡ None)) (sym c.give_up.ensures.given) (all_dead c.self.inside.calls.items))

pub returns-clause-rest : goal.returns-clause-rest
returns-clause-rest g c = record {
  plans_are = refl;
  moment_is = refl;
  jobs_are = c.give_up.ensures.jobs ∙ sym (append-nil c.args.shared.now.jobs.jobs);
  waits = omega (arith, c.give_up.ensures.waits, ap (λ (k : HeldConnection). waiting k.calls) c.self.view_is);
  others = subst (λ n. LeavesOthers n c.args.shared.now.contexts c.close.new.self) (ap (λ (k : HeldConnection). k.number) c.self.view_is)
      (others_closed c.self.inside.number c.args.shared.now.contexts c.close.new.self c.close.ensures.closed c.close.ensures.hooks);
}
