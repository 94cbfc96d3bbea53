use Rattle.gateway_connection.specs.lemmas.Names.{◌<◌, ◌∙◌, ap, arith, length, subst, sym, refl, filter, not, is_call, KeptValue, HeldConnection, is_spent, kept_at, Holds, forgotten, stays, held_by}
use Rattle.gateway_connection.proofs.HoldsLemmas.{here_is, holds_filtered}
use Rattle.gateway_connection.proofs.LentLemmas.{itself_at, itself_found, without_is}
use Rattle.gateway_connection.proofs.connection.Connection.forget.Goals as goal

pub invariant_of-self : goal.invariant_of-self
invariant_of-self c =
    let items = ap (λ (k : HeldConnection). k.calls) c.self.view_is in
    let lt : c.args.index < length c.self.inside.calls.items = (let within = c.requires in omega (arith, within, ap length items)) in (
      c.self.invariant.0,
      holds_filtered (held_by c.self.inside.number c.self.inside.taken c.self.inside.slots.items c.self.inside.calls.items c.self.inside.broken c.self.inside.closed c.self.inside.hung_up c.self.inside.reader)
          (held_by c.self.inside.number c.self.inside.taken c.self.inside.slots.items c.remove.new.self.items c.self.inside.broken c.self.inside.closed c.self.inside.hung_up c.self.inside.reader)
          (λ (k : KeptValue). not (is_call k.id (kept_at c.args.index c.self.inside.calls.items).id)) refl
          (c.remove.ensures.items ∙ sym (without_is (kept_at c.args.index c.self.inside.calls.items).id c.self.inside.calls.items c.args.index
          (itself_found c.self.inside.calls.items c.args.index lt c.self.invariant.1.apart) c.self.invariant.1.apart)) refl refl refl c.self.invariant.1,
    )

pub returns-then-is_spent : goal.returns-then-is_spent
returns-then-is_spent c =
    let items = ap (λ (k : HeldConnection). k.calls) c.self.view_is in
    let h = subst Holds c.self.view_is c.self.invariant.1 in
    let lt : c.args.index < length c.self.inside.calls.items = (let within = c.requires in omega (arith, within, ap length items)) in
    let here = here_is c.self.inside.calls.items c.args.self.now.calls c.args.index c.index.result.now items lt c.index.ensures in
    forgotten (ap is_spent (itself_at c.args.self.now.calls c.args.index c.requires h.apart) ∙ ap (λ (k : KeptValue). is_spent k.call) (sym here) ∙ sym c.is_spent.ensures ∙ c.if-is_spent.true)
    (ap (λ ks. held_by c.self.inside.number c.self.inside.taken c.self.inside.slots.items ks c.self.inside.broken c.self.inside.closed c.self.inside.hung_up c.self.inside.reader)
    (c.remove.ensures.items ∙ sym (without_is (kept_at c.args.index c.self.inside.calls.items).id c.self.inside.calls.items c.args.index
    (itself_found c.self.inside.calls.items c.args.index lt c.self.invariant.1.apart) c.self.invariant.1.apart))
    ∙ ap (λ (k : HeldConnection). record k { calls = filter (λ (x : KeptValue). not (is_call x.id (kept_at c.args.index k.calls).id)) k.calls }) c.self.view_is)

pub returns-else-is_spent : goal.returns-else-is_spent
returns-else-is_spent c =
    let items = ap (λ (k : HeldConnection). k.calls) c.self.view_is in
    let h = subst Holds c.self.view_is c.self.invariant.1 in
    let lt : c.args.index < length c.self.inside.calls.items = (let within = c.requires in omega (arith, within, ap length items)) in
    let here = here_is c.self.inside.calls.items c.args.self.now.calls c.args.index c.index.result.now items lt c.index.ensures in
    stays (ap is_spent (itself_at c.args.self.now.calls c.args.index c.requires h.apart) ∙ ap (λ (k : KeptValue). is_spent k.call) (sym here) ∙ sym c.is_spent.ensures ∙ c.if-is_spent.false) refl
