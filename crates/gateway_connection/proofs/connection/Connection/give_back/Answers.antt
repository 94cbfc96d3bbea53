use Rattle.gateway_connection.specs.lemmas.Names.{◌≡◌, ◌<◌, ◌∙◌, ap, back_kept, held_by, kept_at, length, refl, slice_set, HeldConnection, KeptValue, sym, subst}
use Rattle.gateway_connection.proofs.HoldsLemmas.{here_is, holds_set}
use Rattle.gateway_connection.proofs.connection.Connection.give_back.Goals as goal

pub invariant_of-self : goal.invariant_of-self
invariant_of-self c =
    let items = ap (λ (k : HeldConnection). k.calls) c.self.view_is in
    let lt : c.args.index < length c.self.inside.calls.items = subst (λ ks. c.args.index < length ks) (sym items) c.requires.there in
    let was = here_is c.self.inside.calls.items c.self.inside.calls.items c.args.index c.index_mut.result.now refl lt c.index_mut.ensures.value in (
      c.self.invariant.0,
      holds_set (held_by c.self.inside.number c.self.inside.taken c.self.inside.slots.items c.self.inside.calls.items c.self.inside.broken c.self.inside.closed c.self.inside.hung_up c.self.inside.reader) (held_by c.self.inside.number c.self.inside.taken c.self.inside.slots.items (slice_set c.self.inside.calls.items c.args.index c.give_back.new.self) c.self.inside.broken c.self.inside.closed c.self.inside.hung_up c.self.inside.reader)
          c.args.index c.give_back.new.self refl refl refl refl refl (ap (λ (x : KeptValue). x.id) (c.give_back.ensures ∙ ap (back_kept c.args.branch) was)) (λ shut. ap (λ (x : KeptValue). x.call.live) c.give_back.ensures) c.self.invariant.1,
    )

pub returns : goal.returns
returns c =
    let items = ap (λ (k : HeldConnection). k.calls) c.self.view_is in
    let lt : c.args.index < length c.self.inside.calls.items = subst (λ ks. c.args.index < length ks) (sym items) c.requires.there in
    let was : c.index_mut.result.now ≡ kept_at c.args.index c.args.self.now.calls = here_is c.self.inside.calls.items c.args.self.now.calls c.args.index c.index_mut.result.now items lt c.index_mut.ensures.value in
    ap (λ (k : HeldConnection). record k { calls = slice_set k.calls c.args.index c.give_back.new.self }) c.self.view_is
    ∙ ap (λ y. record c.args.self.now { calls = slice_set c.args.self.now.calls c.args.index y }) (c.give_back.ensures ∙ ap (back_kept c.args.branch) was)
