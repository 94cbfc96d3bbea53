use Rattle.gateway_connection.specs.lemmas.Names.{rules, ◌≡◌, ◌+◌, Some, drop, refl, subst, slice_get, TakesReply, held_by}
use Rattle.gateway_connection.proofs.HoldsLemmas.{holds_as}
use Rattle.gateway_connection.proofs.SlotLemmas.{first_next, rest_place, takes_first}
use Rattle.gateway_connection.proofs.connection.Connection.take_reply.Goals as goal

pub invariant_of-self : goal.invariant_of-self
invariant_of-self c =
    let first : slice_get c.self.inside.slots.items 0 ≡ Some (Some c.in-Some-Some.field-0-0) = search rules in
    let rest : c.pop_front.new.self.items ≡ drop 1 c.self.inside.slots.items = search rules in (
      rest_place c.self.inside.number c.self.inside.taken c.self.inside.slots.items c.pop_front.new.self.items rest c.self.invariant.0,
      holds_as (held_by c.self.inside.number c.self.inside.taken c.self.inside.slots.items c.self.inside.calls.items c.self.inside.broken c.self.inside.closed c.self.inside.hung_up c.self.inside.reader)
          (held_by c.self.inside.number (c.self.inside.taken + 1) c.pop_front.new.self.items c.self.inside.calls.items c.self.inside.broken c.self.inside.closed c.self.inside.hung_up c.self.inside.reader)
          refl refl refl refl (first_next c.self.inside.taken c.self.inside.slots.items c.pop_front.new.self.items (Some c.in-Some-Some.field-0-0) first rest) c.self.invariant.1,
    )

pub returns-in-Some-Some : goal.returns-in-Some-Some
returns-in-Some-Some c =
    let first : slice_get c.self.inside.slots.items 0 ≡ Some (Some c.in-Some-Some.field-0-0) = search rules in
    let rest : c.pop_front.new.self.items ≡ drop 1 c.self.inside.slots.items = search rules in
    let given : c.flatten.result ≡ Some c.in-Some-Some.field-0-0 = search rules in
    subst (λ k. TakesReply k (held_by c.self.inside.number (c.self.inside.taken + 1) c.pop_front.new.self.items c.self.inside.calls.items c.self.inside.broken c.self.inside.closed c.self.inside.hung_up c.self.inside.reader) c.flatten.result)
    c.self.view_is
    (takes_first c.self.inside.number c.self.inside.taken c.self.inside.calls.items c.self.inside.broken c.self.inside.closed c.self.inside.hung_up c.self.inside.reader c.self.inside.slots.items c.pop_front.new.self.items c.flatten.result c.in-Some-Some.field-0-0
    first rest given c.self.invariant.0)
