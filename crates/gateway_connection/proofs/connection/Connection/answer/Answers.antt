use Rattle.gateway_connection.specs.lemmas.Names.{◌≡◌, ◌+◌, ◌∷◌, ◌++◌, ◌∙◌, [], Some, ap, append-nil, arith, call_id, length, length-append, length-map, map, map-append, refl, subst, sym, AreInPlace, HeldConnection, Holds, entered_held, entry_in, gone, held_by, held_connection, next_held, step_to}
use Rattle.gateway_connection.proofs.HoldsLemmas.{holds_ids}
use Rattle.gateway_connection.proofs.SlotLemmas.{push_place}
use Rattle.gateway_connection.proofs.connection.Connection.answer.Goals as goal

pub invariant_of-self : goal.invariant_of-self
invariant_of-self c = (
  subst (AreInPlace c.self.inside.number c.self.inside.taken) (sym c.in_default.ensures.items) c.self.invariant.0,
  subst (λ xs. Holds (held_by c.self.inside.number c.self.inside.taken xs c.self.inside.calls.items c.self.inside.broken c.self.inside.closed c.self.inside.hung_up c.self.inside.reader)) (sym c.in_default.ensures.items) c.self.invariant.1,
)

pub invariant_of-self-2 : goal.invariant_of-self-2
invariant_of-self-2 c =
    let its : c.args.reply.id ≡ call_id c.self.inside.number (c.self.inside.taken + length c.self.inside.slots.items) =
    c.requires.its ∙ ap next_held (sym c.self.view_is) ∙ ap (λ n. call_id c.self.inside.number (c.self.inside.taken + n)) (length-map c.self.inside.slots.items entry_in) in
    let was = length-map c.self.inside.slots.items entry_in in
    let size : length (map entry_in c.push_back.new.self.items) ≡ length (c.self.inside.slots.items ++ Some c.args.reply ∷ []) =
    length-map c.push_back.new.self.items entry_in ∙ ap length c.in-Ok.ensures.items in
    let more = length-append c.self.inside.slots.items (Some c.args.reply ∷ []) in
    let room = c.requires.room in (
      subst (AreInPlace c.self.inside.number c.self.inside.taken) (sym c.in-Ok.ensures.items) (push_place c.self.inside.number c.self.inside.taken c.self.inside.slots.items c.args.reply its c.self.invariant.0),
      holds_ids (held_by c.self.inside.number c.self.inside.taken c.self.inside.slots.items c.self.inside.calls.items c.self.inside.broken c.self.inside.closed c.self.inside.hung_up c.self.inside.reader)
          (held_by c.self.inside.number c.self.inside.taken c.push_back.new.self.items c.self.inside.calls.items c.self.inside.broken c.self.inside.closed c.self.inside.hung_up c.self.inside.reader)
          refl refl (λ j lt. refl) (λ on. (on, omega (arith, was, size, more))) (omega (arith, was, size, more, room, ap (λ (k : HeldConnection). (next_held k).request) c.self.view_is))
          c.self.invariant.1.dead c.self.invariant.1,
    )

pub returns-in_default-clause-err : goal.returns-in_default-clause-err
returns-in_default-clause-err c =
    ap (λ xs. held_by c.self.inside.number c.self.inside.taken xs c.self.inside.calls.items c.self.inside.broken c.self.inside.closed c.self.inside.hung_up c.self.inside.reader) c.in_default.ensures.items ∙ c.self.view_is

pub returns-clause-ok : goal.returns-clause-ok
returns-clause-ok c =
    ap (λ xs. held_by c.self.inside.number c.self.inside.taken xs c.self.inside.calls.items c.self.inside.broken c.self.inside.closed c.self.inside.hung_up c.self.inside.reader) c.in-Ok.ensures.items
    ∙ ap (λ xs. held_connection c.self.inside.number c.self.inside.taken xs c.self.inside.calls.items c.self.inside.broken c.self.inside.closed c.self.inside.hung_up c.self.inside.reader) (map-append entry_in c.self.inside.slots.items (Some c.args.reply ∷ []))
    ∙ ap (λ ks. held_connection c.self.inside.number c.self.inside.taken (map entry_in c.self.inside.slots.items ++ Some c.args.reply.entry ∷ []) ks c.self.inside.broken c.self.inside.closed c.self.inside.hung_up c.self.inside.reader) (sym (append-nil c.self.inside.calls.items))
    ∙ ap (entered_held (step_to gone (Some c.args.reply.entry) [])) c.self.view_is
