use Rattle.gateway_connection.specs.lemmas.Names.{◌≡◌, ◌+◌, ◌∙◌, ap, call_id, is_none, length, length-map, length-set, map, refl, slice_set, sym, true, Some, CallId, HeldConnection, entry_in, held_by, replied}
use Rattle.gateway_theory.specs.Conn.{slot_at}
use Rattle.gateway_connection.proofs.HoldsLemmas.{holds_as}
use Rattle.gateway_connection.proofs.SlotLemmas.{fill_view, set_place}
use Rattle.gateway_connection.proofs.connection.Connection.fill.Goals as goal

pub invariant_of-self : goal.invariant_of-self
invariant_of-self c =
    let same : c.id.result.request ≡ c.args.reply.id.request = ap (λ (i : CallId). i.request) c.id.ensures in
    let at : c.self.inside.taken + c.in-Some.index ≡ c.args.reply.id.request = ap (λ (k : HeldConnection). k.taken + c.in-Some.index) c.self.view_is ∙ c.in-Some.ensures.0 ∙ same in
    let its : c.args.reply.id ≡ call_id c.self.inside.number (c.self.inside.taken + c.in-Some.index) =
    ap (λ n. call_id c.args.reply.id.conn n) (sym at) ∙ ap (λ n. call_id n (c.self.inside.taken + c.in-Some.index)) (c.requires ∙ sym (ap (λ (k : HeldConnection). k.number) c.self.view_is)) in
    let size : length (map entry_in (slice_set c.self.inside.slots.items c.in-Some.index (Some c.args.reply))) ≡ length (map entry_in c.self.inside.slots.items) =
    length-map (slice_set c.self.inside.slots.items c.in-Some.index (Some c.args.reply)) entry_in ∙ length-set c.self.inside.slots.items c.in-Some.index (Some c.args.reply) ∙ sym (length-map c.self.inside.slots.items entry_in) in (
      set_place c.self.inside.number c.self.inside.taken c.self.inside.slots.items c.in-Some.index c.args.reply its c.self.invariant.0,
      holds_as (held_by c.self.inside.number c.self.inside.taken c.self.inside.slots.items c.self.inside.calls.items c.self.inside.broken c.self.inside.closed c.self.inside.hung_up c.self.inside.reader)
          (held_by c.self.inside.number c.self.inside.taken (slice_set c.self.inside.slots.items c.in-Some.index (Some c.args.reply)) c.self.inside.calls.items c.self.inside.broken c.self.inside.closed c.self.inside.hung_up c.self.inside.reader)
          refl refl refl refl (ap (λ n. c.self.inside.taken + n) size) c.self.invariant.1,
    )

pub returns : goal.returns
returns c =
    let same : c.id.result.request ≡ c.args.reply.id.request = ap (λ (i : CallId). i.request) c.id.ensures in
    let at : c.self.inside.taken + c.in-Some.index ≡ c.args.reply.id.request = ap (λ (k : HeldConnection). k.taken + c.in-Some.index) c.self.view_is ∙ c.in-Some.ensures.0 ∙ same in
    let none : is_none (slot_at c.in-Some.index (map entry_in c.self.inside.slots.items)) ≡ true = ap (λ (k : HeldConnection). is_none (slot_at c.in-Some.index k.slots)) c.self.view_is ∙ c.in-Some.ensures.2 in
    fill_view c.self.inside.number c.self.inside.taken c.self.inside.calls.items c.self.inside.broken c.self.inside.closed c.self.inside.hung_up c.self.inside.reader c.self.inside.slots.items c.args.reply.id.request c.in-Some.index c.args.reply at none
    ∙ ap (replied c.args.reply.id.request (Some c.args.reply.entry)) c.self.view_is

pub returns-in_default : goal.returns-in_default
returns-in_default c =
    c.in_default.ensures c.args.reply.entry ∙ ap (λ (i : CallId). replied i.request (Some c.args.reply.entry) c.args.self.now) c.id.ensures
