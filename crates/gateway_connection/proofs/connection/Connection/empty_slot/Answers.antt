use Rattle.gateway_connection.specs.lemmas.Names.{◌≡◌, ◌∙◌, ap, arith, is_none, sym, true, HeldConnection, entry_in, length, length-map, none_of, ◌-◌}
use Rattle.gateway_theory.specs.Conn.{slot_at}
use Rattle.gateway_connection.proofs.SlotLemmas.{empty_seen}
use Rattle.gateway_connection.proofs.connection.Connection.empty_slot.Goals as goal

pub returns-then-is_none : goal.returns-then-is_none
returns-then-is_none c =
    let free : is_none c.index.result.now ≡ true = none_of c.index.result.now c.is_none.result c.is_none.ensures c.if-is_none.true in (
      omega (arith, c.if-request-self.false, ap (λ (k : HeldConnection). k.taken) c.self.view_is),
      omega (arith, c.if-index-len.true, c.len.ensures, ap (λ (k : HeldConnection). length k.slots) c.self.view_is, length-map c.self.inside.slots.items entry_in),
      ap (λ (k : HeldConnection). is_none (slot_at (c.args.request - c.self.inside.taken) k.slots)) (sym c.self.view_is)
          ∙ empty_seen c.self.inside.slots.items (c.args.request - c.self.inside.taken) c.index.result.now (omega (arith, c.if-index-len.true, c.len.ensures)) c.index.ensures free,
    )
