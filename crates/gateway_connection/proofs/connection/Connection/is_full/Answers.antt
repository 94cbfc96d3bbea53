use Rattle.gateway_connection.specs.lemmas.Names.{◌≡◌, ◌<◌, ◌∙◌, Option, List, ap, arith, is_some, length, length-map, map, sym, ReplyEntry, HeldConnection, entry_in, slot_at}
use Rattle.gateway_theory.specs.lemmas.SlotLemmas.{entry_here, slot_none, slot_some}
use Rattle.gateway_connection.proofs.SlotLemmas.{as_many_empty, one_more_empty}
use Rattle.gateway_connection.proofs.connection.Connection.is_full.Goals.{then-is_none, else-is_none}
use Rattle.gateway_connection.proofs.connection.Connection.is_full.Goals as goal

pub loop-index-preserved : goal.loop-index-preserved
loop-index-preserved c =
    let slots : List (Option ReplyEntry) = c.args.self.now.slots in
    let slots_are : map entry_in c.self.inside.slots.items ≡ slots = ap (λ (k : HeldConnection). k.slots) c.self.view_is in
    let lt : c.loop-index.index < length c.self.inside.slots.items = omega (arith, c.loop-index-test.true, c.len-index-end.ensures) in
    let size : length slots ≡ length c.self.inside.slots.items = ap (λ (xs : List (Option ReplyEntry)). length xs) (sym slots_are) ∙ length-map c.self.inside.slots.items entry_in in
    let within : c.loop-index.index < length slots = omega (arith, lt, size) in
    let here : slot_at c.loop-index.index slots ≡ entry_in c.index.result.now = ap (slot_at c.loop-index.index) (sym slots_are) ∙ entry_here c.self.inside.slots.items c.loop-index.index c.index.result.now lt c.index.ensures in
    elim c.if-is_none.branch [
      | then-is_none w ↦ (
        w.undecided-is ∙ one_more_empty slots c.loop-index.index c.loop-index.undecided within (here ∙ slot_none c.index.result.now c.is_none.result c.is_none.ensures w.if-is_none.true) c.loop-index.invariant.0,
        omega (arith, c.loop-index.invariant.1, w.undecided-is),
      )
      | else-is_none w ↦ (
        w.undecided-is ∙ as_many_empty slots c.loop-index.index c.loop-index.undecided within (ap (λ o. is_some o) here ∙ slot_some c.index.result.now c.is_none.result c.is_none.ensures w.if-is_none.false) c.loop-index.invariant.0,
        omega (arith, c.loop-index.invariant.1, w.undecided-is),
      )
    ]
