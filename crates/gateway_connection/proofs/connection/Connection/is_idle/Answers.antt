use Rattle.gateway_connection.specs.lemmas.Names.{◌≡◌, List, Option, length, sym, ap, ◌∙◌, arith, ◌==◌, length-map, ReplyEntry, HeldConnection, entry_in, front}
use Rattle.gateway_theory.specs.lemmas.SlotLemmas.{front_all}
use Rattle.gateway_connection.proofs.connection.Connection.is_idle.Goals as goal

pub returns : goal.returns
returns c =
    let slots : List (Option ReplyEntry) = c.args.self.now.slots in
    let size : length slots ≡ length c.self.inside.slots.items =
    ap (λ (k : HeldConnection). length k.slots) (sym c.self.view_is) ∙ length-map c.self.inside.slots.items entry_in in
    let len_is : c.len.result ≡ length slots = omega (arith, c.len.ensures, size) in
    ap (λ n. n == c.len.result) c.untaken.ensures ∙ ap (λ n. length (front slots) == n) len_is ∙ front_all slots
