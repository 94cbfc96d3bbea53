use Rattle.gateway_connection.specs.lemmas.Names.{◌≡◌, ℕ, ◌<◌, true, false, length, map, List, Option, sym, ap, ◌∙◌, subst, arith, ⊎_elim, is_some, nat_lt, cases_Bool, ltb-true, ltb-false, length-map, ReplyEntry, HeldConnection, entry_in, slot_at, front}
use Rattle.gateway_theory.specs.lemmas.SlotLemmas.{entry_here, front_size, slot_behind, slot_none, slot_some}
use Rattle.gateway_connection.proofs.connection.Connection.untaken.Goals as goal

pub returns-then-is_none : goal.returns-then-is_none
returns-then-is_none c =
    let i : ℕ = c.loop-index.index in
    let slots : List (Option ReplyEntry) = c.args.self.now.slots in
    let slots_are : map entry_in c.self.inside.slots.items ≡ slots = ap (λ (k : HeldConnection). k.slots) c.self.view_is in
    let lt : i < length c.self.inside.slots.items = omega (arith, c.loop-index-test.true, c.len-index-end.ensures) in
    let here : slot_at i slots ≡ entry_in c.index.result.now = ap (slot_at i) (sym slots_are) ∙ entry_here c.self.inside.slots.items i c.index.result.now lt c.index.ensures in
    let size : length slots ≡ length c.self.inside.slots.items = ap (λ (xs : List (Option ReplyEntry)). length xs) (sym slots_are) ∙ length-map c.self.inside.slots.items entry_in in
    sym (front_size i slots (omega (arith, lt, size)) c.loop-index.invariant (here ∙ slot_none c.index.result.now c.is_none.result c.is_none.ensures c.if-is_none.true))

pub loop-index-preserved : goal.loop-index-preserved
loop-index-preserved c j less =
    let i : ℕ = c.loop-index.index in
    let slots : List (Option ReplyEntry) = c.args.self.now.slots in
    let slots_are : map entry_in c.self.inside.slots.items ≡ slots = ap (λ (k : HeldConnection). k.slots) c.self.view_is in
    let lt : i < length c.self.inside.slots.items = omega (arith, c.loop-index-test.true, c.len-index-end.ensures) in
    let here : slot_at i slots ≡ entry_in c.index.result.now = ap (slot_at i) (sym slots_are) ∙ entry_here c.self.inside.slots.items i c.index.result.now lt c.index.ensures in
    let some : is_some (slot_at i slots) ≡ true = ap (λ o. is_some o) here ∙ slot_some c.index.result.now c.is_none.result c.is_none.ensures c.if-is_none.false in
    ⊎_elim (λ (before : nat_lt j i ≡ true). c.loop-index.invariant j (ltb-true j i before))
    (λ (behind : nat_lt j i ≡ false). let le = ltb-false j i behind in let same : j ≡ i = omega (arith, le, less) in ap (λ k. is_some (slot_at k slots)) same ∙ some) (cases_Bool (nat_lt j i))

pub returns : goal.returns
returns c =
    let slots : List (Option ReplyEntry) = c.args.self.now.slots in
    let slots_are : map entry_in c.self.inside.slots.items ≡ slots = ap (λ (k : HeldConnection). k.slots) c.self.view_is in
    let size : length slots ≡ length c.self.inside.slots.items = ap (λ (xs : List (Option ReplyEntry)). length xs) (sym slots_are) ∙ length-map c.self.inside.slots.items entry_in in
    let all : c.loop-index.index ≡ length slots = omega (arith, size, c.loop-index-test.false, c.len-index-end.ensures, c.loop-index.auto.index-end) in
    let front_is : length (front slots) ≡ length slots =
    front_size (length slots) slots (omega arith) (subst (λ n. (j : ℕ) → j < n → is_some (slot_at j slots) ≡ true) all c.loop-index.invariant) (slot_behind slots (length slots) (omega arith)) in
    omega (arith, c.len.ensures, size, front_is)
