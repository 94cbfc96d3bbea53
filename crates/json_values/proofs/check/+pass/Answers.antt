use Rattle.std.proofs.Common.{◌≡◌, ◌-◌, ◌<◌, [], ◌∷◌, length, Some, None, refl, ap, ap₂, ◌∙◌, arith}
use Rattle.json.specs.Token.{Token}
use Rattle.json.specs.Json.{after_end_array, read_key, items, members, value}
use Rattle.json.specs.Reads.{token_of}
use Rattle.json.proofs.Grammar.{value_is, value-begin_array, value-begin_object, read_key-shorter}
use Rattle.serde_json.specs.Read.{of_json}
use Rattle.json_values.specs.Rest.{behind, after_value}
use Rattle.json_values.proofs.Passing.{number_passed, number_refused, behind_array, behind_object, item_passed, item_refused, items_over, member_passed, member_refused, key_refused, members_over}
use Rattle.json_values.proofs.check.+pass.Goals as goal

pub pass_items-items-init : goal.pass_items-items-init
pass_items-items-init t c = (length c.args.reader.now, omega arith, refl, omega arith)

pub pass_items-items-preserved : goal.pass_items-items-preserved
pass_items-items-preserved t c =
    let p = value c.args.depth in
    let l = c.items in
    let n = l.invariant.0 in
    let going : (after_end_array l.reader ≡ None) × (c.take_end_array.new.self ≡ l.reader) = grind arith in
    let less : length c.pass_value.new.reader < length l.reader = rw (← going.1) c.in_ok-pass_value.ensures.shorter in
    (n - 1, omega (arith, l.invariant.1), l.invariant.2 ∙ item_passed p n l.reader _ (omega (arith, l.invariant.1)) going.0 (rw (← going.1) c.in_ok-pass_value.ensures.value), omega (arith, l.invariant.3))

pub pass_items-returns-in_err-pass_value-clause-value : goal.pass_items-returns-in_err-pass_value-clause-value
pass_items-returns-in_err-pass_value-clause-value t c =
    let p = value c.args.depth in
    let l = c.items in
    let n = l.invariant.0 in
    let going : (after_end_array l.reader ≡ None) × (c.take_end_array.new.self ≡ l.reader) = grind arith in
    let none = l.invariant.2 ∙ item_refused p n l.reader going.0 (rw (← going.1) c.in_err-pass_value.ensures.value) in
    grind (arith, none)

pub pass_items-returns-clause-value : goal.pass_items-returns-clause-value
pass_items-returns-clause-value t c =
    let p = value c.args.depth in
    let l = c.items in
    let n = l.invariant.0 in
    l.invariant.2 ∙ items_over p n l.reader c.take_end_array.new.self l.invariant.1 (grind arith)

pub pass_members-members-init : goal.pass_members-members-init
pass_members-members-init t c = (length c.args.reader.now, omega arith, refl, omega arith)

pub pass_members-returns-in_err-next_key-clause-value : goal.pass_members-returns-in_err-next_key-clause-value
pass_members-returns-in_err-next_key-clause-value t c =
    let p = value c.args.depth in
    let l = c.members in
    let n = l.invariant.0 in
    let none = l.invariant.2 ∙ key_refused p n l.reader c.in_err-next_key.ensures.value in
    grind (arith, none)

pub pass_members-members-preserved : goal.pass_members-members-preserved
pass_members-members-preserved t c =
    let p = value c.args.depth in
    let l = c.members in
    let n = l.invariant.0 in
    let k = c.in-Some.field-0.now in
    let s = c.next_key.new.self in
    let key : read_key l.reader ≡ Some (Some k, s) = grind arith in
    let less = read_key-shorter l.reader (Some k) s key in
    let lesser = c.in_ok-pass_value.ensures.shorter in
    (n - 1, omega (arith, l.invariant.1), l.invariant.2 ∙ member_passed p n k l.reader s _ (omega (arith, l.invariant.1)) key c.in_ok-pass_value.ensures.value, omega (arith, l.invariant.3))

pub pass_members-returns-in_err-pass_value-clause-value : goal.pass_members-returns-in_err-pass_value-clause-value
pass_members-returns-in_err-pass_value-clause-value t c =
    let p = value c.args.depth in
    let l = c.members in
    let n = l.invariant.0 in
    let k = c.in-Some.field-0.now in
    let s = c.next_key.new.self in
    let key : read_key l.reader ≡ Some (Some k, s) = grind arith in
    let none = l.invariant.2 ∙ member_refused p n k l.reader s key c.in_err-pass_value.ensures.value in
    grind (arith, none)

pub pass_members-returns-clause-value : goal.pass_members-returns-clause-value
pass_members-returns-clause-value t c =
    let p = value c.args.depth in
    let l = c.members in
    let n = l.invariant.0 in
    l.invariant.2 ∙ members_over p n l.reader c.next_key.new.self l.invariant.1 (grind arith)

pub pass_value-returns-in_err-token-clause-value : goal.pass_value-returns-in_err-token-clause-value
pass_value-returns-in_err-token-clause-value t c =
    let empty : c.args.reader.now ≡ [] = grind arith in
    let none = ap (behind of_json) (ap (value c.args.depth) empty ∙ value_is c.args.depth []) in
    grind (arith, none)

pub pass_value-returns-in-String-clause-value : goal.pass_value-returns-in-String-clause-value
pass_value-returns-in-String-clause-value t c =
    let first : c.args.reader.now ≡ token_of c.in_ok-token.token ∷ c.next.new.self = grind arith in
    rw (value_is c.args.depth c.args.reader.now, first) (grind arith)

pub pass_value-returns-in-EndObject-clause-value : goal.pass_value-returns-in-EndObject-clause-value
pass_value-returns-in-EndObject-clause-value t c =
    let first : c.args.reader.now ≡ token_of c.in_ok-token.token ∷ c.next.new.self = grind arith in
    rw (value_is c.args.depth c.args.reader.now, first) (grind arith)

pub pass_value-returns-then-is_in_range-clause-value : goal.pass_value-returns-then-is_in_range-clause-value
pass_value-returns-then-is_in_range-clause-value t c =
    let first : c.args.reader.now ≡ token_of c.in_ok-token.token ∷ c.next.new.self = grind arith in
    let is : c.args.reader.now ≡ Token.number c.in-Number.text.now ∷ c.next.new.self = grind (arith, first) in
    ap (after_value c.args.depth) is ∙ number_passed c.args.depth c.in-Number.text.now c.next.new.self (grind arith)

pub pass_value-returns-else-is_in_range-clause-value : goal.pass_value-returns-else-is_in_range-clause-value
pass_value-returns-else-is_in_range-clause-value t c =
    let first : c.args.reader.now ≡ token_of c.in_ok-token.token ∷ c.next.new.self = grind arith in
    let is : c.args.reader.now ≡ Token.number c.in-Number.text.now ∷ c.next.new.self = grind (arith, first) in
    ap (after_value c.args.depth) is ∙ number_refused c.args.depth c.in-Number.text.now c.next.new.self (grind arith)

pub pass_value-returns-then-depth-eq0-clause-value : goal.pass_value-returns-then-depth-eq0-clause-value
unfolding value
pass_value-returns-then-depth-eq0-clause-value t c =
    let first : c.args.reader.now ≡ token_of c.in_ok-token.token ∷ c.next.new.self = grind arith in
    let none : c.args.depth ≡ 0 = omega arith in
    ap₂ after_value none (first ∙ ap (λ k. token_of k ∷ c.next.new.self) c.in-BeginArray.is)

pub pass_value-returns-then-depth-eq0-2-clause-value : goal.pass_value-returns-then-depth-eq0-2-clause-value
unfolding value
pass_value-returns-then-depth-eq0-2-clause-value t c =
    let first : c.args.reader.now ≡ token_of c.in_ok-token.token ∷ c.next.new.self = grind arith in
    let none : c.args.depth ≡ 0 = omega arith in
    ap₂ after_value none (first ∙ ap (λ k. token_of k ∷ c.next.new.self) c.in-BeginObject.is)

pub pass_value-returns-else-depth-eq0-clause-value : goal.pass_value-returns-else-depth-eq0-clause-value
pass_value-returns-else-depth-eq0-clause-value t c =
    let first : c.args.reader.now ≡ token_of c.in_ok-token.token ∷ c.next.new.self = grind arith in
    let opened : c.args.reader.now ≡ Token.begin_array ∷ c.next.new.self = first ∙ ap (λ k. token_of k ∷ c.next.new.self) c.in-BeginArray.is in
    let same = ap (after_value c.args.depth) opened ∙ ap (behind of_json) (value-begin_array c.args.depth c.next.new.self (omega arith)) ∙ behind_array (items (value (c.args.depth - 1)) (length c.next.new.self) c.next.new.self) in
    rw same c.pass_items.ensures.value

pub pass_value-returns-else-depth-eq0-2-clause-value : goal.pass_value-returns-else-depth-eq0-2-clause-value
pass_value-returns-else-depth-eq0-2-clause-value t c =
    let first : c.args.reader.now ≡ token_of c.in_ok-token.token ∷ c.next.new.self = grind arith in
    let opened : c.args.reader.now ≡ Token.begin_object ∷ c.next.new.self = first ∙ ap (λ k. token_of k ∷ c.next.new.self) c.in-BeginObject.is in
    let same = ap (after_value c.args.depth) opened ∙ ap (behind of_json) (value-begin_object c.args.depth c.next.new.self (omega arith)) ∙ behind_object (members (value (c.args.depth - 1)) (length c.next.new.self) c.next.new.self) in
    rw same c.pass_members.ensures.value
