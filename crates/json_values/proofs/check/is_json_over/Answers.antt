use Rattle.std.proofs.Common.{◌≡◌, ℕ, List, Option, Some, None, Bool, true, false, not, ap, sym, ◌∙◌, arith}
use Rattle.std.specs.Option.{is_some}
use Rattle.std.specs.Str.{IsUtf8}
use Rattle.json.specs.Token as spec
use Rattle.json.specs.Lex.{tokens}
use Rattle.json.specs.Reads.{token_of, Yields}
use Rattle.json.specs.declared.token.Token.{Token}
use Rattle.json_values.specs.Rest.{after_value}
use Rattle.json_values.specs.Json.{json_of}
use Rattle.json_values.proofs.Passing.{no_text, json_passed, json_and_more, json_refused}
use Rattle.json_values.proofs.check.is_json_over.Goals as goal

pub returns-in_default : goal.returns-in_default
returns-in_default c = sym (no_text c.args.bytes.now c.in_default.ensures)

pub returns-then-is_err : goal.returns-then-is_err
returns-then-is_err c =
    let read : c.in_ok-reader.reader ≡ tokens c.args.bytes.now = c.in_ok-reader.ensures.ok ∙ ap tokens c.in-Ok.ensures.0 in
    let refused : after_value 127 c.in_ok-reader.reader ≡ None = grind arith in
    sym (json_refused c.args.bytes.now c.in-Ok.ensures.1 (ap (after_value 127) (sym read) ∙ refused))

opposite : (a b : Bool) → a ≡ not b → b ≡ not a
opposite a true e = ap not (sym e)
opposite a false e = ap not (sym e)

-- A text is JSON exactly if no token follows its value.
ended : (bytes : List ℕ) → IsUtf8 bytes → (left rest : List spec.Token) → after_value 127 (tokens bytes) ≡ Some left
    → (next : Option Token) → Yields left next rest → not (is_some next) ≡ is_some (json_of bytes)
ended bytes text left rest passed None end = sym (json_passed bytes text (passed ∙ ap Some end.0))
ended bytes text left rest passed (Some token) more = sym (json_and_more bytes (token_of token) rest text (passed ∙ ap Some more))

pub returns : goal.returns
returns c =
    let read : c.in_ok-reader.reader ≡ tokens c.args.bytes.now = c.in_ok-reader.ensures.ok ∙ ap tokens c.in-Ok.ensures.0 in
    let passed : after_value 127 c.in_ok-reader.reader ≡ Some c.pass_value.new.reader = grind arith in
    opposite (is_some c.next.result) c.is_none.result c.is_none.ensures
    ∙ ended c.args.bytes.now c.in-Ok.ensures.1 c.pass_value.new.reader c.next.new.self (ap (after_value 127) (sym read) ∙ passed) c.next.result c.next.ensures.value
