use Rattle.std.proofs.Common.{◌≡◌, List, ℕ, None, Some, Option, option_and_then, option_map, unwrap_or, codes, Bor, ◌∙◌, ap, sym, refl}
use Rattle.std.proofs.lemmas.Result.{IfOk-weaker}
use Rattle.serde_json.specs.View.{view}
use Rattle.json_values.specs.Json.{json_of, text_at}
use Rattle.error_document.specs.Codes.{code_named}
use Rattle.error_document.proofs.Reading.{read_error-of_document, read_error-of_none}
use Rattle.error_document.proofs.reply.read.Goals as goal

pub returns-in_default : goal.returns-in_default
returns-in_default c =
    let none : None ≡ json_of c.args.body.now = ap (option_map view) (sym c.in_default.is) ∙ c.in_ok-document.ensures in
    IfOk-weaker c.inferred.result _ _ (λ error is. rw (read_error-of_none c.args.status c.args.body.now none) is) c.inferred.ensures

pub returns-in_default-code_in : goal.returns-in_default-code_in
returns-in_default-code_in c =
    let document = view c.in-Some.document in
    let whole : Some document ≡ json_of c.args.body.now = ap (option_map view) (sym c.in-Some.is) ∙ c.in_ok-document.ensures in
    let unnamed : option_and_then code_named (text_at (codes "code") document) ≡ None = sym c.code_in.ensures ∙ c.in_default-code_in.is in
    IfOk-weaker c.inferred-in_default-code_in.result _ _
    (λ error is. rw (read_error-of_document c.args.status c.args.body.now document whole, unnamed, ← c.text_at-message.ensures) is)
    c.inferred-in_default-code_in.ensures

-- the text behind a reference, or else another
text_or : (text : Option (Bor (List ℕ))) (other : Bor (List ℕ)) → (unwrap_or text other).now ≡ unwrap_or (option_map (λ t. t.now) text) other.now
text_or None other = refl
text_or (Some text) other = refl

pub returns : goal.returns
returns c =
    let document = view c.in-Some.document in
    let whole : Some document ≡ json_of c.args.body.now = ap (option_map view) (sym c.in-Some.is) ∙ c.in_ok-document.ensures in
    let named : option_and_then code_named (text_at (codes "code") document) ≡ Some c.in-Some-code_in.code = sym c.code_in.ensures ∙ c.in-Some-code_in.is in
    rw (
      read_error-of_document c.args.status c.args.body.now document whole,
      named,
      ← c.text_at-message.ensures,
      c.in_ok-from_str.ensures,
      c.unwrap_or.ensures,
      text_or,
      c.in_ok-details_in.ensures,
    ) refl
