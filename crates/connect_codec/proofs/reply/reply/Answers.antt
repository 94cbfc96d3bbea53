use Rattle.std.proofs.Common.{◌≡◌, ◌++◌, ◌==◌, ℕ, List, [], Option, None, Some, Bor, codes, ◌∙◌, refl, sym, ap}
use Rattle.std.specs.Prelude.{is_some, option_map, unwrap_or}
use Rattle.connect_codec.specs.Message.{field_if}
use Rattle.connect_codec.proofs.MessageLemmas.{lines, line_there, line_absent, is_405, not_405, reply_ends}
use Rattle.connect_codec.proofs.reply.reply.Goals as goal
use Rattle.connect_codec.proofs.reply.reply.Goals.{then-is_some+in_ok-field, else-is_some, then-status-eq405+in_ok-field-2, else-status-eq405, then-last+in_ok-field-3, else-last}

-- what a document is made of
text_or : (text : Option (Bor (List ℕ))) (other : Bor (List ℕ)) → (unwrap_or text other).now ≡ unwrap_or (option_map (λ t. t.now) text) other.now
text_or None other = refl
text_or (Some text) other = refl

there : (text : Option (Bor (List ℕ))) → is_some text ≡ is_some (option_map (λ t. t.now) text)
there None = refl
there (Some text) = refl

pub returns : goal.returns
returns c =
    let document : Option (List ℕ) = option_map (λ t. t.now) c.args.document in
    let whole = c.is_some.ensures ∙ there c.args.document in
    let typed : c.if-is_some.head ≡ c.in_ok-head.head ++ lines (field_if (is_some document) (codes "Content-Type", codes "application/json")) =
    elim c.if-is_some.branch [
      | then-is_some+in_ok-field w ↦ line_there _ _ _ _ (sym whole ∙ w.if-is_some.true) (w.head-is ∙ w.in_ok-field.ensures)
      | else-is_some w ↦ line_absent _ _ _ _ (sym whole ∙ w.if-is_some.false) w.head-is
    ] in
    let allowed : c.if-status-eq405.head ≡ c.if-is_some.head ++ lines (field_if (c.args.status == 405) (codes "Allow", codes "POST")) =
    elim c.if-status-eq405.branch [
      | then-status-eq405+in_ok-field-2 w ↦ line_there _ _ _ _ (is_405 _ w.if-status-eq405.true) (w.head-is ∙ w.in_ok-field-2.ensures)
      | else-status-eq405 w ↦ line_absent _ _ _ _ (not_405 _ w.if-status-eq405.false) w.head-is
    ] in
    let closed : c.if-last.head ≡ c.length.new.self ++ lines (field_if c.args.last (codes "Connection", codes "close")) =
    elim c.if-last.branch [
      | then-last+in_ok-field-3 w ↦ line_there _ _ _ _ w.if-last.true (w.head-is ∙ w.in_ok-field-3.ensures)
      | else-last w ↦ line_absent _ _ _ _ w.if-last.false w.head-is
    ] in
    let body : c.unwrap_or-body.result.now ≡ unwrap_or document [] = ap (λ b. b.now) c.unwrap_or-body.ensures ∙ text_or c.args.document _ in
    rw (← body, ← reply_ends c.args.status (is_some document) c.unwrap_or-body.result.now c.args.last _ _ _ _ _ c.in_ok-head.ensures typed allowed c.in_ok-length.ensures closed)
    c.end.ensures
