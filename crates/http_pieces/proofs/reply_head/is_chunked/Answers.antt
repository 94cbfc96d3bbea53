use Rattle.std.proofs.Common.{[], ◌∷◌, ◌≡◌, subst}
use Rattle.http_pieces.specs.Fields.{IsFieldOf}
use Rattle.http_pieces.proofs.FieldLemmas.{same_is}
use Rattle.http_pieces.proofs.reply_head.is_chunked.Goals as goal

pub returns-in-One : goal.returns-in-One
returns-in-One c = λ values is.
    let one : values ≡ c.in-One.value.now ∷ [] = subst (IsFieldOf values) c.in-One.is is in
    rw one (same_is _ _ _ c.eq_ignore_ascii_case.ensures.test)
