use Rattle.http_pieces.proofs.FieldLemmas.{same_is}
use Rattle.http_pieces.proofs.lookup.is_option.Goals as goal

pub returns : goal.returns
returns c = rw (← c.trim_blanks.ensures) (same_is _ _ _ c.eq_ignore_ascii_case.ensures.test)
