use Rattle.http_pieces.proofs.FieldLemmas.{same_is}
use Rattle.http_pieces.proofs.case.same_without_case.Goals as goal

pub returns : goal.returns
returns c = same_is _ _ _ c.eq_ignore_ascii_case.ensures.test
