use Rattle.std.proofs.Common.{refl}
use Rattle.httparse.specs.Grammar.{trim_ows}
use Rattle.http_pieces.specs.Fields.{has_option, same_without_case}
use Rattle.http_pieces.specs.Names.{same_name}
use Rattle.gateway_tests.proofs.rows_passed.twice_or_not.Goals as goal

pub returns : goal.returns
unfolding trim_ows has_option same_without_case same_name
returns c = refl
