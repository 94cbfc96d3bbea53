use Rattle.std.proofs.Common.{rules, tests}
use Rattle.std.proofs.lemmas.Iterator.{YieldsList-from_slice}
use Rattle.std.proofs.lemmas.Iterator.Search.{find_from_yields_List}
use Rattle.http_pieces.specs.Names.{same_name}
use Rattle.connect_codec.proofs.passed.find_same.Goals as goal

pub returns : goal.returns
returns c =
    find_from_yields_List (λ own. same_name own c.args.other.now) _ _ c.find.result c.find.ensures.ran
    (YieldsList-from_slice _ c.iter.ensures.rest) (λ x b q k. search (rules, tests))
