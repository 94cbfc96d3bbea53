use Rattle.http_pieces.proofs.CutLemmas.{block_unique, block_append}
use Rattle.http_pieces.proofs.laws.block_law.Goals as goal

pub returns-clause-unique : goal.returns-clause-unique
returns-clause-unique c = block_unique

pub returns-clause-stays : goal.returns-clause-stays
returns-clause-stays c = block_append
