use Rattle.http_pieces.proofs.CountLemmas.{looked_twice, looked_unique}
use Rattle.http_pieces.proofs.laws.looked_law.Goals as goal

pub returns-clause-unique : goal.returns-clause-unique
returns-clause-unique c = looked_unique

pub returns-clause-twice : goal.returns-clause-twice
returns-clause-twice c = looked_twice
