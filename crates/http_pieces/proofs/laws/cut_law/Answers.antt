use Rattle.http_pieces.proofs.RequestsLemmas.{cut_unique, cut_complete_append, cut_refused_append}
use Rattle.http_pieces.proofs.laws.cut_law.Goals as goal

pub returns-clause-unique : goal.returns-clause-unique
returns-clause-unique c = cut_unique

pub returns-clause-request_stays : goal.returns-clause-request_stays
returns-clause-request_stays c = cut_complete_append

pub returns-clause-refusal_stays : goal.returns-clause-refusal_stays
returns-clause-refusal_stays c = cut_refused_append
