use Rattle.http_pieces.specs.Requests.{RefusedBy, Closed}
use Rattle.http_pieces.proofs.RequestsLemmas.{requests_unique, requests_more, requests_stay}
use Rattle.http_pieces.proofs.laws.requests_law.Goals as goal

pub returns-clause-unique : goal.returns-clause-unique
returns-clause-unique c = requests_unique

pub returns-clause-more : goal.returns-clause-more
returns-clause-more c = requests_more

pub returns-clause-refused_stays : goal.returns-clause-refused_stays
returns-clause-refused_stays c = λ k text more given r h. requests_stay k text more given (RefusedBy r) tt h

pub returns-clause-closed_stays : goal.returns-clause-closed_stays
returns-clause-closed_stays c = λ k text more given h. requests_stay k text more given Closed tt h
