use Rattle.gateway_run.proofs.Names.{ap, option_and_then, entry_by}
use Rattle.gateway_run.proofs.laws.at_once_law.Goals as goal

pub returns-clause-refused : goal.returns-clause-refused
returns-clause-refused c = λ id past r crowded e. ap (λ o. option_and_then (entry_by id past) o) e

pub returns-clause-judged : goal.returns-clause-judged
returns-clause-judged c = λ id past q v crowded e. ap (λ o. option_and_then (entry_by id past) o) e

pub returns-clause-crowded : goal.returns-clause-crowded
returns-clause-crowded c = λ id past q plan timeout request_id e. ap (λ o. option_and_then (entry_by id past) o) e
