use Rattle.gateway_theory.specs.lemmas.UnknownLemmas.{unknown_many, unknown_replies}
use Rattle.gateway_theory.proofs.laws.unknown_law.Goals as goal

pub returns-clause-seen_stays : goal.returns-clause-seen_stays
returns-clause-seen_stays c = unknown_many

pub returns-clause-replies_stay : goal.returns-clause-replies_stay
returns-clause-replies_stay c = unknown_replies
