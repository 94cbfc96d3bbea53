use Rattle.context_tree.proofs.Linking.{all_reached, only_children, places_rise}
use Rattle.context_tree.proofs.laws.links_law.Goals as goal

pub returns-clause-all : goal.returns-clause-all
returns-clause-all c = all_reached

pub returns-clause-only : goal.returns-clause-only
returns-clause-only c = only_children

pub returns-clause-once : goal.returns-clause-once
returns-clause-once c = places_rise
