use Rattle.gateway_connection.specs.lemmas.Names.{arc_value, HasGone}
use Rattle.gateway_connection.proofs.begin.give.Given as goal

abbrev pub invariant-loop-index : goal.invariant-loop-index
invariant-loop-index l = HasGone l.id (arc_value l.asked) l.index l.group l.first.items
