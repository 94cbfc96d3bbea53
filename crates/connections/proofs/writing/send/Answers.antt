use Rattle.connections.proofs.Lemmas.{rules, arith, nat_tests, take-add, take_all, length-drop, Appends-trans}
use Rattle.connections.proofs.writing.send.Goals as goal

pub loop-sent-preserved : goal.loop-sent-preserved
loop-sent-preserved g c = (search rules, grind (arith, nat_tests, take-add, take_all, length-drop, Appends-trans))
