use Rattle.connections.proofs.Lemmas.{rules, arith, Pumps-refl, Pumps-more}
use Rattle.connections.proofs.pumping.give_pieces.Goals as goal

pub loop-read-init : goal.loop-read-init
loop-read-init g c = Pumps-refl _ _ _

pub returns-in_default : goal.returns-in_default
returns-in_default g c =
    Pumps-more _ _ _ _ _ _ _ _ _ _ _ _ _ c.loop-read.invariant (omega arith) (search rules, search rules) c.in-Ok.ensures.bytes.0 c.piece.ensures.told c.piece.ensures.took

pub loop-read-preserved : goal.loop-read-preserved
loop-read-preserved g c =
    Pumps-more _ _ _ _ _ _ _ _ _ _ _ _ _ c.loop-read.invariant (omega arith) (search rules, search rules) c.in-Ok.ensures.bytes.0 c.in-Go.ensures.told c.in-Go.ensures.took
