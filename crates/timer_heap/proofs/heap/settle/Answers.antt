use Rattle.std.proofs.Common.{arith}
use Rattle.timer_heap.proofs.Sifts.{risen_settled, sunk_settled}
use Rattle.timer_heap.proofs.heap.settle.Goals as goal

pub returns-then-moves-gt0 : goal.returns-then-moves-gt0
returns-then-moves-gt0 c = risen_settled _ _ _ _ _ c.requires.within c.sift_up-moves.ensures c.if-moves-gt0.true

pub returns : goal.returns
returns c = sunk_settled c.args.place _ _ _ _ _ _ _ (omega arith) c.sift_up-moves.ensures c.sift_down.ensures
