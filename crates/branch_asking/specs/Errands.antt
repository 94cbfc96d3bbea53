-- What a job that is asked for ends as, where what a loop notes of it is lent.
use Rattle.std.specs.Borrow.{Fml, Lends, MutBor, RattleType}
use Rattle.wires.specs.declared.wire.Wire.{Ghosts}
use Rattle.branch_asking.specs.Asking.{AskingState}
use Rattle.branch_asking.specs.declared.errand.Errand.{Errand}
use Rattle.branch_asking.specs.contracts.asking.Asking.{the_row}
use Rattle.branch_asking.specs.contracts.errand.Errand.{the_row as errand_row}

-- whatever is noted, it stays the same
abbrev pub LendsErrand : (W : RattleType) → Ghosts W.Denot → MutBor AskingState → MutBor Errand → Fml
LendsErrand W wire s r = Lends (the_row W wire) errand_row s r (λ _. s.now)
