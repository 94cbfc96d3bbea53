use Rattle.std.proofs.Common.{arith, refl}
use Rattle.loop_rows.proofs.RowLemmas.{off_on, on_off}
use Rattle.loop_rows.proofs.rows_of_rest.rests_of_those_that_linger.Goals as goal

pub returns-clause-rests : goal.returns-clause-rests
returns-clause-rests c s = record {
  watched = refl;
  written = λ off. absurd (on_off off);
  goes_on = λ off w. absurd (on_off off);
  unread = λ off w goes. absurd (on_off off);
  dropped = λ on. (refl, refl);
  limited = λ on. (refl, omega arith);
}

pub returns-clause-slept_over : goal.returns-clause-slept_over
returns-clause-slept_over c s r = let late = (r.limited refl).1 in omega (arith, late)

pub returns-clause-forgotten : goal.returns-clause-forgotten
returns-clause-forgotten c s r = (r.limited refl).1

pub returns-clause-for_ever : goal.returns-clause-for_ever
returns-clause-for_ever c s until r = off_on (r.limited refl).0

pub returns-clause-unread : goal.returns-clause-unread
returns-clause-unread c s until limit r = on_off (r.dropped refl).1

pub returns-clause-ended : goal.returns-clause-ended
returns-clause-ended c s until limit r = on_off (r.dropped refl).0
