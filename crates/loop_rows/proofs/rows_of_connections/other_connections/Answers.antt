use Rattle.std.proofs.Common.{arith, refl, sym}
use Rattle.gateway_model.specs.Events.{connections}
use Rattle.loop_rows.proofs.ConnectionLemmas.{at_most_one, none_there, one_gone, one_there, opened_one, two_gone, two_there, unopened_none}
use Rattle.loop_rows.proofs.rows_of_connections.other_connections.Goals as goal

pub returns-clause-two_there : goal.returns-clause-two_there
returns-clause-two_there c u h v x y same e =
    let n = connections h.opened h.events in
    omega (arith, e.each x.conn, at_most_one x.conn n, two_there x.conn x y refl same)

pub returns-clause-two_gone : goal.returns-clause-two_gone
returns-clause-two_gone c u h v x y same e =
    let n = connections h.opened h.events in
    omega (arith, e.each x.conn, at_most_one x.conn n, two_gone x.conn x y refl same)

pub returns-clause-one_gone : goal.returns-clause-one_gone
returns-clause-one_gone c u h v x y same e =
    let n = connections h.opened h.events in
    omega (arith, e.each x.conn, at_most_one x.conn n, one_there x.conn x refl, one_gone x.conn y same)

pub returns-clause-nobodys : goal.returns-clause-nobodys
returns-clause-nobodys c u h v e lt = omega (arith, e.each 0, opened_one 0 (connections h.opened h.events) lt)

pub returns-clause-anothers : goal.returns-clause-anothers
returns-clause-anothers c u h v x number other e lt =
    omega (arith, e.each number, opened_one number (connections h.opened h.events) lt, none_there number x (λ same. other (sym same)))

pub returns-clause-unopened : goal.returns-clause-unopened
returns-clause-unopened c u h v x e le =
    omega (arith, e.each x.conn, unopened_none x.conn (connections h.opened h.events) le, one_gone x.conn x refl)
