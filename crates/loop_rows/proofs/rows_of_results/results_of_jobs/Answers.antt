use Rattle.std.proofs.Common.{ap, arith, codes, refl, sym, ◌∙◌}
use Rattle.connect_codec.specs.declared.answer.Outcome.TheVariants.{Answer}
use Rattle.loop_rows.proofs.RowLemmas.{body_of, other_first}
use Rattle.loop_rows.proofs.rows_of_results.results_of_jobs.Goals as goal

pub returns-clause-own : goal.returns-clause-own
returns-clause-own c u = record { call = refl; branch = refl; outcome = refl }

pub returns-clause-any : goal.returns-clause-any
returns-clause-any c u = record { call = refl; branch = refl; outcome = refl }

pub returns-clause-made_up : goal.returns-clause-made_up
returns-clause-made_up c o all =
    other_first (codes "1") (codes "2") (λ e. omega (arith, e))
    (ap body_of (sym (all (Answer (codes "1"))).outcome ∙ (all (Answer (codes "2"))).outcome))

pub returns-clause-connection : goal.returns-clause-connection
returns-clause-connection c o r = let e = ap (λ i. i.conn) r.call in omega (arith, e)

pub returns-clause-request : goal.returns-clause-request
returns-clause-request c o r = let e = ap (λ i. i.request) r.call in omega (arith, e)

pub returns-clause-branch : goal.returns-clause-branch
returns-clause-branch c o r = let e = r.branch in omega (arith, e)

pub returns-clause-outcome : goal.returns-clause-outcome
returns-clause-outcome c u r = other_first _ _ (λ e. omega (arith, e)) (ap body_of r.outcome)

pub returns-clause-order : goal.returns-clause-order
returns-clause-order c = refl
