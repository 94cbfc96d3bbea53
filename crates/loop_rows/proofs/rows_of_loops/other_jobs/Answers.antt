use Rattle.std.proofs.Common.{[], ◌∷◌, ◌++◌, true, length, ap, arith, codes, refl}
use Rattle.loop_model.specs.Requests.{request_of}
use Rattle.loop_rows.specs.LoopRows.{asked}
use Rattle.wires.specs.Turns.{Went}
use Rattle.loop_rows.proofs.RowLemmas.{other_first}
use Rattle.loop_rows.proofs.ExchangeLemmas.{begins_with_p, first_outcome, job_number, longer_than_none, some_outcome}
use Rattle.loop_rows.proofs.rows_of_loops.other_jobs.Goals as goal

pub returns-clause-dropped : goal.returns-clause-dropped
returns-clause-dropped c m v j a = omega (arith, a.jobs (λ k. true))

pub returns-clause-untaken : goal.returns-clause-untaken
returns-clause-untaken c m v j a = omega (arith, a.jobs (λ k. true))

pub returns-clause-twice : goal.returns-clause-twice
returns-clause-twice c m v e a = omega (arith, ap (λ l. length l) a.results)

pub returns-clause-never : goal.returns-clause-never
returns-clause-never c m v e a = omega (arith, ap (λ l. length l) a.results)

pub returns-clause-another : goal.returns-clause-another
returns-clause-another c h m v o a = omega (arith, ap job_number a.results)

pub returns-clause-otherwise : goal.returns-clause-otherwise
returns-clause-otherwise c h m v j o a = some_outcome o (ap first_outcome a.results)

pub returns-clause-request : goal.returns-clause-request
returns-clause-request c h m v j a =
    let b = (a.begun 0 (asked h j [] (Went (codes "GET") ∷ [])) refl).prefix in
    other_first (request_of m j) ((codes "GET" ++ []) ++ b.0) (λ f. omega (arith, f, begins_with_p m j)) b.1

pub returns-clause-anew : goal.returns-clause-anew
returns-clause-anew c m v e s = longer_than_none e s.ended.0 s.ended.1
