use Rattle.std.proofs.Common.{arith, ⊎_elim}
use Rattle.loop_rows.proofs.RowLemmas.{other_first, other_length}
use Rattle.loop_rows.proofs.rows_of_moments.other_moments.Goals as goal

pub returns-clause-skipped : goal.returns-clause-skipped
returns-clause-skipped c h = ⊎_elim (λ a. other_first _ _ (λ e. omega (arith, e)) a.1) (λ b. omega (arith, b.0)) h

pub returns-clause-made_up : goal.returns-clause-made_up
returns-clause-made_up c h = ⊎_elim (λ a. other_first _ _ (λ e. omega (arith, e)) a.1) (λ b. other_length _ _ (λ e. omega (arith, e)) b.1) h

pub returns-clause-too_many : goal.returns-clause-too_many
returns-clause-too_many c h = ⊎_elim
    (λ a. other_length _ _ (λ e. omega (arith, e)) (rw a.2 at a.1))
    (λ b. other_length _ _ (λ e. omega (arith, e)) b.1) h
