use Rattle.std.proofs.Common.{[], ◌++◌, ap, arith, codes, lit<, refl, ◌∙◌}
use Rattle.gateway_model.specs.Past.{marked}
use Rattle.gateway_model.specs.Queue.{queued}
use Rattle.gateway_model.specs.Starts.{occurrences}
use Rattle.loop_rows.proofs.RowLemmas.{other_first, other_length}
use Rattle.loop_rows.proofs.rows_of_clients.pieces_of_a_client.Goals as goal

pub returns-clause-two : goal.returns-clause-two
returns-clause-two c plans = record {
  known = lit< tt;
  dropped = [];
  read = refl;
  all_fed = λ off. refl;
  hangs_up = λ off. refl;
  no_other = λ hung. hung;
  written = λ occurred all. (queued 0 (marked (occurrences occurred)), refl);
}

pub returns-clause-twice : goal.returns-clause-twice
returns-clause-twice c plans e = other_length _ _ (λ f. omega (arith, f)) (e.read ∙ ap (λ d. codes "aa" ++ d) (e.all_fed refl))

pub returns-clause-short : goal.returns-clause-short
returns-clause-short c plans e = other_length _ _ (λ f. omega (arith, f)) (e.read ∙ ap (λ d. codes "a" ++ d) (e.all_fed refl))

pub returns-clause-order : goal.returns-clause-order
returns-clause-order c plans e = other_first _ _ (λ f. omega (arith, f)) (e.read ∙ ap (λ d. codes "ba" ++ d) (e.all_fed refl))

pub returns-clause-another : goal.returns-clause-another
returns-clause-another c plans e = other_length _ _ (λ f. omega (arith, f)) (e.read ∙ ap (λ d. [] ++ d) (e.all_fed refl))
