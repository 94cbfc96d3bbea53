use Rattle.std.proofs.Common.{[], ◌∷◌, None, Some, ap, arith, inl, refl, subst, sym}
use Rattle.std.proofs.lemmas.List.Elements.{All-nil}
use Rattle.loop_model.specs.Asking.{AskingValue, BeginsRequest, EndedValue, IsFair}
use Rattle.loop_model.specs.Found.{AreOfName}
use Rattle.loop_rows.specs.LoopRows.{asking}
use Rattle.loop_rows.proofs.ExchangeLemmas.{all_one}
use Rattle.loop_rows.proofs.LostLemmas.{begins_at_first, nowhere, second}
use Rattle.loop_rows.proofs.ShareRows.{none_at_all, one_shared}
use Rattle.loop_rows.proofs.rows_of_loops.jobs_of_a_loop.Goals as goal

pub returns-clause-asked : goal.returns-clause-asked
returns-clause-asked c m v j = record {
  results = refl;
  fair = All-nil (IsFair m);
  begun = λ i x is. subst (λ t. BeginsRequest m t) (second i (asking j) x is) (begins_at_first m j);
  found = λ i x is. inl (ap (λ (t : AskingValue). t.found) (sym (second i (asking j) x is)));
  found_ended = All-nil (λ (e : EndedValue). AreOfName e.asking.job.address e.asking.found []);
  shared = none_at_all m (None ∷ Some (asking j) ∷ []) (λ p. refl);
  jobs = λ p. omega arith;
}

pub returns-clause-over : goal.returns-clause-over
returns-clause-over c m v e fair new none = record {
  results = refl;
  fair = all_one (IsFair m) e fair;
  begun = λ i x is. absurd (nowhere i x is);
  found = λ i x is. absurd (nowhere i x is);
  found_ended = all_one (λ (d : EndedValue). AreOfName d.asking.job.address d.asking.found []) e (inl none);
  shared = one_shared m (None ∷ []) (λ p. refl) e new;
  jobs = λ p. omega arith;
}
