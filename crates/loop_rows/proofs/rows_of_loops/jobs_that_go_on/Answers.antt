use Rattle.std.proofs.Common.{[], ◌∷◌, ◌++◌, Some, ap, inl, inr, refl, subst}
use Rattle.loop_model.specs.Asking.{AskingValue}
use Rattle.loop_model.specs.Whole.{AsksOn, asked_at}
use Rattle.loop_rows.specs.LoopRows.{asked, asking, ended, left_of, new_stream}
use Rattle.gateway_theory.specs.lemmas.PastLemmas.{prefix-refl}
use Rattle.wires.specs.Turns.{Went}
use Rattle.loop_rows.proofs.LostLemmas.{alone, goes_on, more_turns, side_on}
use Rattle.loop_rows.proofs.rows_of_loops.jobs_that_go_on.Goals as goal

pub returns-clause-more : goal.returns-clause-more
returns-clause-more c h m v j turns more =
    let y : AskingValue = asked h j [] (turns ++ more) in record {
      manner = refl;
      side = side_on m v [] [] (j ∷ []) (goes_on _);
      asking = λ i x is.
          let a = alone i (asked h j [] turns) x is in
          (y, inl (ap (λ n. asked_at n (Some y ∷ [])) a.0), subst (λ t. AsksOn t y) a.1 (more_turns h j turns more));
      ended = prefix-refl [];
      left = prefix-refl [];
      looked_up = prefix-refl [];
    }

pub returns-clause-another : goal.returns-clause-another
returns-clause-another c h m v j got =
    let y : AskingValue = asked h j (new_stream h [] ∷ []) (Went got ∷ []) in record {
      manner = refl;
      side = side_on m v [] [] (j ∷ []) (goes_on _);
      asking = λ i x is.
          let a = alone i (asking j) x is in (
            y,
            inl (ap (λ n. asked_at n (Some y ∷ [])) a.0),
            subst (λ t. AsksOn t y) a.1 (record { job = refl; found = (h ∷ h ∷ [], refl); streams = inr record { last = new_stream h []; others = []; tried_are = refl; stream = tt } }),
          );
      ended = prefix-refl [];
      left = prefix-refl [];
      looked_up = prefix-refl [];
    }

pub returns-clause-over : goal.returns-clause-over
returns-clause-over c h m v j turns more o history =
    let y : AskingValue = asked h j [] (turns ++ more) in record {
      manner = refl;
      side = side_on m v [] ((j, o) ∷ []) (j ∷ []) history;
      asking = λ i x is.
          let a = alone i (asked h j [] turns) x is in
          (y, inr record { before = []; outcome = o; after = []; ended_are = refl }, subst (λ t. AsksOn t y) a.1 (more_turns h j turns more));
      ended = (ended h j [] (turns ++ more) o ∷ [], refl);
      left = (left_of (ended h j [] (turns ++ more) o) ++ [], refl);
      looked_up = prefix-refl [];
    }
