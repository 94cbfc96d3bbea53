use Rattle.std.proofs.Common.{[], ◌∷◌, arith, refl}
use Rattle.gateway_model.specs.declared.event.Event.TheVariants.{HangUp, Opening}
use Rattle.loop_rows.proofs.rows_of_histories.histories_that_go_on.Goals as goal

pub returns-clause-more : goal.returns-clause-more
returns-clause-more c = record { later = HangUp 0 ∷ []; events_are = refl; openings = λ place lt. refl; taken = λ n. ([], refl); handed = ([], refl) }

pub returns-clause-opening : goal.returns-clause-opening
returns-clause-opening c = record { later = Opening ∷ []; events_are = refl; openings = λ place lt. absurd (omega (arith, lt)); taken = λ n. ([], refl); handed = ([], refl) }
