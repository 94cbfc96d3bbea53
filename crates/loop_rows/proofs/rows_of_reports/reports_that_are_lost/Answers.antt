use Rattle.std.proofs.Common.{◌≡◌, ◌∷◌, [], List, Some, ap, arith, length, refl, ⊎_elim}
use Rattle.std.specs.List.{Contains}
use Rattle.std.proofs.lemmas.List.{length-append}
use Rattle.loop_model.specs.Asking.{AskingValue}
use Rattle.loop_model.specs.Clients.{ClientValue}
use Rattle.loop_model.specs.Reports.{tell, told_asking, told_client}
use Rattle.loop_rows.specs.LoopRows.{asked, client_of, loop_with, new_stream, readable}
use Rattle.loop_rows.proofs.LostLemmas.{no_stream, nothing_since, some_is}
use Rattle.loop_rows.proofs.rows_of_reports.reports_that_are_lost.Goals as goal
use Rattle.wires.specs.declared.ready.Ready.{Ready}

one_client : (x y : ClientValue) → Some x ≡ Some y → x ≡ y
one_client x y e = cc

nobody_gone : (y : ClientValue) → Contains [] y → ⊥
nobody_gone y e = search arith

pub returns-clause-lost : goal.returns-clause-lost
returns-clause-lost c m v s =
    let a = s.side.clients 0 (told_client (readable 0) (client_of 0)) refl in
    ⊎_elim
    (λ here. omega (
      arith,
      ap (λ (y : ClientValue). length y.reported) (one_client (client_of 0) a.0 here),
      ap (λ (l : List Ready). length l) a.2.reported.1,
      length-append (readable 0 ∷ []) a.2.reported.0,
    ))
    (λ gone. nobody_gone a.0 gone)
    a.1

pub returns-clause-of_a_job : goal.returns-clause-of_a_job
returns-clause-of_a_job c h m v j s =
    let x : AskingValue = asked h j [] [] in
    let a = s.asking 0 (told_asking (readable 1) x) refl in
    ⊎_elim
    (λ here.
    let is = some_is x a.0 here in
    ⊎_elim
    (λ k. ⊎_elim (λ none. no_stream (new_stream h []) none)
    (λ more. omega (arith, ap (λ (y : AskingValue). length y.reported) is, ap (λ (l : List Ready). length l) more.1, length-append (readable 1 ∷ []) more.0)) k.reported)
    (λ g. omega (arith, ap (λ (y : AskingValue). length y.tried) is, ap (λ l. length l) g.tried_are))
    a.2.streams)
    (λ e. nothing_since (tell (readable 1) (loop_with m v [] (Some x ∷ []))) (loop_with m v [] (Some x ∷ [])) a.0 refl e)
    a.1
