use Rattle.std.proofs.Common.{◌≡◌, [], ◌∷◌, None, Some, ap, arith, codes, length, refl, sym, ◌∙◌, ⊎_elim}
use Rattle.loop_model.specs.Asking.{AskingValue}
use Rattle.loop_model.specs.Streams.{StreamValue}
use Rattle.loop_model.specs.Whole.{IsSameStream}
use Rattle.loop_model.specs.declared.manner.Manner.{Manner}
use Rattle.loop_rows.specs.LoopRows.{asked, asked_at_peer, asking, asks, job, loop_of, new_stream}
use Rattle.wires.specs.Turns.{Went}
use Rattle.loop_rows.proofs.LostLemmas.{no_stream, none_is, nothing_since, some_is, some_stream}
use Rattle.loop_rows.proofs.RowLemmas.{any_fixed, on_off}
use Rattle.loop_rows.proofs.rows_of_loops.jobs_that_are_lost.Goals as goal

pub returns-clause-forgotten : goal.returns-clause-forgotten
returns-clause-forgotten c h m v j s =
    let a = s.asking 0 (asked h j [] (Went (codes "P") ∷ [])) refl in
    ⊎_elim
    (λ here.
    let is = some_is (asking j) a.0 here in
    ⊎_elim
    (λ k. ⊎_elim (λ none. no_stream (new_stream h (Went (codes "P") ∷ [])) none) (λ (t : (t : StreamValue) × (a.0.stream ≡ Some t) × IsSameStream (new_stream h (Went (codes "P") ∷ [])) t). no_stream t.0 (sym (ap (λ (y : AskingValue). y.stream) is ∙ t.1))) k.stream)
    (λ g. omega (arith, ap (λ y. length y.tried) is, ap (λ l. length l) g.tried_are))
    a.2.streams)
    (λ e. nothing_since (asks m v (asked h j [] (Went (codes "P") ∷ []))) (asks m v (asking j)) a.0 refl e)
    a.1

pub returns-clause-another : goal.returns-clause-another
returns-clause-another c m v s =
    let a = s.asking 0 (asking (job 0 1 2)) refl in
    ⊎_elim
    (λ here. omega (arith, ap (λ y. y.job.branch) (some_is (asking (job 0 1 3)) a.0 here), ap (λ k. k.branch) a.2.job))
    (λ e. nothing_since (asks m v (asking (job 0 1 2))) (asks m v (asking (job 0 1 3))) a.0 refl e)
    a.1

pub returns-clause-unseen : goal.returns-clause-unseen
returns-clause-unseen c h b m v j other s =
    let a = s.asking 0 (asked h j [] []) refl in
    ⊎_elim
    (λ here.
    let is = some_is (asked_at_peer b (h ∷ b ∷ []) j) a.0 here in
    ⊎_elim
    (λ k. ⊎_elim (λ none. no_stream (new_stream h []) none)
    (λ (t : (t : StreamValue) × (a.0.stream ≡ Some t) × IsSameStream (new_stream h []) t). other (ap (λ (s : StreamValue). s.peer) (some_stream (new_stream b []) t.0 (ap (λ (y : AskingValue). y.stream) is ∙ t.1)) ∙ t.2.peer)) k.stream)
    (λ g. omega (arith, ap (λ y. length y.tried) is, ap (λ l. length l) g.tried_are))
    a.2.streams)
    (λ e. nothing_since (asks m v (asked h j [] [])) (asks m v (asked_at_peer b (h ∷ b ∷ []) j)) a.0 refl e)
    a.1

pub returns-clause-dropped : goal.returns-clause-dropped
returns-clause-dropped c m v j s =
    let a = s.asking 0 (asking j) refl in
    ⊎_elim (λ here. none_is a.0 here) (λ e. nothing_since (asks m v (asking j)) (loop_of m v [] (j ∷ []) (None ∷ []) []) a.0 refl e) a.1

pub returns-clause-in_chunks : goal.returns-clause-in_chunks
returns-clause-in_chunks c v x s = any_fixed (ap (λ (k : Manner). k.framing) s.manner)

pub returns-clause-keeping : goal.returns-clause-keeping
returns-clause-keeping c f v x s = on_off (ap (λ (k : Manner). k.keeps) s.manner)
