use Rattle.std.proofs.Common.{◌≡◌, [], ◌∷◌, ap, refl, sym, ◌∙◌, ⊎_elim}
use Rattle.http_pieces.specs.declared.reply.HttpReply.{HttpReply}
use Rattle.std.specs.Prelude.{◌==◌}
use Rattle.loop_model.specs.Requests.{request_of}
use Rattle.loop_model.specs.Shares.{IsStreamFor}
use Rattle.loop_model.specs.Streams.{ShareValue, share_value, stream_value}
use Rattle.loop_rows.specs.LoopRows.{talk}
use Rattle.wires.specs.Turns.{Came, given_of}
use Rattle.loop_rows.proofs.ExchangeLemmas.{first_of_all, never_lost, one_reply}
use Rattle.loop_rows.proofs.QuietLemmas.{went_first}
use Rattle.loop_rows.proofs.RowLemmas.{off_on}
use Rattle.loop_rows.proofs.ShareRows.{some_share}
use Rattle.loop_rows.proofs.rows_of_exchanges.other_ends_over_kept_streams.Goals as goal

pub returns-clause-anothers : goal.returns-clause-anothers
returns-clause-anothers c m a i j first turns p o apart e =
    let x = share_value i first p in
    let over = first_of_all (IsStreamFor m j.address) (stream_value a (x ∷ []) turns) e.begun.goes_over in
    apart (first_of_all (λ (y : ShareValue). y.job.address ≡ j.address) x over.same)

pub returns-clause-unquiet : goal.returns-clause-unquiet
returns-clause-unquiet c m a j x before given o e =
    let over = first_of_all (IsStreamFor m j.address) (stream_value a (x ∷ before) (talk (request_of m j) given)) e.begun.goes_over in
    went_first (request_of m j) (Came given ∷ []) (over.quiet (some_share x before))

pub returns-clause-unkept : goal.returns-clause-unkept
returns-clause-unkept c m a j x before turns o off e =
    let over = first_of_all (IsStreamFor m j.address) (stream_value a (x ∷ before) turns) e.begun.goes_over in
    some_share x before (over.kept off)

pub returns-clause-stray : goal.returns-clause-stray
returns-clause-stray c m a j x before turns reply rest body cut stray e =
    ⊎_elim
    (λ l. never_lost body l.0)
    (λ a. off_on (sym a.own ∙ ap (λ (q : HttpReply). q.status == 408)
    (sym (one_reply _ _ _ _ (c.reply_cut_law.ensures.unique m.framing (given_of turns) _ _ cut a.begins.1))) ∙ stray))
    (e.outcome _ refl)
