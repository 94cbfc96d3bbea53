use Rattle.std.proofs.Common.{[], ◌∷◌, append-nil, inl, refl, sym, ◌∙◌}
use Rattle.loop_model.specs.Asking.{IsUntouched}
use Rattle.loop_model.specs.Requests.{request_of}
use Rattle.loop_model.specs.Shares.{IsStreamFor}
use Rattle.loop_rows.specs.LoopRows.{new_stream, talk}
use Rattle.loop_model.specs.Streams.{IsNew}
use Rattle.loop_rows.proofs.ExchangeLemmas.{all_one, answered_by, begins_so, begins_with_p, prefix_of, found_last, is_for_any, lost_by, lost_by_refusal, no_more, no_some, none_written, not_whole, some_is}
use Rattle.loop_rows.proofs.rows_of_exchanges.fair_ends.Goals as goal

pub returns-clause-answered : goal.returns-clause-answered
returns-clause-answered c m a j reply given rest cut = answered_by m a j given reply rest cut

pub returns-clause-lost : goal.returns-clause-lost
returns-clause-lost c m a j given none = lost_by m a j given (λ reply rest whole. not_whole reply rest (c.reply_cut_law.ensures.unique m.framing given _ _ none whole))

pub returns-clause-refused : goal.returns-clause-refused
returns-clause-refused c m a j fault given cut = lost_by_refusal m a j given (c.reply_cut_law.ensures.unique m.framing) fault cut

pub returns-clause-unwritten : goal.returns-clause-unwritten
returns-clause-unwritten c m a j given front more b is = record {
  begun = begins_so m a j (talk front given) (prefix_of (request_of m j) front (b ∷ more) is);
  outcome = λ o same. inl (sym (some_is _ o same), λ whole. absurd (no_more front more b (sym (append-nil front) ∙ whole ∙ is)));
}

pub returns-clause-no_memory : goal.returns-clause-no_memory
returns-clause-no_memory c m a j given front more is = record {
  begun = begins_so m a j (talk front given) (prefix_of (request_of m j) front more is);
  outcome = λ o none. absurd (no_some o none);
}

pub returns-clause-another_tried : goal.returns-clause-another_tried
returns-clause-another_tried c m a j = record {
  begun = record {
    new = all_one IsNew (new_stream a []) refl;
    untouched = all_one IsUntouched (new_stream a []) (refl, refl);
    goes_over = all_one (IsStreamFor m j.address) (new_stream a []) (is_for_any m j.address a []);
    prefix = (request_of m j, refl);
    addressed = found_last a j (new_stream a [] ∷ []) [];
  };
  outcome = λ o same. inl (sym (some_is _ o same), λ whole. absurd (none_written (request_of m j) (begins_with_p m j) (sym whole)));
}
