use Rattle.std.proofs.Common.{ℕ, List, [], ◌∷◌, ◌++◌, Some, ap, append-nil, arith, codes, ⊎_elim, refl, subst, sym, ◌∙◌}
use Rattle.connect_codec.specs.Outcome.{outcome_of}
use Rattle.http_pieces.specs.Cut.{Complete, IsCut}
use Rattle.http_pieces.specs.ReplyHead.{reply_kind}
use Rattle.gateway_model.specs.Queue.{IsPrefixOf}
use Rattle.loop_model.specs.Asking.{IsUntouched}
use Rattle.loop_model.specs.Requests.{request_of}
use Rattle.loop_rows.specs.LoopRows.{new_stream}
use Rattle.wires.specs.Turns.{Went}
use Rattle.loop_rows.proofs.ExchangeLemmas.{begins_with_p, first_of_all, never_lost, no_longer_than, none_read, none_written, one_reply}
use Rattle.loop_rows.proofs.RowLemmas.{off_on, other_first}
use Rattle.loop_rows.proofs.rows_of_exchanges.other_ends.Goals as goal

pub returns-clause-twice : goal.returns-clause-twice
returns-clause-twice c m a j given o e = no_longer_than (request_of m j) (begins_with_p m j) (subst (λ (l : List ℕ). IsPrefixOf l (request_of m j)) (append-nil (request_of m j ++ request_of m j)) e.begun.prefix)

pub returns-clause-otherwise : goal.returns-clause-otherwise
returns-clause-otherwise c m a j given o e = other_first (request_of m j) (codes "GET" ++ e.begun.prefix.0) (λ f. omega (arith, f, begins_with_p m j)) e.begun.prefix.1

pub returns-clause-two_streams : goal.returns-clause-two_streams
returns-clause-two_streams c m a j given o e =
    none_written (request_of m j) (begins_with_p m j) (sym (append-nil (request_of m j)) ∙ (first_of_all IsUntouched (new_stream a (Went (request_of m j) ∷ [])) e.begun.untouched).1)

pub returns-clause-made_up : goal.returns-clause-made_up
returns-clause-made_up c m a j body e = ⊎_elim (λ l. never_lost body l.0) (λ a. none_read m.framing a.reply a.begins.0 a.begins.1) (e.outcome _ refl)

pub returns-clause-early : goal.returns-clause-early
returns-clause-early c m a j given body e = ⊎_elim (λ l. never_lost body l.0) (λ a. none_written (request_of m j) (begins_with_p m j) (sym a.whole)) (e.outcome _ refl)

pub returns-clause-reply_lost : goal.returns-clause-reply_lost
returns-clause-reply_lost c m a j reply given rest body cut answers e =
    ⊎_elim
    (λ l. ⊎_elim
    (λ none. none reply (rest, subst (λ (t : List ℕ). IsCut (reply_kind m.framing) t (Complete reply rest)) (sym (append-nil given)) cut))
    (λ stray. off_on stray.2) (l.1 (append-nil (request_of m j))))
    (λ other. never_lost body (sym answers ∙ ap (λ q. outcome_of (Some q)) (one_reply _ _ _ _ (c.reply_cut_law.ensures.unique m.framing given _ _ cut
    (subst (λ (t : List ℕ). IsCut (reply_kind m.framing) t (Complete other.reply other.begins.0)) (append-nil given) other.begins.1))) ∙ sym other.outcome_is))
    (e.outcome _ refl)
