use Rattle.std.proofs.Common.{◌≡◌, ℕ, List, Some, ap, append-nil, refl, subst, sym, ◌∙◌, ⊎_elim}
use Rattle.http_pieces.specs.Cut.{Complete, IsCut, Refused}
use Rattle.http_pieces.specs.ReplyHead.{reply_kind}
use Rattle.http_pieces.specs.declared.framing.Framing.{Framing}
use Rattle.http_pieces.specs.declared.framing.Framing.TheVariants as framing
use Rattle.http_pieces.specs.declared.reply.HttpReply.{HttpReply}
use Rattle.loop_model.specs.Requests.{request_of}
use Rattle.loop_model.specs.declared.manner.Manner.{Manner}
use Rattle.connect_codec.specs.Outcome.{outcome_of}
use Rattle.loop_rows.specs.LoopRows.{IsReplyInChunks}
use Rattle.loop_rows.proofs.ExchangeLemmas.{answered_by, lost_by_refusal, never_lost, not_refused, one_reply}
use Rattle.loop_rows.proofs.RowLemmas.{off_on}
use Rattle.loop_rows.proofs.rows_of_exchanges.replies_in_chunks.Goals as goal

-- the text is cut so, as chunks are taken, and as they are not
cut_taken : (m : Manner) (given : List ℕ) (reply : HttpReply) → m.framing ≡ framing.Any → (r : IsReplyInChunks given reply) → IsCut (reply_kind m.framing) given (Complete reply r.rest)
cut_taken m given reply is r = subst (λ (f : Framing). IsCut (reply_kind f) given (Complete reply r.rest)) (sym is) r.taken

cut_refused : (m : Manner) (given : List ℕ) (reply : HttpReply) → m.framing ≡ framing.Fixed → (r : IsReplyInChunks given reply) → IsCut (reply_kind m.framing) given (Refused r.fault)
cut_refused m given reply is r = subst (λ (f : Framing). IsCut (reply_kind f) given (Refused r.fault)) (sym is) r.not_taken

pub returns-clause-taken : goal.returns-clause-taken
returns-clause-taken c m a j reply given is r = answered_by m a j given reply r.rest (cut_taken m given reply is r)

pub returns-clause-not_taken : goal.returns-clause-not_taken
returns-clause-not_taken c m a j reply given is r = lost_by_refusal m a j given (c.reply_cut_law.ensures.unique m.framing) r.fault (cut_refused m given reply is r)

pub returns-clause-lost : goal.returns-clause-lost
returns-clause-lost c m a j reply given body is r answers e =
    let cut = cut_taken m given reply is r in
    ⊎_elim
    (λ l. ⊎_elim
    (λ none. none reply (r.rest, subst (λ (t : List ℕ). IsCut (reply_kind m.framing) t (Complete reply r.rest)) (sym (append-nil given)) cut))
    (λ stray. off_on stray.2) (l.1 (append-nil (request_of m j))))
    (λ other. never_lost body (sym answers ∙ ap (λ q. outcome_of (Some q)) (one_reply _ _ _ _ (c.reply_cut_law.ensures.unique m.framing given _ _ cut
    (subst (λ (t : List ℕ). IsCut (reply_kind m.framing) t (Complete other.reply other.begins.0)) (append-nil given) other.begins.1))) ∙ sym other.outcome_is))
    (e.outcome _ refl)

pub returns-clause-made_up : goal.returns-clause-made_up
returns-clause-made_up c m a j reply given body is r e =
    ⊎_elim
    (λ l. never_lost body l.0)
    (λ other. not_refused r.fault other.reply other.begins.0 (c.reply_cut_law.ensures.unique m.framing given _ _ (cut_refused m given reply is r)
    (subst (λ (t : List ℕ). IsCut (reply_kind m.framing) t (Complete other.reply other.begins.0)) (append-nil given) other.begins.1)))
    (e.outcome _ refl)
