use Rattle.gateway_connection.specs.lemmas.Names.{◌∙◌, [], Some, ap, err_if, refl, ReplyValue, entered_held, gone, step_to}
use Rattle.gateway_connection.proofs.ResultLemmas.{none_on, ok_then}
use Rattle.gateway_connection.proofs.connection.Connection.refuse.Goals as goal

pub answer-requires-clause-its : goal.answer-requires-clause-its
answer-requires-clause-its c = ap (λ (r : ReplyValue). r.id) c.in_ok-reply.ensures ∙ c.next_id.ensures

pub answer-requires-clause-room : goal.answer-requires-clause-room
answer-requires-clause-room c = c.requires

pub returns-clause-ok : goal.returns-clause-ok
returns-clause-ok c =
    ok_then c.answer.result c.answer.ensures.ok (λ is. is ∙ ap (λ (r : ReplyValue). entered_held (step_to gone (Some r.entry) []) c.args.self.now) c.in_ok-reply.ensures)

pub returns-in_err-reply-clause-ok : goal.returns-in_err-reply-clause-ok
returns-in_err-reply-clause-ok c = none_on _ _ c.from_residual.result c.from_residual.ensures.1

pub returns-in_err-reply-clause-err : goal.returns-in_err-reply-clause-err
returns-in_err-reply-clause-err c = err_if c.from_residual.result refl
