use Rattle.std.specs.Prelude.{◌^◌, IfErr, OnOk}
use Rattle.gateway_connection.specs.lemmas.Names.{◌∙◌, None, ap, sym, state_of, Request, coming_of, HeldConnection, Brings, BringsNone, subst, ◌≡◌, Some, inl, MayFail, ◌≤◌, Arrives, arriving_in, next_held, err_if}
use Rattle.gateway_model.specs.Occurrence.{Refused}
use Rattle.gateway_model.specs.Arrival.{arrival_of}
use Rattle.gateway_theory.specs.Held.{begins_call}
use Rattle.gateway_connection.specs.declared.arriving.Arriving.TheVariants.{Answered, Begins as BeginsCall}
use Rattle.gateway_connection.proofs.EnterLemmas.{answered_enters, answered_fails, begins_enters, begins_fails, begins_faults, fails_same, opened_by, refused_enters, whole_by}
use Rattle.gateway_connection.proofs.StreamLemmas.{refused_by}
use Rattle.gateway_connection.proofs.ResultLemmas.{by_memory, err_both, err_then, fault_both, fault_then, none_on, ok_then}
use Rattle.gateway_connection.proofs.connection.Connection.take_in.Goals as goal

pub refuse-requires : goal.refuse-requires
refuse-requires g c =
    c.requires.room (Refused c.in-Refused.refusal) (ap (λ r. coming_of c.args.shared.now.plans r c.args.self.now.reader.reading) c.in-None.is
    ∙ ap (coming_of c.args.shared.now.plans None)
    (refused_by c.args.self.now.reader.reading c.in-Refused.refusal (ap (λ (k : HeldConnection). state_of k.reader.reading) (sym c.self.view_is) ∙ sym c.state.ensures ∙ c.in-Refused.is)))

pub returns-in-Refused-clause-ok : goal.returns-in-Refused-clause-ok
returns-in-Refused-clause-ok g c =
    let comes : coming_of c.args.shared.now.plans c.args.request c.args.self.now.reader.reading ≡ Some (Refused c.in-Refused.refusal) =
    ap (λ r. coming_of c.args.shared.now.plans r c.args.self.now.reader.reading) c.in-None.is
    ∙ ap (coming_of c.args.shared.now.plans None)
    (refused_by c.args.self.now.reader.reading c.in-Refused.refusal (ap (λ (k : HeldConnection). state_of k.reader.reading) (sym c.self.view_is) ∙ sym c.state.ensures ∙ c.in-Refused.is)) in
    subst (λ x. OnOk c.refuse.result (Brings x c.args.self.now c.refuse.new.self c.args.shared.now c.args.shared.now)) (sym comes)
    (ok_then c.refuse.result c.refuse.ensures.ok (refused_enters c.args.self.now c.refuse.new.self c.args.shared.now c.in-Refused.refusal (record { may = c.requires.may; on = c.requires.on; room = c.requires.room (Refused c.in-Refused.refusal) comes })))

pub returns-in-Refused-clause-err : goal.returns-in-Refused-clause-err
returns-in-Refused-clause-err g c =
    let comes : coming_of c.args.shared.now.plans c.args.request c.args.self.now.reader.reading ≡ Some (Refused c.in-Refused.refusal) =
    ap (λ r. coming_of c.args.shared.now.plans r c.args.self.now.reader.reading) c.in-None.is
    ∙ ap (coming_of c.args.shared.now.plans None)
    (refused_by c.args.self.now.reader.reading c.in-Refused.refusal (ap (λ (k : HeldConnection). state_of k.reader.reading) (sym c.self.view_is) ∙ sym c.state.ensures ∙ c.in-Refused.is)) in
    subst (λ x. IfErr c.refuse.result (λ f. BringsNone x f c.args.self.now c.refuse.new.self c.args.shared.now c.args.shared.now)) (sym comes)
    (fault_both _ _ c.refuse.result (fault_then c.refuse.result c.refuse.ensures.fault (λ f is. inl is))
    (err_then c.refuse.result c.refuse.ensures.err (λ same. subst (λ (x : HeldConnection). MayFail c.args.self.now x c.args.shared.now c.args.shared.now) (sym same) (fails_same c.args.self.now c.args.shared.now))))

pub arriving-requires : goal.arriving-requires
arriving-requires g c =
    record { may = c.requires.may; on = c.requires.on; room = c.requires.room (Request c.in-Some.request (arrival_of c.args.shared.now.plans c.in-Some.request)) (ap (λ r. coming_of c.args.shared.now.plans r c.args.self.now.reader.reading) c.in-Some.is) }

pub answer-requires-clause-its : goal.answer-requires-clause-its
answer-requires-clause-its g c =
    let at : Arrives (Answered c.in-Answered.reply) (next_held c.args.self.now) (arriving_in c.args.shared.now.moment c.args.shared.now.contexts.standing.drained (Request c.in-Some.request (arrival_of c.args.shared.now.plans c.in-Some.request)) c.args.self.now) c.args.shared.now c.arriving.new.shared = (subst (λ x. Arrives x (next_held c.args.self.now) (arriving_in c.args.shared.now.moment c.args.shared.now.contexts.standing.drained (Request c.in-Some.request (arrival_of c.args.shared.now.plans c.in-Some.request)) c.args.self.now) c.args.shared.now c.arriving.new.shared) c.in-Answered.is c.in_ok-reply-in-Some.ensures.ok) in
    at.comes.0

pub answer-requires-clause-room : goal.answer-requires-clause-room
answer-requires-clause-room g c = c.requires.room (Request c.in-Some.request (arrival_of c.args.shared.now.plans c.in-Some.request)) (ap (λ r. coming_of c.args.shared.now.plans r c.args.self.now.reader.reading) c.in-Some.is)

pub begin-requires-clause-room : goal.begin-requires-clause-room
begin-requires-clause-room g c = c.requires.room (Request c.in-Some.request (arrival_of c.args.shared.now.plans c.in-Some.request)) (ap (λ r. coming_of c.args.shared.now.plans r c.args.self.now.reader.reading) c.in-Some.is)

pub begin-requires-clause-open : goal.begin-requires-clause-open
begin-requires-clause-open g c = opened_by c.args.self.now c.requires.on

pub begin-requires-clause-whole : goal.begin-requires-clause-whole
begin-requires-clause-whole g c = whole_by c.args.self.now c.requires.on

pub begin-requires-clause-moment : goal.begin-requires-clause-moment
begin-requires-clause-moment g c =
    let at : Arrives (BeginsCall c.in-Begins.asked) (next_held c.args.self.now) (arriving_in c.args.shared.now.moment c.args.shared.now.contexts.standing.drained (Request c.in-Some.request (arrival_of c.args.shared.now.plans c.in-Some.request)) c.args.self.now) c.args.shared.now c.arriving.new.shared = (subst (λ x. Arrives x (next_held c.args.self.now) (arriving_in c.args.shared.now.moment c.args.shared.now.contexts.standing.drained (Request c.in-Some.request (arrival_of c.args.shared.now.plans c.in-Some.request)) c.args.self.now) c.args.shared.now c.arriving.new.shared) c.in-Begins.is c.in_ok-reply-in-Some.ensures.ok) in
    subst (λ m. m ≤ 2 ^ 62) (sym (ap (λ s. s.moment) at.rest)) c.requires.may.early

pub returns-in-Answered-clause-ok : goal.returns-in-Answered-clause-ok
returns-in-Answered-clause-ok g c =
    subst (λ q. OnOk c.answer.result (Brings (coming_of c.args.shared.now.plans q c.args.self.now.reader.reading) c.args.self.now c.answer.new.self c.args.shared.now c.arriving.new.shared)) (sym c.in-Some.is)
    (ok_then c.answer.result c.answer.ensures.ok (answered_enters c.args.self.now c.args.shared.now c.arriving.new.shared (arriving_in c.args.shared.now.moment c.args.shared.now.contexts.standing.drained (Request c.in-Some.request (arrival_of c.args.shared.now.plans c.in-Some.request)) c.args.self.now) c.in-Answered.reply (record { may = c.requires.may; on = c.requires.on; room = c.requires.room (Request c.in-Some.request (arrival_of c.args.shared.now.plans c.in-Some.request)) (ap (λ r. coming_of c.args.shared.now.plans r c.args.self.now.reader.reading) c.in-Some.is) })
    (subst (λ x. Arrives x (next_held c.args.self.now) (arriving_in c.args.shared.now.moment c.args.shared.now.contexts.standing.drained (Request c.in-Some.request (arrival_of c.args.shared.now.plans c.in-Some.request)) c.args.self.now) c.args.shared.now c.arriving.new.shared) c.in-Answered.is c.in_ok-reply-in-Some.ensures.ok)
    c.answer.new.self))

pub returns-in-Answered-clause-err : goal.returns-in-Answered-clause-err
returns-in-Answered-clause-err g c =
    subst (λ q. IfErr c.answer.result (λ f. BringsNone (coming_of c.args.shared.now.plans q c.args.self.now.reader.reading) f c.args.self.now c.answer.new.self c.args.shared.now c.arriving.new.shared)) (sym c.in-Some.is)
    (fault_both _ _ c.answer.result (fault_then c.answer.result c.answer.ensures.fault (λ f is. inl is))
    (err_then c.answer.result c.answer.ensures.err (answered_fails c.args.self.now c.args.shared.now c.arriving.new.shared (arriving_in c.args.shared.now.moment c.args.shared.now.contexts.standing.drained (Request c.in-Some.request (arrival_of c.args.shared.now.plans c.in-Some.request)) c.args.self.now) c.in-Answered.reply (record { may = c.requires.may; on = c.requires.on; room = c.requires.room (Request c.in-Some.request (arrival_of c.args.shared.now.plans c.in-Some.request)) (ap (λ r. coming_of c.args.shared.now.plans r c.args.self.now.reader.reading) c.in-Some.is) })
    (subst (λ x. Arrives x (next_held c.args.self.now) (arriving_in c.args.shared.now.moment c.args.shared.now.contexts.standing.drained (Request c.in-Some.request (arrival_of c.args.shared.now.plans c.in-Some.request)) c.args.self.now) c.args.shared.now c.arriving.new.shared) c.in-Answered.is c.in_ok-reply-in-Some.ensures.ok)
    c.answer.new.self)))

pub returns-in-Begins-clause-ok : goal.returns-in-Begins-clause-ok
returns-in-Begins-clause-ok g c =
    subst (λ q. OnOk c.begin.result (Brings (coming_of c.args.shared.now.plans q c.args.self.now.reader.reading) c.args.self.now c.begin.new.self c.args.shared.now c.begin.new.shared)) (sym c.in-Some.is)
    (ok_then c.begin.result c.begin.ensures.ok (begins_enters c.args.self.now c.args.shared.now c.arriving.new.shared (arriving_in c.args.shared.now.moment c.args.shared.now.contexts.standing.drained (Request c.in-Some.request (arrival_of c.args.shared.now.plans c.in-Some.request)) c.args.self.now) c.in-Begins.asked (record { may = c.requires.may; on = c.requires.on; room = c.requires.room (Request c.in-Some.request (arrival_of c.args.shared.now.plans c.in-Some.request)) (ap (λ r. coming_of c.args.shared.now.plans r c.args.self.now.reader.reading) c.in-Some.is) })
    (subst (λ x. Arrives x (next_held c.args.self.now) (arriving_in c.args.shared.now.moment c.args.shared.now.contexts.standing.drained (Request c.in-Some.request (arrival_of c.args.shared.now.plans c.in-Some.request)) c.args.self.now) c.args.shared.now c.arriving.new.shared) c.in-Begins.is c.in_ok-reply-in-Some.ensures.ok)
    c.begin.new.self c.begin.new.shared))

pub returns-in-Begins-clause-err : goal.returns-in-Begins-clause-err
returns-in-Begins-clause-err g c =
    subst (λ q. IfErr c.begin.result (λ f. BringsNone (coming_of c.args.shared.now.plans q c.args.self.now.reader.reading) f c.args.self.now c.begin.new.self c.args.shared.now c.begin.new.shared)) (sym c.in-Some.is)
    (fault_both _ _ c.begin.result (fault_then c.begin.result c.begin.ensures.fault (begins_faults c.args.self.now c.args.shared.now c.arriving.new.shared (arriving_in c.args.shared.now.moment c.args.shared.now.contexts.standing.drained (Request c.in-Some.request (arrival_of c.args.shared.now.plans c.in-Some.request)) c.args.self.now) c.in-Begins.asked (record { may = c.requires.may; on = c.requires.on; room = c.requires.room (Request c.in-Some.request (arrival_of c.args.shared.now.plans c.in-Some.request)) (ap (λ r. coming_of c.args.shared.now.plans r c.args.self.now.reader.reading) c.in-Some.is) })
    (subst (λ x. Arrives x (next_held c.args.self.now) (arriving_in c.args.shared.now.moment c.args.shared.now.contexts.standing.drained (Request c.in-Some.request (arrival_of c.args.shared.now.plans c.in-Some.request)) c.args.self.now) c.args.shared.now c.arriving.new.shared) c.in-Begins.is c.in_ok-reply-in-Some.ensures.ok)))
    (err_both c.begin.result c.begin.ensures.err c.begin.ensures.same (λ kept same. subst (λ (x : HeldConnection). MayFail c.args.self.now x c.args.shared.now c.begin.new.shared) (sym kept)
    (begins_fails c.args.self.now c.args.shared.now c.arriving.new.shared (arriving_in c.args.shared.now.moment c.args.shared.now.contexts.standing.drained (Request c.in-Some.request (arrival_of c.args.shared.now.plans c.in-Some.request)) c.args.self.now) c.in-Begins.asked (record { may = c.requires.may; on = c.requires.on; room = c.requires.room (Request c.in-Some.request (arrival_of c.args.shared.now.plans c.in-Some.request)) (ap (λ r. coming_of c.args.shared.now.plans r c.args.self.now.reader.reading) c.in-Some.is) })
    (subst (λ x. Arrives x (next_held c.args.self.now) (arriving_in c.args.shared.now.moment c.args.shared.now.contexts.standing.drained (Request c.in-Some.request (arrival_of c.args.shared.now.plans c.in-Some.request)) c.args.self.now) c.args.shared.now c.arriving.new.shared) c.in-Begins.is c.in_ok-reply-in-Some.ensures.ok)
    c.begin.new.shared same))))

pub returns-in_err-reply-in-Some-clause-ok : goal.returns-in_err-reply-in-Some-clause-ok
returns-in_err-reply-in-Some-clause-ok g c = none_on _ _ c.from_residual.result c.from_residual.ensures.1

pub returns-in_err-reply-in-Some-clause-err : goal.returns-in_err-reply-in-Some-clause-err
returns-in_err-reply-in-Some-clause-err g c =
    subst (λ q. IfErr c.from_residual.result (λ f. BringsNone (coming_of c.args.shared.now.plans q c.args.self.now.reader.reading) f c.args.self.now c.args.self.now c.args.shared.now c.arriving.new.shared)) (sym c.in-Some.is)
    (fault_both _ _ c.from_residual.result (by_memory c.args.shared.now.begun (begins_call (arriving_in c.args.shared.now.moment c.args.shared.now.contexts.standing.drained (Request c.in-Some.request (arrival_of c.args.shared.now.plans c.in-Some.request)) c.args.self.now)) c.from_residual.result c.from_residual.ensures.1) (err_if c.from_residual.result c.in_err-reply-in-Some.ensures.err))
