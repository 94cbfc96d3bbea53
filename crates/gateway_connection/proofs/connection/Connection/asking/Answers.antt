use Rattle.gateway_connection.specs.lemmas.Names.{◌≡◌, ◌∙◌, ◌++◌, ◌∷◌, [], None, Some, ap, append-nil, false, refl, sym, subst, Call as Calling, CallId, record_of, ContextsValue, KeepsOthers, by_drain, contexts_value, ends_of, is_life, is_peer, without, TakesAtMostOne, stock_in, begun_live, ends_first, first_out, is_full, ReplyValue, step_to, gone, err_if, next_held, event_for, life_in, none_over, LeavesOthers, inl, ArrivedCall, asking}
use Rattle.gateway_model.specs.declared.entry.ReplyEntry.TheVariants.{Crowded}
use Rattle.http_pieces.specs.Request.{closes}
use Rattle.gateway_connection.proofs.EnterLemmas.{asking_first, begun_gone, begun_is, begun_on, begun_others, first_event, fails_same, first_linked, keeps_then, may_ends, may_fresh, may_known, may_stocked, stays_same, taken_leaves, takes_then}
use Rattle.gateway_connection.proofs.ResultLemmas.{none_ok}
use Rattle.gateway_connection.proofs.connection.Connection.asking.Goals as goal

pub begin-requires-clause-known : goal.begin-requires-clause-known
begin-requires-clause-known g c = ap (λ (d : CallId). is_peer d.conn c.args.shared.now.contexts.standing.conns) c.next_id-id.ensures ∙ may_known c.args.self.now c.args.shared.now c.requires

pub begin-requires-clause-fresh : goal.begin-requires-clause-fresh
begin-requires-clause-fresh g c = ap (λ d. is_life d c.args.shared.now.contexts.standing.calls) c.next_id-id.ensures ∙ may_fresh c.args.self.now c.args.shared.now c.requires c.held_law.ensures

pub begin-requires-clause-stocked : goal.begin-requires-clause-stocked
begin-requires-clause-stocked g c = λ empty. may_stocked c.args.self.now c.args.shared.now c.requires (ap (λ (d : CallId). stock_in d.conn c.args.shared.now.contexts.stocks) (sym c.next_id-id.ensures) ∙ empty)

pub reply_to-requires : goal.reply_to-requires
reply_to-requires g c =
    ap (λ (x : ContextsValue). is_life c.next_id-id.result x.calls) c.in_ok-begin.ensures.ok ∙ begun_is c.args.shared.now.moment c.next_id-id.result c.args.asked c.args.shared.now.contexts.standing

pub start_first-requires-clause-known : goal.start_first-requires-clause-known
start_first-requires-clause-known g c =
    ap (λ (x : ContextsValue). is_life c.next_id-id.result x.calls) c.in_ok-begin.ensures.ok ∙ begun_is c.args.shared.now.moment c.next_id-id.result c.args.asked c.args.shared.now.contexts.standing

pub returns-in_err-reply-clause-err : goal.returns-in_err-reply-clause-err
returns-in_err-reply-clause-err g c = err_if c.from_residual.result (fails_same c.args.self.now c.args.shared.now)

pub returns-in_err-begin-clause-err : goal.returns-in_err-begin-clause-err
returns-in_err-begin-clause-err g c =
    let others : LeavesOthers c.args.self.now.number c.args.shared.now.contexts c.begin.new.self =
    taken_leaves c.next_id-id.result.conn c.args.self.now.number c.args.shared.now.contexts c.begin.new.self (ap (λ (d : CallId). d.conn) c.next_id-id.ensures)
    (subst (KeepsOthers c.next_id-id.result.conn c.args.shared.now.contexts.standing) (sym c.in_err-begin.ensures.err) (record { drained_is = refl; conns_are = refl; others_are = refl }))
    (c.begin.ensures.takes) in
    err_if c.from_residual-in_err-begin.result (record {
      conn_is = refl;
      begun_is = refl;
      rest = record { plans_are = refl; moment_is = refl; jobs_are = sym (append-nil c.args.shared.now.jobs.jobs); waits = refl; others = others };
    })

pub returns-in_err-call-in-Some-clause-err : goal.returns-in_err-call-in-Some-clause-err
returns-in_err-call-in-Some-clause-err g c =
    let others : LeavesOthers c.args.self.now.number c.args.shared.now.contexts c.begin.new.self =
    taken_leaves c.next_id-id.result.conn c.args.self.now.number c.args.shared.now.contexts c.begin.new.self (ap (λ (d : CallId). d.conn) c.next_id-id.ensures)
    (subst (KeepsOthers c.next_id-id.result.conn c.args.shared.now.contexts.standing) (sym c.in_ok-begin.ensures.ok) (begun_others c.args.shared.now.moment c.next_id-id.result c.args.asked c.args.shared.now.contexts.standing))
    (c.begin.ensures.takes) in
    err_if c.from_residual-in_err-call-in-Some.result (record {
      conn_is = refl;
      begun_is = refl;
      rest = record { plans_are = refl; moment_is = refl; jobs_are = sym (append-nil c.args.shared.now.jobs.jobs); waits = refl; others = others };
    })

pub returns-in_err-reply-in-Some-clause-err : goal.returns-in_err-reply-in-Some-clause-err
returns-in_err-reply-in-Some-clause-err g c =
    let others : LeavesOthers c.args.self.now.number c.args.shared.now.contexts c.reply_to.new.contexts =
    taken_leaves c.next_id-id.result.conn c.args.self.now.number c.args.shared.now.contexts c.reply_to.new.contexts (ap (λ (d : CallId). d.conn) c.next_id-id.ensures)
    (keeps_then c.next_id-id.result.conn c.args.shared.now.contexts.standing c.begin.new.self.standing c.reply_to.new.contexts.standing (subst (KeepsOthers c.next_id-id.result.conn c.args.shared.now.contexts.standing) (sym c.in_ok-begin.ensures.ok) (begun_others c.args.shared.now.moment c.next_id-id.result c.args.asked c.args.shared.now.contexts.standing)) c.in_err-reply-in-Some.ensures.others)
    (takes_then c.next_id-id.result.conn c.args.shared.now.contexts c.begin.new.self c.reply_to.new.contexts c.begin.ensures.takes (stays_same c.begin.new.self c.reply_to.new.contexts c.reply_to.ensures.stocks)) in
    err_if c.from_residual-in_err-reply-in-Some.result (record {
      conn_is = refl;
      begun_is = refl;
      rest = record { plans_are = refl; moment_is = refl; jobs_are = sym (append-nil c.args.shared.now.jobs.jobs); waits = refl; others = others };
    })

pub returns-in_err-start_first-in-None-clause-err : goal.returns-in_err-start_first-in-None-clause-err
returns-in_err-start_first-in-None-clause-err g c =
    let others : LeavesOthers c.args.self.now.number c.args.shared.now.contexts c.start_first.new.contexts =
    taken_leaves c.next_id-id.result.conn c.args.self.now.number c.args.shared.now.contexts c.start_first.new.contexts (ap (λ (d : CallId). d.conn) c.next_id-id.ensures)
    (keeps_then c.next_id-id.result.conn c.args.shared.now.contexts.standing c.begin.new.self.standing c.start_first.new.contexts.standing (subst (KeepsOthers c.next_id-id.result.conn c.args.shared.now.contexts.standing) (sym c.in_ok-begin.ensures.ok) (begun_others c.args.shared.now.moment c.next_id-id.result c.args.asked c.args.shared.now.contexts.standing)) c.start_first.ensures.others)
    (takes_then c.next_id-id.result.conn c.args.shared.now.contexts c.begin.new.self c.start_first.new.contexts c.begin.ensures.takes (stays_same c.begin.new.self c.start_first.new.contexts c.start_first.ensures.stocks)) in
    err_if c.from_residual-in_err-start_first-in-None.result (record {
      conn_is = refl;
      begun_is = refl;
      rest = record { plans_are = refl; moment_is = refl; jobs_are = sym (append-nil c.args.shared.now.jobs.jobs); waits = refl; others = others };
    })

pub returns-in_ok-reply-in-Some-clause-ok : goal.returns-in_ok-reply-in-Some-clause-ok
returns-in_ok-reply-in-Some-clause-ok g c =
    let v : ContextsValue = c.args.shared.now.contexts.standing in
    let fresh : is_life c.next_id-id.result v.calls ≡ false = ap (λ d. is_life d v.calls) c.next_id-id.ensures ∙ may_fresh c.args.self.now c.args.shared.now c.requires c.held_law.ensures in
    let not_hung : ends_of v c.next_id-id.result.conn ≡ by_drain v.drained = ap (λ (d : CallId). ends_of v d.conn) c.next_id-id.ensures ∙ may_ends c.args.self.now c.args.shared.now c.requires in
    let full : is_full c.args.self.now.slots ≡ false = sym c.is_full.ensures ∙ c.if-is_full.false in
    let first : c.ending.result ≡ ends_first c.args.shared.now.moment v.drained c.args.asked =
    c.ending.ensures ∙ ap (event_for c.args.shared.now.moment c.next_id-id.result) c.in_ok-begin.ensures.ok ∙ first_event c.args.shared.now.moment c.next_id-id.result c.args.asked v v.drained fresh not_hung in
    let entry : Calling (record_of c.args.asked [] (c.in-Some.event ∷ [])) ≡ c.in_ok-reply-in-Some.reply.entry =
    ap (λ r. Calling r) (sym c.in_ok-call-in-Some.ensures) ∙ sym (ap (λ (r : ReplyValue). r.entry) c.in_ok-reply-in-Some.ensures.reply) in
    record {
      comes = (
        ap (λ (r : ReplyValue). r.id) c.in_ok-reply-in-Some.ensures.reply ∙ c.next_id-id.ensures,
        asking_first (is_full c.args.self.now.slots) c.args.shared.now.moment v.drained (next_held c.args.self.now) c.args.asked (Some c.in-Some.event) full (sym c.in-Some.is ∙ first) ∙ ap (λ e. step_to gone (Some e) []) entry,
      );
      contexts = c.in_ok-reply-in-Some.ensures.gone ∙ ap (without c.next_id-id.result) c.in_ok-begin.ensures.ok ∙ begun_gone c.args.shared.now.moment c.next_id-id.result c.args.asked v fresh;
      hooks = subst (λ n. TakesAtMostOne n c.args.shared.now.contexts c.reply_to.new.contexts) (ap (λ (d : CallId). d.conn) c.next_id-id.ensures)
          (takes_then c.next_id-id.result.conn c.args.shared.now.contexts c.begin.new.self c.reply_to.new.contexts c.begin.ensures.takes (stays_same c.begin.new.self c.reply_to.new.contexts c.reply_to.ensures.stocks));
      rest = refl;
    }

pub returns-in_ok-start_first-in-None-clause-ok : goal.returns-in_ok-start_first-in-None-clause-ok
returns-in_ok-start_first-in-None-clause-ok g c =
    let v : ContextsValue = c.args.shared.now.contexts.standing in
    let fresh : is_life c.next_id-id.result v.calls ≡ false = ap (λ d. is_life d v.calls) c.next_id-id.ensures ∙ may_fresh c.args.self.now c.args.shared.now c.requires c.held_law.ensures in
    let not_hung : ends_of v c.next_id-id.result.conn ≡ by_drain v.drained = ap (λ (d : CallId). ends_of v d.conn) c.next_id-id.ensures ∙ may_ends c.args.self.now c.args.shared.now c.requires in
    let full : is_full c.args.self.now.slots ≡ false = sym c.is_full.ensures ∙ c.if-is_full.false in
    let first : c.ending.result ≡ ends_first c.args.shared.now.moment v.drained c.args.asked =
    c.ending.ensures ∙ ap (event_for c.args.shared.now.moment c.next_id-id.result) c.in_ok-begin.ensures.ok ∙ first_event c.args.shared.now.moment c.next_id-id.result c.args.asked v v.drained fresh not_hung in
    record {
      comes = asking_first (is_full c.args.self.now.slots) c.args.shared.now.moment v.drained (next_held c.args.self.now) c.args.asked None full (sym c.in-None.is ∙ first);
      contexts = first_linked c.args.shared.now.moment c.next_id-id.result c.args.asked v c.begin.new.self.standing c.start_first.new.contexts.standing fresh
          (c.in_ok-begin.ensures.ok ∙ begun_on c.args.shared.now.moment c.next_id-id.result c.args.asked v v.drained not_hung (sym first ∙ c.in-None.is))
          c.in_ok-start_first-in-None.ensures.ok
          ∙ ap (λ d. contexts_value v.drained v.conns (v.calls ++ life_in none_over d (first_out c.args.asked) (begun_live c.args.shared.now.moment d c.args.asked) ∷ [])) c.next_id-id.ensures;
      hooks = subst (λ n. TakesAtMostOne n c.args.shared.now.contexts c.start_first.new.contexts) (ap (λ (d : CallId). d.conn) c.next_id-id.ensures)
          (takes_then c.next_id-id.result.conn c.args.shared.now.contexts c.begin.new.self c.start_first.new.contexts c.begin.ensures.takes (stays_same c.begin.new.self c.start_first.new.contexts c.start_first.ensures.stocks));
      rest = refl;
    }

pub returns-in_err-reply-clause-ok : goal.returns-in_err-reply-clause-ok
returns-in_err-reply-clause-ok g c = none_ok _ _ c.from_residual.result c.from_residual.ensures.1

pub returns-in_err-begin-clause-ok : goal.returns-in_err-begin-clause-ok
returns-in_err-begin-clause-ok g c = none_ok _ _ c.from_residual-in_err-begin.result c.from_residual-in_err-begin.ensures.1

pub returns-in_err-call-in-Some-clause-ok : goal.returns-in_err-call-in-Some-clause-ok
returns-in_err-call-in-Some-clause-ok g c = none_ok _ _ c.from_residual-in_err-call-in-Some.result c.from_residual-in_err-call-in-Some.ensures.1

pub returns-in_err-reply-in-Some-clause-ok : goal.returns-in_err-reply-in-Some-clause-ok
returns-in_err-reply-in-Some-clause-ok g c = none_ok _ _ c.from_residual-in_err-reply-in-Some.result c.from_residual-in_err-reply-in-Some.ensures.1

pub returns-in_err-start_first-in-None-clause-ok : goal.returns-in_err-start_first-in-None-clause-ok
returns-in_err-start_first-in-None-clause-ok g c = none_ok _ _ c.from_residual-in_err-start_first-in-None.result c.from_residual-in_err-start_first-in-None.ensures.1

pub start_first-requires-clause-moment : goal.start_first-requires-clause-moment
start_first-requires-clause-moment g c = c.requires.may.early

pub returns-then-is_full-clause-ok : goal.returns-then-is_full-clause-ok
returns-then-is_full-clause-ok g c =
    let entry = ap (λ (r : ReplyValue). r.entry) c.in_ok-reply.ensures ∙ ap Crowded (c.closes.ensures ∙ ap (λ (a : ArrivedCall). closes a.request) c.asked.view_is) in
    record {
      comes = (
        ap (λ (r : ReplyValue). r.id) c.in_ok-reply.ensures ∙ c.next_id-id.ensures,
        ap (λ b. asking b c.args.shared.now.moment c.args.shared.now.contexts.standing.drained (next_held c.args.self.now) c.args.asked) (sym c.is_full.ensures ∙ c.if-is_full.true)
            ∙ sym (ap (λ e. step_to gone (Some e) []) entry),
      );
      contexts = refl;
      hooks = λ other stock there. inl there;
      rest = refl;
    }
