use Rattle.gateway_connection.specs.lemmas.Names.{◌≡◌, ◌<◌, ◌∙◌, Some, None, ap, arith, length, refl, sym, subst, Call as Calling, CallId, KeepsOthers, is_life, without, KeptValue, HeldConnection, ReplyValue, kept_at, no_call, err_if, replied, TakesAt}
use Rattle.gateway_connection.proofs.HoldsLemmas.{here_is}
use Rattle.gateway_connection.proofs.TakenLemmas.{decided_fails, decided_known, settles_on, settles_with, taken_id, taken_number, taken_size}
use Rattle.gateway_connection.proofs.ResultLemmas.{none_on}
use Rattle.gateway_connection.proofs.connection.Connection.settle.Goals as goal

pub returns-in_default-clause-ok : goal.returns-in_default-clause-ok
returns-in_default-clause-ok g c =
    let t : TakesAt c.args.index c.args.branch c.args.outcome None c.args.self.now c.take_at.new.self c.args.shared.now c.take_at.new.shared =
    subst (λ o. TakesAt c.args.index c.args.branch c.args.outcome o c.args.self.now c.take_at.new.self c.args.shared.now c.take_at.new.shared) c.in_default.is c.in_ok-taken.ensures.ok in
    settles_on c.args.index c.args.branch c.args.outcome c.args.self.now c.take_at.new.self c.args.shared.now c.take_at.new.shared c.requires.there (c.held_law.ensures.own c.args.index no_call c.requires.there) c.requires.may.tied t

pub reply_to-requires : goal.reply_to-requires
reply_to-requires g c =
    let t : TakesAt c.args.index c.args.branch c.args.outcome (Some c.in-Some.decided) c.args.self.now c.take_at.new.self c.args.shared.now c.take_at.new.shared =
    subst (λ o. TakesAt c.args.index c.args.branch c.args.outcome o c.args.self.now c.take_at.new.self c.args.shared.now c.take_at.new.shared) c.in-Some.is c.in_ok-taken.ensures.ok in
    let items = ap (λ (k : HeldConnection). k.calls) c.self.view_is in
    let size = taken_size c.args.index c.args.branch c.args.outcome c.args.self.now c.take_at.new.self c.args.shared.now c.take_at.new.shared c.requires.there (Some c.in-Some.decided) t in
    let lt : c.args.index < length c.self.inside.calls.items = (let within = c.requires.there in omega (arith, within, size, ap length items)) in
    let here : c.index.result.now ≡ kept_at c.args.index c.take_at.new.self.calls = here_is c.self.inside.calls.items c.take_at.new.self.calls c.args.index c.index.result.now items lt c.index.ensures in
    let id_is : c.id-id.result ≡ (kept_at c.args.index c.args.self.now.calls).id = c.id-id.ensures ∙ ap (λ (x : KeptValue). x.id) here ∙ taken_id c.args.index c.args.branch c.args.outcome c.args.self.now c.take_at.new.self c.args.shared.now c.take_at.new.shared c.requires.there (Some c.in-Some.decided) t in
    let own : (kept_at c.args.index c.args.self.now.calls).id.conn ≡ c.args.self.now.number = c.held_law.ensures.own c.args.index no_call c.requires.there in
    ap (λ d. is_life d c.take_at.new.shared.contexts.standing.calls) id_is ∙ decided_known c.args.index c.args.branch c.args.outcome c.args.self.now c.take_at.new.self c.args.shared.now c.take_at.new.shared c.requires.there own c.requires.may.tied c.in-Some.decided t

pub returns-in_err-reply-clause-err : goal.returns-in_err-reply-clause-err
returns-in_err-reply-clause-err g c =
    let t : TakesAt c.args.index c.args.branch c.args.outcome (Some c.in-Some.decided) c.args.self.now c.take_at.new.self c.args.shared.now c.take_at.new.shared =
    subst (λ o. TakesAt c.args.index c.args.branch c.args.outcome o c.args.self.now c.take_at.new.self c.args.shared.now c.take_at.new.shared) c.in-Some.is c.in_ok-taken.ensures.ok in
    let items = ap (λ (k : HeldConnection). k.calls) c.self.view_is in
    let size = taken_size c.args.index c.args.branch c.args.outcome c.args.self.now c.take_at.new.self c.args.shared.now c.take_at.new.shared c.requires.there (Some c.in-Some.decided) t in
    let lt : c.args.index < length c.self.inside.calls.items = (let within = c.requires.there in omega (arith, within, size, ap length items)) in
    let here : c.index.result.now ≡ kept_at c.args.index c.take_at.new.self.calls = here_is c.self.inside.calls.items c.take_at.new.self.calls c.args.index c.index.result.now items lt c.index.ensures in
    let id_is : c.id-id.result ≡ (kept_at c.args.index c.args.self.now.calls).id = c.id-id.ensures ∙ ap (λ (x : KeptValue). x.id) here ∙ taken_id c.args.index c.args.branch c.args.outcome c.args.self.now c.take_at.new.self c.args.shared.now c.take_at.new.shared c.requires.there (Some c.in-Some.decided) t in
    let own : (kept_at c.args.index c.args.self.now.calls).id.conn ≡ c.args.self.now.number = c.held_law.ensures.own c.args.index no_call c.requires.there in
    err_if c.from_residual-in_err-reply.result (decided_fails c.args.index c.args.branch c.args.outcome c.args.self.now c.take_at.new.self c.args.shared.now c.take_at.new.shared c.requires.there c.in-Some.decided t
    (record c.take_at.new.shared { contexts = c.reply_to.new.contexts }) refl refl refl refl
    (subst (λ n. KeepsOthers n c.take_at.new.shared.contexts.standing c.reply_to.new.contexts.standing) (ap (λ (d : CallId). d.conn) id_is ∙ own) c.in_err-reply.ensures.others) c.reply_to.ensures.stocks)

pub fill-requires : goal.fill-requires
fill-requires g c =
    let t : TakesAt c.args.index c.args.branch c.args.outcome (Some c.in-Some.decided) c.args.self.now c.take_at.new.self c.args.shared.now c.take_at.new.shared =
    subst (λ o. TakesAt c.args.index c.args.branch c.args.outcome o c.args.self.now c.take_at.new.self c.args.shared.now c.take_at.new.shared) c.in-Some.is c.in_ok-taken.ensures.ok in
    let items = ap (λ (k : HeldConnection). k.calls) c.self.view_is in
    let size = taken_size c.args.index c.args.branch c.args.outcome c.args.self.now c.take_at.new.self c.args.shared.now c.take_at.new.shared c.requires.there (Some c.in-Some.decided) t in
    let lt : c.args.index < length c.self.inside.calls.items = (let within = c.requires.there in omega (arith, within, size, ap length items)) in
    let here : c.index.result.now ≡ kept_at c.args.index c.take_at.new.self.calls = here_is c.self.inside.calls.items c.take_at.new.self.calls c.args.index c.index.result.now items lt c.index.ensures in
    let id_is : c.id-id.result ≡ (kept_at c.args.index c.args.self.now.calls).id = c.id-id.ensures ∙ ap (λ (x : KeptValue). x.id) here ∙ taken_id c.args.index c.args.branch c.args.outcome c.args.self.now c.take_at.new.self c.args.shared.now c.take_at.new.shared c.requires.there (Some c.in-Some.decided) t in
    let own : (kept_at c.args.index c.args.self.now.calls).id.conn ≡ c.args.self.now.number = c.held_law.ensures.own c.args.index no_call c.requires.there in
    ap (λ (r : ReplyValue). r.id.conn) c.in_ok-reply.ensures.reply ∙ ap (λ (d : CallId). d.conn) id_is ∙ own ∙ sym (taken_number c.args.index c.args.branch c.args.outcome c.args.self.now c.take_at.new.self c.args.shared.now c.take_at.new.shared c.requires.there (Some c.in-Some.decided) t)

pub returns-clause-ok : goal.returns-clause-ok
returns-clause-ok g c =
    let t : TakesAt c.args.index c.args.branch c.args.outcome (Some c.in-Some.decided) c.args.self.now c.take_at.new.self c.args.shared.now c.take_at.new.shared =
    subst (λ o. TakesAt c.args.index c.args.branch c.args.outcome o c.args.self.now c.take_at.new.self c.args.shared.now c.take_at.new.shared) c.in-Some.is c.in_ok-taken.ensures.ok in
    let items = ap (λ (k : HeldConnection). k.calls) c.self.view_is in
    let size = taken_size c.args.index c.args.branch c.args.outcome c.args.self.now c.take_at.new.self c.args.shared.now c.take_at.new.shared c.requires.there (Some c.in-Some.decided) t in
    let lt : c.args.index < length c.self.inside.calls.items = (let within = c.requires.there in omega (arith, within, size, ap length items)) in
    let here : c.index.result.now ≡ kept_at c.args.index c.take_at.new.self.calls = here_is c.self.inside.calls.items c.take_at.new.self.calls c.args.index c.index.result.now items lt c.index.ensures in
    let id_is : c.id-id.result ≡ (kept_at c.args.index c.args.self.now.calls).id = c.id-id.ensures ∙ ap (λ (x : KeptValue). x.id) here ∙ taken_id c.args.index c.args.branch c.args.outcome c.args.self.now c.take_at.new.self c.args.shared.now c.take_at.new.shared c.requires.there (Some c.in-Some.decided) t in
    let own : (kept_at c.args.index c.args.self.now.calls).id.conn ≡ c.args.self.now.number = c.held_law.ensures.own c.args.index no_call c.requires.there in
    settles_with c.args.index c.args.branch c.args.outcome c.args.self.now c.take_at.new.self c.args.shared.now c.take_at.new.shared c.requires.there own c.requires.may.tied c.in-Some.decided t
    (record c.take_at.new.shared { contexts = c.reply_to.new.contexts }) c.fill.new.self refl refl refl refl
    (c.in_ok-reply.ensures.gone ∙ ap (λ d. without d c.take_at.new.shared.contexts.standing) id_is) c.reply_to.ensures.stocks
    (c.fill.ensures ∙ ap (λ (r : ReplyValue). replied r.id.request (Some r.entry) c.take_at.new.self) c.in_ok-reply.ensures.reply
    ∙ ap (λ (d : CallId). replied d.request (Some (Calling c.in-Some.decided)) c.take_at.new.self) id_is)

pub returns-in_err-reply-clause-ok : goal.returns-in_err-reply-clause-ok
returns-in_err-reply-clause-ok g c = none_on _ _ c.from_residual-in_err-reply.result c.from_residual-in_err-reply.ensures.1

pub returns-in_err-taken-clause-ok : goal.returns-in_err-taken-clause-ok
returns-in_err-taken-clause-ok g c = none_on _ _ c.from_residual.result c.from_residual.ensures.1

pub returns-in_err-taken-clause-err : goal.returns-in_err-taken-clause-err
returns-in_err-taken-clause-err g c = err_if c.from_residual.result c.in_err-taken.ensures.err

pub take_at-requires-clause-may : goal.take_at-requires-clause-may
take_at-requires-clause-may g c = c.requires.may

pub take_at-requires-clause-out : goal.take_at-requires-clause-out
take_at-requires-clause-out g c = c.requires.out

pub take_at-requires-clause-there : goal.take_at-requires-clause-there
take_at-requires-clause-there g c = c.requires.there
