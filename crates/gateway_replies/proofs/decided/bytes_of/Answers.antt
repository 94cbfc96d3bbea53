use Rattle.gateway_replies.proofs.Names.{◌≡◌, ◌∙◌, Some, None, append-nil, inl, inr, refl, subst, sym, KeepsOthers, CallsAtMost, LosesHook, called_on, ending_for, err_if}
use Rattle.gateway_replies.proofs.ContextLemmas.{without_others}
use Rattle.gateway_replies.proofs.HookLemmas.{bytes_told, gives_none, gives_told, ok_if}
use Rattle.gateway_replies.proofs.decided.bytes_of.Goals as goal

pub returns-in-Some-clause-others : goal.returns-in-Some-clause-others
returns-in-Some-clause-others g c =
    err_if c.end.result (subst (KeepsOthers c.args.id.now.conn c.args.contexts.now.standing) (sym c.end.ensures.gone) (without_others c.args.id.now c.args.contexts.now.standing))

pub returns-in-None-clause-others : goal.returns-in-None-clause-others
returns-in-None-clause-others g c =
    err_if c.joined.result (subst (KeepsOthers c.args.id.now.conn c.args.contexts.now.standing) (sym c.abandon.ensures.gone) (without_others c.args.id.now c.args.contexts.now.standing))

pub returns-in-Some-clause-hook : goal.returns-in-Some-clause-hook
returns-in-Some-clause-hook g c =
    let told : Some c.in-Some.ending ≡ ending_for c.args.call.now = sym c.in-Some.is ∙ c.in_ok-ending.ensures in
    ok_if c.end.result (subst (λ o. LosesHook c.args.id.now (called_on c.args.id.now o) c.args.contexts.now c.end.new.self) told c.end.ensures.hooks)

pub returns-in-Some-clause-called : goal.returns-in-Some-clause-called
returns-in-Some-clause-called g c =
    gives_told g.H.Hook.gives c.args.id.now (ending_for c.args.call.now) c.in-Some.ending c.end.result c.args.contexts.now (sym c.in-Some.is ∙ c.in_ok-ending.ensures) c.end.ensures.called

pub returns-in-Some-clause-once : goal.returns-in-Some-clause-once
returns-in-Some-clause-once g c =
    let told : Some c.in-Some.ending ≡ ending_for c.args.call.now = sym c.in-Some.is ∙ c.in_ok-ending.ensures in
    err_if c.end.result (subst (λ o. CallsAtMost (called_on c.args.id.now o) c.args.contexts.now.called c.end.new.self.called) told (inr c.end.ensures.hooks.called_are))

pub returns-in-None-clause-hook : goal.returns-in-None-clause-hook
returns-in-None-clause-hook g c =
    let told : None ≡ ending_for c.args.call.now = sym c.in-None.is ∙ c.in_ok-ending.ensures in
    ok_if c.joined.result (subst (λ o. LosesHook c.args.id.now (called_on c.args.id.now o) c.args.contexts.now c.abandon.new.self) told c.abandon.ensures.hooks)

pub returns-in-None-clause-called : goal.returns-in-None-clause-called
returns-in-None-clause-called g c =
    gives_none g.H.Hook.gives c.args.id.now (ending_for c.args.call.now) c.joined.result c.args.contexts.now (sym c.in-None.is ∙ c.in_ok-ending.ensures)

pub returns-in-None-clause-once : goal.returns-in-None-clause-once
returns-in-None-clause-once g c = err_if c.joined.result (inl (c.abandon.ensures.hooks.called_are ∙ append-nil c.args.contexts.now.called))

pub returns-in_err-ending-clause-others : goal.returns-in_err-ending-clause-others
returns-in_err-ending-clause-others g c = err_if c.from_residual.result (record { drained_is = refl; conns_are = refl; others_are = refl })

pub returns-in_err-ending-clause-once : goal.returns-in_err-ending-clause-once
returns-in_err-ending-clause-once g c = err_if c.from_residual.result (inl refl)

pub returns-in-Some-clause-bytes : goal.returns-in-Some-clause-bytes
returns-in-Some-clause-bytes g c = bytes_told c.args.call.now c.in-Some.ending c.end.result (sym c.in-Some.is ∙ c.in_ok-ending.ensures) c.end.ensures.duty

pub returns-in-None-clause-gone : goal.returns-in-None-clause-gone
returns-in-None-clause-gone g c = ok_if c.joined.result c.abandon.ensures.gone

pub returns-in-None-clause-stocks : goal.returns-in-None-clause-stocks
returns-in-None-clause-stocks g c = c.abandon.ensures.hooks.stocks_are

pub returns-in-Some-clause-gone : goal.returns-in-Some-clause-gone
returns-in-Some-clause-gone g c = ok_if c.end.result c.end.ensures.gone

pub returns-in-Some-clause-stocks : goal.returns-in-Some-clause-stocks
returns-in-Some-clause-stocks g c = c.end.ensures.hooks.stocks_are

pub returns-in_err-ending-clause-stocks : goal.returns-in_err-ending-clause-stocks
returns-in_err-ending-clause-stocks g c = refl
