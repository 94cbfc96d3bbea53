use Rattle.gateway_replies.proofs.Names.{◌≡◌, subst, GivesBytes, ending_for, err_if}
use Rattle.gateway_model.specs.declared.entry.ReplyEntry.{ReplyEntry}
use Rattle.gateway_theory.specs.Replies.{reply_with}
use Rattle.gateway_replies.proofs.decided.reply_to.Goals as goal

pub returns-in_err-bytes-clause-others : goal.returns-in_err-bytes-clause-others
returns-in_err-bytes-clause-others g c = err_if c.from_residual.result c.in_err-bytes.ensures.others

pub returns-in_err-bytes-clause-once : goal.returns-in_err-bytes-clause-once
returns-in_err-bytes-clause-once g c = err_if c.from_residual.result c.in_err-bytes.ensures.once

pub returns : goal.returns
returns g c =
    record {
      reply = subst (λ call. c.reply_of_call.result ≡ reply_with c.args.id (ReplyEntry.Call call)) c.hold_answers.ensures.call c.reply_of_call.ensures;
      gone = c.in_ok-bytes.ensures.gone;
      others = tt;
      stocks = c.bytes_of.ensures.stocks;
      hook = c.in_ok-bytes.ensures.hook;
      called = subst (λ bytes. GivesBytes g.H.Hook.gives c.args.id (ending_for c.args.call) bytes c.args.contexts.now) c.in_ok-bytes.ensures.bytes c.in_ok-bytes.ensures.called;
      once = tt;
    }
