use Rattle.gateway_replies.proofs.Names.{ap, ◌∙◌, ◌==◌, filter, not, closed}
use Rattle.gateway_replies.proofs.ContextLemmas.{closed_both}
use Rattle.gateway_replies.proofs.contexts.Contexts.close.Goals as goal

pub returns : goal.returns
returns g c =
    record {
      closed = c.let_go.ensures.closed ∙ ap (closed c.args.number) c.abandon_all.ensures.gone ∙ closed_both c.args.number c.args.self.now.standing;
      hooks = record {
        stocks_are = c.let_go.ensures.hooks.stocks_are ∙ ap (filter (λ s. not (s.0 == c.args.number))) c.abandon_all.ensures.stocks;
        hooks_are = c.let_go.ensures.hooks.hooks_are ∙ c.abandon_all.ensures.hooks;
        called_are = c.let_go.ensures.hooks.called_are ∙ c.abandon_all.ensures.called;
      };
    }
