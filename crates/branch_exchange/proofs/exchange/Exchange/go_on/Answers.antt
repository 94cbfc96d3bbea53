use Rattle.branch_exchange.proofs.ExchangeLemmas.{lost_by}
use Rattle.branch_exchange.proofs.exchange.Exchange.go_on.Goals as goal

pub returns-clause-comes : goal.returns-clause-comes
returns-clause-comes c =
    rw (← c.self.view_is)
    (rw (c.loss_in.ensures, c.state-state.ensures) (λ framing bytes h. (lost_by framing c.self.inside.replies bytes h, λ none. h.unanswered)))
