use Rattle.gateway_loop.proofs.Words.{◌∙◌, AskingState, asked_for, sym}
use Rattle.gateway_loop.proofs.CountLemmas.{first_is_shown, none_is_shown}
use Rattle.gateway_loop.proofs.event_loop.EventLoop.first_exchange.Goals as goal

pub returns-in_err-next-clause-none : goal.returns-in_err-next-clause-none
returns-in_err-next-clause-none g c =
    λ is. rw (← c.self.view_is) (none_is_shown (λ (x : AskingState). asked_for x) c.self.inside.asking.slots (sym c.iter.ensures.rest ∙ c.in_err-next.ensures.steps.0))

pub returns-clause-some : goal.returns-clause-some
returns-clause-some g c =
    rw (← c.self.view_is) (first_is_shown (λ (x : AskingState). asked_for x) c.self.inside.asking.slots _ _ (sym c.iter.ensures.rest ∙ c.in_ok-next.ensures.steps))
