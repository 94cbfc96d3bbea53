use Rattle.gateway_loop.proofs.Words.{◌∙◌, ℕ, Option, subst, sym}
use Rattle.loop_model.specs.Rest.{RestsTill}
use Rattle.gateway_loop.proofs.RestLemmas.{due_at, due_never}
use Rattle.gateway_loop.proofs.event_loop.EventLoop.look.Goals as goal

pub returns-clause-till : goal.returns-clause-till
returns-clause-till g c =
    (λ moment is. subst (λ (u : Option ℕ). RestsTill u c.args.self.now) (due_at c.next_until-until.result c.moment.result moment (sym c.by.ensures ∙ is)) (c.rest.ensures c.if-not-rest.false))

pub returns-clause-for_now : goal.returns-clause-for_now
returns-clause-for_now g c =
    (λ is. subst (λ (u : Option ℕ). RestsTill u c.args.self.now) (due_never c.next_until-until.result c.moment.result (sym c.by.ensures ∙ is)) (c.rest.ensures c.if-not-rest.false))
