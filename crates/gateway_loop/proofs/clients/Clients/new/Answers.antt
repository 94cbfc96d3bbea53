use Rattle.gateway_loop.proofs.Words.{ap, map, refl}
use Rattle.loop_model.specs.Streams.{closed_turns}
use Rattle.gateway_loop.proofs.HistoryLemmas.{holds_new, serving_new}
use Rattle.gateway_loop.proofs.clients.Clients.new.Goals as goal

pub invariant_of-result : goal.invariant_of-result
invariant_of-result g c = serving_new _ (ap (map (λ x. x.0)) c.new-4.ensures) (λ u. holds_new u _ c.in_ok-with_capacity.ensures.empty (ap (map (λ x. x.0)) c.new-2.ensures) (ap (map (λ s. closed_turns (g.W.Wire.peer s.0) (g.W.Wire.turns s.0))) c.new-3.ensures) (ap (map (λ x. x.0)) c.new-4.ensures) (ap (map (λ r. (r.0.job, r.1))) c.new-5.ensures) (ap (map (λ j. j.0.job)) c.new-6.ensures) refl c.in_ok-new.ensures.stands)

pub returns-clause-serves : goal.returns-clause-serves
returns-clause-serves g c = λ u. holds_new u _ c.in_ok-with_capacity.ensures.empty (ap (map (λ x. x.0)) c.new-2.ensures) (ap (map (λ s. closed_turns (g.W.Wire.peer s.0) (g.W.Wire.turns s.0))) c.new-3.ensures) (ap (map (λ x. x.0)) c.new-4.ensures) (ap (map (λ r. (r.0.job, r.1))) c.new-5.ensures) (ap (map (λ j. j.0.job)) c.new-6.ensures) refl c.in_ok-new.ensures.stands
