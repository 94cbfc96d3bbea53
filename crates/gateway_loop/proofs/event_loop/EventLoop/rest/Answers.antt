use Rattle.gateway_loop.proofs.Words.{◌∙◌, ℕ, Option, GatewayValue, ap, shown, subst, sym}
use Rattle.loop_model.specs.Rest.{AtMost}
use Rattle.gateway_loop.proofs.RestLemmas.{at_most}
use Rattle.gateway_loop.proofs.event_loop.EventLoop.rest.Goals as goal

pub returns : goal.returns
returns g c =
    let deadline = c.next_deadline.ensures.least ∙ ap (λ (v : GatewayValue). (shown v).deadline) c.core.ensures in
    λ yes. record {
      clients = rw (← c.self.view_is) (c.all_rest.ensures c.if-not-all_rest.false);
      asking = c.all_exchanges_rest.ensures.rests yes;
      named = c.all_exchanges_rest.ensures.named yes;
      kept = c.all_kept_rest.ensures c.if-not-all_kept_rest.false;
      jobs = c.may_begin.ensures c.if-may_begin.false;
      deadline = rw (← c.self.view_is) (subst (λ (d : Option ℕ). AtMost c.args.until d) deadline (at_most c.args.until c.next_deadline.result (sym c.is_not_after.ensures ∙ c.if-not-is_not_after.false)));
    }
