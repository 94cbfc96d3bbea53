use Rattle.gateway_replies.proofs.Names.{◌∙◌, Some, ap, map, refl, sym, arc_value, same, Given, WithHooks, ends_call, expires_call, if_cancelled, HangUp, Drain, names_in, ConnContext, ctx_of, told, HookedContexts, peer_ties}
use Rattle.gateway_theory.specs.declared.trigger.Trigger.{Trigger}
use Rattle.gateway_replies.proofs.HookLemmas.{keeps}
use Rattle.gateway_replies.proofs.ContextLemmas.{known_conn}
use Rattle.gateway_replies.proofs.ToldLemmas.{conns_ended, drained_by, drained_stays, drained_value, hung_value, names_stay, reached_value, told_tied, untold_value}
use Rattle.gateway_replies.proofs.contexts.Contexts.tell.Goals as goal

pub cancel-requires : goal.cancel-requires
cancel-requires g c =
    known_conn (peer_ties c.self.inside.peers.items) c.self.inside.contexts.standing c.in-HungUp.number c.in-Some.conn c.self.invariant
    (ap (λ ps. ctx_of c.in-HungUp.number (peer_ties ps)) (sym c.deref.ensures.value) ∙ sym c.ctx_of.ensures ∙ c.in-Some.is)

pub invariant_of-self : goal.invariant_of-self
invariant_of-self g c =
    told_tied (peer_ties c.self.inside.peers.items) c.self.inside.contexts.standing c.expire.new.self.standing (expires_call c.in-Reached.moment) (λ d. (refl, refl))
    (drained_stays (peer_ties c.self.inside.peers.items) c.self.inside.contexts.standing c.expire.new.self.standing (ap (λ (v : WithHooks _ _ _). v.standing.drained) c.expire.ensures) c.self.invariant)
    (ap (λ (v : WithHooks _ _ _). v.standing.calls) c.expire.ensures) (ap (λ (v : WithHooks _ _ _). map (λ (d : ConnContext). d.id) v.standing.conns) c.expire.ensures) c.self.invariant

pub returns-in-Reached : goal.returns-in-Reached
returns-in-Reached g c =
    record {
      ended =
          reached_value arc_value (peer_ties c.self.inside.peers.items) c.self.inside.contexts.standing c.expire.new.self.standing c.args.self.now.standing c.in-Reached.moment
          (ap (λ (v : WithHooks _ _ _). v.standing) c.expire.ensures) c.self.invariant (ap (λ (u : HookedContexts _). u.standing) c.self.view_is)
          ∙ sym (ap (λ (k : Trigger). told k c.args.self.now.standing) c.in-Reached.is);
      hooks = keeps c.args.self.now _ _ c.self.inside.peers.items (names_in c.self.inside.contexts.standing.calls) (names_in c.expire.new.self.standing.calls) c.self.inside.contexts.hooks c.expire.new.self.hooks c.self.view_is
          (ap (λ (v : WithHooks _ _ _). names_in v.standing.calls) c.expire.ensures ∙ names_stay (expires_call c.in-Reached.moment) (λ d. (refl, refl)) c.self.inside.contexts.standing.calls) (ap (λ (v : WithHooks _ _ _). v.hooks) c.expire.ensures);
    }

pub invariant_of-self-in-Some : goal.invariant_of-self-in-Some
invariant_of-self-in-Some g c =
    told_tied (peer_ties c.self.inside.peers.items) c.self.inside.contexts.standing c.cancel.new.self.standing (λ d. ends_call (if_cancelled (same d.conn c.in-Some.conn) HangUp) d) (λ d. (refl, refl))
    (drained_stays (peer_ties c.self.inside.peers.items) c.self.inside.contexts.standing c.cancel.new.self.standing (ap (λ (v : WithHooks _ _ _). v.standing.drained) c.cancel.ensures) c.self.invariant)
    (ap (λ (v : WithHooks _ _ _). v.standing.calls) c.cancel.ensures) (conns_ended c.cancel.new.self.standing (λ d. if_cancelled (same d.id c.in-Some.conn) HangUp) c.self.inside.contexts.standing.conns (ap (λ (v : WithHooks _ _ _). v.standing.conns) c.cancel.ensures)) c.self.invariant

pub returns-in-Some : goal.returns-in-Some
returns-in-Some g c =
    record {
      ended =
          hung_value arc_value (peer_ties c.self.inside.peers.items) c.self.inside.contexts.standing c.cancel.new.self.standing c.args.self.now.standing c.in-HungUp.number c.in-Some.conn
          (ap (λ (v : WithHooks _ _ _). v.standing) c.cancel.ensures) c.self.invariant
          (ap (λ ps. ctx_of c.in-HungUp.number (peer_ties ps)) (sym c.deref.ensures.value) ∙ sym c.ctx_of.ensures ∙ c.in-Some.is) (ap (λ (u : HookedContexts _). u.standing) c.self.view_is)
          ∙ sym (ap (λ (k : Trigger). told k c.args.self.now.standing) c.in-HungUp.is);
      hooks = keeps c.args.self.now _ _ c.self.inside.peers.items (names_in c.self.inside.contexts.standing.calls) (names_in c.cancel.new.self.standing.calls) c.self.inside.contexts.hooks c.cancel.new.self.hooks c.self.view_is
          (ap (λ (v : WithHooks _ _ _). names_in v.standing.calls) c.cancel.ensures ∙ names_stay (λ d. ends_call (if_cancelled (same d.conn c.in-Some.conn) HangUp) d) (λ d. (refl, refl)) c.self.inside.contexts.standing.calls) (ap (λ (v : WithHooks _ _ _). v.hooks) c.cancel.ensures);
    }

pub invariant_of-self-in-Drained : goal.invariant_of-self-in-Drained
invariant_of-self-in-Drained g c =
    told_tied (peer_ties c.self.inside.peers.items) c.self.inside.contexts.standing c.drain.new.self.standing (λ d. ends_call (Some (Given Drain)) d) (λ d. (refl, refl))
    (drained_by (peer_ties c.self.inside.peers.items) c.self.inside.contexts.standing c.drain.new.self.standing (ap (λ (v : WithHooks _ _ _). v.standing) c.drain.ensures) c.self.invariant)
    (ap (λ (v : WithHooks _ _ _). v.standing.calls) c.drain.ensures) (conns_ended c.drain.new.self.standing (λ d. Some (Given Drain)) c.self.inside.contexts.standing.conns (ap (λ (v : WithHooks _ _ _). v.standing.conns) c.drain.ensures)) c.self.invariant

pub returns-in-Drained : goal.returns-in-Drained
returns-in-Drained g c =
    record {
      ended =
          drained_value arc_value (peer_ties c.self.inside.peers.items) c.self.inside.contexts.standing c.drain.new.self.standing c.args.self.now.standing
          (ap (λ (v : WithHooks _ _ _). v.standing) c.drain.ensures) c.self.invariant (ap (λ (u : HookedContexts _). u.standing) c.self.view_is)
          ∙ sym (ap (λ (k : Trigger). told k c.args.self.now.standing) c.in-Drained.is);
      hooks = keeps c.args.self.now _ _ c.self.inside.peers.items (names_in c.self.inside.contexts.standing.calls) (names_in c.drain.new.self.standing.calls) c.self.inside.contexts.hooks c.drain.new.self.hooks c.self.view_is
          (ap (λ (v : WithHooks _ _ _). names_in v.standing.calls) c.drain.ensures ∙ names_stay (λ d. ends_call (Some (Given Drain)) d) (λ d. (refl, refl)) c.self.inside.contexts.standing.calls) (ap (λ (v : WithHooks _ _ _). v.hooks) c.drain.ensures);
    }

pub returns-in_default : goal.returns-in_default
returns-in_default g c =
    record {
      ended =
          untold_value arc_value (peer_ties c.self.inside.peers.items) c.self.inside.contexts.standing c.args.self.now.standing c.in-HungUp.number c.self.invariant
          (ap (λ ps. ctx_of c.in-HungUp.number (peer_ties ps)) (sym c.deref.ensures.value) ∙ sym c.ctx_of.ensures ∙ c.in_default.is) (ap (λ (u : HookedContexts _). u.standing) c.self.view_is)
          ∙ sym (ap (λ (k : Trigger). told k c.args.self.now.standing) c.in-HungUp.is);
      hooks = record { stocks_are = refl; hooks_are = refl; called_are = refl };
    }
