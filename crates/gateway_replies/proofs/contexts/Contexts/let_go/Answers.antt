use Rattle.gateway_replies.proofs.Names.{◌∙◌, ap, subst, sym, arc_value, WithHooks, names_in, ContextsValue, ctx_of, first_life, HookedContexts, peer_ties}
use Rattle.gateway_replies.proofs.ContextLemmas.{closed_stay, first_in, known_conn, none_of_it, not_known, peer_gone, peer_gone_value}
use Rattle.gateway_replies.proofs.HookLemmas.{drops_its, drops_nothing}
use Rattle.gateway_replies.specs.Hooks.{DropsHooks}
use Rattle.gateway_replies.proofs.contexts.Contexts.let_go.Goals as goal

pub returns-in_default : goal.returns-in_default
returns-in_default g c = rw c.in_default.ensures.same
    (record {
      closed =
          ap (λ (u : HookedContexts _). u.standing) c.self.view_is ∙ closed_stay c.args.number c.args.self.now.standing (not_known c.args.number c.args.self.now.standing (peer_ties c.self.inside.peers.items) c.self.inside.contexts.standing.conns (ap (λ (v : ContextsValue). v.conns) (ap (λ (u : HookedContexts _). u.standing) c.self.view_is))
          (sym c.remove_peer.ensures.ctx ∙ c.in_default.is)) c.requires;
      hooks = subst (λ (v : HookedContexts _). DropsHooks c.args.number c.args.self.now v) (sym c.self.view_is) (drops_nothing c.args.self.now _ c.self.inside.peers.items c.self.inside.contexts.standing.calls c.self.inside.contexts.hooks c.args.number c.self.view_is
          (sym c.remove_peer.ensures.ctx ∙ c.in_default.is)
          (sym (first_in arc_value c.self.inside.contexts.standing.calls c.args.number)
          ∙ ap (λ (v : ContextsValue). first_life c.args.number v.calls) (ap (λ (u : HookedContexts _). u.standing) c.self.view_is) ∙ c.requires));
    })

pub invariant_of-self : goal.invariant_of-self
invariant_of-self g c = rw c.in_default.ensures.same c.self.invariant

pub close-requires-clause-known : goal.close-requires-clause-known
close-requires-clause-known g c =
    known_conn (peer_ties c.self.inside.peers.items) c.self.inside.contexts.standing c.args.number c.in-Some.conn c.self.invariant
    (sym c.remove_peer.ensures.ctx ∙ c.in-Some.is)

pub close-requires-clause-none : goal.close-requires-clause-none
close-requires-clause-none g c =
    none_of_it (peer_ties c.self.inside.peers.items) c.self.inside.contexts.standing.calls c.args.number c.in-Some.conn c.self.invariant.calls_are
    (sym (first_in arc_value c.self.inside.contexts.standing.calls c.args.number)
    ∙ ap (λ (v : ContextsValue). first_life c.args.number v.calls) (ap (λ (u : HookedContexts _). u.standing) c.self.view_is) ∙ c.requires)
    c.self.invariant.contexts_apart (sym c.remove_peer.ensures.ctx ∙ c.in-Some.is)

pub invariant_of-self-2 : goal.invariant_of-self-2
invariant_of-self-2 g c =
    peer_gone c.self.inside.peers.items c.remove_peer.new.peers.items c.self.inside.contexts.standing c.close.new.self.standing c.args.number c.in-Some.conn
    c.in-Some.ensures.left (ap (λ (v : WithHooks _ _ _). v.standing) c.close.ensures) c.self.invariant
    (sym c.remove_peer.ensures.ctx ∙ c.in-Some.is)
    (sym (first_in arc_value c.self.inside.contexts.standing.calls c.args.number)
    ∙ ap (λ (v : ContextsValue). first_life c.args.number v.calls) (ap (λ (u : HookedContexts _). u.standing) c.self.view_is) ∙ c.requires)

pub returns : goal.returns
returns g c =
    record {
      closed =
          peer_gone_value arc_value c.self.inside.peers.items c.remove_peer.new.peers.items c.self.inside.contexts.standing c.close.new.self.standing c.args.self.now.standing
          c.args.number c.in-Some.conn c.in-Some.ensures.left (ap (λ (v : WithHooks _ _ _). v.standing) c.close.ensures) c.self.invariant
          (sym c.remove_peer.ensures.ctx ∙ c.in-Some.is) (ap (λ (u : HookedContexts _). u.standing) c.self.view_is) c.requires;
      hooks = drops_its c.args.self.now _ _ c.self.inside.peers.items c.remove_peer.new.peers.items c.self.inside.contexts.standing.calls (names_in c.close.new.self.standing.calls) c.self.inside.contexts.hooks c.close.new.self.hooks c.args.number c.self.view_is
          c.in-Some.ensures.left (ap (λ (v : WithHooks _ _ _). names_in v.standing.calls) c.close.ensures) (ap (λ (v : WithHooks _ _ _). v.hooks) c.close.ensures)
          (sym (first_in arc_value c.self.inside.contexts.standing.calls c.args.number)
          ∙ ap (λ (v : ContextsValue). first_life c.args.number v.calls) (ap (λ (u : HookedContexts _). u.standing) c.self.view_is) ∙ c.requires);
    }
