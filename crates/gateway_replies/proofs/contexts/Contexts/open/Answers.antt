use Rattle.gateway_replies.proofs.Names.{◌∙◌, ◌++◌, ◌∷◌, [], arith, ap, refl, sym, arc_value, WithHooks, HookedContexts, peer_ties, names_in, is_peer}
use Rattle.gateway_replies.proofs.ContextLemmas.{opened_tied, opened_value}
use Rattle.gateway_replies.proofs.HookLemmas.{brings, no_stock_yet}
use Rattle.gateway_replies.proofs.PeerLemmas.{peer_in}
use Rattle.gateway_replies.proofs.contexts.Contexts.open.Goals as goal

pub invariant_of-self-2 : goal.invariant_of-self-2
invariant_of-self-2 g c =
    opened_tied c.self.inside.peers.items c.push_reserved.new.self.items c.self.inside.contexts.standing c.open.new.self.standing c.args.self.now.standing arc_value
    (record { number = c.args.number; ctx = c.in-Ok.ctx; stock = c.into_hooks-stock.result })
    (c.push_reserved.ensures.items ∙ ap (λ ps. ps ++ record { number = c.args.number; ctx = c.in-Ok.ctx; stock = c.into_hooks-stock.result } ∷ []) c.reserve.ensures.items)
    (ap (λ (v : WithHooks _ _ _). v.standing) c.in-Ok.ensures.stands) c.self.invariant c.in-Ok.ensures.fresh (ap (λ (u : HookedContexts _). u.standing) c.self.view_is) c.requires

pub returns-clause-ok : goal.returns-clause-ok
returns-clause-ok g c =
    opened_value c.self.inside.peers.items c.push_reserved.new.self.items c.self.inside.contexts.standing c.open.new.self.standing c.args.self.now.standing arc_value
    (record { number = c.args.number; ctx = c.in-Ok.ctx; stock = c.into_hooks-stock.result })
    (c.push_reserved.ensures.items ∙ ap (λ ps. ps ++ record { number = c.args.number; ctx = c.in-Ok.ctx; stock = c.into_hooks-stock.result } ∷ []) c.reserve.ensures.items)
    (ap (λ (v : WithHooks _ _ _). v.standing) c.in-Ok.ensures.stands) c.self.invariant (ap (λ (u : HookedContexts _). u.standing) c.self.view_is)

pub returns-clause-hooks : goal.returns-clause-hooks
returns-clause-hooks g c =
    brings c.args.self.now _ _ c.self.inside.peers.items c.push_reserved.new.self.items (record { number = c.args.number; ctx = c.in-Ok.ctx; stock = c.into_hooks-stock.result }) c.args.stock
    (names_in c.self.inside.contexts.standing.calls) (names_in c.open.new.self.standing.calls) c.self.inside.contexts.hooks c.open.new.self.hooks c.self.view_is
    (ap (λ (v : WithHooks _ _ _). names_in v.standing.calls) c.in-Ok.ensures.stands) (ap (λ (v : WithHooks _ _ _). v.hooks) c.in-Ok.ensures.stands)
    (c.push_reserved.ensures.items ∙ ap (λ ps. ps ++ record { number = c.args.number; ctx = c.in-Ok.ctx; stock = c.into_hooks-stock.result } ∷ []) c.reserve.ensures.items)
    c.into_hooks-stock.ensures.all c.into_hooks-stock.ensures.full
    (no_stock_yet c.args.number c.self.inside.peers.items (sym (peer_in c.args.number (peer_ties c.self.inside.peers.items) c.self.inside.contexts.standing.conns c.self.invariant.conns_are)
    ∙ ap (λ (u : HookedContexts _). is_peer c.args.number u.standing.conns) c.self.view_is ∙ c.requires c.args.number (omega arith)))

pub returns-then-is_err : goal.returns-then-is_err
returns-then-is_err g c = record { ok = tt; hooks = tt; back = refl; err = rw c.reserve.ensures.items c.self.view_is }

pub returns-in_default : goal.returns-in_default
returns-in_default g c = record { ok = tt; hooks = tt; back = refl; err = rw (c.reserve.ensures.items, c.in_default.ensures.unchanged) c.self.view_is }

pub invariant_of-self : goal.invariant_of-self
invariant_of-self g c = rw c.reserve.ensures.items c.self.invariant

pub invariant_of-self-in_default : goal.invariant_of-self-in_default
invariant_of-self-in_default g c = rw (c.reserve.ensures.items, c.in_default.ensures.unchanged) c.self.invariant
