-- The contexts of one connection: of all of them its own, and what a step of it leaves.
use Rattle.std.specs.Prelude.{◌≡◌, ◌≤◌, ◌+◌, ◌==◌, ◌||◌, ℕ, Bool, false, if◌then◌else◌, not, List, [], ◌∷◌, filter, length, Some}
use Rattle.http_pieces.specs.Request.{most_requests}
use Rattle.gateway_theory.specs.Values.{HeldConnection}
use Rattle.gateway_replies.specs.Contexts.{ContextsValue, Ended, LifeValue, PeerValue, by_drain, contexts_value, ends_of, others, peer}
use Rattle.gateway_replies.specs.Hooks.{HookedContexts, stock_in}
use Rattle.gateway_connection.specs.Linked.{Over, linked_calls}

-- of these connections that of the number, and of these calls its own
abbrev pub own_peers : ℕ → List PeerValue → List PeerValue
own_peers c conns = filter (λ p. p.number == c) conns

abbrev pub own_calls : ℕ → List LifeValue → List LifeValue
own_calls c calls = filter (λ l. l.id.conn == c) calls

-- the contexts of the connection of that number
abbrev pub own_contexts : ℕ → ContextsValue → ContextsValue
own_contexts c v = contexts_value v.drained (own_peers c v.conns) (own_calls c v.calls)

-- the other connections
abbrev pub other_peers : ℕ → List PeerValue → List PeerValue
other_peers c conns = filter (λ p. not (p.number == c)) conns

-- nothing changes but what is the connection's own
pub record LeavesContexts (c : ℕ) (v w : ContextsValue) : Type 0 where
  pub drained_is : w.drained ≡ v.drained
  pub conns_are : other_peers c w.conns ≡ other_peers c v.conns
  pub calls_are : others c w.calls ≡ others c v.calls

module _ {H : Type 0} where
  -- and no hook of another connection that is not used is taken, though its stock may go
  pub record LeavesOthers (c : ℕ) (v w : HookedContexts H) : Type 0 where
    pub contexts : LeavesContexts c v.standing w.standing
    pub stocks : (d : ℕ) (stock : List H) → (d == c) ≡ false → stock_in d w.stocks ≡ Some stock → stock_in d v.stocks ≡ Some stock

-- ---- what a connection has

-- its context, unless it is closed or broken, which has ended by this, and those of its calls that can be decided
abbrev pub linked_conn : Ended → Bool → Over → HeldConnection → ContextsValue
linked_conn ended drained over k = contexts_value drained (if k.closed || k.broken then [] else peer k.number ended ∷ []) (linked_calls over k.calls)

module _ {H : Type 0} where
  -- what is a connection's own of all contexts is what it has: as long as it is open and not broken it has a hook for each request that may still
  -- come, and unless its peer hung up its context has ended only where all were drained
  pub record IsTied (over : Over) (k : HeldConnection) (c : HookedContexts H) : Type 0 where
    pub are : own_contexts k.number c.standing ≡ linked_conn (ends_of c.standing k.number) c.standing.drained over k
    pub only_by_drain : k.closed ≡ false → k.broken ≡ false → k.hung_up ≡ false → ends_of c.standing k.number ≡ by_drain c.standing.drained
    pub stocked : k.closed ≡ false → k.broken ≡ false → (stock : List H) → stock_in k.number c.stocks ≡ Some stock → most_requests ≤ length stock + (k.taken + length k.slots)
