-- What is kept of a connection beside its context, and the hooks of calls.
use Rattle.std.specs.Prelude.{◌≡◌, ◌==◌, ℕ, zero, suc, Bool, false, List, [], ◌∷◌, Option, None, Some, map, slice_index_or}
use Rattle.context_tree.specs.Context.{Id}
use Rattle.gateway_model.specs.declared.id.CallId.{CallId}
use Rattle.gateway_replies.specs.declared.contexts.peer.Peer.{Peer}
use Rattle.gateway_replies.specs.Contexts.{CallContext, Peers}
use Rattle.gateway_replies.specs.Hooks.{Hooks, KeepsStocks, Stocks, stock_of}

module _ {H : Type 0} where
  -- a connection's number, with its context
  abbrev pub peer_tie : Peer H → ℕ × Id
  peer_tie p = (p.number, p.ctx)

  abbrev pub peer_ties : List (Peer H) → Peers
  peer_ties peers = map peer_tie peers

  -- a connection's number, with the hooks that it has not used
  abbrev pub stock_tie : Peer H → ℕ × List H
  stock_tie p = (p.number, p.stock.items)

  abbrev pub stock_ties : List (Peer H) → Stocks H
  stock_ties peers = map stock_tie peers

  -- the first hook of the connection of that number is taken, or it has none
  abbrev pub Takes : ℕ → Option H → Stocks H → Stocks H → Type 0
  Takes number None v w = (stock_of number v ≡ []) × (w ≡ v)
  Takes number (Some hook) v w = (stock_of number v ≡ hook ∷ stock_of number w) × KeepsStocks number v w

  -- the calls' hooks
  abbrev pub hooks_of : List CallId → List (Id × H) → Hooks H
  hooks_of [] hs = []
  hooks_of (i ∷ is) [] = []
  hooks_of (i ∷ is) (h ∷ hs) = (i, h.1) ∷ hooks_of is hs

  -- each call has its hook, in their order
  abbrev pub AreHooked : {V : Type 0} → List (CallContext V) → List (Id × H) → Type 0
  AreHooked cs hs = map (λ h. h.0) hs ≡ map (λ c. c.id) cs

-- none of the first so many is of that number
abbrev pub AreOthers : {H : Type 0} → ℕ → ℕ → List (Peer H) → Type 0
AreOthers number zero ps = Unit {0}
AreOthers number (suc i) [] = Unit {0}
AreOthers number (suc i) (p ∷ ps) = ((p.number == number) ≡ false) × AreOthers number i ps

-- the connection at that place has that number
abbrev pub IsAt : {H : Type 0} → ℕ → ℕ → List (Peer H) → Type 0
IsAt number place ps = (d : _) → (slice_index_or ps place d).number ≡ number
