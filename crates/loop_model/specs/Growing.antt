-- What only grows: whoever was there is there with more, or has gone with more.
use Rattle.std.specs.Prelude.{◌≡◌, ◌⊎◌, ℕ, List, ◌∷◌, ◌++◌, Some}
use Rattle.std.specs.List.{Contains}
use Rattle.gateway_model.specs.Queue.{IsPrefixOf}
use Rattle.loop_model.specs.Clients.{ClientValue}
use Rattle.loop_model.specs.Explained.{LoopValue, at}
use Rattle.loop_model.specs.Histories.{GoesOn}
use Rattle.loop_model.specs.Streams.{ClosedValue}

-- the same client, from which more may have been read, to which more may have been written, and of which more may have been reported
pub record Grows (x y : ClientValue) : Type 0 where
  pub conn : y.conn ≡ x.conn
  pub given : IsPrefixOf x.given y.given
  pub got : IsPrefixOf x.got y.got
  pub reported : IsPrefixOf x.reported y.reported

-- the client is in that place, or has gone
abbrev pub Remains : LoopValue → ℕ → ClientValue → Type 0
Remains l i y = (at i l.clients ≡ Some y) ⊎ Contains l.gone y

-- The history goes on. Each client that was there is there with more, or has gone with more; who had gone stays so; moments, results and jobs
-- that had come stay.
pub record Continues (v w : LoopValue) : Type 0 where
  pub history : GoesOn v w
  pub plans : w.core.plans ≡ v.core.plans
  pub clients : (i : ℕ) (x : ClientValue) → at i v.clients ≡ Some x → (y : ClientValue) × Remains w i y × Grows x y
  pub gone : IsPrefixOf v.gone w.gone
  pub unserved : IsPrefixOf v.unserved w.unserved
  pub told : IsPrefixOf v.told w.told
  pub results : IsPrefixOf v.results w.results
  pub handed : IsPrefixOf v.handed w.handed

-- a moment was told, and then more
abbrev pub HasTicked : LoopValue → LoopValue → Type 0
HasTicked v w = (moment : ℕ) × (more : List ℕ) × (w.told ≡ v.told ++ moment ∷ more)
