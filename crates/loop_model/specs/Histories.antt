-- How the history goes on that explains a loop.
use Rattle.std.specs.Prelude.{◌≡◌, ℕ, ◌<◌, ◌≤◌, All, List, ◌++◌, length}
use Rattle.connect_codec.specs.declared.answer.Outcome.{Outcome}
use Rattle.gateway_model.specs.Events.{Before, Occurs, succeeds}
use Rattle.gateway_model.specs.History.{History}
use Rattle.gateway_model.specs.Queue.{IsPrefixOf}
use Rattle.gateway_model.specs.Starts.{Placed}
use Rattle.gateway_theory.specs.Served.{Lives}
use Rattle.gateway_theory.specs.Values.{GatewayValue}
use Rattle.loop_model.specs.Explained.{LoopValue, Explains}
use Rattle.loop_model.specs.Holding.{Holds}

-- More events came behind those that had come, of which nothing is told anew: the openings succeeded that had, and what was taken of each
-- connection, and of the jobs, only grew.
pub record Extends (h k : History) : Type 0 where
  pub later : Before
  pub events_are : k.events ≡ later ++ h.events
  pub openings : (place : ℕ) → place < length h.events → succeeds k.opened place ≡ succeeds h.opened place
  pub taken : (c : ℕ) → IsPrefixOf (h.taken c) (k.taken c)
  pub handed : IsPrefixOf h.handed k.handed

-- All that was lived by the one history stays, breaks of connections among it. What was lived more stands at its head, all of it at events that
-- came later. So no connection breaks by an event that was told without it, and none that broke is whole again.
pub record LivesMore (h : History) (w : GatewayValue) (k : History) (lived : List Placed) : Type 0 where
  pub later : List Placed
  pub since : All (λ (o : Placed). length h.events ≤ o.0) later
  pub lives : Lives w k (later ++ lived)

-- whatever occurred by the later history, and whatever was lived by the one before it
abbrev pub LivesOn : GatewayValue → History → GatewayValue → History → Type 0
LivesOn v h w k =
    (occurred : List Placed) → Occurs w.plans k.opened k.events occurred
    → (lived : List Placed) → Lives v h lived → LivesMore h w k lived

-- whichever history holds of the one, one that extends it holds of the other, and what was lived stays
abbrev pub GoesOn : LoopValue → LoopValue → Type 0
GoesOn v w =
    (unknown : Outcome) (h : History) → Holds unknown h v
    → (k : History) × Holds unknown k w × Extends h k × LivesOn v.core h w.core k

-- Some history holds, and each that does explains the loop, if this is what those branches ended with for whose outcome there was no memory,
-- whatever that was.
pub record IsExplained (l : LoopValue) : Type 0 where
  pub holds : (unknown : Outcome) → (h : History) × Holds unknown h l
  pub explains : (unknown : Outcome) (h : History) → Holds unknown h l → Explains unknown h l
