-- The operations that end contexts.
use Rattle.std.specs.Prelude.{ℕ, Option}
use Rattle.context_tree.specs.Context.{Id, TreeOp, Cancels, Advances}

-- a cancel of a context, for a cause if one is given, or a moment
pub data Ender (C : Type 0) : Type 0 where
  ByCancel : Id → Option C → Ender C
  ByMoment : ℕ → Ender C

module _ {C V : Type 0} where
  abbrev pub op_of : Ender C → TreeOp C V
  op_of (ByCancel target cause) = Cancels target cause
  op_of (ByMoment now) = Advances now
