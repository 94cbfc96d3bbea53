-- Streams that wait for their backends' ends.
use Rattle.std.specs.Prelude.{◌≡◌, ◌+◌, Bool, List, [], count_by, Result, IfOk}
use Rattle.loop_model.specs.Accounts.{NetworkValue}
use Rattle.loop_model.specs.Streams.{ClosedValue}

-- of those that waited some were closed, and the others wait still; nothing else was done
pub record ClosesFrom (a b : NetworkValue) (before after : List ClosedValue) : Type 0 where
  pub told : b.told ≡ a.told
  pub made : b.made ≡ a.made
  pub asked : b.asked ≡ a.asked
  pub each : (p : ClosedValue → Bool) → count_by p b.closed + count_by p after ≡ count_by p a.closed + count_by p before

abbrev pub IsNone : {E : Type 0} → Result (List ClosedValue) E → Type 0
IsNone result = IfOk result (λ waiting. waiting ≡ [])
