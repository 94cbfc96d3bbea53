use Rattle.std.proofs.Common.{ap}
use Rattle.std.specs.Prelude.{is_some}
use Rattle.context_tree.proofs.Whole.{live_told}
use Rattle.context_tree.proofs.laws.live_law.Goals as goal

pub returns : goal.returns
returns g c = λ t past x kind s is. live_told t past x s.contexts (ap is_some is)
