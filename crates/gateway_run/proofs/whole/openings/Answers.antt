use Rattle.std.proofs.Common.{arith}
use Rattle.gateway_run.proofs.whole.openings.Goals as goal

pub returns : goal.returns
returns c = search arith
