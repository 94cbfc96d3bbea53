use Rattle.after_funcs.proofs.Once.{one_place}
use Rattle.after_funcs.proofs.laws.once_law.Goals as goal

pub returns : goal.returns
returns g c = one_place
