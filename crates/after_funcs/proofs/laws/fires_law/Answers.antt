use Rattle.after_funcs.proofs.Several.{after_fires}
use Rattle.after_funcs.proofs.laws.fires_law.Goals as goal

pub returns : goal.returns
returns g c = after_fires
