use Rattle.gateway_run.proofs.Names.{[], refl, log_value}
use Rattle.gateway_run.proofs.Finally.{run_first}
use Rattle.gateway_run.proofs.whole.whole_run.Goals as goal

pub returns : goal.returns
returns g c = rw (← c.in_ok-core.ensures.plans) (c.run_of.ensures
    (run_first c.in_ok-core.core (log_value [] [] [] [] []) c.in_ok-core.ensures.stands c.in_ok-core.ensures.lives refl))
