-- Why no connection is opened.
use Rattle.std.specs.Prelude.{◌<◌, ◌≤◌, ◌^◌}
use Rattle.gateway_model.specs.Events.{most_open}
use Rattle.gateway_theory.specs.declared.fault.OpenError.{OpenError}
use Rattle.gateway_theory.specs.declared.fault.OpenError.TheVariants.{Exhausted, Full, Memory}
use Rattle.gateway_theory.specs.Gateway.{open_count}
use Rattle.gateway_theory.specs.Values.{GatewayValue}

-- the first that applies: as many are open as may be; as many were opened as may be; memory was refused
abbrev pub RefusesOpening : OpenError → GatewayValue → Type 0
RefusesOpening Full v = most_open ≤ open_count v
RefusesOpening Exhausted v = (open_count v < most_open) × (2 ^ 56 ≤ v.opened)
RefusesOpening Memory v = (open_count v < most_open) × (v.opened < 2 ^ 56)
