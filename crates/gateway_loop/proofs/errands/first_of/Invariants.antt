use Rattle.gateway_loop.proofs.Words.{◌≡◌, take}
use Rattle.gateway_loop.proofs.errands.first_of.Given as goal

-- so many were copied
abbrev pub invariant-loop-address : goal.invariant-loop-address
invariant-loop-address l = l.first.items ≡ take l.address-index l.some
