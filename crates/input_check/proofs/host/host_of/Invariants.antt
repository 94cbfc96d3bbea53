use Rattle.std.proofs.Common.{◌≡◌, ◌≤◌, None, drop, length}
use Rattle.input_check.specs.Host.{host_of}
use Rattle.input_check.proofs.host.host_of.Given as goal

-- no colon stands from there on
abbrev pub invariant-loop-end : goal.invariant-loop-end
invariant-loop-end l = (l.end ≤ length l.address) × (host_of (drop l.end l.address) ≡ None)

abbrev pub decreases-loop-end : goal.decreases-loop-end
decreases-loop-end l = l.end
