use Rattle.std.proofs.Common.{◌≡◌, None, drop}
use Rattle.input_check.specs.Host.{goes_on_as_ipv4}
use Rattle.input_check.proofs.host.is_ipv4.Given as goal

-- what was passed may be the front of one, so the rest decides
abbrev pub invariant-loop-byte : goal.invariant-loop-byte
invariant-loop-byte l = goes_on_as_ipv4 3 None l.host ≡ goes_on_as_ipv4 l.dots l.octet (drop l.byte-index l.host)
