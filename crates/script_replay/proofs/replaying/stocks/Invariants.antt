use Rattle.std.proofs.Common.{◌≡◌, length}
use Rattle.script_replay.proofs.replaying.stocks.Given as goal

abbrev pub invariant-loop-opening : goal.invariant-loop-opening
invariant-loop-opening l = length l.stocks.items ≡ l._opening
