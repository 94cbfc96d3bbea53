use Rattle.std.proofs.Common.{◌≡◌, length}
use Rattle.script_replay.proofs.plain_hook.stock.Given as goal

abbrev pub invariant-loop-hook : goal.invariant-loop-hook
invariant-loop-hook l = length l.hooks.items ≡ l._hook
