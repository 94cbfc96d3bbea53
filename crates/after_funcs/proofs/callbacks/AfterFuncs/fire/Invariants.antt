use Rattle.std.proofs.Common.{◌≡◌}
use Rattle.after_funcs.proofs.Firing.{HasMoved}
use Rattle.after_funcs.proofs.callbacks.AfterFuncs.fire.Given as goal

abbrev pub invariant-loop : goal.invariant-loop
invariant-loop g l = record {
  moved : HasMoved l.ctx l.initial.self l.self l.counter;
  registered_stay : l.self.registered ≡ l.initial.self.registered;
}
