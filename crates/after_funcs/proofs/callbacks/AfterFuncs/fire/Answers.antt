use Rattle.std.proofs.Common.{rules}
use Rattle.after_funcs.proofs.Firing.{looked_at}
use Rattle.after_funcs.proofs.callbacks.AfterFuncs.fire.Goals.{then-eq, else-eq}
use Rattle.after_funcs.proofs.callbacks.AfterFuncs.fire.Goals as goal

pub loop-preserved : goal.loop-preserved
loop-preserved g c =
    elim c.if-eq.branch [
      | then-eq w ↦ record { moved = looked_at c.args.ctx c.args.self.now c.loop.self c.if-eq.self c.loop.counter c.in-Some.registration c.pop_front.new.self.items c.loop.invariant.moved (search rules) (search rules) (search rules) (search rules); registered_stay = search rules }
      | else-eq w ↦ record { moved = looked_at c.args.ctx c.args.self.now c.loop.self c.if-eq.self c.loop.counter c.in-Some.registration c.pop_front.new.self.items c.loop.invariant.moved (search rules) (search rules) (search rules) (search rules); registered_stay = search rules }
    ]
