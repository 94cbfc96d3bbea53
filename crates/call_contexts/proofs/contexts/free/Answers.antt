use Rattle.call_contexts.proofs.Trees.{freed}
use Rattle.call_contexts.proofs.contexts.free.Goals as goal

pub returns : goal.returns
returns g c = λ past st free.
    freed c.args.ctx past c.release.new.self c.release.result (c.release.ensures.unknown past st) (λ h. c.release.ensures.has_children h past st) (λ y. c.release.ensures.gone y past st) free
