use Rattle.std.proofs.Common.{◌∙◌, ap, arith}
use Rattle.std.specs.Result.{is_ok}
use Rattle.context_tree.specs.Queue.{QueueValue}
use Rattle.context_tree.proofs.Places.{queue_same, resized}
use Rattle.context_tree.proofs.queue.Queue.reserve.Goals as goal

pub invariant_of-self : goal.invariant_of-self
invariant_of-self c =
    let more = c.if-slots-len.false in
    let len = c.len.ensures in
    let long = c.self.inside.places.ok.0 in
    (queue_same c.self.inside.places.items c.resize.new.self.items c.self.inside.first c.self.inside.last
    (resized c.self.inside.places.items c.resize.new.self.items c.args.slots c.self.inside.places.len (is_ok c.resize.result) (omega (arith, more, len, long)) (omega (arith, long)) c.resize.ensures.items) c.self.invariant).0

pub returns-clause-items : goal.returns-clause-items
returns-clause-items c =
    let more = c.if-slots-len.false in
    let len = c.len.ensures in
    let long = c.self.inside.places.ok.0 in
    (queue_same c.self.inside.places.items c.resize.new.self.items c.self.inside.first c.self.inside.last
    (resized c.self.inside.places.items c.resize.new.self.items c.args.slots c.self.inside.places.len (is_ok c.resize.result) (omega (arith, more, len, long)) (omega (arith, long)) c.resize.ensures.items) c.self.invariant).1
    ∙ ap (λ (v : QueueValue). v.items) c.self.view_is
