use Rattle.gateway_connection.specs.lemmas.Names.{ap, refl, arc_value, task_of, subst, sym, HasGone}
use Rattle.gateway_connection.proofs.GroupLemmas.{gone_more, ok_is}
use Rattle.gateway_connection.proofs.ResultLemmas.{none_ok}
use Rattle.gateway_connection.proofs.begin.give.Goals as goal

pub loop-index-preserved : goal.loop-index-preserved
loop-index-preserved c =
    gone_more c.args.id.now (arc_value c.args.asked.now) c.loop-index.index c.loop-index.group c.go.new.self c.loop-index.first.items c.keep.new.first.items
    (task_of c.args.id.now (arc_value c.in_ok-try_clone.field-0) c.loop-index.index) c.in-Ok.started c.loop-index.invariant
    (ap (λ x. task_of c.args.id.now x c.loop-index.index) c.in_ok-try_clone.ensures)
    (λ room. (ok_is _ _ _ _ refl refl (c.in-Ok.ensures.started room).0, (c.in-Ok.ensures.started room).1)) c.in-Ok.ensures.queued c.in_ok-keep.ensures

pub returns-in_err-try_clone : goal.returns-in_err-try_clone
returns-in_err-try_clone c = none_ok _ _ c.from_residual.result c.from_residual.ensures.1

pub returns-in_err-keep : goal.returns-in_err-keep
returns-in_err-keep c = none_ok _ _ c.from_residual-in_err-keep.result c.from_residual-in_err-keep.ensures.1

pub loop-index-init : goal.loop-index-init
loop-index-init c = subst (HasGone c.args.id.now (arc_value c.args.asked.now) 0 c.args.group.now) (sym c.new-first.ensures.items) c.requires
