use Rattle.std.specs.Prelude.{◌==◌}
use Rattle.std.proofs.Common.{drop}
use Rattle.gateway_core.proofs.PieceParts.{all_rest, begins_within, begun, counts_then, empty_rest, fault_same, fault_tells, fed_fault, fed_on, fed_whole, from_err, listening_ok, keeps_then, whole_tells}
use Rattle.gateway_model.specs.declared.event.Event.TheVariants.{Piece}
use Rattle.gateway_theory.specs.lemmas.Laws.{served_event}
use Rattle.gateway_theory.specs.declared.fault.StepFault.TheVariants.{Exhausted}
use Rattle.gateway_core.proofs.delivery.deliver.Goals as goal

pub loop-taken-init : goal.loop-taken-init
loop-taken-init g c = begun c.parts_law.ensures.begins c.args.conn c.args.piece.now c.args.core.now

pub returns-in_err-taken-clause-adds : goal.returns-in_err-taken-clause-adds
returns-in_err-taken-clause-adds g c =
    fed_fault c.args.conn c.args.piece.now c.loop-taken.rest.now c.args.core.now c.loop-taken.core c.feed.new.self c.loop-taken.invariant c.in_err-taken.ensures.stands c.feed.ensures.keeps c.feed.ensures.counts

pub returns-in_err-taken-clause-stands : goal.returns-in_err-taken-clause-stands
returns-in_err-taken-clause-stands g c = λ history h. let a = returns-in_err-taken-clause-adds g c history in served_event (Piece c.args.conn c.args.piece.now) history c.args.core.now c.feed.new.self a.plans_are a h

pub returns-then-is_empty-clause-adds : goal.returns-then-is_empty-clause-adds
returns-then-is_empty-clause-adds g c =
    fed_whole c.args.conn c.args.piece.now (drop c.in_ok-taken.taken c.loop-taken.rest.now) c.args.core.now c.feed.new.self
    (fed_on c.args.conn c.in_ok-taken.taken c.args.piece.now c.loop-taken.rest.now c.args.core.now c.loop-taken.core c.feed.new.self c.loop-taken.invariant c.in_ok-taken.ensures.stands c.feed.ensures.keeps c.feed.ensures.counts
    (listening_ok c.args.conn c.loop-taken.core c.feed.result c.in_ok-taken.taken c.in_ok-taken.was c.feed.ensures.tells.gone) c.in_ok-taken.ensures.listens)
    (empty_rest c.in_ok-taken.taken c.loop-taken.rest.now c.if-is_empty.ensures)

pub returns-then-is_empty-clause-stands : goal.returns-then-is_empty-clause-stands
returns-then-is_empty-clause-stands g c = λ history h. let a = returns-then-is_empty-clause-adds g c history in served_event (Piece c.args.conn c.args.piece.now) history c.args.core.now c.feed.new.self a.plans_are a h

pub loop-taken-preserved : goal.loop-taken-preserved
loop-taken-preserved g c =
    rw (all_rest c.in_ok-taken.taken c.loop-taken.rest.now)
    (fed_on c.args.conn c.in_ok-taken.taken c.args.piece.now c.loop-taken.rest.now c.args.core.now c.loop-taken.core c.feed.new.self c.loop-taken.invariant c.in_ok-taken.ensures.stands c.feed.ensures.keeps c.feed.ensures.counts
    (listening_ok c.args.conn c.loop-taken.core c.feed.result c.in_ok-taken.taken c.in_ok-taken.was c.feed.ensures.tells.gone) c.in_ok-taken.ensures.listens)

pub returns-in_err-taken-clause-tells : goal.returns-in_err-taken-clause-tells
returns-in_err-taken-clause-tells g c =
    fault_tells c.args.conn c.args.core.now c.loop-taken.core c.feed.new.self c.feed.result c.from_residual.result c.in_err-taken.field-0.0 c.loop-taken.invariant.listening c.in_err-taken.was
    (from_err c.from_residual.result c.in_err-taken.field-0.0 c.from_residual.ensures.0 c.from_residual.ensures.1) c.feed.ensures.tells

pub returns-in_err-taken-clause-begins : goal.returns-in_err-taken-clause-begins
returns-in_err-taken-clause-begins g c = λ e.
    begins_within c.args.conn c.args.piece.now c.loop-taken.rest.now c.args.core.now c.loop-taken.core c.loop-taken.invariant
    (c.feed.ensures.begins (fault_same c.feed.result c.from_residual.result c.in_err-taken.field-0.0 Exhausted c.in_err-taken.was
    (from_err c.from_residual.result c.in_err-taken.field-0.0 c.from_residual.ensures.0 c.from_residual.ensures.1) e))

pub returns-then-is_empty-clause-tells : goal.returns-then-is_empty-clause-tells
returns-then-is_empty-clause-tells g c =
    whole_tells c.args.conn c.in_ok-taken.taken c.args.core.now c.loop-taken.core c.feed.new.self c.feed.result _ c.loop-taken.invariant.listening c.in_ok-taken.was c.feed.ensures.tells

pub returns-in_err-taken-clause-counts : goal.returns-in_err-taken-clause-counts
returns-in_err-taken-clause-counts g c = counts_then c.args.core.now c.loop-taken.core c.feed.new.self c.loop-taken.invariant.counts c.feed.ensures.counts

pub returns-then-is_empty-clause-counts : goal.returns-then-is_empty-clause-counts
returns-then-is_empty-clause-counts g c = counts_then c.args.core.now c.loop-taken.core c.feed.new.self c.loop-taken.invariant.counts c.feed.ensures.counts

pub returns-in_err-taken-clause-keeps : goal.returns-in_err-taken-clause-keeps
returns-in_err-taken-clause-keeps g c = keeps_then (λ n. n == c.args.conn) c.args.core.now c.loop-taken.core c.feed.new.self c.loop-taken.invariant.keeps c.feed.ensures.keeps
    (counts_then c.args.core.now c.loop-taken.core c.feed.new.self c.loop-taken.invariant.counts c.feed.ensures.counts)

pub returns-then-is_empty-clause-keeps : goal.returns-then-is_empty-clause-keeps
returns-then-is_empty-clause-keeps g c = keeps_then (λ n. n == c.args.conn) c.args.core.now c.loop-taken.core c.feed.new.self c.loop-taken.invariant.keeps c.feed.ensures.keeps
    (counts_then c.args.core.now c.loop-taken.core c.feed.new.self c.loop-taken.invariant.counts c.feed.ensures.counts)
