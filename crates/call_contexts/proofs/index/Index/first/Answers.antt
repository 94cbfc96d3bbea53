use Rattle.call_contexts.proofs.Indexing.{none_from, none_of_number}
use Rattle.call_contexts.proofs.index.Index.first.Goals as goal

pub returns-in_err-key-clause-none : goal.returns-in_err-key-clause-none
returns-in_err-key-clause-none c = rw (c.from_residual.ensures, ← c.self.view_is) (none_from c.args.number c.self.inside.map c.range.result (c.range.ensures.in_range tt) c.in_err-key.ensures.steps.0)

pub returns-else-key-number-clause-none : goal.returns-else-key-number-clause-none
returns-else-key-number-clause-none c =
    rw (← c.self.view_is) (none_of_number c.args.number c.self.inside.map c.range.result (c.range.ensures.in_range tt) c.in_ok-key.key.now c.in_ok-key.field-0-1.now c.next.new.self c.in_ok-key.ensures.steps c.if-key-number.false)

pub returns-in_err-key-clause-its : goal.returns-in_err-key-clause-its
returns-in_err-key-clause-its c = rw c.from_residual.ensures tt

pub returns-else-key-number-clause-its : goal.returns-else-key-number-clause-its
returns-else-key-number-clause-its c = tt

pub returns-then-key-number-clause-none : goal.returns-then-key-number-clause-none
returns-then-key-number-clause-none c = tt
