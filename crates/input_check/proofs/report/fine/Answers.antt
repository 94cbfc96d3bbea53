use Rattle.std.proofs.Common.{sym, ◌∙◌}
use Rattle.input_check.proofs.WarnedLemmas.{warns}
use Rattle.input_check.proofs.report.fine.Goals as goal

pub returns-clause-warned : goal.returns-clause-warned
returns-clause-warned c = λ some.
    warns _ c.in_ok-text-3.field-0.now _ c.in_ok-push_str-2.ensures.bytes c.in_ok-text-3.ensures.warnings
    (λ none. some (sym c.in_ok-text-3.ensures.text ∙ none))
