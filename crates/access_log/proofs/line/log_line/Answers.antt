use Rattle.std.proofs.Common.{◌∙◌, Some, ap, refl}
use Rattle.std.proofs.lemmas.Result.{IfOk-weaker}
use Rattle.access_log.specs.Line.{log_line}
use Rattle.access_log.proofs.line.log_line.Goals as goal

pub returns-clause-text : goal.returns-clause-text
unfolding log_line
returns-clause-text c =
    IfOk-weaker c.object_text.result _ _
    (λ line said.
    rw (
      c.of_text.ensures,
      c.of_text-2.ensures,
      c.of_number.ensures,
      c.of_text-3.ensures,
      c.of_text-4.ensures,
      c.of_text-5.ensures,
      c.of_text-6.ensures,
      c.branch-entry.ensures,
      c.code_name.ensures,
      c.number.ensures,
      c.name.ensures,
      c.ended.ensures,
      c.taken.ensures,
      c.path.ensures,
      c.from.ensures,
      c.status.ensures,
      c.from-2.ensures,
    ) at said)
    c.object_text.ensures.text

pub returns-clause-reads_back : goal.returns-clause-reads_back
returns-clause-reads_back c =
    IfOk-weaker c.object_text.result _ _
    (λ line said. said refl ∙ ap Some
    (rw (
      c.of_text.ensures,
      c.of_text-2.ensures,
      c.of_number.ensures,
      c.of_text-3.ensures,
      c.of_text-4.ensures,
      c.of_text-5.ensures,
      c.of_text-6.ensures,
      c.branch-entry.ensures,
      c.code_name.ensures,
      c.number.ensures,
      c.name.ensures,
      c.ended.ensures,
      c.taken.ensures,
      c.path.ensures,
      c.from.ensures,
      c.status.ensures,
      c.from-2.ensures,
    ) refl))
    c.object_text.ensures.reads_back
