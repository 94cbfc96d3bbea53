use Rattle.std.proofs.Common.{◌∙◌, Some, ap, refl}
use Rattle.std.proofs.lemmas.Result.{IfOk-weaker}
use Rattle.access_log.specs.Closed.{closed_line}
use Rattle.access_log.proofs.closed.closed_line.Goals as goal

pub returns-clause-text : goal.returns-clause-text
unfolding closed_line
returns-clause-text c =
    IfOk-weaker c.object_text.result _ _
    (λ line said. rw (c.name.ensures) at said)
    c.object_text.ensures.text

pub returns-clause-reads_back : goal.returns-clause-reads_back
returns-clause-reads_back c =
    IfOk-weaker c.object_text.result _ _
    (λ line said. said refl ∙ ap Some (rw (c.name.ensures) refl))
    c.object_text.ensures.reads_back
