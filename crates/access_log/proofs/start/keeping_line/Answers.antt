use Rattle.std.proofs.Common.{◌∙◌, Some, ap, refl}
use Rattle.std.proofs.lemmas.Result.{IfOk-weaker}
use Rattle.access_log.specs.Start.{start_line}
use Rattle.access_log.proofs.start.keeping_line.Goals as goal

pub returns-clause-text : goal.returns-clause-text
unfolding start_line
returns-clause-text c =
    IfOk-weaker c.object_text.result _ _
    (λ line said. rw c.requires (rw (c.of_text.ensures, c.from.ensures) at said))
    c.object_text.ensures.text

pub returns-clause-reads_back : goal.returns-clause-reads_back
returns-clause-reads_back c =
    IfOk-weaker c.object_text.result _ _
    (λ line said. said refl ∙ ap Some (rw (c.requires, c.of_text.ensures, c.from.ensures) refl))
    c.object_text.ensures.reads_back
