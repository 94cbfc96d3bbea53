use Rattle.std.proofs.Common.{refl}
use Rattle.std.proofs.lemmas.Result.{IfOk-weaker}
use Rattle.access_log.specs.Standing.{standing_document, standing_line}
use Rattle.access_log.proofs.LeafLemmas.{text_told}
use Rattle.access_log.proofs.standing.standing_line.Goals as goal

pub returns-clause-text : goal.returns-clause-text
unfolding standing_line
returns-clause-text c =
    IfOk-weaker c.object_text.result _ _
    (λ line said. text_told _ (standing_document c.args.time c.args.standing.now) _ said refl)
    c.object_text.ensures.text

pub returns-clause-reads_back : goal.returns-clause-reads_back
returns-clause-reads_back c =
    IfOk-weaker c.object_text.result _ _
    (λ line said. said refl)
    c.object_text.ensures.reads_back
