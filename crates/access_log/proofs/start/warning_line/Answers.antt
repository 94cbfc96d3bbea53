use Rattle.std.proofs.Common.{refl}
use Rattle.std.proofs.lemmas.Result.{IfOk-weaker}
use Rattle.access_log.specs.declared.start.Remark.TheVariants.{Warning}
use Rattle.access_log.specs.Start.{remark_document, remark_line}
use Rattle.access_log.proofs.LeafLemmas.{text_told}
use Rattle.access_log.proofs.start.warning_line.Goals as goal

pub returns-clause-text : goal.returns-clause-text
unfolding remark_line
returns-clause-text c =
    IfOk-weaker c.object_text.result _ _
    (λ line said. text_told _ (remark_document c.args.time Warning c.args.text.now) _ said refl)
    c.object_text.ensures.text

pub returns-clause-reads_back : goal.returns-clause-reads_back
returns-clause-reads_back c =
    IfOk-weaker c.object_text.result _ _
    (λ line said. said refl)
    c.object_text.ensures.reads_back
