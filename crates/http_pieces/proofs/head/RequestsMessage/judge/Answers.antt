use Rattle.std.proofs.Common.{subst}
use Rattle.http_pieces.specs.Layout.{ReadsHead}
use Rattle.http_pieces.proofs.LayoutLemmas.{judged_head, judged_refusal}
use Rattle.http_pieces.proofs.head.RequestsMessage.judge.Goals as goal
use Rattle.http_pieces.proofs.head.RequestsMessage.judge.Goals.{in-Err, in-Ok}

pub returns : goal.returns
returns c =
    let block = c.args.block.now in
    let read = subst (ReadsHead block) c.in-Some.is c.in_ok-head.ensures in
    elim c.match-body_length.branch [
      | in-Err w ↦ rw w.result-is (judged_refusal block c.in-Some.head read.0 _ read.1 (rw c.deref.ensures.value at w.in-Err.ensures))
      | in-Ok w ↦ rw w.result-is (judged_head block c.in-Some.head read.0 _ read.1 (rw c.deref.ensures.value at w.in-Ok.ensures))
    ]
