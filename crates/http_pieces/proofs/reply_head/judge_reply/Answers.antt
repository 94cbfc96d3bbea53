use Rattle.http_pieces.proofs.ReplyLemmas.{judged_reply}
use Rattle.http_pieces.proofs.reply_head.judge_reply.Goals as goal

pub returns : goal.returns
returns c =
    let read = c.in-Some.ensures.1 in
    judged_reply c.args.framing _ _ _ _ _ _ _ read.0 _ read.1 c.takes_chunks-in_chunks.ensures c.in-Ok.ensures (c.in_ok-content_type.ensures _ c.find_field.ensures) c.closes_after.ensures
