use Rattle.http_pieces.specs.declared.framing.Framing.TheVariants as framing
use Rattle.http_pieces.specs.ReplyLayout.{chunked_of}
use Rattle.http_pieces.proofs.HeadedLemmas.{begun_looks}
use Rattle.http_pieces.proofs.reply_push.push_reply.Goals as goal

pub returns-in-Begun-clause-looks : goal.returns-in-Begun-clause-looks
returns-in-Begun-clause-looks c = λ text h.
    begun_looks c.push_chunks.result framing.Any (chunked_of c.in-Begun.head c.in-Begun.chunks) c.args.piece.now _ _ _ _ _ c.push_chunks.ensures.pushes text h
