use Rattle.std.proofs.Common.{refl, sym, ap, subst, ◌∙◌, ◌++◌, take}
use Rattle.std.proofs.Math.Seq.{take-length}
use Rattle.http_pieces.specs.Cut.{Refused}
use Rattle.http_pieces.specs.Chunks.{DecodesTo, cut_on, cut_with}
use Rattle.http_pieces.specs.ReplyHead.{chunk_fault}
use Rattle.http_pieces.specs.ReplyReader.{chunked_on}
use Rattle.http_pieces.specs.ReplyLayout.{chunked_of, reply_from}
use Rattle.http_pieces.proofs.HeadedLemmas.{faulty_chunks}
use Rattle.http_pieces.proofs.decoding.decode.Goals as goal

pub returns-in-Fault-clause-grows : goal.returns-in-Fault-clause-grows
returns-in-Fault-clause-grows c =
    let bytes = c.args.bytes.now in
    let chunks = c.args.chunks in
    let on = chunked_on (chunked_of c.args.head chunks) in
    let now = c.push-taken.new.self in
    let decodes = subst (DecodesTo (cut_on chunks.body.items chunks.whole chunks.place) (take c.push-taken.result.0 bytes) now.body.items now.whole now.place) c.in-Fault.is c.push-taken.ensures.decodes in (
      refl,
      λ more. ap (λ t. on (t ++ more)) (take-length bytes)
          ∙ faulty_chunks on bytes c.push-taken.result.0 c.chunk_fault.result
          (λ rest. ap (cut_with (chunk_fault c.args.head.status) (reply_from c.args.head)) (decodes rest) ∙ ap Refused (sym c.chunk_fault.ensures)) more,
    )
