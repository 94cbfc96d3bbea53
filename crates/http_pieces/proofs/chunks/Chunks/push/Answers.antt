use Rattle.std.proofs.Common.{take, drop, sym, subst, arith}
use Rattle.std.proofs.lemmas.List.{take_rest}
use Rattle.std.proofs.Math.Seq.{take-add}
use Rattle.std.proofs.lemmas.List.{length-drop}
use Rattle.http_pieces.specs.Chunks.{cut_on, DecodesTo}
use Rattle.http_pieces.specs.declared.chunk_parts.Decoded.TheVariants as decoded
use Rattle.http_pieces.proofs.DecodeLemmas.{decodes_on}
use Rattle.http_pieces.proofs.chunks.Chunks.push.Goals as goal

pub loop-taken-preserved : goal.loop-taken-preserved
loop-taken-preserved c =
    let bytes = c.args.bytes.now in
    let first = c.args.self.now in
    let was = c.loop-taken.self in
    let now = c.take_part-count.new.self in
    let part = rw (take_rest bytes c.loop-taken.taken) at c.take_part-count.ensures in
    record {
      within = omega (arith, part.within, length-drop c.loop-taken.taken bytes);
      room = omega (arith, part.room, part.within, length-drop c.loop-taken.taken bytes);
      decodes =
          subst (λ t. DecodesTo (cut_on first.body.items first.whole first.place) t now.body.items now.whole now.place decoded.More)
          (sym (take-add c.loop-taken.taken c.take_part-count.result.0 bytes))
          (decodes_on (cut_on first.body.items first.whole first.place) (cut_on was.body.items was.whole was.place) (take c.loop-taken.taken bytes)
          (take c.take_part-count.result.0 (drop c.loop-taken.taken bytes)) now.body.items now.whole now.place decoded.More c.loop-taken.invariant.decodes.2
          (subst (DecodesTo (cut_on was.body.items was.whole was.place) (take c.take_part-count.result.0 (drop c.loop-taken.taken bytes)) now.body.items now.whole now.place)
          c.in-More.is part.decodes));
    }

pub returns-in_default : goal.returns-in_default
returns-in_default c =
    let bytes = c.args.bytes.now in
    let first = c.args.self.now in
    let was = c.loop-taken.self in
    let now = c.take_part-count.new.self in
    let part = rw (take_rest bytes c.loop-taken.taken) at c.take_part-count.ensures in
    record {
      within = omega (arith, part.within, length-drop c.loop-taken.taken bytes);
      moves = λ some. omega (arith, part.moves (omega (arith, c.loop-taken-test.true, length-drop c.loop-taken.taken bytes)));
      all = λ more. absurd (c.in_default.not-More more);
      decodes =
          subst (λ t. DecodesTo (cut_on first.body.items first.whole first.place) t now.body.items now.whole now.place c.take_part-count.result.1)
          (sym (take-add c.loop-taken.taken c.take_part-count.result.0 bytes))
          (decodes_on (cut_on first.body.items first.whole first.place) (cut_on was.body.items was.whole was.place) (take c.loop-taken.taken bytes)
          (take c.take_part-count.result.0 (drop c.loop-taken.taken bytes)) now.body.items now.whole now.place c.take_part-count.result.1 c.loop-taken.invariant.decodes.2
          part.decodes);
    }
