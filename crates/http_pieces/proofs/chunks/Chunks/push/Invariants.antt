use Rattle.std.proofs.Common.{◌≤◌, ◌+◌, ◌-◌, length, take}
use Rattle.std.specs.Vec.{vec_len, vec_capacity}
use Rattle.http_pieces.specs.Chunks.{DecodesTo, cut_on}
use Rattle.http_pieces.specs.declared.chunk_parts.Decoded.TheVariants as decoded
use Rattle.http_pieces.proofs.chunks.Chunks.push.Given as goal

abbrev pub invariant-loop-taken : goal.invariant-loop-taken
invariant-loop-taken l = record {
  within : l.taken ≤ length l.bytes;
  room : vec_len l.self.body + (length l.bytes - l.taken) ≤ vec_capacity l.self.body;
  decodes : DecodesTo (cut_on l.fn.self.body.items l.fn.self.whole l.fn.self.place) (take l.taken l.bytes) l.self.body.items l.self.whole l.self.place decoded.More;
}

abbrev pub decreases-loop-taken : goal.decreases-loop-taken
decreases-loop-taken l = length l.bytes - l.taken
