use Rattle.std.proofs.Common.{◌+◌}
use Rattle.http_pieces.proofs.DecodeLemmas.{line_in}
use Rattle.http_pieces.proofs.chunk_parts.line_in.Goals as goal

pub returns-clause-none : goal.returns-clause-none
returns-clause-none c = (line_in (c.args.spare + 18) _ c.args.before.now c.args.bytes.now _ c.requires.none c.requires.short (rw c.from.ensures at c.min.ensures) c.line_end.ensures.end).none

pub returns-clause-ends : goal.returns-clause-ends
returns-clause-ends c = (line_in (c.args.spare + 18) _ c.args.before.now c.args.bytes.now _ c.requires.none c.requires.short (rw c.from.ensures at c.min.ensures) c.line_end.ensures.end).ends
