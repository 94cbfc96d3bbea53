use Rattle.http_pieces.proofs.ChunkedLemmas.{cut_written, written_cut, refused_unwritten, front_incomplete}
use Rattle.http_pieces.proofs.laws.chunks_law.Goals as goal

pub returns-clause-written : goal.returns-clause-written
returns-clause-written c = cut_written

pub returns-clause-cut : goal.returns-clause-cut
returns-clause-cut c = written_cut

pub returns-clause-refused : goal.returns-clause-refused
returns-clause-refused c = refused_unwritten

pub returns-clause-incomplete : goal.returns-clause-incomplete
returns-clause-incomplete c = front_incomplete
