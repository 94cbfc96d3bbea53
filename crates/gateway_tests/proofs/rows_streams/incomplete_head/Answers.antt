use Rattle.std.proofs.Common.{codes, refl}
use Rattle.http_pieces.specs.Cut.{Incomplete, IsCut, without_block}
use Rattle.http_pieces.specs.Head.{request_kind}
use Rattle.http_pieces.specs.Requests.{unfinished}
use Rattle.httparse.proofs.OnLiterals.{httparse_on_literals}
use Rattle.gateway_tests.proofs.OnLiterals.{replies_on_literals}
use Rattle.gateway_tests.proofs.StreamLemmas.{no_block}
use Rattle.gateway_tests.proofs.rows_streams.incomplete_head.Goals as goal

cut : IsCut (request_kind 0) (codes "POST /acme.v1.Ping/Ping HTTP/1.1\r\nHost: g\r\n") Incomplete
unfolding replies_on_literals httparse_on_literals
cut = without_block (no_block (codes "POST /acme.v1.Ping/Ping HTTP/1.1\r\nHost: g\r\n") refl) refl

pub returns-clause-left : goal.returns-clause-left
unfolding replies_on_literals
returns-clause-left c = unfinished cut refl

pub returns-clause-replies : goal.returns-clause-replies
unfolding replies_on_literals
returns-clause-replies c = refl
