use Rattle.std.proofs.Common.{[], codes, lit≤, refl, ◌++◌}
use Rattle.http_pieces.specs.Cut.{Complete, IsCut}
use Rattle.http_pieces.specs.Head.{request_kind}
use Rattle.httparse.proofs.OnLiterals.{httparse_on_literals}
use Rattle.gateway_tests.proofs.OnLiterals.{replies_on_literals}
use Rattle.gateway_tests.proofs.StreamLemmas.{BeginsWith, cut_by_head, one_request, request_at}
use Rattle.gateway_tests.specs.Rows.{head_text, ping, request_for, text_of}
use Rattle.gateway_tests.proofs.rows_streams.first_request.Goals as goal

begins : BeginsWith (head_text (request_for ping.path 0)) 92 (request_for ping.path 0)
unfolding replies_on_literals httparse_on_literals
begins = record { within = refl; limit = refl; ends = refl; none_before = refl; printed = refl; method = refl; target = refl; target_bytes = refl; fields = refl }

cut : IsCut (request_kind 0) (text_of (request_for ping.path 0)) (Complete (request_for ping.path 0) [])
unfolding replies_on_literals httparse_on_literals
cut = cut_by_head 0 (head_text (request_for ping.path 0)) (request_for ping.path 0).body 92 (request_for ping.path 0) begins refl (lit≤ tt)

cut_behind : IsCut (request_kind 0) (codes "\r\n\r\n" ++ text_of (request_for ping.path 0)) (Complete (request_for ping.path 0) [])
unfolding replies_on_literals httparse_on_literals
cut_behind = cut

cut_first : IsCut (request_kind 0) (text_of (request_for ping.path 0) ++ text_of (request_for ping.path 1)) (Complete (request_for ping.path 0) (text_of (request_for ping.path 1)))
unfolding replies_on_literals httparse_on_literals
cut_first = cut_by_head 0 (head_text (request_for ping.path 0)) (codes "{}" ++ text_of (request_for ping.path 1)) 92 (request_for ping.path 0) begins refl (lit≤ tt)

cut_second : IsCut (request_kind 1) (text_of (request_for ping.path 1)) (Complete (request_for ping.path 1) [])
unfolding replies_on_literals httparse_on_literals
cut_second = cut_by_head 1 (head_text (request_for ping.path 0)) (codes "{}") 92 (request_for ping.path 0) begins refl (lit≤ tt)

pub returns-clause-text : goal.returns-clause-text
unfolding replies_on_literals
returns-clause-text c = refl

pub returns-clause-bytes : goal.returns-clause-bytes
unfolding replies_on_literals
returns-clause-bytes c = refl

pub returns-clause-request : goal.returns-clause-request
unfolding replies_on_literals
returns-clause-request c = one_request (text_of (request_for ping.path 0)) (request_for ping.path 0) cut refl

pub returns-clause-behind_lines : goal.returns-clause-behind_lines
unfolding replies_on_literals
returns-clause-behind_lines c = one_request (codes "\r\n\r\n" ++ text_of (request_for ping.path 0)) (request_for ping.path 0) cut_behind refl

pub returns-clause-pair : goal.returns-clause-pair
unfolding replies_on_literals httparse_on_literals
returns-clause-pair c = (text_of (request_for ping.path 1), cut_first, request_at 1 (text_of (request_for ping.path 1)) (request_for ping.path 1) cut_second refl)
