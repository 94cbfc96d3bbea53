use Rattle.std.proofs.Common.{[], codes, lit≤, refl}
use Rattle.http_pieces.specs.Cut.{Complete, IsCut}
use Rattle.http_pieces.specs.Head.{request_kind}
use Rattle.httparse.proofs.OnLiterals.{httparse_on_literals}
use Rattle.gateway_tests.proofs.OnLiterals.{replies_on_literals, verdicts_on_literals}
use Rattle.gateway_tests.proofs.StreamLemmas.{BeginsWith, cut_by_head, one_request}
use Rattle.gateway_tests.specs.Rows.{head_text, request_for, text_of}
use Rattle.gateway_tests.proofs.rows_replies.unknown_path.Goals as goal

begins : BeginsWith (head_text (request_for (codes "/acme.v1.Ping/Pong") 0)) 92 (request_for (codes "/acme.v1.Ping/Pong") 0)
unfolding replies_on_literals httparse_on_literals
begins = record { within = refl; limit = refl; ends = refl; none_before = refl; printed = refl; method = refl; target = refl; target_bytes = refl; fields = refl }

cut : IsCut (request_kind 0) (text_of (request_for (codes "/acme.v1.Ping/Pong") 0)) (Complete (request_for (codes "/acme.v1.Ping/Pong") 0) [])
unfolding replies_on_literals httparse_on_literals
cut = cut_by_head 0 (head_text (request_for (codes "/acme.v1.Ping/Pong") 0)) (request_for (codes "/acme.v1.Ping/Pong") 0).body 92 (request_for (codes "/acme.v1.Ping/Pong") 0) begins refl (lit≤ tt)

pub returns-clause-request : goal.returns-clause-request
unfolding replies_on_literals
returns-clause-request c = one_request (text_of (request_for (codes "/acme.v1.Ping/Pong") 0)) (request_for (codes "/acme.v1.Ping/Pong") 0) cut refl

pub returns-clause-verdict : goal.returns-clause-verdict
unfolding verdicts_on_literals
returns-clause-verdict c = refl

pub returns-clause-arrival : goal.returns-clause-arrival
unfolding verdicts_on_literals
returns-clause-arrival c = refl

pub returns-clause-replies : goal.returns-clause-replies
unfolding verdicts_on_literals
returns-clause-replies c = refl

pub returns-clause-reply : goal.returns-clause-reply
unfolding replies_on_literals
returns-clause-reply c = refl

pub returns-clause-bytes : goal.returns-clause-bytes
unfolding replies_on_literals verdicts_on_literals
returns-clause-bytes c = refl
