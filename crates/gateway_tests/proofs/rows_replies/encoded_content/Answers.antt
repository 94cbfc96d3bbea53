use Rattle.std.proofs.Common.{[], codes, lit≤, refl}
use Rattle.http_pieces.specs.Cut.{Complete, IsCut}
use Rattle.http_pieces.specs.Head.{request_kind}
use Rattle.httparse.proofs.OnLiterals.{httparse_on_literals}
use Rattle.gateway_tests.proofs.OnLiterals.{replies_on_literals, verdicts_on_literals}
use Rattle.gateway_tests.proofs.StreamLemmas.{BeginsWith, cut_by_head, one_request}
use Rattle.gateway_tests.specs.Rows.{head_text, ping_adding, text_of}
use Rattle.gateway_tests.proofs.rows_replies.encoded_content.Goals as goal

begins : BeginsWith (head_text (ping_adding (codes "Content-Encoding") (codes "gzip"))) 116 (ping_adding (codes "Content-Encoding") (codes "gzip"))
unfolding replies_on_literals httparse_on_literals
begins = record { within = refl; limit = refl; ends = refl; none_before = refl; printed = refl; method = refl; target = refl; target_bytes = refl; fields = refl }

cut : IsCut (request_kind 0) (text_of (ping_adding (codes "Content-Encoding") (codes "gzip"))) (Complete (ping_adding (codes "Content-Encoding") (codes "gzip")) [])
unfolding replies_on_literals httparse_on_literals
cut = cut_by_head 0 (head_text (ping_adding (codes "Content-Encoding") (codes "gzip"))) (ping_adding (codes "Content-Encoding") (codes "gzip")).body 116 (ping_adding (codes "Content-Encoding") (codes "gzip")) begins refl (lit≤ tt)

pub returns-clause-request : goal.returns-clause-request
unfolding replies_on_literals
returns-clause-request c = one_request (text_of (ping_adding (codes "Content-Encoding") (codes "gzip"))) (ping_adding (codes "Content-Encoding") (codes "gzip")) cut refl

pub returns-clause-verdict : goal.returns-clause-verdict
unfolding verdicts_on_literals
returns-clause-verdict c = refl

pub returns-clause-arrival : goal.returns-clause-arrival
unfolding verdicts_on_literals
returns-clause-arrival c = refl

pub returns-clause-replies : goal.returns-clause-replies
unfolding verdicts_on_literals
returns-clause-replies c = refl

pub returns-clause-body : goal.returns-clause-body
unfolding replies_on_literals
returns-clause-body c = refl

pub returns-clause-body_bytes : goal.returns-clause-body_bytes
unfolding replies_on_literals
returns-clause-body_bytes c = refl

pub returns-clause-bytes : goal.returns-clause-bytes
unfolding replies_on_literals verdicts_on_literals
returns-clause-bytes c = refl
