use Rattle.std.proofs.Common.{codes, lit≤, refl}
use Rattle.http_pieces.specs.Cut.{IsCut, Refused}
use Rattle.http_pieces.specs.Head.{request_kind}
use Rattle.http_pieces.specs.declared.refusal.Refusal.TheVariants.{BadLength}
use Rattle.httparse.proofs.OnLiterals.{httparse_on_literals}
use Rattle.gateway_tests.proofs.OnLiterals.{replies_on_literals}
use Rattle.gateway_tests.proofs.StreamLemmas.{BeginsWith, cut_by_head, refused_stream}
use Rattle.gateway_tests.specs.Rows.{head_text, ping_adding, text_of}
use Rattle.gateway_tests.proofs.rows_streams.two_lengths.Goals as goal

begins : BeginsWith (head_text (ping_adding (codes "Content-Length") (codes "2"))) 111 (ping_adding (codes "Content-Length") (codes "2"))
unfolding replies_on_literals httparse_on_literals
begins = record { within = refl; limit = refl; ends = refl; none_before = refl; printed = refl; method = refl; target = refl; target_bytes = refl; fields = refl }

cut : IsCut (request_kind 0) (text_of (ping_adding (codes "Content-Length") (codes "2"))) (Refused BadLength)
unfolding replies_on_literals httparse_on_literals
cut = cut_by_head 0 (head_text (ping_adding (codes "Content-Length") (codes "2"))) (ping_adding (codes "Content-Length") (codes "2")).body 111 (ping_adding (codes "Content-Length") (codes "2")) begins refl (lit≤ tt)

pub returns-clause-ends : goal.returns-clause-ends
unfolding replies_on_literals
returns-clause-ends c = refused_stream c.requests_law.ensures.refused_stays (text_of (ping_adding (codes "Content-Length") (codes "2"))) BadLength cut

pub returns-clause-replies : goal.returns-clause-replies
unfolding replies_on_literals
returns-clause-replies c = refl

pub returns-clause-reply : goal.returns-clause-reply
unfolding replies_on_literals
returns-clause-reply c = refl

pub returns-clause-bytes : goal.returns-clause-bytes
unfolding replies_on_literals
returns-clause-bytes c = refl
