use Rattle.std.proofs.Common.{[], codes, lit<, lit≤, refl}
use Rattle.http_pieces.specs.Cut.{Complete, IsCut, Refused}
use Rattle.http_pieces.specs.Head.{request_kind}
use Rattle.http_pieces.specs.declared.refusal.Refusal.TheVariants.{NotAHead}
use Rattle.httparse.proofs.OnLiterals.{httparse_on_literals}
use Rattle.gateway_tests.proofs.OnLiterals.{replies_on_literals}
use Rattle.gateway_tests.proofs.StreamLemmas.{BeginsWith, cut_by_head, not_a_head, one_request, refused_stream}
use Rattle.gateway_tests.specs.Rows.{head_text, ping_crowded, text_of}
use Rattle.gateway_tests.proofs.rows_streams.many_fields.Goals as goal

begins : BeginsWith (head_text (ping_crowded 61)) 580 (ping_crowded 61)
unfolding replies_on_literals httparse_on_literals
begins = record { within = refl; limit = refl; ends = refl; none_before = refl; printed = refl; method = refl; target = refl; target_bytes = refl; fields = refl }

cut : IsCut (request_kind 0) (text_of (ping_crowded 61)) (Complete (ping_crowded 61) [])
unfolding replies_on_literals httparse_on_literals
cut = cut_by_head 0 (head_text (ping_crowded 61)) (ping_crowded 61).body 580 (ping_crowded 61) begins refl (lit≤ tt)

begins_many : BeginsWith (head_text (ping_crowded 62)) 588 (ping_crowded 62)
unfolding replies_on_literals httparse_on_literals
begins_many = record { within = refl; limit = refl; ends = refl; none_before = refl; printed = refl; method = refl; target = refl; target_bytes = refl; fields = refl }

cut_many : IsCut (request_kind 0) (text_of (ping_crowded 62)) (Refused NotAHead)
unfolding replies_on_literals httparse_on_literals
cut_many = not_a_head 0 (head_text (ping_crowded 62)) (codes "{}") 588 (ping_crowded 62) begins_many refl (lit< tt)

pub returns-clause-within : goal.returns-clause-within
unfolding replies_on_literals
returns-clause-within c = one_request (text_of (ping_crowded 61)) (ping_crowded 61) cut refl

pub returns-clause-ends : goal.returns-clause-ends
unfolding replies_on_literals
returns-clause-ends c = refused_stream c.requests_law.ensures.refused_stays (text_of (ping_crowded 62)) NotAHead cut_many

pub returns-clause-replies : goal.returns-clause-replies
unfolding replies_on_literals
returns-clause-replies c = refl

pub returns-clause-reply : goal.returns-clause-reply
unfolding replies_on_literals
returns-clause-reply c = refl

pub returns-clause-bytes : goal.returns-clause-bytes
unfolding replies_on_literals
returns-clause-bytes c = refl
