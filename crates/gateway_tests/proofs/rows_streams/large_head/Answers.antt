use Rattle.std.proofs.Common.{[], codes, lit≤, refl, replicate, ◌++◌}
use Rattle.http_pieces.specs.Cut.{Complete, IsCut, Refused, without_block}
use Rattle.http_pieces.specs.Head.{request_kind}
use Rattle.http_pieces.specs.declared.refusal.Refusal.TheVariants.{HeadTooLarge}
use Rattle.httparse.proofs.OnLiterals.{httparse_on_literals}
use Rattle.gateway_tests.proofs.OnLiterals.{replies_on_literals}
use Rattle.gateway_tests.proofs.StreamLemmas.{BeginsWith, cut_by_head, no_block, one_request, refused_stream}
use Rattle.gateway_tests.specs.Rows.{head_text, ping_filled, text_of}
use Rattle.gateway_tests.proofs.rows_streams.large_head.Goals as goal

begins : BeginsWith (head_text (ping_filled 8089)) 8188 (ping_filled 8089)
unfolding replies_on_literals httparse_on_literals
begins = record { within = refl; limit = refl; ends = refl; none_before = refl; printed = refl; method = refl; target = refl; target_bytes = refl; fields = refl }

cut : IsCut (request_kind 0) (text_of (ping_filled 8089)) (Complete (ping_filled 8089) [])
unfolding replies_on_literals httparse_on_literals
cut = cut_by_head 0 (head_text (ping_filled 8089)) (ping_filled 8089).body 8188 (ping_filled 8089) begins refl (lit≤ tt)

cut_endless : IsCut (request_kind 0) (codes "GET / HTTP/1.1\r\nX-A: " ++ replicate 8171 97) (Refused HeadTooLarge)
unfolding replies_on_literals httparse_on_literals
cut_endless = without_block (no_block (codes "GET / HTTP/1.1\r\nX-A: " ++ replicate 8171 97) refl) refl

pub returns-clause-length : goal.returns-clause-length
unfolding replies_on_literals
returns-clause-length c = refl

pub returns-clause-within : goal.returns-clause-within
unfolding replies_on_literals
returns-clause-within c = one_request (text_of (ping_filled 8089)) (ping_filled 8089) cut refl

pub returns-clause-ends_length : goal.returns-clause-ends_length
unfolding replies_on_literals
returns-clause-ends_length c = refl

pub returns-clause-ends : goal.returns-clause-ends
unfolding replies_on_literals
returns-clause-ends c = refused_stream c.requests_law.ensures.refused_stays (codes "GET / HTTP/1.1\r\nX-A: " ++ replicate 8171 97) HeadTooLarge cut_endless

pub returns-clause-replies : goal.returns-clause-replies
unfolding replies_on_literals
returns-clause-replies c = refl

pub returns-clause-reply : goal.returns-clause-reply
unfolding replies_on_literals
returns-clause-reply c = refl

pub returns-clause-bytes : goal.returns-clause-bytes
unfolding replies_on_literals
returns-clause-bytes c = refl
