use Rattle.std.proofs.Common.{[], lit≤, refl}
use Rattle.call_plan.specs.Plan.{join_text}
use Rattle.http_pieces.specs.Cut.{Complete, IsCut}
use Rattle.http_pieces.specs.Fields.{has_option}
use Rattle.http_pieces.specs.Head.{request_kind}
use Rattle.httparse.proofs.OnLiterals.{httparse_on_literals}
use Rattle.gateway_tests.proofs.OnLiterals.{replies_on_literals, verdicts_on_literals}
use Rattle.gateway_tests.proofs.StreamLemmas.{BeginsWith, cut_by_head, last_request}
use Rattle.gateway_tests.specs.Rows.{head_text, ping_closing, text_of}
use Rattle.gateway_tests.proofs.rows_streams.closing_request.Goals as goal

begins : BeginsWith (head_text ping_closing) 111 ping_closing
unfolding replies_on_literals httparse_on_literals
begins = record { within = refl; limit = refl; ends = refl; none_before = refl; printed = refl; method = refl; target = refl; target_bytes = refl; fields = refl }

cut : IsCut (request_kind 0) (text_of ping_closing) (Complete ping_closing [])
unfolding replies_on_literals httparse_on_literals
cut = cut_by_head 0 (head_text ping_closing) ping_closing.body 111 ping_closing begins refl (lit≤ tt)

pub returns-clause-text : goal.returns-clause-text
unfolding replies_on_literals
returns-clause-text c = refl

pub returns-clause-requests : goal.returns-clause-requests
unfolding replies_on_literals
returns-clause-requests c = last_request c.requests_law.ensures.closed_stays (text_of ping_closing) ping_closing cut refl

pub returns-clause-arrival : goal.returns-clause-arrival
unfolding verdicts_on_literals
returns-clause-arrival c = refl

pub returns-clause-replies : goal.returns-clause-replies
unfolding has_option join_text verdicts_on_literals
returns-clause-replies c = refl

pub returns-clause-reply : goal.returns-clause-reply
unfolding replies_on_literals
returns-clause-reply c = refl

pub returns-clause-bytes : goal.returns-clause-bytes
unfolding replies_on_literals verdicts_on_literals
returns-clause-bytes c = refl
