use Rattle.std.proofs.Common.{List, [], ap, ap₂, arith, codes, drop, length, lit≤, refl, subst, sym, take, ℕ, ◌∙◌, ◌≡◌, ◌≤◌}
use Rattle.std.proofs.Math.Seq.{drop-length}
use Rattle.std.proofs.lemmas.List.{take_all}
use Rattle.http_pieces.specs.Cut.{Body, Complete, IsCut, Refused, cut_after}
use Rattle.http_pieces.specs.Head.{request_kind}
use Rattle.http_pieces.specs.declared.refusal.Refusal.{Refusal}
use Rattle.http_pieces.specs.declared.refusal.Refusal.TheVariants.{BodyTooLarge}
use Rattle.httparse.proofs.OnLiterals.{httparse_on_literals}
use Rattle.gateway_tests.proofs.OnLiterals.{replies_on_literals}
use Rattle.gateway_tests.proofs.StreamLemmas.{BeginsWith, body_taken, cut_by_head, one_request, refused_stream}
use Rattle.gateway_tests.specs.Rows.{head_text, ping_of_length, text_of}
use Rattle.gateway_tests.proofs.rows_streams.large_body.Goals as goal

begins : BeginsWith (head_text (ping_of_length (codes "65537") [])) 96 (ping_of_length (codes "65537") [])
unfolding replies_on_literals httparse_on_literals
begins = record { within = refl; limit = refl; ends = refl; none_before = refl; printed = refl; method = refl; target = refl; target_bytes = refl; fields = refl }

cut : IsCut (request_kind 0) (text_of (ping_of_length (codes "65537") [])) (Refused BodyTooLarge)
unfolding replies_on_literals httparse_on_literals
cut = cut_by_head 0 (head_text (ping_of_length (codes "65537") [])) (ping_of_length (codes "65537") []).body 96 (ping_of_length (codes "65537") []) begins refl (lit≤ tt)

begins_full : BeginsWith (head_text (ping_of_length (codes "65536") [])) 96 (ping_of_length (codes "65536") [])
unfolding replies_on_literals httparse_on_literals
begins_full = record { within = refl; limit = refl; ends = refl; none_before = refl; printed = refl; method = refl; target = refl; target_bytes = refl; fields = refl }

-- what follows the head
after : (body : List ℕ) → length body ≡ 65536 → cut_after {R = Refusal} (Body 65536 (λ body. (ping_of_length (codes "65536") body))) body ≡ Complete (ping_of_length (codes "65536") body) []
after body size =
    let enough : 65536 ≤ length body = omega (arith, size) in
    let all : take 65536 body ≡ body = take_all 65536 body (omega (arith, size)) in
    let none : drop 65536 body ≡ [] = ap (λ n. drop n body) (sym size) ∙ drop-length body in
    body_taken 65536 (λ body. (ping_of_length (codes "65536") body)) body enough ∙ ap₂ (λ text rest. Complete (ping_of_length (codes "65536") text) rest) all none

cut_full : (body : List ℕ) → length body ≡ 65536 → IsCut (request_kind 0) (text_of (ping_of_length (codes "65536") body)) (Complete (ping_of_length (codes "65536") body) [])
unfolding replies_on_literals httparse_on_literals
cut_full body size =
    subst (IsCut (request_kind 0) (text_of (ping_of_length (codes "65536") body))) (after body size)
    (cut_by_head 0 (head_text (ping_of_length (codes "65536") [])) body 96 (ping_of_length (codes "65536") []) begins_full refl (lit≤ tt))

pub returns-clause-ends : goal.returns-clause-ends
unfolding replies_on_literals
returns-clause-ends c = refused_stream c.requests_law.ensures.refused_stays (text_of (ping_of_length (codes "65537") [])) BodyTooLarge cut

pub returns-clause-within : goal.returns-clause-within
unfolding replies_on_literals
returns-clause-within c body size = one_request (text_of (ping_of_length (codes "65536") body)) (ping_of_length (codes "65536") body) (cut_full body size) refl

pub returns-clause-replies : goal.returns-clause-replies
unfolding replies_on_literals
returns-clause-replies c = refl

pub returns-clause-body : goal.returns-clause-body
unfolding replies_on_literals
returns-clause-body c = refl

pub returns-clause-body_bytes : goal.returns-clause-body_bytes
unfolding replies_on_literals
returns-clause-body_bytes c = refl

pub returns-clause-reply : goal.returns-clause-reply
unfolding replies_on_literals
returns-clause-reply c = refl

pub returns-clause-bytes : goal.returns-clause-bytes
unfolding replies_on_literals
returns-clause-bytes c = refl
