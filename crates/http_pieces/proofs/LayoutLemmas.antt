-- What was read of a request's head, in the bytes of the whole request.
use Rattle.std.proofs.Common.{◌≡◌, ℕ, ◌+◌, ◌-◌, ◌≤◌, List, [], ◌∷◌, ◌++◌, map, length, take, drop, refl, sym, ap, subst, ◌∙◌, arith, length-take, length-append, Ok, Err, All}
use Rattle.std.proofs.lemmas.List.{length-drop, drop-take}
use Rattle.std.proofs.Math.Seq.{take-append_seam, drop-append_seam}
use Rattle.std.proofs.lemmas.List.Elements.{All-head, All-tail, All-nil, All-cons}
use Rattle.httparse.specs.declared.spans.Span.{Span}
use Rattle.httparse.specs.declared.spans.HeaderSpan.{HeaderSpan}
use Rattle.httparse.specs.Grammar.{RequestHead}
use Rattle.httparse.specs.Spans.{IsWithin, IsHeaderWithin, span_bytes, header_bytes, name_and_value}
use Rattle.http_pieces.specs.declared.refusal.Refusal.{Refusal}
use Rattle.http_pieces.specs.declared.head.Head.{Head}
use Rattle.http_pieces.specs.Cut.{Body}
use Rattle.http_pieces.specs.Form.{IsHeadOf, JudgesTo, as_head}
use Rattle.http_pieces.specs.Head.{body_length, version_of, request_with, asks_with}
use Rattle.http_pieces.specs.Layout.{IsHeadWithin, IsHeadAt, request_of, request_form}
use Rattle.http_pieces.proofs.CutLemmas.{take_prefix}

pub span_prefix : (text : List ℕ) (n : ℕ) (s : Span) → IsWithin n s → n ≤ length text → span_bytes text s ≡ span_bytes (take n text) s
span_prefix text n s within le =
    let i = s.start in
    let m = n - i in
    let whole : n ≡ i + m = omega (arith, within.0, within.1) in
    let cut : drop i (take n text) ≡ take m (drop i text) = ap (λ x. drop i (take x text)) whole ∙ drop-take i m text in
    let size : s.end - i ≤ length (take m (drop i text)) = omega (arith, within.0, within.1, length-take m (drop i text), length-drop i text) in
    sym (ap (take (s.end - i)) cut ∙ take_prefix (drop i text) (s.end - i) m size)

pub headers_prefix : (text : List ℕ) (n : ℕ) (headers : List HeaderSpan) → All (IsHeaderWithin n) headers → n ≤ length text
    → map (header_bytes text) headers ≡ map (header_bytes (take n text)) headers
headers_prefix text n [] within le = refl
headers_prefix text n (h ∷ headers) within le =
    let here = All-head (IsHeaderWithin n) h headers within in
    let first : header_bytes text h ≡ header_bytes (take n text) h = rw (span_prefix text n h.name here.0 le, span_prefix text n h.value here.1 le) refl in
    rw (first, headers_prefix text n headers (All-tail (IsHeaderWithin n) h headers within) le) refl

-- the request that the spans cover in its bytes is the one that the head and the body make
pub request_is : (bytes : List ℕ) (n k : ℕ) (head : Head) (h : RequestHead) → n ≤ length bytes → IsHeadAt (take n bytes) head h
    → request_of bytes head n k ≡ request_with k h (drop n bytes)
request_is bytes n k head h le at =
    let size : length (take n bytes) ≡ n = omega (arith, length-take n bytes) in
    let within : IsHeadWithin n head = subst (λ m. IsHeadWithin m head) size at.within in
    let method = span_prefix bytes n head.method within.method le ∙ at.method in
    let target = span_prefix bytes n head.target within.target le ∙ at.target in
    let fields = headers_prefix bytes n head.headers.items within.headers le ∙ at.fields in
    λ i. record {
      method = method i;
      target = target i;
      version = at.version i;
      fields = fields i;
      body = drop n bytes;
      number = k;
    }

within_more : (m n : ℕ) (s : Span) → m ≤ n → IsWithin m s → IsWithin n s
within_more m n s le within = (within.0, omega (arith, within.1))

headers_more : (m n : ℕ) (headers : List HeaderSpan) → m ≤ n → All (IsHeaderWithin m) headers → All (IsHeaderWithin n) headers
headers_more m n [] le within = All-nil (IsHeaderWithin n)
headers_more m n (h ∷ headers) le within =
    let here = All-head (IsHeaderWithin m) h headers within in
    All-cons (IsHeaderWithin n) h headers (within_more m n h.name le here.0, within_more m n h.value le here.1)
    (headers_more m n headers le (All-tail (IsHeaderWithin m) h headers within))

head_more : (m n : ℕ) (head : Head) → m ≤ n → IsHeadWithin m head → IsHeadWithin n head
head_more m n head le within = record {
  method = within_more m n head.method le within.method;
  target = within_more m n head.target le within.target;
  headers = headers_more m n head.headers.items le within.headers;
}

-- ---- what a block asks for

-- the request of the block and a body
pub request_whole : (block body : List ℕ) (k : ℕ) (head : Head) (h : RequestHead) → IsHeadAt block head h
    → request_of (block ++ body) head (length block) k ≡ request_with k h body
request_whole block body k head h at =
    let at_front : IsHeadAt (take (length block) (block ++ body)) head h = subst (λ b. IsHeadAt b head h) (sym (take-append_seam block body)) at in
    request_is (block ++ body) (length block) k head h (omega (arith, length-append block body)) at_front
    ∙ ap (request_with k h) (drop-append_seam block body)

-- a head that asks for a body
pub judged_head : (block : List ℕ) (head : Head) (h : RequestHead) (size : ℕ) → IsHeadAt block head h
    → Ok size ≡ body_length head.version (map (header_bytes block) head.headers.items) → IsHeadOf request_form block head size
judged_head block head h size at e =
    let same : body_length (version_of h.minor) (map name_and_value h.fields) ≡ Ok size = rw (← at.version, ← at.fields) (sym e) in
    record {
      asks = λ k. record {
        head = h;
        block_is = at.block_is;
        asks_is = (λ i. Body size (λ body. request_whole block body k head h at i)) ∙ ap (λ r. asks_with r (request_with k h)) (sym same);
      };
      within = λ body. head_more (length block) (length (block ++ body)) head (omega (arith, length-append block body)) at.within;
    }

-- a head that is refused
pub judged_refusal : (block : List ℕ) (head : Head) (h : RequestHead) (r : Refusal) → IsHeadAt block head h
    → Err r ≡ body_length head.version (map (header_bytes block) head.headers.items) → JudgesTo request_form block (Err r)
judged_refusal block head h r at e =
    let same : body_length (version_of h.minor) (map name_and_value h.fields) ≡ Err r = rw (← at.version, ← at.fields) (sym e) in
    λ k. as_head (record { head = h; block_is = at.block_is; asks_is = ap (λ x. asks_with x (request_with k h)) (sym same) })
