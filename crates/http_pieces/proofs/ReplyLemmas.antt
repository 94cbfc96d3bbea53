-- A reply is cut in one way, and what a push has read, by the readings before it and after it.
use Rattle.std.proofs.Common.{◌≡◌, ℕ, ◌+◌, ◌-◌, ◌<◌, ◌≤◌, ◌⊎◌, inl, inr, Bool, true, false, List, [], ◌∷◌, ◌++◌, map, length, take, drop, refl, sym, ap, subst, ◌∙◌, arith, append-nil, append_assoc, length-append, length-take, Result, Ok, Err, Option, codes}
use Rattle.std.specs.Prelude.{if◌then◌else◌}
use Rattle.std.specs.Result.{IfOk, IsOk}
use Rattle.std.proofs.lemmas.List.{length-drop}
use Rattle.std.proofs.Math.Seq.{drop-append_seam, take-add}
use Rattle.httparse.specs.declared.spans.HeaderSpan.{HeaderSpan}
use Rattle.httparse.specs.Grammar.{ResponseHead, status_code}
use Rattle.httparse.specs.Spans.{header_bytes, name_and_value}
use Rattle.http_pieces.specs.declared.field.Field.{Field}
use Rattle.http_pieces.specs.declared.field.Field.TheVariants as field
use Rattle.http_pieces.specs.declared.framing.Framing.{Framing}
use Rattle.http_pieces.specs.declared.reply.HttpReply.{HttpReply}
use Rattle.http_pieces.specs.declared.reply_fault.ReplyFault.{ReplyFault}
use Rattle.http_pieces.specs.declared.chunk_parts.ChunkFault.{ChunkFault}
use Rattle.http_pieces.specs.Chunks.{cut_at, cut_with, onto}
use Rattle.http_pieces.specs.Cut.{Cut, Incomplete, Refused, Complete, Body, skip_pairs, IsCutText, IsCut}
use Rattle.http_pieces.specs.Fields.{values_of, IsFieldOf}
use Rattle.http_pieces.specs.Form.{IsHeadOf}
use Rattle.http_pieces.specs.Head.{stated_length}
use Rattle.http_pieces.specs.Looked.{Counts, HasLooked}
use Rattle.http_pieces.specs.ReplyHead.{chunk_fault, length_by_number, length_by_fields, reply_length, one_value, closes_after, reply_with, reply_kind, takes_chunks}
use Rattle.http_pieces.specs.ReplyLayout.{IsReplyHeadAt, asks_headed, headed_length, reply_of, reply_form, reply_single, ReplyGrows, ChunksGrow, ReplyPushes, is_growing}
use Rattle.http_pieces.specs.ReplyReader.{Chunked, ReplyReading, ReplyReaderValue, chunked_on, Partial, Decoding, Waiting, Stopped, Done, HasReadReply, HasReadReplyTo, IsShortestReply, IsShortestChunks, TakesShortestReply, is_over_reply, left_of_reply}
use Rattle.http_pieces.proofs.ChunkLemmas.{Stays, at_stays}
use Rattle.http_pieces.proofs.Codings.{reply_codings}
use Rattle.http_pieces.proofs.CutLemmas.{skip_append, kind_unique, kind_complete_append, kind_refused_append}

-- ---- one cut

pub reply_unique : (framing : Framing) (text : List ℕ) (c d : Cut ReplyFault HttpReply) → IsCut (reply_kind framing) text c → IsCut (reply_kind framing) text d → c ≡ d
reply_unique framing = kind_unique (reply_kind framing) (reply_single framing)

pub reply_complete_append : (framing : Framing) (text more : List ℕ) (q : HttpReply) (rest : List ℕ)
    → IsCut (reply_kind framing) text (Complete q rest) → IsCut (reply_kind framing) (text ++ more) (Complete q (rest ++ more))
reply_complete_append framing = kind_complete_append (reply_kind framing) (reply_codings framing)

pub reply_refused_append : (framing : Framing) (text more : List ℕ) (f : ReplyFault) → IsCut (reply_kind framing) text (Refused f)
    → IsCut (reply_kind framing) (text ++ more) (Refused f)
reply_refused_append framing = kind_refused_append (reply_kind framing) (reply_codings framing)

-- ---- what a head asks for

-- where there is a `Content-Length` field
pub length_stated : (status : ℕ) (values : List (List ℕ)) (f : Field) → IsFieldOf values f → ¬ (f ≡ field.None)
    → length_by_number status (stated_length values) ≡ length_by_fields status values
length_stated status [] field.None is some = absurd (some refl)
length_stated status [] (field.One value) is some = absurd (cc)
length_stated status [] field.Many is some = absurd (omega (arith, is))
length_stated status (v ∷ values) f is some = refl

-- a head that asks for a body
pub judged_reply : (framing : Framing) (block : List ℕ) (headers : List HeaderSpan) (status minor : ℕ) (content_type : Option (List ℕ)) (closes in_chunks : Bool) (h : ResponseHead) (size : ℕ)
    → IsReplyHeadAt block headers status minor h
    → in_chunks ≡ takes_chunks framing status minor (map (header_bytes block) headers)
    → Ok size ≡ (if in_chunks then Ok 0 else reply_length status (map (header_bytes block) headers))
    → content_type ≡ one_value (values_of (codes "content-type") (map (header_bytes block) headers))
    → closes ≡ closes_after minor (map (header_bytes block) headers)
    → IsHeadOf (reply_form framing) block (record { status = status; content_type = content_type; closes = closes; in_chunks = in_chunks }) size
judged_reply framing block headers status minor content_type closes in_chunks h size at chunks_is e type_is closes_is =
    let flag : takes_chunks framing (status_code h) h.minor (map name_and_value h.fields) ≡ in_chunks = rw (← at.status_is, ← at.minor_is, ← at.fields) (sym chunks_is) in
    let same : headed_length in_chunks h ≡ Ok size = rw (← at.status_is, ← at.fields) (sym e) in
    let type_of : content_type ≡ one_value (values_of (codes "content-type") (map name_and_value h.fields)) = rw (← at.fields) type_is in
    let closing : closes ≡ closes_after h.minor (map name_and_value h.fields) = rw (← at.minor_is, ← at.fields) closes_is in
    let whole : (body : List ℕ) → reply_of (block ++ body) (record { status = status; content_type = content_type; closes = closes; in_chunks = in_chunks }) (length block) ≡ reply_with h body =
    λ body i. record { status = at.status_is i; content_type = type_of i; closes = closing i; body = drop-append_seam block body i } in
    record {
      asks = λ k. record {
        head = h;
        block_is = at.block_is;
        asks_is =
            (λ i. Body size (λ body. record { reply = whole body i; in_chunks = in_chunks }))
            ∙ ap (λ r. asks_headed in_chunks r (reply_with h)) (sym same)
            ∙ ap (λ t. asks_headed t (headed_length t h) (reply_with h)) (sym flag);
      };
      within = λ body. tt;
    }

-- ---- a reply in chunks stays as it was cut

with_stays : (reply : HttpReply) (front : List ℕ) (c d : Cut ChunkFault (List ℕ)) (more : List ℕ) (q : HttpReply) (rest : List ℕ) → Stays c d more
    → cut_with (chunk_fault reply.status) (λ body. record reply { body = body }) (onto front c) ≡ Complete q rest
    → cut_with (chunk_fault reply.status) (λ body. record reply { body = body }) (onto front d) ≡ Complete q (rest ++ more)
with_stays reply front Incomplete d more q rest h e = absurd (cc)
with_stays reply front (Refused f) d more q rest h e = absurd (cc)
with_stays reply front (Complete body r) d more q rest h e =
    let q_is : record reply { body = front ++ body } ≡ q = cc in
    let rest_is : r ≡ rest = cc in
    ap (λ x. cut_with (chunk_fault reply.status) (λ body. record reply { body = body }) (onto front x)) h
    ∙ ap (λ x. Complete x (r ++ more)) q_is ∙ ap (λ x. Complete q (x ++ more)) rest_is

chunked_stays : (was : Chunked) (text more : List ℕ) (q : HttpReply) (rest : List ℕ) → chunked_on was text ≡ Complete q rest
    → chunked_on was (text ++ more) ≡ Complete q (rest ++ more)
chunked_stays was text more q rest e =
    let left = drop was.whole was.body in
    let stay : Stays (cut_at was.place (left ++ text)) (cut_at was.place (left ++ (text ++ more))) more =
    subst (λ t. Stays (cut_at was.place (left ++ text)) (cut_at was.place t) more) (append_assoc left text more) (at_stays was.place (left ++ text) more) in
    with_stays was.reply (take was.whole was.body) (cut_at was.place (left ++ text)) (cut_at was.place (left ++ (text ++ more))) more q rest stay e

-- ---- what a push has read

module _ (framing : Framing) (piece : List ℕ) (n : ℕ) where
  -- bytes, and what is left of them without the pairs in front
  left_cut : (left bytes more : List ℕ) (c : Cut ReplyFault HttpReply) → left ≡ skip_pairs bytes → IsCut (reply_kind framing) (left ++ more) c
      → IsCut (reply_kind framing) (bytes ++ more) c
  left_cut left bytes more c is cut =
      let same : skip_pairs (left ++ more) ≡ skip_pairs (bytes ++ more) = rw is (sym (skip_append bytes more)) in
      subst (λ t. IsCutText (reply_kind framing) t c) same cut

  grows_reads : (left : List ℕ) (new : ReplyReading) → ReplyGrows framing left piece n new → (bytes : List ℕ) (given : Option HttpReply)
      → HasReadReplyTo framing (Partial left) bytes given → HasReadReplyTo framing new (bytes ++ take n piece) given
  grows_reads left (Partial after) g bytes given h =
      (h.0, g.1 ∙ ap (λ x. skip_pairs (x ++ take n piece)) h.1 ∙ sym (skip_append bytes (take n piece)), left_cut left bytes (take n piece) Incomplete h.1 g.2)
  grows_reads left (Decoding after) g bytes given h = (
    h.0,
    g.1,
    λ more. subst (λ t. IsCut (reply_kind framing) t (chunked_on after more)) (sym (append_assoc bytes (take n piece) more))
        (left_cut left bytes (take n piece ++ more) (chunked_on after more) h.1 (subst (λ t. IsCut (reply_kind framing) t (chunked_on after more)) (append_assoc left (take n piece) more) (g.2 more))),
  )
  grows_reads left (Waiting q) g bytes given h = (h.0, left_cut left bytes (take n piece) (Complete q []) h.1 g)
  grows_reads left (Stopped f) g bytes given h = (h.0, left_cut left bytes (take n piece) (Refused f) h.1 g.1)
  grows_reads left Done g bytes given h = absurd g

  chunks_read : (was : Chunked) (new : ReplyReading) → ChunksGrow was piece n new → (bytes : List ℕ) (given : Option HttpReply)
      → HasReadReplyTo framing (Decoding was) bytes given → HasReadReplyTo framing new (bytes ++ take n piece) given
  chunks_read was (Partial after) g bytes given h = absurd g
  chunks_read was (Decoding after) g bytes given h = (
    h.0,
    g.1,
    λ more. subst (λ t. IsCut (reply_kind framing) t (chunked_on after more)) (sym (append_assoc bytes (take n piece) more))
        (subst (IsCut (reply_kind framing) (bytes ++ (take n piece ++ more))) (g.2 more) (h.2 (take n piece ++ more))),
  )
  chunks_read was (Waiting q) g bytes given h =
      let whole : chunked_on was (take n piece) ≡ Complete q [] = ap (chunked_on was) (sym (append-nil (take n piece))) ∙ g [] in
      (h.0, subst (IsCut (reply_kind framing) (bytes ++ take n piece)) whole (h.2 (take n piece)))
  chunks_read was (Stopped f) g bytes given h =
      let faulty : chunked_on was (take n piece) ≡ Refused f = ap (chunked_on was) (sym (append-nil (take n piece))) ∙ g.1 [] in
      (h.0, subst (IsCut (reply_kind framing) (bytes ++ take n piece)) faulty (h.2 (take n piece)))
  chunks_read was Done g bytes given h = absurd g

  pub reads_by : (was new : ReplyReading) → ReplyPushes framing was piece new n → (bytes : List ℕ) (given : Option HttpReply)
      → HasReadReplyTo framing was bytes given → HasReadReplyTo framing new (bytes ++ take n piece) given
  reads_by (Partial left) new p bytes given h = grows_reads left new p.2 bytes given h
  reads_by (Decoding was) new p bytes given h = chunks_read was new p.2 bytes given h
  reads_by (Waiting q) new p bytes given h =
      let none : bytes ≡ bytes ++ take n piece = sym (ap (λ m. bytes ++ take m piece) p.0 ∙ append-nil bytes) in
      subst (λ r. HasReadReplyTo framing r (bytes ++ take n piece) given) (sym p.1) (subst (λ b. HasReadReplyTo framing (Waiting q) b given) none h)
  reads_by (Stopped f) new p bytes given h =
      subst (λ r. HasReadReplyTo framing r (bytes ++ take n piece) given) (sym p.1) (h.0, reply_refused_append framing bytes (take n piece) f h.1)
  reads_by Done new p bytes given h =
      subst (λ r. HasReadReplyTo framing r (bytes ++ take n piece) given) (sym p.1)
      (h.0, h.1 ++ take n piece, h.2, reply_complete_append framing bytes (take n piece) h.0 h.1 h.3)

  -- ---- and how many bytes it takes

  abbrev tail_of : ℕ → List ℕ
  tail_of m = take (n - m) (drop m piece)

  tail_is : (m : ℕ) → m < n → take m piece ++ tail_of m ≡ take n piece
  tail_is m lt = let sum : m + (n - m) ≡ n = omega arith in sym (take-add m (n - m) piece) ∙ ap (λ x. take x piece) sum

  tail_some : (m : ℕ) → m < n → n ≤ length piece → 0 < length (tail_of m)
  tail_some m lt le = omega (arith, length-take (n - m) (drop m piece), length-drop m piece)

  -- what was cut at the whole is no reply that ended before
  abbrev IsNoneBefore : Cut ReplyFault HttpReply → Type 0
  IsNoneBefore c = (q : HttpReply) (rest : List ℕ) → 0 < length rest → ¬ (c ≡ Complete q rest)

  grown_shortest : (left : List ℕ) → n ≤ length piece → (c : Cut ReplyFault HttpReply) → IsCut (reply_kind framing) (left ++ take n piece) c → IsNoneBefore c
      → IsShortestReply framing left piece n
  grown_shortest left le c cut none m q rest lt early =
      let whole : IsCut (reply_kind framing) (left ++ take n piece) (Complete q (rest ++ tail_of m)) =
      subst (λ t. IsCut (reply_kind framing) t (Complete q (rest ++ tail_of m))) (append_assoc left (take m piece) (tail_of m) ∙ ap (λ t. left ++ t) (tail_is m lt))
      (reply_complete_append framing (left ++ take m piece) (tail_of m) q rest early) in
      none q (rest ++ tail_of m) (omega (arith, length-append rest (tail_of m), tail_some m lt le)) (reply_unique framing (left ++ take n piece) c (Complete q (rest ++ tail_of m)) cut whole)

  none_whole : (r : HttpReply) → IsNoneBefore (Complete r [])
  none_whole r q rest some e = let same : [] ≡ rest = cc in omega (arith, ap length same)

  grows_shortest : (left : List ℕ) (new : ReplyReading) → n ≤ length piece → ReplyGrows framing left piece n new → IsShortestReply framing left piece n
  grows_shortest left (Partial after) le g = grown_shortest left le Incomplete g.2 (λ q rest some e. cc)
  grows_shortest left (Decoding after) le g =
      grown_shortest left le Incomplete
      (subst (IsCut (reply_kind framing) (left ++ take n piece)) g.1 (subst (λ t. IsCut (reply_kind framing) t (chunked_on after [])) (append-nil (left ++ take n piece)) (g.2 []))) (λ q rest some e. cc)
  grows_shortest left (Waiting q) le g = grown_shortest left le (Complete q []) g (none_whole q)
  grows_shortest left (Stopped f) le g = grown_shortest left le (Refused f) g.1 (λ q rest some e. cc)
  grows_shortest left Done le g = absurd g

  pub all_by : (was new : ReplyReading) → ReplyPushes framing was piece new n → (n ≡ length piece) ⊎ ((q : HttpReply) × (new ≡ Waiting q))
  all_by (Partial left) (Partial after) p = inl p.2.0
  all_by (Partial left) (Decoding after) p = inl p.2.0
  all_by (Partial left) (Waiting q) p = inr (q, refl)
  all_by (Partial left) (Stopped f) p = inl p.2.0
  all_by (Partial left) Done p = absurd p.2
  all_by (Decoding was) (Partial after) p = absurd p.2
  all_by (Decoding was) (Decoding after) p = inl p.2.0
  all_by (Decoding was) (Waiting q) p = inr (q, refl)
  all_by (Decoding was) (Stopped f) p = inl p.2.0
  all_by (Decoding was) Done p = absurd p.2
  all_by (Waiting q) new p = inr (q, p.1)
  all_by (Stopped f) new p = inl p.0
  all_by Done new p = inl p.0

  pub shortest_by : (was new : ReplyReading) → ReplyPushes framing was piece new n → (left : List ℕ) → was ≡ Partial left → IsShortestReply framing left piece n
  shortest_by (Partial l) new p left is = let same : l ≡ left = cc in subst (λ x. IsShortestReply framing x piece n) same (grows_shortest l new p.0 p.2)
  shortest_by (Decoding was) new p left is = absurd (cc)
  shortest_by (Waiting q) new p left is = absurd (cc)
  shortest_by (Stopped f) new p left is = absurd (cc)
  shortest_by Done new p left is = absurd (cc)

  chunks_shortest : (was : Chunked) (new : ReplyReading) → n ≤ length piece → ChunksGrow was piece n new → IsShortestChunks was piece n
  chunks_shortest was new le g m q rest lt early =
      let at : chunked_on was (take m piece ++ tail_of m) ≡ Complete q (rest ++ tail_of m) = chunked_stays was (take m piece) (tail_of m) q rest early in
      let whole : chunked_on was (take n piece) ≡ Complete q (rest ++ tail_of m) = ap (chunked_on was) (sym (tail_is m lt)) ∙ at in
      by_new new g (rest ++ tail_of m) (omega (arith, length-append rest (tail_of m), tail_some m lt le)) whole
    where
      by_new : (x : ReplyReading) → ChunksGrow was piece n x → (more : List ℕ) → 0 < length more → chunked_on was (take n piece) ≡ Complete q more → ⊥
      by_new (Partial after) h more some e = h
      by_new (Decoding after) h more some e =
          let open_still : chunked_on was (take n piece) ≡ Incomplete = ap (chunked_on was) (sym (append-nil (take n piece))) ∙ h.2 [] ∙ h.1 in
          let wrong : ◌≡◌ {A = Cut ReplyFault HttpReply} Incomplete (Complete q more) = sym open_still ∙ e in cc
      by_new (Waiting r) h more some e =
          let ends : chunked_on was (take n piece) ≡ Complete r [] = ap (chunked_on was) (sym (append-nil (take n piece))) ∙ h [] in
          let same : ◌≡◌ {A = Cut ReplyFault HttpReply} (Complete r []) (Complete q more) = sym ends ∙ e in
          let none : [] ≡ more = cc in omega (arith, ap length none)
      by_new (Stopped f) h more some e =
          let faulty : chunked_on was (take n piece) ≡ Refused f = ap (chunked_on was) (sym (append-nil (take n piece))) ∙ h.1 [] in
          let wrong : ◌≡◌ {A = Cut ReplyFault HttpReply} (Refused f) (Complete q more) = sym faulty ∙ e in cc
      by_new Done h more some e = h

  pub decoded_by : (was new : ReplyReading) → ReplyPushes framing was piece new n → (chunks : Chunked) → was ≡ Decoding chunks → IsShortestChunks chunks piece n
  decoded_by (Partial l) new p chunks is = absurd (cc)
  decoded_by (Decoding was) new p chunks is = let same : was ≡ chunks = cc in subst (λ x. IsShortestChunks x piece n) same (chunks_shortest was new p.0 p.2)
  decoded_by (Waiting q) new p chunks is = absurd (cc)
  decoded_by (Stopped f) new p chunks is = absurd (cc)
  decoded_by Done new p chunks is = absurd (cc)

  pub moves_by : (was new : ReplyReading) → ReplyPushes framing was piece new n → 0 < length piece → (0 < n) ⊎ ((q : HttpReply) × (was ≡ Waiting q))
  moves_by (Partial left) new p some = inl (p.1 some)
  moves_by (Decoding was) new p some = inl (p.1 some)
  moves_by (Waiting q) new p some = inr (q, refl)
  moves_by (Stopped f) new p some = inl (omega (arith, p.0, some))
  moves_by Done new p some = inl (omega (arith, p.0, some))

  pub within_by : (was new : ReplyReading) → ReplyPushes framing was piece new n → n ≤ length piece
  within_by (Partial left) new p = p.0
  within_by (Decoding was) new p = p.0
  within_by (Waiting q) new p = omega (arith, p.0)
  within_by (Stopped f) new p = omega (arith, p.0)
  within_by Done new p = omega (arith, p.0)

  -- in every reading but those in `More` nothing is kept, and nothing changes
  pub settled_by : (was new : ReplyReading) → ReplyPushes framing was piece new n → is_growing was ≡ false
      → (n ≡ (if is_over_reply was then length piece else 0)) × (new ≡ was)
  settled_by (Partial left) new p e = absurd (cc)
  settled_by (Decoding was) new p e = absurd (cc)
  settled_by (Waiting q) new p e = (p.0, p.1)
  settled_by (Stopped f) new p e = (p.0, p.1)
  settled_by Done new p e = (p.0, p.1)

pub over_settled : (y : ReplyReading) → is_over_reply y ≡ true → is_growing y ≡ false
over_settled (Partial left) e = absurd (cc)
over_settled (Decoding after) e = absurd (cc)
over_settled (Waiting q) e = refl
over_settled (Stopped f) e = refl
over_settled Done e = refl

-- ---- the clauses of `push`, by the reader's value before it

abbrev pub value_of : Framing → ReplyReading → ℕ → ReplyReaderValue
value_of framing reading looked = record { framing = framing; reading = reading; looked = looked }

module _ (framing : Framing) (piece : List ℕ) (was new : ReplyReading) (looked more : ℕ) (self : ReplyReaderValue) (view : value_of framing was looked ≡ self) where
  pub reply_reads : {E : Type 0} (r : Result ℕ E) → IfOk r (ReplyPushes framing was piece new)
      → ((text : List ℕ) → HasLooked looked (left_of_reply was) text → IfOk r (λ n. HasLooked more (left_of_reply new) (text ++ take n piece)))
      → (bytes : List ℕ) (given : Option HttpReply) → HasReadReply self bytes given → IfOk r (λ n. HasReadReply (value_of framing new more) (bytes ++ take n piece) given)
  reply_reads (Err e) p looks bytes given h = tt
  reply_reads (Ok n) p looks bytes given h =
      let had : HasReadReply (value_of framing was looked) bytes given = subst (λ x. HasReadReply x bytes given) (sym view) h in
      record { reads = reads_by framing piece n was new p bytes given had.reads; looked = looks bytes had.looked }

  pub reply_takes : {E : Type 0} (r : Result ℕ E) → IfOk r (ReplyPushes framing was piece new) → IfOk r (TakesShortestReply self (value_of framing new more) piece)
  reply_takes (Err e) p = tt
  reply_takes (Ok n) p =
      subst (λ s. TakesShortestReply s (value_of framing new more) piece n) view (record {
        framing = refl;
        shortest = λ left is. shortest_by framing piece n was new p left is;
        decoded = λ chunks is. decoded_by framing piece n was new p chunks is;
        all = all_by framing piece n was new p;
      })

  pub reply_moves : {E : Type 0} (r : Result ℕ E) → IfOk r (ReplyPushes framing was piece new) → 0 < length piece
      → IfOk r (λ n. (0 < n) ⊎ ((q : HttpReply) × (self.reading ≡ Waiting q)))
  reply_moves (Err e) p some = tt
  reply_moves (Ok n) p some =
      subst (λ s. (0 < n) ⊎ ((q : HttpReply) × (s.reading ≡ Waiting q))) view (moves_by framing piece n was new p some)

  reply_settled : {E : Type 0} (r : Result ℕ E) → IfOk r (ReplyPushes framing was piece new) → (is_growing was ≡ false → IsOk r × (more ≡ looked)) → is_growing self.reading ≡ false
      → (r ≡ Ok (if is_over_reply self.reading then length piece else 0)) × (value_of framing new more ≡ self)
  reply_settled r p kept e = by_result r p (kept was_settled)
    where
      was_settled : is_growing was ≡ false
      was_settled = ap (λ s. is_growing s.reading) view ∙ e

      by_result : {E : Type 0} (x : Result ℕ E) → IfOk x (ReplyPushes framing was piece new) → IsOk x × (more ≡ looked)
          → (x ≡ Ok (if is_over_reply self.reading then length piece else 0)) × (value_of framing new more ≡ self)
      by_result (Err e) q k = absurd (let clash : false ≡ true = k.0 in cc)
      by_result (Ok n) q k =
          let settled = settled_by framing piece n was new q was_settled in
          (ap Ok (settled.0 ∙ ap (λ s. if is_over_reply s.reading then length piece else 0) view), (λ i. value_of framing (settled.1 i) (k.1 i)) ∙ view)

  pub reply_waits : {E : Type 0} (r : Result ℕ E) → IfOk r (ReplyPushes framing was piece new) → (is_growing was ≡ false → IsOk r × (more ≡ looked)) → (q : HttpReply)
      → self.reading ≡ Waiting q → (r ≡ Ok 0) × (value_of framing new more ≡ self)
  reply_waits r p kept q is =
      let x = reply_settled r p kept (ap is_growing is) in
      (x.0 ∙ ap (λ y. Ok (if is_over_reply y then length piece else 0)) is, x.1)

  pub reply_over : {E : Type 0} (r : Result ℕ E) → IfOk r (ReplyPushes framing was piece new) → (is_growing was ≡ false → IsOk r × (more ≡ looked)) → is_over_reply self.reading ≡ true
      → (r ≡ Ok (length piece)) × (value_of framing new more ≡ self)
  reply_over r p kept over =
      let x = reply_settled r p kept (over_settled self.reading over) in
      (x.0 ∙ ap (λ b. Ok (if b then length piece else 0)) over, x.1)

  pub reply_looks : {E : Type 0} (r : Result ℕ E) → ((left : List ℕ) → was ≡ Partial left → IfOk r (λ n. Counts looked more left (left ++ take n piece)))
      → (left : List ℕ) → self.reading ≡ Partial left → IfOk r (λ n. Counts self.looked more left (left ++ take n piece))
  reply_looks r counts left is =
      subst (λ s. IfOk r (λ n. Counts s.looked more left (left ++ take n piece))) view (counts left (ap (λ s. s.reading) view ∙ is))
