-- A reply up to its chunks, and the whole.
use Rattle.std.proofs.Common.{◌≡◌, ℕ, ◌+◌, ◌*◌, ◌<◌, ◌≤◌, Bool, true, false, nat_lt, List, [], ◌++◌, map, length, take, drop, refl, sym, ap, subst, ◌∙◌, arith, append-nil, append_assoc, length-append, length-take, Result, Ok, Err, Option, None}
use Rattle.std.specs.Prelude.{if◌then◌else◌}
use Rattle.std.specs.Result.{IfOk, OnErr}
use Rattle.std.proofs.lemmas.Bool.Decides.{nat_tests}
use Rattle.std.proofs.lemmas.List.{length-drop, take-append-drop}
use Rattle.std.proofs.Math.Seq.{take-add}
use Rattle.httparse.specs.Grammar.{ResponseHead, status_code}
use Rattle.httparse.specs.Spans.{name_and_value}
use Rattle.http_pieces.specs.declared.chunk_parts.ChunkFault.{ChunkFault}
use Rattle.http_pieces.specs.declared.chunks.Chunks.{Chunks}
use Rattle.http_pieces.specs.declared.decoding.Decoding.{Decoding}
use Rattle.http_pieces.specs.declared.decoding.Decoding.TheVariants as decoding
use Rattle.http_pieces.specs.declared.framing.Framing.{Framing}
use Rattle.http_pieces.specs.declared.framing.Framing.TheVariants as framing
use Rattle.http_pieces.specs.declared.phase.Phase.{Phase}
use Rattle.http_pieces.specs.declared.phase.Phase.TheVariants as phase
use Rattle.http_pieces.specs.declared.reply.HttpReply.{HttpReply}
use Rattle.http_pieces.specs.declared.reply_fault.ReplyFault.{ReplyFault}
use Rattle.http_pieces.specs.declared.reply_head.ReplyHead.{ReplyHead}
use Rattle.http_pieces.specs.Chunks.{cut_chunks, cut_on, cut_with, first_place, onto}
use Rattle.http_pieces.specs.Cut.{Coded, Cut, Incomplete, Refused, Complete, IsBlock, IsCut, IsCutText, without_block, without_head, with_head, cut_after, skip_pairs}
use Rattle.http_pieces.specs.Form.{GrowsTo, Advances, IsPhaseSound, Pushes, is_more, unread}
use Rattle.http_pieces.specs.Looked.{Counts, HasLooked, IsLookedAt, searched, read, most_looked}
use Rattle.http_pieces.specs.ReplyHead.{chunk_fault, cut_reply_chunks, reply_asks, reply_kind, reply_length, reply_with, takes_chunks, asks_by_length}
use Rattle.http_pieces.specs.ReplyLayout.{Headed, IsReplyReaderSound, IsUnchunked, ReplyGrows, ChunksGrow, ReplyPushes, asks_headed, headed_kind, headed_length, headed_of, phase_reading, reply_form, reply_from, reply_of, chunked_of, reply_reading_of}
use Rattle.http_pieces.specs.ReplyReader.{Chunked, ReplyReading, chunked_on, Partial, Decoding as Decoded, Waiting, Stopped, Done, left_of_reply}
use Rattle.http_pieces.proofs.Codings.{headed_codings}
use Rattle.http_pieces.proofs.CutLemmas.{block_append, block_long, kind_complete_append, skip_long, unblocked_incomplete}
use Rattle.http_pieces.proofs.LookedLemmas.{left_in, looked_push, pushes_sound}

-- ---- the whole, by the reply up to its chunks

abbrev pub real_if : Bool → HttpReply → List ℕ → Cut ReplyFault HttpReply
real_if true q rest = cut_with (chunk_fault q.status) (λ body. record q { body = body }) (cut_chunks rest)
real_if false q rest = Complete q rest

abbrev pub real_of : Cut ReplyFault Headed → Cut ReplyFault HttpReply
real_of Incomplete = Incomplete
real_of (Refused r) = Refused r
real_of (Complete h rest) = real_if h.in_chunks h.reply rest

real_body : (n : ℕ) (message : List ℕ → HttpReply) (after : List ℕ)
    → real_of (cut_after (asks_headed false (Ok n) message) after) ≡ cut_after (asks_by_length (Ok n) message) after
real_body n message after = by_test (nat_lt (length after) n) refl
  where
    by_test : (t : Bool) → nat_lt (length after) n ≡ t → real_of (cut_after (asks_headed false (Ok n) message) after) ≡ cut_after (asks_by_length (Ok n) message) after
    by_test true short = rw short refl
    by_test false enough = rw enough refl

real_length : (r : Result ℕ ReplyFault) (message : List ℕ → HttpReply) (after : List ℕ)
    → real_of (cut_after (asks_headed false r message) after) ≡ cut_after (asks_by_length r message) after
real_length (Err f) message after = refl
real_length (Ok n) message after = real_body n message after

real_asks : (t : Bool) (h : ResponseHead) (after : List ℕ)
    → real_of (cut_after (asks_headed t (headed_length t h) (reply_with h)) after)
    ≡ cut_after (if t then Coded (cut_reply_chunks h) else asks_by_length (reply_length (status_code h) (map name_and_value h.fields)) (reply_with h)) after
real_asks true h after =
    let none : nat_lt (length after) 0 ≡ false = grind (arith, nat_tests) in
    rw none refl
real_asks false h after = real_length (reply_length (status_code h) (map name_and_value h.fields)) (reply_with h) after

text_real : (fr : Framing) (text : List ℕ) (c : Cut ReplyFault Headed) → IsCutText (headed_kind fr) text c → IsCutText (reply_kind fr) text (real_of c)
text_real fr text c (without_block none e) = without_block none (ap real_of e ∙ by_test (nat_lt (length text) 8192))
  where
    by_test : (t : Bool) → real_of (if t then Incomplete else Refused (headed_kind fr).too_large) ≡ (if t then Incomplete else Refused (reply_kind fr).too_large)
    by_test true = refl
    by_test false = refl
text_real fr text c (without_head n b none e) =
    without_head n b (λ a h. none (asks_headed (takes_chunks fr (status_code h.head) h.head.minor (map name_and_value h.head.fields)) (headed_length (takes_chunks fr (status_code h.head) h.head.minor (map name_and_value h.head.fields)) h.head) (reply_with h.head))
    (record { head = h.head; block_is = h.block_is; asks_is = refl })) (ap real_of e)
text_real fr text c (with_head n a b h e) =
    let t = takes_chunks fr (status_code h.head) h.head.minor (map name_and_value h.head.fields) in
    with_head n (reply_asks fr h.head) b (record { head = h.head; block_is = h.block_is; asks_is = refl })
    (ap real_of (e ∙ ap (λ x. cut_after x (drop n text)) h.asks_is) ∙ real_asks t h.head (drop n text))

pub to_real : (fr : Framing) (text : List ℕ) (c : Cut ReplyFault Headed) → IsCut (headed_kind fr) text c → IsCut (reply_kind fr) text (real_of c)
to_real fr text c cut = text_real fr (skip_pairs text) c cut

-- ---- no chunks where only fixed lengths are taken

flag_after : (t : Bool) (r : Result ℕ ReplyFault) (message : List ℕ → HttpReply) (after : List ℕ) (q : Headed) (rest : List ℕ)
    → Complete q rest ≡ cut_after (asks_headed t r message) after → q.in_chunks ≡ t
flag_after t (Err f) message after q rest e = absurd (cc)
flag_after t (Ok n) message after q rest e = by_test (nat_lt (length after) n) refl
  where
    by_test : (b : Bool) → nat_lt (length after) n ≡ b → q.in_chunks ≡ t
    by_test true short = absurd (let same : ◌≡◌ {A = Cut ReplyFault Headed} (Complete q rest) Incomplete = rw short at e in cc)
    by_test false enough =
        let same : ◌≡◌ {A = Cut ReplyFault Headed} (Complete q rest) (Complete (record { reply = message (take n after); in_chunks = t }) (drop n after)) = rw enough at e in
        let head : q ≡ record { reply = message (take n after); in_chunks = t } = cc in
        ap (λ x. x.in_chunks) head

text_flag : (text : List ℕ) (q : Headed) (rest : List ℕ) → IsCutText (headed_kind framing.Fixed) text (Complete q rest) → q.in_chunks ≡ false
text_flag text q rest (without_block none e) = absurd (unblocked_incomplete (headed_kind framing.Fixed) text q rest e)
text_flag text q rest (without_head n b none e) = absurd (cc)
text_flag text q rest (with_head n a b h e) =
    flag_after false (headed_length false h.head) (reply_with h.head) (drop n text) q rest (e ∙ ap (λ x. cut_after x (drop n text)) h.asks_is)

pub fixed_unchunked : (before piece after : List ℕ) (n : ℕ) (was new : Phase ReplyHead ReplyFault) → IsUnchunked was → Pushes (reply_form framing.Fixed) before was piece after new n
    → IsUnchunked new
fixed_unchunked before piece after n was new unchunked p = by_was was unchunked p
  where
    by_new : (x : Phase ReplyHead ReplyFault) → GrowsTo (reply_form framing.Fixed) before piece after n x → IsUnchunked x
    by_new (phase.Head matched) g = tt
    by_new (phase.Body head body missing) g = tt
    by_new (phase.Refused f) g = tt
    by_new (phase.Complete head body) g = text_flag (skip_pairs (before ++ take n piece)) (headed_of after head body) [] (g 0)
    by_new phase.Ended g = tt

    by_was : (w : Phase ReplyHead ReplyFault) → IsUnchunked w → Pushes (reply_form framing.Fixed) before w piece after new n → IsUnchunked new
    by_was (phase.Head matched) u x = by_new new x.grows.to
    by_was (phase.Body head body missing) u x = by_new new x.grows.to
    by_was (phase.Complete head body) u x = subst IsUnchunked (sym x.2) u
    by_was (phase.Refused f) u x = subst IsUnchunked (sym x.2) tt
    by_was phase.Ended u x = subst IsUnchunked (sym x.2) tt

-- ---- a push that ends before any chunks

pub pushes_plain : (fr : Framing) (before piece after : List ℕ) (n : ℕ) (was new : Phase ReplyHead ReplyFault) → IsUnchunked new
    → Pushes (reply_form fr) before was piece after new n → ReplyPushes fr (phase_reading before was) piece (phase_reading after new) n
pushes_plain fr before piece after n was new unchunked p = by_was was p
  where
    by_new : (x : Phase ReplyHead ReplyFault) → IsUnchunked x → GrowsTo (reply_form fr) before piece after n x → ReplyGrows fr before piece n (phase_reading after x)
    by_new (phase.Head matched) u g = (g.0, g.1, to_real fr (before ++ take n piece) Incomplete (g.2 0))
    by_new (phase.Body head body missing) u g = (g.0, g.1, to_real fr (before ++ take n piece) Incomplete (g.2 0))
    by_new (phase.Refused f) u g = (g.0, to_real fr (before ++ take n piece) (Refused f) (g.1 0))
    by_new (phase.Complete head body) u g =
        subst (λ t. IsCut (reply_kind fr) (before ++ take n piece) (real_if t (reply_of after head body) [])) u
        (to_real fr (before ++ take n piece) (Complete (headed_of after head body) []) (g 0))
    by_new phase.Ended u g = absurd g

    grown : Advances (reply_form fr) before piece after n new → ReplyPushes fr (Partial before) piece (phase_reading after new) n
    grown a = (a.grows.within, a.moves, by_new new unchunked a.grows.to)

    stays : (w : Phase ReplyHead ReplyFault) → after ≡ before → new ≡ w → phase_reading after new ≡ phase_reading before w
    stays w bytes_are phase_is = ap (phase_reading after) phase_is ∙ ap (λ b. phase_reading b w) bytes_are

    by_was : (w : Phase ReplyHead ReplyFault) → Pushes (reply_form fr) before w piece after new n → ReplyPushes fr (phase_reading before w) piece (phase_reading after new) n
    by_was (phase.Head matched) x = grown x
    by_was (phase.Body head body missing) x = grown x
    by_was (phase.Complete head body) x = (x.0, stays (phase.Complete head body) x.1 x.2)
    by_was (phase.Refused f) x = (x.0, stays (phase.Refused f) x.1 x.2)
    by_was phase.Ended x = (x.0, stays phase.Ended x.1 x.2)

-- ---- a push that comes to chunks

onto_none : (c : Cut ChunkFault (List ℕ)) → onto [] c ≡ c
onto_none Incomplete = refl
onto_none (Refused f) = refl
onto_none (Complete body rest) = refl

-- the message up to its chunks has come
pub record HasHead (before piece after : List ℕ) (n : ℕ) (head : ReplyHead) (body_at : ℕ) : Type 0 where
  pub within : n ≤ length piece
  pub moves : 0 < length piece → 0 < n
  pub cut : IsCut (headed_kind framing.Any) (before ++ take n piece) (Complete (headed_of after head body_at) [])

pub has_head : (before piece after : List ℕ) (n : ℕ) (was new : Phase ReplyHead ReplyFault) (head : ReplyHead) (body_at : ℕ) → IsUnchunked was
    → Pushes (reply_form framing.Any) before was piece after new n → new ≡ phase.Complete head body_at → head.in_chunks ≡ true
    → HasHead before piece after n head body_at × (is_more was ≡ true)
has_head before piece after n was new head body_at unchunked p new_is flag = by_was was unchunked p
  where
    grown : Advances (reply_form framing.Any) before piece after n new → HasHead before piece after n head body_at
    grown a =
        let to : GrowsTo (reply_form framing.Any) before piece after n (phase.Complete head body_at) = subst (GrowsTo (reply_form framing.Any) before piece after n) new_is a.grows.to in
        record { within = a.grows.within; moves = a.moves; cut = to 0 }

    clash : IsUnchunked new → ⊥
    clash u = let no : head.in_chunks ≡ false = subst IsUnchunked new_is u in let wrong : true ≡ false = sym flag ∙ no in cc

    by_was : (w : Phase ReplyHead ReplyFault) → IsUnchunked w → Pushes (reply_form framing.Any) before w piece after new n → HasHead before piece after n head body_at × (is_more w ≡ true)
    by_was (phase.Head matched) u x = (grown x, refl)
    by_was (phase.Body h body missing) u x = (grown x, refl)
    by_was (phase.Complete h body) u x = absurd (clash (subst IsUnchunked (sym x.2) u))
    by_was (phase.Refused f) u x = absurd (clash (subst IsUnchunked (sym x.2) tt))
    by_was phase.Ended u x = absurd (clash (subst IsUnchunked (sym x.2) tt))

module _ (before piece after : List ℕ) (n m : ℕ) (head : ReplyHead) (body_at : ℕ) (has : HasHead before piece after n head body_at) (flag : head.in_chunks ≡ true) where
  first : List ℕ
  first = before ++ take n piece

  -- what follows the head is cut out of its chunks
  behind : (chunks : Chunks) → chunks.body.items ≡ [] → chunks.whole ≡ 0 → chunks.place ≡ first_place → (more : List ℕ)
      → IsCut (reply_kind framing.Any) (before ++ take n piece ++ more) (chunked_on (chunked_of head chunks) more)
  behind chunks none zero_is place_is more =
      let grown : IsCut (headed_kind framing.Any) ((before ++ take n piece) ++ more) (Complete (headed_of after head body_at) more) =
      kind_complete_append (headed_kind framing.Any) (headed_codings framing.Any) (before ++ take n piece) more (headed_of after head body_at) [] has.cut in
      let real : IsCut (reply_kind framing.Any) ((before ++ take n piece) ++ more) (real_if true (reply_of after head body_at) more) =
      subst (λ t. IsCut (reply_kind framing.Any) ((before ++ take n piece) ++ more) (real_if t (reply_of after head body_at) more)) flag
      (to_real framing.Any ((before ++ take n piece) ++ more) (Complete (headed_of after head body_at) more) grown) in
      let on : cut_on chunks.body.items chunks.whole chunks.place more ≡ cut_chunks more =
      ap (λ b. cut_on b chunks.whole chunks.place more) none ∙ ap (λ w. cut_on [] w chunks.place more) zero_is ∙ ap (λ p. cut_on [] 0 p more) place_is
      ∙ onto_none (cut_chunks more) in
      subst (IsCut (reply_kind framing.Any) ((before ++ take n piece) ++ more)) (ap (cut_with (chunk_fault head.status) (reply_from head)) (sym on)) real

  pub pushes_chunked : (chunks : Chunks) → chunks.body.items ≡ [] → chunks.whole ≡ 0 → chunks.place ≡ first_place → m ≤ length (drop n piece) → (new : ReplyReading)
      → ChunksGrow (chunked_of head chunks) (drop n piece) m new → ReplyPushes framing.Any (Partial before) piece new (n + m)
  pushes_chunked chunks none zero_is place_is le new g =
      (omega (arith, le, has.within, length-drop n piece), λ some. omega (arith, has.moves some), by_new new g)
    where
      all : m ≡ length (drop n piece) → n + m ≡ length piece
      all e = omega (arith, e, has.within, length-drop n piece)

      parts : take (n + m) piece ≡ take n piece ++ take m (drop n piece)
      parts = take-add n m piece

      at : (more : List ℕ) → IsCut (reply_kind framing.Any) ((before ++ take (n + m) piece) ++ more) (chunked_on (chunked_of head chunks) (take m (drop n piece) ++ more))
      at more =
          let same : (before ++ take n piece) ++ (take m (drop n piece) ++ more) ≡ (before ++ take (n + m) piece) ++ more =
          append_assoc before (take n piece) (take m (drop n piece) ++ more)
          ∙ ap (λ t. before ++ t) (sym (append_assoc (take n piece) (take m (drop n piece)) more) ∙ ap (λ t. t ++ more) (sym parts)) ∙ sym (append_assoc before (take (n + m) piece) more) in
          subst (λ t. IsCut (reply_kind framing.Any) t (chunked_on (chunked_of head chunks) (take m (drop n piece) ++ more))) same
          (behind chunks none zero_is place_is (take m (drop n piece) ++ more))

      at_end : (c : Cut ReplyFault HttpReply) → chunked_on (chunked_of head chunks) (take m (drop n piece) ++ []) ≡ c → IsCut (reply_kind framing.Any) (before ++ take (n + m) piece) c
      at_end c e =
          subst (λ t. IsCut (reply_kind framing.Any) t c) (append-nil (before ++ take (n + m) piece))
          (subst (IsCut (reply_kind framing.Any) ((before ++ take (n + m) piece) ++ [])) e (at []))

      by_new : (x : ReplyReading) → ChunksGrow (chunked_of head chunks) (drop n piece) m x → ReplyGrows framing.Any before piece (n + m) x
      by_new (Partial after) h = absurd h
      by_new (Decoded after) h = (all h.0, h.1, λ more. subst (IsCut (reply_kind framing.Any) ((before ++ take (n + m) piece) ++ more)) (h.2 more) (at more))
      by_new (Waiting q) h = at_end (Complete q []) (h [])
      by_new (Stopped f) h = (all h.0, at_end (Refused f) (h.1 []))
      by_new Done h = absurd h

-- chunks come to what they do, whatever the bytes before them
pub chunks_read_on : (was : Chunked) (piece bytes : List ℕ) (n : ℕ) (p : Phase ReplyHead ReplyFault) (d : Decoding)
    → ChunksGrow was piece n (reply_reading_of [] phase.Ended d) → ChunksGrow was piece n (reply_reading_of bytes p d)
chunks_read_on was piece bytes n p decoding.No g = absurd g
chunks_read_on was piece bytes n p (decoding.Begun head chunks) g = g
chunks_read_on was piece bytes n p (decoding.Whole q) g = g
chunks_read_on was piece bytes n p (decoding.Faulty f) g = g

-- ---- what is looked at

pub left_is : (bytes : List ℕ) (w : Phase ReplyHead ReplyFault) → left_of_reply (phase_reading bytes w) ≡ left_in bytes w
left_is bytes (phase.Head matched) = refl
left_is bytes (phase.Body head body missing) = refl
left_is bytes (phase.Complete head body) = refl
left_is bytes (phase.Refused f) = refl
left_is bytes phase.Ended = refl

pub plain_looks : (fr : Framing) (before piece after : List ℕ) (was new : Phase ReplyHead ReplyFault) (n looked more : ℕ) (text : List ℕ) → IsPhaseSound (reply_form fr) before was
    → Pushes (reply_form fr) before was piece after new n → more + unread after new ≤ looked + unread before was + 2 * n
    → HasLooked looked (left_of_reply (phase_reading before was)) text → HasLooked more (left_of_reply (phase_reading after new)) (text ++ take n piece)
plain_looks fr before piece after was new n looked more text sound p le h =
    subst (λ l. HasLooked more l (text ++ take n piece)) (sym (left_is after new))
    (looked_push (reply_form fr) before piece after was new n looked more text sound p le (subst (λ l. HasLooked looked l text) (left_is before was) h))

-- bytes that are not looked at
pub more_taken : (looked n m : ℕ) (left : Option (List ℕ)) (text piece : List ℕ) → n ≤ m → HasLooked looked left (text ++ take n piece) → HasLooked looked None (text ++ take m piece)
more_taken looked n m left text piece le h = record {
  twice = omega (arith, h.twice, length-append text (take n piece), length-append text (take m piece), length-take n piece, length-take m piece);
  once = λ t e none. absurd (cc);
}

text_blocked : (text : List ℕ) (q : Headed) (rest : List ℕ) → IsCutText (headed_kind framing.Any) text (Complete q rest) → (m : ℕ) × IsBlock text m
text_blocked text q rest (without_block none e) = absurd (unblocked_incomplete (headed_kind framing.Any) text q rest e)
text_blocked text q rest (without_head n b none e) = absurd (cc)
text_blocked text q rest (with_head n a b h e) = (n, b)

looked_grown : (text more : List ℕ) (n : ℕ) → ((m : ℕ) × IsBlock (skip_pairs text) m) → IsLookedAt text n → IsLookedAt (text ++ more) n
looked_grown text more n block (searched none is) = absurd (none block.0 block.1.limit block.1.ends)
looked_grown text more n block (read m b is) =
    let long : 2 ≤ length (skip_pairs text) = omega (arith, block_long (skip_pairs text) m b, b.within) in
    let same : skip_pairs (text ++ more) ≡ skip_pairs text ++ more = skip_long text more long in
    read m (subst (λ t. IsBlock t m) (sym same) (block_append (skip_pairs text) more m b))
    (omega (arith, is, ap length same, length-append text more, length-append (skip_pairs text) more))

pub chunked_counts : (before piece after : List ℕ) (n m looked more : ℕ) (head : ReplyHead) (body_at : ℕ) → HasHead before piece after n head body_at
    → Counts looked more before (before ++ take n piece) → Counts looked more before (before ++ take (n + m) piece)
chunked_counts before piece after n m looked more head body_at has c =
    let same : (before ++ take n piece) ++ take m (drop n piece) ≡ before ++ take (n + m) piece =
    append_assoc before (take n piece) (take m (drop n piece)) ∙ ap (λ t. before ++ t) (sym (take-add n m piece)) in
    record {
      before = c.before;
      after = c.after;
      was = c.was;
      is = subst (λ t. IsLookedAt t c.after) same
          (looked_grown (before ++ take n piece) (take m (drop n piece)) c.after (text_blocked (skip_pairs (before ++ take n piece)) (headed_of after head body_at) [] has.cut) c.is);
      counted = c.counted;
      rises = c.rises;
    }

-- a fault in the first bytes is one of all
pub faulty_chunks : (was : List ℕ → Cut ReplyFault HttpReply) (bytes : List ℕ) (n : ℕ) (f : ReplyFault) → ((more : List ℕ) → was (take n bytes ++ more) ≡ Refused f)
    → (more : List ℕ) → was (bytes ++ more) ≡ Refused f
faulty_chunks was bytes n f h more =
    let parts : take n bytes ++ (drop n bytes ++ more) ≡ bytes ++ more = sym (append_assoc (take n bytes) (drop n bytes) more) ∙ ap (λ t. t ++ more) (take-append-drop n bytes) in
    ap was (sym parts) ∙ h (drop n bytes ++ more)

-- ---- what the steps of a push come to

growing_partial : (bytes : List ℕ) (w : Phase ReplyHead ReplyFault) → is_more w ≡ true → phase_reading bytes w ≡ Partial bytes
growing_partial bytes (phase.Head matched) e = refl
growing_partial bytes (phase.Body head body missing) e = refl
growing_partial bytes (phase.Complete head body) e = absurd (cc)
growing_partial bytes (phase.Refused f) e = absurd (cc)
growing_partial bytes phase.Ended e = absurd (cc)

pub fixed_pushes : {E : Type 0} (r : Result ℕ E) (before piece after : List ℕ) (was new : Phase ReplyHead ReplyFault) → IsUnchunked was
    → IfOk r (Pushes (reply_form framing.Fixed) before was piece after new) → IfOk r (ReplyPushes framing.Fixed (phase_reading before was) piece (phase_reading after new))
fixed_pushes (Err e) before piece after was new u p = tt
fixed_pushes (Ok n) before piece after was new u p =
    pushes_plain framing.Fixed before piece after n was new (fixed_unchunked before piece after n was new u p) p

pub fixed_sound : {E : Type 0} (r : Result ℕ E) (before piece after : List ℕ) (was new : Phase ReplyHead ReplyFault) (looked more : ℕ) → IsPhaseSound (reply_form framing.Fixed) before was
    → IsUnchunked was → IfOk r (Pushes (reply_form framing.Fixed) before was piece after new) → OnErr r ((after ≡ before) × (new ≡ was) × (more ≡ looked)) → more ≤ most_looked
    → IsReplyReaderSound framing.Fixed after new decoding.No more
fixed_sound (Err e) before piece after was new looked more sound u p same still = record {
  phase_sound = subst (λ b. IsPhaseSound (reply_form framing.Fixed) b new) (sym same.0) (subst (IsPhaseSound (reply_form framing.Fixed) before) (sym same.1) sound);
  decoding_sound = subst IsUnchunked (sym same.1) u;
  still = still;
}
fixed_sound (Ok n) before piece after was new looked more sound u p same still = record {
  phase_sound = pushes_sound (reply_form framing.Fixed) before piece after was new n sound p;
  decoding_sound = fixed_unchunked before piece after n was new u p;
  still = still;
}

pub fixed_looks : {E : Type 0} (r : Result ℕ E) (before piece after : List ℕ) (was new : Phase ReplyHead ReplyFault) (looked more : ℕ) → IsPhaseSound (reply_form framing.Fixed) before was
    → IfOk r (Pushes (reply_form framing.Fixed) before was piece after new) → IfOk r (λ n. more + unread after new ≤ looked + unread before was + 2 * n)
    → (text : List ℕ) → HasLooked looked (left_of_reply (phase_reading before was)) text → IfOk r (λ n. HasLooked more (left_of_reply (phase_reading after new)) (text ++ take n piece))
fixed_looks (Err e) before piece after was new looked more sound p le text h = tt
fixed_looks (Ok n) before piece after was new looked more sound p le text h = plain_looks framing.Fixed before piece after was new n looked more text sound p le h

-- nothing is looked at of chunks
pub begun_looks : {E : Type 0} (r : Result ℕ E) (fr : Framing) (was : Chunked) (piece bytes : List ℕ) (p : Phase ReplyHead ReplyFault) (d : Decoding) (looked : ℕ) (left : Option (List ℕ))
    → IfOk r (ReplyPushes fr (Decoded was) piece (reply_reading_of [] phase.Ended d)) → (text : List ℕ) → HasLooked looked left text
    → IfOk r (λ n. HasLooked looked (left_of_reply (reply_reading_of bytes p d)) (text ++ take n piece))
begun_looks (Err e) fr was piece bytes p d looked left pushes text h = tt
begun_looks (Ok n) fr was piece bytes p d looked left pushes text h = by_decoding d pushes.2
  where
    none : HasLooked looked None (text ++ take n piece)
    none = record { twice = omega (arith, h.twice, length-append text (take n piece)); once = λ t e no. absurd (cc) }

    by_decoding : (x : Decoding) → ChunksGrow was piece n (reply_reading_of [] phase.Ended x) → HasLooked looked (left_of_reply (reply_reading_of bytes p x)) (text ++ take n piece)
    by_decoding decoding.No g = absurd g
    by_decoding (decoding.Begun head chunks) g = none
    by_decoding (decoding.Whole q) g = none
    by_decoding (decoding.Faulty f) g = none

-- the head came, and chunks behind it
module _ (before piece after : List ℕ) (n m : ℕ) (was new : Phase ReplyHead ReplyFault) (head : ReplyHead) (body_at : ℕ) (u : IsUnchunked was)
    (p : Pushes (reply_form framing.Any) before was piece after new n) (new_is : new ≡ phase.Complete head body_at) (flag : head.in_chunks ≡ true) where
  has : HasHead before piece after n head body_at × (is_more was ≡ true)
  has = has_head before piece after n was new head body_at u p new_is flag

  pub any_pushes : (chunks : Chunks) (d : Decoding) (bytes : List ℕ) (x : Phase ReplyHead ReplyFault) → chunks.body.items ≡ [] → chunks.whole ≡ 0 → chunks.place ≡ first_place
      → m ≤ length (drop n piece) → ChunksGrow (chunked_of head chunks) (drop n piece) m (reply_reading_of [] phase.Ended d)
      → ReplyPushes framing.Any (phase_reading before was) piece (reply_reading_of bytes x d) (n + m)
  any_pushes chunks d bytes x none zero_is place_is le g =
      subst (λ r. ReplyPushes framing.Any r piece (reply_reading_of bytes x d) (n + m)) (sym (growing_partial before was has.1))
      (pushes_chunked before piece after n m head body_at has.0 flag chunks none zero_is place_is le (reply_reading_of bytes x d)
      (chunks_read_on (chunked_of head chunks) (drop n piece) bytes m x d g))

  pub any_looks : (chunks : Chunks) (d : Decoding) (bytes : List ℕ) (x : Phase ReplyHead ReplyFault) (looked more : ℕ) → IsPhaseSound (reply_form framing.Any) before was
      → more + unread after new ≤ looked + unread before was + 2 * n → ChunksGrow (chunked_of head chunks) (drop n piece) m (reply_reading_of [] phase.Ended d)
      → (text : List ℕ) → HasLooked looked (left_of_reply (phase_reading before was)) text → HasLooked more (left_of_reply (reply_reading_of bytes x d)) (text ++ take (n + m) piece)
  any_looks chunks d bytes x looked more sound le g text h = by_decoding d g
    where
      none : HasLooked more None (text ++ take (n + m) piece)
      none = more_taken more n (n + m) (left_of_reply (phase_reading after new)) text piece (omega arith) (plain_looks framing.Any before piece after was new n looked more text sound p le h)

      by_decoding : (y : Decoding) → ChunksGrow (chunked_of head chunks) (drop n piece) m (reply_reading_of [] phase.Ended y) → HasLooked more (left_of_reply (reply_reading_of bytes x y)) (text ++ take (n + m) piece)
      by_decoding decoding.No gr = absurd gr
      by_decoding (decoding.Begun hd chunks) gr = none
      by_decoding (decoding.Whole q) gr = none
      by_decoding (decoding.Faulty f) gr = none

  pub any_counts : (looked more : ℕ) → Counts looked more before (before ++ take n piece) → Counts looked more before (before ++ take (n + m) piece)
  any_counts looked more counts = chunked_counts before piece after n m looked more head body_at has.0 counts

  pub any_growing : is_more was ≡ true
  any_growing = has.1
