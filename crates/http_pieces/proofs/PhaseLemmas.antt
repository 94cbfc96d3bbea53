-- What a piece adds to the bytes of a message that is not whole.
use Rattle.std.proofs.Common.{◌≡◌, ℕ, ◌+◌, ◌-◌, ◌<◌, ◌≤◌, min, Bool, true, false, nat_lt, List, [], ◌++◌, length, take, drop, refl, sym, ap, subst, ◌∙◌, arith, append-nil, append_assoc, length-append, length-take, Err}
use Rattle.std.proofs.lemmas.Bool.Decides.{nat_tests}
use Rattle.std.proofs.lemmas.List.{take-append-drop, drop-append-le, length-drop}
use Rattle.std.proofs.Math.Seq.{take-length, take-add}
use Rattle.http_pieces.specs.declared.phase.Phase.{Phase}
use Rattle.http_pieces.specs.declared.phase.Phase.TheVariants as phase
use Rattle.http_pieces.specs.declared.scan.Scan.{Scan}
use Rattle.http_pieces.specs.Cut.{Cut, Incomplete, Refused, Complete, IsSingle, IsBlock, skip_pairs, IsCutText, IsCut, most_head}
use Rattle.http_pieces.specs.Form.{Form, IsHeadOf, IsRefused, JudgesTo, IsOpenBody, IsPhaseSound, IsMore, GrowsTo, Grows, Advances, Pushes, filled}
use Rattle.http_pieces.specs.Scan.{IsScanned, IsScannedTo, held}
use Rattle.http_pieces.proofs.CutLemmas.{HasCodings, block_long, skip_append, skip_long, kind_unique, kind_complete_append}
use Rattle.http_pieces.proofs.FormLemmas.{cut_short, cut_too_large, cut_refused, open_short, open_whole, open_in, open_more}
use Rattle.http_pieces.proofs.ScanLemmas.{head_none, head_open}

module _ {R H V : Type 0} (form : Form R H V) where
  -- ---- what came of the bytes up to a place of the piece

  -- a text behind the pairs of the bytes before, and what more bytes make of it
  pub grows_behind : (before piece text after : List ℕ) (seen n : ℕ) (p : Phase H R) → text ≡ skip_pairs (before ++ take seen piece) → seen ≤ length piece
      → Grows form text (drop seen piece) after n p → Grows form before piece after (seen + n) p
  grows_behind before piece text after seen n p text_is le g = record { within = omega (arith, g.within, length-drop seen piece); to = by_phase p g.to; sound = g.sound }
    where
      joined : before ++ take (seen + n) piece ≡ before ++ take seen piece ++ take n (drop seen piece)
      joined = ap (λ t. before ++ t) (take-add seen n piece) ∙ sym (append_assoc before (take seen piece) (take n (drop seen piece)))

      skipped : skip_pairs (text ++ take n (drop seen piece)) ≡ skip_pairs (before ++ take (seen + n) piece)
      skipped =
          ap (λ t. skip_pairs (t ++ take n (drop seen piece))) text_is
          ∙ sym (skip_append (before ++ take seen piece) (take n (drop seen piece)))
          ∙ ap skip_pairs (sym joined)

      cut_on : (k : ℕ) (c : Cut R V) → IsCut (form.kind k) (text ++ take n (drop seen piece)) c → IsCut (form.kind k) (before ++ take (seen + n) piece) c
      cut_on k c cut = subst (λ t. IsCutText (form.kind k) t c) skipped cut

      all : n ≡ length (drop seen piece) → seen + n ≡ length piece
      all is = omega (arith, length-drop seen piece)

      more : IsMore form text (drop seen piece) after n → IsMore form before piece after (seen + n)
      more m = (all m.0, m.1 ∙ skipped, λ k. cut_on k Incomplete (m.2 k))

      by_phase : (x : Phase H R) → GrowsTo form text (drop seen piece) after n x → GrowsTo form before piece after (seen + n) x
      by_phase (phase.Head matched) to = more to
      by_phase (phase.Body head body missing) to = more to
      by_phase (phase.Refused r) to = (all to.0, λ k. cut_on k (Refused r) (to.1 k))
      by_phase (phase.Complete head body) to = λ k. cut_on k (Complete (form.message after head body k) []) (to k)
      by_phase phase.Ended to = to

  -- a refusal of some first bytes, whatever follows them
  pub refused_grows : (before piece after text : List ℕ) (seen : ℕ) (r : R) → skip_pairs (before ++ take seen piece) ≡ text → 2 ≤ length text
      → ((k : ℕ) (more : List ℕ) → IsCutText (form.kind k) (text ++ more) (Refused r)) → Grows form before piece after (length piece) (phase.Refused r)
  refused_grows before piece after text seen r text_is long cut =
      let parts : before ++ take seen piece ++ drop seen piece ≡ before ++ take (length piece) piece =
      append_assoc before (take seen piece) (drop seen piece) ∙ ap (λ t. before ++ t) (take-append-drop seen piece ∙ sym (take-length piece)) in
      let skipped : skip_pairs (before ++ take (length piece) piece) ≡ text ++ drop seen piece =
      ap skip_pairs (sym parts) ∙ skip_long (before ++ take seen piece) (drop seen piece) (omega (arith, long, ap length text_is))
      ∙ ap (λ t. t ++ drop seen piece) text_is in
      record {
        within = omega arith;
        to = (refl, λ k. subst (λ t. IsCutText (form.kind k) t (Refused r)) (sym skipped) (cut k (drop seen piece)));
        sound = tt;
      }

  -- the limit comes before the head's end
  pub too_large_grows : (before piece after : List ℕ) (scan : Scan) (r : R) → IsScannedTo before piece scan → (scan.matched ≡ 4 → ⊥) → scan.size ≡ most_head
      → ((k : ℕ) → r ≡ (form.kind k).too_large) → Grows form before piece after (length piece) (phase.Refused r)
  too_large_grows before piece after scan r to not_four size is =
      let none = head_none (held before piece scan) scan.matched to.head (head_open (held before piece scan) scan.matched to.head not_four) in
      refused_grows before piece after (held before piece scan) scan.seen r to.text_is (omega (arith, to.size_is))
      (λ k more. cut_too_large (form.kind k) (held before piece scan) more r none (omega (arith, to.size_is)) (is k))

  -- the piece ends before the head does
  pub head_grows : (before piece : List ℕ) (scan : Scan) → IsScannedTo before piece scan → (scan.matched ≡ 4 → ⊥) → (scan.size ≡ most_head → ⊥) → scan.seen ≡ length piece
      → Grows form before piece (held before piece scan) (length piece) (phase.Head scan.matched)
  head_grows before piece scan to not_four not_limit all =
      let text = held before piece scan in
      let open_still = head_open text scan.matched to.head not_four in
      let scanned : IsScanned text scan.matched = record { text_is = to.head; goes_on = open_still; short = omega (arith, to.size_is, to.head.limit) } in
      let text_is : skip_pairs (before ++ take (length piece) piece) ≡ text = ap (λ n. skip_pairs (before ++ take n piece)) (sym all) ∙ to.text_is in
      record {
        within = omega arith;
        to = (refl, sym text_is, λ k. subst (λ t. IsCutText (form.kind k) t Incomplete) (sym text_is) (cut_short (form.kind k) text (head_none text scan.matched to.head open_still) scanned.short));
        sound = scanned;
      }

  -- a body that has begun
  pub body_grows : (text piece : List ℕ) (head : H) (body missing n : ℕ) → IsOpenBody form text head body missing → n ≡ min missing (length piece)
      → Grows form text piece (text ++ take n piece) n (filled (phase.Body head body missing) n)
  body_grows text piece head body missing n at n_is = by_test (nat_lt n missing) refl
    where
      after : List ℕ
      after = text ++ take n piece

      on : IsOpenBody form after head body (missing - length (take n piece))
      on = open_more form text head body missing at (take n piece) (omega (arith, length-take n piece))

      by_test : (t : Bool) → nat_lt n missing ≡ t → Grows form text piece after n (filled (phase.Body head body missing) n)
      by_test true less =
          let lt : n < missing = grind (arith, nat_tests) in
          let all : length (take n piece) ≡ n = omega (arith, length-take n piece) in
          let some : 0 < missing - length (take n piece) = omega arith in
          rw less (record {
            within = omega arith;
            to = (omega arith, sym on.unpaired, open_short form after head body (missing - length (take n piece)) on some);
            sound = (subst (IsOpenBody form after head body) (ap (λ m. missing - m) all) on, omega arith);
          })
      by_test false enough =
          let ge : missing ≤ n = grind (arith, nat_tests) in
          let none : missing - length (take n piece) ≡ 0 = omega (arith, length-take n piece) in
          rw enough (record {
            within = omega arith;
            to = open_whole form after head body (missing - length (take n piece)) on none;
            sound = (open_in form after head body (missing - length (take n piece)) on, on.block.within);
          })

  -- a block that was judged
  pub block_grows : (text piece : List ℕ) (r : R) → IsBlock text (length text) → skip_pairs text ≡ text → JudgesTo form text (Err r)
      → (after : List ℕ) → Grows form text piece after (length piece) (phase.Refused r)
  block_grows text piece r block unpaired refused after =
      refused_grows text piece after text 0 r (ap skip_pairs (append-nil text) ∙ unpaired) (omega (arith, block_long text (length text) block))
      (λ k more. cut_refused (form.kind k) text more (length text) r block (subst (λ t. IsRefused (form.kind k) t r) (sym (take-length text)) (refused k)))

  pub block_opens : (text : List ℕ) (head : H) (size : ℕ) → IsBlock text (length text) → skip_pairs text ≡ text → IsHeadOf form text head size
      → IsOpenBody form text head (length text) size
  block_opens text head size block unpaired at =
      let size_is : size ≡ length text - length text + size = omega arith in
      record {
        unpaired = unpaired;
        block = block;
        head_is = subst (λ t. IsHeadOf form t head (length text - length text + size)) (sym (take-length text)) (subst (IsHeadOf form text head) size_is at);
      }

  -- and what the piece has of its body
  pub block_begins : (old piece added new : List ℕ) (front place size n : ℕ) (head : H) (p : Phase H R) → front ≤ length old
      → IsBlock (drop front old) (length (drop front old)) → skip_pairs (drop front old) ≡ drop front old → IsHeadOf form (drop front old) head size
      → place ≡ length old - front → n ≡ min size (length piece) → added ≡ old ++ take n piece → new ≡ drop front added
      → p ≡ filled (phase.Body head place size) n → Grows form (drop front old) piece new n p
  block_begins old piece added new front place size n head p le block unpaired at place_is n_is added_is new_is p_is =
      let text = drop front old in
      let new_text : new ≡ text ++ take n piece = new_is ∙ ap (drop front) added_is ∙ drop-append-le front old (take n piece) le in
      let phase_is : p ≡ filled (phase.Body head (length text) size) n = p_is ∙ ap (λ x. filled (phase.Body head x size) n) (place_is ∙ sym (length-drop front old)) in
      let grows = body_grows text piece head (length text) size n (block_opens text head size block unpaired at) n_is in
      subst (λ x. Grows form text piece x n p) (sym new_text) (subst (Grows form text piece (text ++ take n piece) n) (sym phase_is) grows)

  -- a push to a body that has begun
  pub body_pushes : (before piece after : List ℕ) (head : H) (body missing n : ℕ) (was kept next : Phase H R) → was ≡ phase.Body head body missing → IsPhaseSound form before was
      → n ≡ min missing (length piece) → after ≡ before ++ take n piece → kept ≡ phase.Body head body missing → next ≡ filled kept n → Pushes form before was piece after next n
  body_pushes before piece after head body missing n was kept next was_is sound n_is after_is kept_is next_is =
      let at : IsPhaseSound form before (phase.Body head body missing) = subst (IsPhaseSound form before) was_is sound in
      let grows = body_grows before piece head body missing n at.0 n_is in
      let next_of : next ≡ filled (phase.Body head body missing) n = next_is ∙ ap (λ p. filled p n) kept_is in
      let advances : Advances form before piece after n next = record {
        grows = subst (λ b. Grows form before piece b n next) (sym after_is) (subst (Grows form before piece (before ++ take n piece) n) (sym next_of) grows);
        moves = λ some. omega (arith, at.1);
      } in
      subst (λ w. Pushes form before w piece after next n) (sym was_is) advances

  -- no shorter prefix of the piece makes a whole message
  pub advance_shortest : (k : ℕ) → IsSingle (form.kind k) → HasCodings (form.kind k) → (left piece after : List ℕ) (n : ℕ) (p : Phase H R) → Advances form left piece after n p
      → (m : ℕ) (q : V) (rest : List ℕ) → m < n → ¬ (IsCut (form.kind k) (left ++ take m piece) (Complete q rest))
  advance_shortest k single codings left piece after n p a m q rest lt cut = by_phase p a.grows.to
    where
      tail : List ℕ
      tail = take (n - m) (drop m piece)

      longer : left ++ take m piece ++ tail ≡ left ++ take n piece
      longer =
          let sum : m + (n - m) ≡ n = omega arith in
          append_assoc left (take m piece) tail ∙ ap (λ p. left ++ p) (sym (take-add m (n - m) piece) ∙ ap (λ x. take x piece) sum)

      whole : IsCut (form.kind k) (left ++ take n piece) (Complete q (rest ++ tail))
      whole = subst (λ t. IsCut (form.kind k) t (Complete q (rest ++ tail))) longer (kind_complete_append (form.kind k) codings (left ++ take m piece) tail q rest cut)

      by_phase : (x : Phase H R) → GrowsTo form left piece after n x → ⊥
      by_phase (phase.Head matched) to = let e = kind_unique (form.kind k) single (left ++ take n piece) (Complete q (rest ++ tail)) Incomplete whole (to.2 k) in cc
      by_phase (phase.Body head body missing) to = let e = kind_unique (form.kind k) single (left ++ take n piece) (Complete q (rest ++ tail)) Incomplete whole (to.2 k) in cc
      by_phase (phase.Refused r) to = let e = kind_unique (form.kind k) single (left ++ take n piece) (Complete q (rest ++ tail)) (Refused r) whole (to.1 k) in cc
      by_phase (phase.Complete head body) to =
          let e = kind_unique (form.kind k) single (left ++ take n piece) (Complete q (rest ++ tail)) (Complete (form.message after head body k) []) whole (to k) in
          let none : rest ++ tail ≡ [] = cc in
          omega (arith, ap length none, length-append rest tail, length-take (n - m) (drop m piece), length-drop m piece, a.grows.within)
      by_phase phase.Ended to = to
