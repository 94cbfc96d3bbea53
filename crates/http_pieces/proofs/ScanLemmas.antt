-- How far the end of a head is matched, and what a scan has found.
use Rattle.std.proofs.Common.{◌≡◌, ℕ, ◌+◌, ◌-◌, ◌<◌, ◌≤◌, ◌==◌, Bool, true, false, ◌&&◌, ◌||◌, ◌⊎◌, inl, inr, List, [], ◌∷◌, ◌++◌, length, take, drop, reverse, get_or, refl, sym, ap, subst, ◌∙◌, arith, append-nil, append_assoc, length-append, nat_eq}
use Rattle.std.specs.Prelude.{if◌then◌else◌}
use Rattle.std.proofs.lemmas.Bool.{eqb-true, cases_lt, both_ways}
use Rattle.std.proofs.lemmas.Bool.Decides.{nat_tests}
use Rattle.std.proofs.lemmas.List.{reverse-append, reverse-reverse, take-append-le, take_all, take_more, drop-append-le, drop_all, drop-take, length-take}
use Rattle.std.proofs.Math.Seq.{take-length}
use Rattle.http_pieces.specs.declared.scan.Scan.{Scan}
use Rattle.http_pieces.specs.Cut.{skip_pairs, EndsInEmptyLine, IsBlock, HasNoBlock, most_head}
use Rattle.http_pieces.specs.Scan.{match_on, matched_back, matched_of, IsHeadText, IsScanned, scan_on, held, IsScannedTo, Scans}
use Rattle.http_pieces.proofs.CutLemmas.{skip_append, skip_long}

-- ---- the bytes of CR LF CR LF

matched_push : (text : List ℕ) (b : ℕ) → matched_of (text ++ b ∷ []) ≡ match_on (matched_of text) b
matched_push text b = ap matched_back (reverse-append text (b ∷ []))

after_four : (m : ℕ) → match_on (match_on (match_on (match_on m 13) 10) 13) 10 ≡ 4
after_four m = by_test ((m == 2) || (m == 4)) refl
  where
    by_test : (t : Bool) → ((m == 2) || (m == 4)) ≡ t → match_on (match_on (match_on (match_on m 13) 10) 13) 10 ≡ 4
    by_test true e = rw e refl
    by_test false e = rw e refl

ends_matched : (text : List ℕ) → EndsInEmptyLine text → matched_of text ≡ 4
ends_matched text ends =
    ap matched_of ends.1 ∙ ap matched_back (reverse-append ends.0 (13 ∷ 10 ∷ 13 ∷ 10 ∷ [])) ∙ after_four (matched_back (reverse ends.0))

match_within : (m b : ℕ) → match_on m b ≤ 4
match_within m b = grind (arith, nat_tests)

match_four : (m b : ℕ) → match_on m b ≡ 4 → (b ≡ 10) × (m ≡ 3)
match_four m b e = (grind (arith, nat_tests), grind (arith, nat_tests))

match_three : (m b : ℕ) → match_on m b ≡ 3 → (b ≡ 13) × ((m ≡ 2) ⊎ (m ≡ 4))
match_three m b e = (grind (arith, nat_tests), grind (arith, nat_tests))

match_two : (m b : ℕ) → match_on m b ≡ 2 → (b ≡ 10) × (m ≡ 1)
match_two m b e = (grind (arith, nat_tests), grind (arith, nat_tests))

match_one : (m b : ℕ) → match_on m b ≡ 1 → b ≡ 13
match_one m b e = grind (arith, nat_tests)

back_two : (text : List ℕ) → (matched_back text ≡ 2) ⊎ (matched_back text ≡ 4) → (rest : List ℕ) × (text ≡ 10 ∷ 13 ∷ rest)
back_two [] (inl e) = absurd (omega arith)
back_two [] (inr e) = absurd (omega arith)
back_two (b ∷ []) (inl e) = absurd (let m = match_two 0 b e in omega arith)
back_two (b ∷ []) (inr e) = absurd (let m = match_four 0 b e in omega arith)
back_two (b ∷ a ∷ rest) (inl e) =
    let last = match_two (match_on (matched_back rest) a) b e in
    let first = match_one (matched_back rest) a last.1 in
    (rest, rw (last.0, first) refl)
back_two (b ∷ a ∷ rest) (inr e) =
    let last = match_four (match_on (matched_back rest) a) b e in
    let first = match_three (matched_back rest) a last.1 in
    (rest, rw (last.0, first.0) refl)

two_more : (b a : ℕ) (text rest : List ℕ) → b ≡ 10 → a ≡ 13 → text ≡ rest → b ∷ a ∷ text ≡ 10 ∷ 13 ∷ rest
two_more b a text rest last next front = cc

back_four : (text : List ℕ) → matched_back text ≡ 4 → (rest : List ℕ) × (text ≡ 10 ∷ 13 ∷ 10 ∷ 13 ∷ rest)
back_four [] e = absurd (omega arith)
back_four (b ∷ []) e = absurd (let m = match_four 0 b e in omega arith)
back_four (b ∷ a ∷ text) e =
    let last = match_four (match_on (matched_back text) a) b e in
    let next = match_three (matched_back text) a last.1 in
    let front = back_two text next.1 in
    (front.0, two_more b a text (10 ∷ 13 ∷ front.0) last.0 next.0 front.1)

matched_ends : (text : List ℕ) → matched_of text ≡ 4 → EndsInEmptyLine text
matched_ends text e =
    let back = back_four (reverse text) e in
    (reverse back.0, sym (reverse-reverse text) ∙ ap reverse back.1 ∙ reverse-append (10 ∷ 13 ∷ 10 ∷ 13 ∷ []) back.0)

matched_within : (text : List ℕ) → matched_back text ≤ 4
matched_within [] = omega arith
matched_within (b ∷ text) = match_within (matched_back text) b

-- ---- a head's bytes

pub head_start : IsHeadText [] 0
head_start = record { unpaired = refl; limit = omega arith; matched_is = refl; none = λ k lt. absurd (omega arith) }

-- the block ends here
pub head_block : (text : List ℕ) (m : ℕ) → IsHeadText text m → m ≡ 4 → IsBlock text (length text)
head_block text m h is = record {
  within = omega arith;
  limit = h.limit;
  ends = subst EndsInEmptyLine (sym (take-length text)) (matched_ends text (sym h.matched_is ∙ is));
  shortest = h.none;
}

-- or it has not ended
pub head_none : (text : List ℕ) (m : ℕ) → IsHeadText text m → m < 4 → HasNoBlock text
head_none text m h lt n le ends = by_place (cases_lt n (length text))
  where
    by_place : (n < length text) ⊎ (length text ≤ n) → ⊥
    by_place (inl less) = h.none n less ends
    by_place (inr over) =
        let whole : EndsInEmptyLine text = subst EndsInEmptyLine (take_all n text over) ends in
        let four = ends_matched text whole in
        omega (arith, h.matched_is)

pub head_open : (text : List ℕ) (m : ℕ) → IsHeadText text m → (m ≡ 4 → ⊥) → m < 4
head_open text m h not_four = let le = matched_within (reverse text) in omega (arith, h.matched_is)

head_push : (text : List ℕ) (b m : ℕ) → IsHeadText text m → m < 4 → length text < most_head → skip_pairs (text ++ b ∷ []) ≡ text ++ b ∷ []
    → IsHeadText (text ++ b ∷ []) (match_on m b)
head_push text b m h lt short unpaired = record {
  unpaired = unpaired;
  limit = omega (arith, length-append text (b ∷ []));
  matched_is = ap (λ x. match_on x b) h.matched_is ∙ sym (matched_push text b);
  none = λ k less ends.
      let le : k ≤ length text = omega (arith, length-append text (b ∷ [])) in
      head_none text m h lt k (omega arith) (subst EndsInEmptyLine (take-append-le k text (b ∷ []) le) ends);
}

-- a pair leads the head
paired : (text : List ℕ) (b m : ℕ) → IsHeadText text m → length text ≡ 1 → match_on m b ≡ 2 → skip_pairs (text ++ b ∷ []) ≡ []
paired [] b m h one two = absurd (omega arith)
paired (a ∷ []) b m h one two =
    let last = match_two m b two in
    let first : a ≡ 13 = match_one 0 a (sym h.matched_is ∙ last.1) in
    rw (first, last.0) refl
paired (a ∷ c ∷ text) b m h one two = absurd (omega arith)

-- or none does
unpaired_on : (text : List ℕ) (b m : ℕ) → IsHeadText text m → (length text ≡ 1 → match_on m b ≡ 2 → ⊥) → skip_pairs (text ++ b ∷ []) ≡ text ++ b ∷ []
unpaired_on [] b m h other = refl
unpaired_on (a ∷ []) b m h other = by_tests (nat_eq a 13) refl (nat_eq b 10) refl
  where
    by_tests : (t : Bool) → nat_eq a 13 ≡ t → (u : Bool) → nat_eq b 10 ≡ u → skip_pairs (a ∷ b ∷ []) ≡ a ∷ b ∷ []
    by_tests true x true y =
        let first : a ≡ 13 = eqb-true a 13 x in
        let second : b ≡ 10 = eqb-true b 10 y in
        let m_is : m ≡ 1 = h.matched_is ∙ ap (match_on 0) first in
        absurd (other refl (rw (m_is, second) refl))
    by_tests true x false y = rw (x, y) refl
    by_tests false x u y = rw x refl
unpaired_on (a ∷ c ∷ text) b m h other =
    let long : 2 ≤ length (skip_pairs (a ∷ c ∷ text)) = omega (arith, ap length h.unpaired) in
    skip_long (a ∷ c ∷ text) (b ∷ []) long ∙ ap (λ t. t ++ b ∷ []) h.unpaired

-- ---- the scan of a piece

pub scan_starts : (before piece : List ℕ) (m : ℕ) → IsScanned before m → IsScannedTo before piece (record { seen = 0; skipped = 0; size = length before; matched = m })
scan_starts before piece m h = record {
  within = omega arith;
  behind = omega arith;
  text_is = rw append-nil h.text_is.unpaired;
  size_is = rw append-nil refl;
  head = rw append-nil h.text_is;
}

held_none : (before piece : List ℕ) (n size m : ℕ) → 0 < n → held before piece (record { seen = n; skipped = n; size = size; matched = m }) ≡ []
held_none before piece n size m some =
    let front : (n == 0) ≡ false = grind (arith, nat_tests) in
    rw front (drop_all n (take n piece) (omega (arith, length-take n piece)))

pub scan_seen : (scan : Scan) (b : ℕ) → (scan_on scan b).seen ≡ scan.seen + 1
scan_seen scan b = by_test ((scan.size == 1) && (match_on scan.matched b == 2)) refl
  where
    by_test : (t : Bool) → ((scan.size == 1) && (match_on scan.matched b == 2)) ≡ t → (scan_on scan b).seen ≡ scan.seen + 1
    by_test true e = rw e refl
    by_test false e = rw e refl

module _ (before piece : List ℕ) (scan : Scan) (b : ℕ) (h : IsScannedTo before piece scan) (within : scan.seen < length piece) (b_is : b ≡ get_or piece scan.seen 0) where
  next_take : take (scan.seen + 1) piece ≡ take scan.seen piece ++ b ∷ []
  next_take = take_more piece scan.seen 0 within ∙ ap (λ x. take scan.seen piece ++ x ∷ []) (sym b_is)

  next_text : skip_pairs (before ++ take (scan.seen + 1) piece) ≡ skip_pairs (held before piece scan ++ b ∷ [])
  next_text =
      ap (λ t. skip_pairs (before ++ t)) next_take
      ∙ ap skip_pairs (sym (append_assoc before (take scan.seen piece) (b ∷ [])))
      ∙ skip_append (before ++ take scan.seen piece) (b ∷ [])
      ∙ ap (λ t. skip_pairs (t ++ b ∷ [])) h.text_is

  held_on : (size m : ℕ) → held before piece (record { seen = scan.seen + 1; skipped = scan.skipped; size = size; matched = m }) ≡ held before piece scan ++ b ∷ []
  held_on size m =
      let front = (if scan.skipped == 0 then before else []) in
      let le : scan.skipped ≤ length (take scan.seen piece) = omega (arith, h.behind, length-take scan.seen piece) in
      ap (λ t. front ++ drop scan.skipped t) next_take
      ∙ ap (λ t. front ++ t) (drop-append-le scan.skipped (take scan.seen piece) (b ∷ []) le)
      ∙ sym (append_assoc front (drop scan.skipped (take scan.seen piece)) (b ∷ []))

  pub scan_skips : length (held before piece scan) ≡ 1 → match_on scan.matched b ≡ 2
      → IsScannedTo before piece (record { seen = scan.seen + 1; skipped = scan.seen + 1; size = 0; matched = 0 })
  scan_skips one two =
      let none = held_none before piece (scan.seen + 1) 0 0 (omega arith) in
      record {
        within = omega arith;
        behind = omega arith;
        text_is = next_text ∙ paired (held before piece scan) b scan.matched h.head one two ∙ sym none;
        size_is = sym (ap length none);
        head = subst (λ t. IsHeadText t 0) (sym none) head_start;
      }

  pub scan_goes : scan.matched < 4 → scan.size < most_head → (length (held before piece scan) ≡ 1 → match_on scan.matched b ≡ 2 → ⊥)
      → IsScannedTo before piece (record { seen = scan.seen + 1; skipped = scan.skipped; size = scan.size + 1; matched = match_on scan.matched b })
  scan_goes lt short other =
      let on = held_on (scan.size + 1) (match_on scan.matched b) in
      let unpaired = unpaired_on (held before piece scan) b scan.matched h.head other in
      record {
        within = omega arith;
        behind = omega (arith, h.behind);
        text_is = next_text ∙ unpaired ∙ sym on;
        size_is = omega (arith, h.size_is, ap length on, length-append (held before piece scan) (b ∷ []));
        head = subst (λ t. IsHeadText t (match_on scan.matched b)) (sym on)
            (head_push (held before piece scan) b scan.matched h.head lt (omega (arith, h.size_is)) unpaired);
      }

  pub scan_step : (scan.matched ≡ 4 → ⊥) → (scan.size ≡ most_head → ⊥) → IsScannedTo before piece (scan_on scan b)
  scan_step not_four short = by_tests (scan.size == 1) refl (match_on scan.matched b == 2) refl
    where
      lt : scan.matched < 4
      lt = head_open (held before piece scan) scan.matched h.head not_four

      less : scan.size < most_head
      less = omega (arith, h.size_is, h.head.limit)

      by_tests : (t : Bool) → (scan.size == 1) ≡ t → (u : Bool) → (match_on scan.matched b == 2) ≡ u → IsScannedTo before piece (scan_on scan b)
      by_tests true x true y = rw (x, y) (scan_skips (sym h.size_is ∙ eqb-true scan.size 1 x) (eqb-true (match_on scan.matched b) 2 y))
      by_tests true x false y = rw (x, y) (scan_goes lt less (λ one two. let is : (match_on scan.matched b == 2) ≡ true = rw two refl in both_ways (match_on scan.matched b == 2) y is))
      by_tests false x u y = rw x (scan_goes lt less (λ one two. let is : (scan.size == 1) ≡ true = rw (h.size_is ∙ one) refl in both_ways (scan.size == 1) x is))

-- the head's bytes in the piece, behind a pair that was skipped
pub held_slice : (before piece : List ℕ) (scan : Scan) → scan.skipped ≤ scan.seen → (scan.skipped ≡ 0 → ⊥)
    → held before piece scan ≡ take (scan.seen - scan.skipped) (drop scan.skipped piece)
held_slice before piece scan le some =
    let front : (scan.skipped == 0) ≡ false = grind (arith, nat_tests) in
    let whole : scan.seen ≡ scan.skipped + (scan.seen - scan.skipped) = omega arith in
    rw front (ap (λ n. drop scan.skipped (take n piece)) whole ∙ drop-take scan.skipped (scan.seen - scan.skipped) piece)

-- a scan that stands at the block's end or at the limit has seen some byte
pub scan_moves : (before piece : List ℕ) (scan : Scan) (m : ℕ) → IsScanned before m → IsScannedTo before piece scan
    → (scan.matched ≡ 4) ⊎ (scan.size ≡ most_head) → 0 < scan.seen
scan_moves before piece scan m h to stop = by_place (cases_lt 0 scan.seen)
  where
    by_stop : (held before piece scan ≡ before) → (scan.matched ≡ 4) ⊎ (scan.size ≡ most_head) → ⊥
    by_stop same (inl four) = omega (arith, h.goes_on, h.text_is.matched_is, to.head.matched_is, ap matched_of same)
    by_stop same (inr limit) = omega (arith, h.short, to.size_is, ap length same)

    by_place : (0 < scan.seen) ⊎ (scan.seen ≤ 0) → 0 < scan.seen
    by_place (inl some) = some
    by_place (inr none) =
        let at_start : scan.seen ≡ 0 = omega arith in
        let no_pair : scan.skipped ≡ 0 = omega (arith, to.behind) in
        let same : held before piece scan ≡ before = rw (no_pair, at_start) (append-nil before) in
        absurd (by_stop same stop)

-- else it has seen the whole piece
pub scan_ends : (before piece : List ℕ) (scan : Scan) → Scans before piece scan → (scan.matched ≡ 4 → ⊥) → (scan.size ≡ most_head → ⊥) → scan.seen ≡ length piece
scan_ends before piece scan s not_four not_limit = by_stop s.stops
  where
    by_stop : (scan.matched ≡ 4) ⊎ ((scan.size ≡ most_head) ⊎ (scan.seen ≡ length piece)) → scan.seen ≡ length piece
    by_stop (inl four) = absurd (not_four four)
    by_stop (inr (inl limit)) = absurd (not_limit limit)
    by_stop (inr (inr all)) = all
