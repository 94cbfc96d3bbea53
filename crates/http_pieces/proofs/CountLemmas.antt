-- What a push counts of the bytes that it looks at.
use Rattle.std.proofs.Common.{◌≡◌, ℕ, ◌+◌, ◌-◌, ◌*◌, ◌≤◌, List, [], ◌++◌, length, take, drop, sym, ap, subst, ◌∙◌, arith, append-nil, append_assoc, length-append, length-take}
use Rattle.std.proofs.Math.Seq.{take-add}
use Rattle.http_pieces.specs.declared.scan.Scan.{Scan}
use Rattle.http_pieces.specs.Cut.{IsBlock, HasNoBlock, skip_pairs, most_head}
use Rattle.http_pieces.specs.Form.{Form, IsOpenBody}
use Rattle.http_pieces.specs.Looked.{IsLookedAt, searched, read, Counts, led_by, looked_on, most_looked}
use Rattle.http_pieces.specs.Scan.{IsScanned, IsScannedTo, held}
use Rattle.http_pieces.proofs.CutLemmas.{skip_long, skip_shorter, block_append, block_long, block_unique, no_block_append}
use Rattle.http_pieces.proofs.ScanLemmas.{head_block, head_none, head_open}

-- ---- a text is looked at so far, and no further

-- its pairs and its head are part of it
led_within : (text : List ℕ) → led_by text + length (skip_pairs text) ≡ length text
led_within text = omega (arith, skip_shorter text)

pub looked_twice : (text : List ℕ) (n : ℕ) → IsLookedAt text n → n ≤ 2 * length text
looked_twice text n (searched none is) = omega (arith, is, led_within text)
looked_twice text n (read m block is) = omega (arith, is, led_within text, block.within)

pub looked_unique : (text : List ℕ) (m n : ℕ) → IsLookedAt text m → IsLookedAt text n → m ≡ n
looked_unique text m n (searched none is) (searched also_none also) = is ∙ sym also
looked_unique text m n (searched none is) (read size block also) = absurd (none size block.limit block.ends)
looked_unique text m n (read size block is) (searched none also) = absurd (none size block.limit block.ends)
looked_unique text m n (read size block is) (read other its also) =
    let same : size ≡ other = block_unique (skip_pairs text) size other block its in
    is ∙ ap (λ k. led_by text + 2 * k) same ∙ sym also

-- ---- the bytes of a head that has not ended

pub scanned_looked : (text : List ℕ) (m : ℕ) → IsScanned text m → IsLookedAt text (length text)
scanned_looked text m s =
    searched (subst HasNoBlock (sym s.text_is.unpaired) (head_none text m s.text_is s.goes_on))
    (omega (arith, ap length s.text_is.unpaired, s.short))

-- ---- and a piece that was scanned behind them

module _ (before piece : List ℕ) (scan : Scan) (to : IsScannedTo before piece scan) where
  abbrev text : List ℕ
  text = held before piece scan

  joined : (e : ℕ) → before ++ take (scan.seen + e) piece ≡ before ++ take scan.seen piece ++ take e (drop scan.seen piece)
  joined e = ap (λ t. before ++ t) (take-add scan.seen e piece) ∙ sym (append_assoc before (take scan.seen piece) (take e (drop scan.seen piece)))

  -- what follows a head of two bytes or more leaves the pairs in front of it as they were
  beyond : (e : ℕ) → 2 ≤ length text → skip_pairs (before ++ take (scan.seen + e) piece) ≡ text ++ take e (drop scan.seen piece)
  beyond e long =
      ap skip_pairs (joined e)
      ∙ skip_long (before ++ take scan.seen piece) (take e (drop scan.seen piece)) (omega (arith, long, ap length to.text_is))
      ∙ ap (λ t. t ++ take e (drop scan.seen piece)) to.text_is

  front : length (before ++ take scan.seen piece) ≡ length before + scan.seen
  front = omega (arith, length-append before (take scan.seen piece), length-take scan.seen piece, to.within)

  led : (e : ℕ) → 2 ≤ length text → led_by (before ++ take (scan.seen + e) piece) + length text ≡ length before + scan.seen
  led e long =
      let whole : length (before ++ take (scan.seen + e) piece) ≡ length before + scan.seen + length (take e (drop scan.seen piece)) =
      ap length (joined e) ∙ length-append (before ++ take scan.seen piece) (take e (drop scan.seen piece)) ∙ ap (λ n. n + length (take e (drop scan.seen piece))) front in
      let rest : length (skip_pairs (before ++ take (scan.seen + e) piece)) ≡ length text + length (take e (drop scan.seen piece)) =
      ap length (beyond e long) ∙ length-append text (take e (drop scan.seen piece)) in
      let fits : length text ≤ length before + scan.seen = omega (arith, ap length to.text_is, skip_shorter (before ++ take scan.seen piece), front) in
      omega (arith, whole, rest, fits)

  -- the block ends, and is looked at once more, whatever of the message follows it
  pub ended_looked : scan.matched ≡ 4 → (e : ℕ) → IsLookedAt (before ++ take (scan.seen + e) piece) (length before + (scan.seen + scan.size))
  ended_looked four e =
      let block : IsBlock text (length text) = head_block text scan.matched to.head four in
      let long : 2 ≤ length text = omega (arith, block_long text (length text) block) in
      read (length text)
      (subst (λ t. IsBlock t (length text)) (sym (beyond e long)) (block_append text (take e (drop scan.seen piece)) (length text) block))
      (omega (arith, led e long, to.size_is))

  -- the limit comes before the block's end
  pub limit_looked : (scan.matched ≡ 4 → ⊥) → scan.size ≡ most_head → IsLookedAt (before ++ take (length piece) piece) (length before + scan.seen)
  limit_looked not_four size =
      let rest = length piece - scan.seen in
      let more = take rest (drop scan.seen piece) in
      let whole : scan.seen + rest ≡ length piece = omega (arith, to.within) in
      let long : 2 ≤ length text = omega (arith, to.size_is) in
      let none : HasNoBlock text = head_none text scan.matched to.head (head_open text scan.matched to.head not_four) in
      subst (λ n. IsLookedAt (before ++ take n piece) (length before + scan.seen)) whole
      (searched (subst HasNoBlock (sym (beyond rest long)) (no_block_append text more (omega (arith, to.size_is)) none))
      (omega (arith, led rest long, to.size_is, ap length (beyond rest long), length-append text more)))

  -- the piece ends before both
  pub open_looked : (scan.matched ≡ 4 → ⊥) → scan.seen ≡ length piece → IsLookedAt (before ++ take (length piece) piece) (length before + scan.seen)
  open_looked not_four all =
      let none : HasNoBlock text = head_none text scan.matched to.head (head_open text scan.matched to.head not_four) in
      let whole : before ++ take scan.seen piece ≡ before ++ take (length piece) piece = ap (λ n. before ++ take n piece) all in
      let is : skip_pairs (before ++ take (length piece) piece) ≡ text = ap skip_pairs (sym whole) ∙ to.text_is in
      searched (subst HasNoBlock (sym is) none)
      (omega (arith, ap length is, ap length whole, front, skip_shorter (before ++ take (length piece) piece), to.head.limit))

-- ---- a body is not looked at

pub body_looked : {R H V : Type 0} (form : Form R H V) (text more : List ℕ) (head : H) (body missing : ℕ) → IsOpenBody form text head body missing
    → IsLookedAt (text ++ more) (2 * body)
body_looked form text more head body missing at =
    let long : 2 ≤ length (skip_pairs text) = omega (arith, ap length at.unpaired, block_long text body at.block, at.block.within) in
    let is : skip_pairs (text ++ more) ≡ text ++ more = skip_long text more long ∙ ap (λ t. t ++ more) at.unpaired in
    read body (subst (λ t. IsBlock t body) (sym is) (block_append text more body at.block)) (omega (arith, ap length is))

-- ---- what a push counts

pub head_counts : (before piece : List ℕ) (m n count looked more : ℕ) → IsScanned before m → IsLookedAt (before ++ take n piece) (length before + count)
    → more ≡ looked_on looked count → looked ≤ most_looked → Counts looked more before (before ++ take n piece)
head_counts before piece m n count looked more s at more_is still =
    let same : count ≡ length before + count - length before = omega arith in
    record {
      before = length before;
      after = length before + count;
      was = scanned_looked before m s;
      is = at;
      counted = more_is ∙ ap (looked_on looked) same;
      rises = omega (arith, more_is, still);
    }

pub body_counts : {R H V : Type 0} (form : Form R H V) (before piece : List ℕ) (head : H) (body missing n looked : ℕ) → IsOpenBody form before head body missing
    → looked ≤ most_looked → Counts looked looked before (before ++ take n piece)
body_counts form before piece head body missing n looked at still = record {
  before = 2 * body;
  after = 2 * body;
  was = subst (λ t. IsLookedAt t (2 * body)) (append-nil before) (body_looked form before [] head body missing at);
  is = body_looked form before (take n piece) head body missing at;
  counted = omega (arith, still);
  rises = omega arith;
}
