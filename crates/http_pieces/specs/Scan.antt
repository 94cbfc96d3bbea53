-- How far the end of a head is matched.
use Rattle.std.specs.Prelude.{◌≡◌, ℕ, ◌+◌, ◌<◌, ◌≤◌, ◌&&◌, ◌||◌, ◌==◌, if◌then◌else◌, ◌⊎◌, List, [], ◌∷◌, ◌++◌, length, take, drop, reverse}
use Rattle.http_pieces.specs.declared.scan.Scan.{Scan}
use Rattle.http_pieces.specs.Cut.{skip_pairs, EndsInEmptyLine, most_head}

-- how many bytes of CR LF CR LF a text ends in, if it ended in m of them before the byte b
abbrev pub match_on : ℕ → ℕ → ℕ
match_on m b =
    if b == 13 then (if (m == 2) || (m == 4) then 3 else 1)
    else if b == 10 then (if m == 1 then 2 else if m == 3 then 4 else 0)
    else 0

-- the same of a text's bytes, from the last one back
abbrev pub matched_back : List ℕ → ℕ
matched_back [] = 0
matched_back (b ∷ text) = match_on (matched_back text) b

abbrev pub matched_of : List ℕ → ℕ
matched_of text = matched_back (reverse text)

-- a head's bytes up to here, behind the pairs that lead it, of which none in front of the last ended its block
pub record IsHeadText (text : List ℕ) (m : ℕ) : Type 0 where
  pub unpaired : skip_pairs text ≡ text
  pub limit : length text ≤ most_head
  pub matched_is : m ≡ matched_of text
  pub none : (k : ℕ) → k < length text → ¬ (EndsInEmptyLine (take k text))

-- neither the block's end nor the limit has come
pub record IsScanned (text : List ℕ) (m : ℕ) : Type 0 where
  pub text_is : IsHeadText text m
  pub goes_on : m < 4
  pub short : length text < most_head

-- a scan, one byte on: a pair at the head's front is skipped
abbrev pub scan_on : Scan → ℕ → Scan
scan_on scan b =
    if (scan.size == 1) && (match_on scan.matched b == 2)
    then record { seen = scan.seen + 1; skipped = scan.seen + 1; size = 0; matched = 0 }
    else record { seen = scan.seen + 1; skipped = scan.skipped; size = scan.size + 1; matched = match_on scan.matched b }

-- the head's bytes, in those before the piece and those of it that were looked at
abbrev pub held : List ℕ → List ℕ → Scan → List ℕ
held before piece scan = (if scan.skipped == 0 then before else []) ++ drop scan.skipped (take scan.seen piece)

-- the piece was scanned so far, behind these bytes of a head
pub record IsScannedTo (before piece : List ℕ) (scan : Scan) : Type 0 where
  pub within : scan.seen ≤ length piece
  pub behind : scan.skipped ≤ scan.seen
  pub text_is : skip_pairs (before ++ take scan.seen piece) ≡ held before piece scan
  pub size_is : scan.size ≡ length (held before piece scan)
  pub head : IsHeadText (held before piece scan) scan.matched

-- the scan stands at the block's end, at the limit, or at the piece's end
pub record Scans (before piece : List ℕ) (scan : Scan) : Type 0 where
  pub to : IsScannedTo before piece scan
  pub stops : (scan.matched ≡ 4) ⊎ ((scan.size ≡ most_head) ⊎ (scan.seen ≡ length piece))
