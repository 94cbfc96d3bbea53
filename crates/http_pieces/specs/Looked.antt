-- How many bytes a reader has looked at, of those that it took.
use Rattle.std.specs.Prelude.{◌≡◌, ℕ, ◌+◌, ◌-◌, ◌*◌, ◌^◌, ◌≤◌, min, List, length, Option, Some}
use Rattle.http_pieces.specs.Cut.{HasNoBlock, IsBlock, most_head, skip_pairs}

-- counts stand still here
abbrev pub most_looked : ℕ
most_looked = 2 ^ 63

abbrev pub looked_on : ℕ → ℕ → ℕ
looked_on looked more = min (looked + more) most_looked

-- how many bytes the CR LF pairs have that lead a text
abbrev pub led_by : List ℕ → ℕ
led_by text = length text - length (skip_pairs text)

-- so many bytes of a message are looked at, of which this text has come: each of the pairs that lead it, and each of its head, in the
-- search for the head's end, up to the limit; and those of its block once more. Bytes of its body are not
pub data IsLookedAt (text : List ℕ) (n : ℕ) : Type 0 where
  searched : HasNoBlock (skip_pairs text) → n ≡ led_by text + min (length (skip_pairs text)) most_head → IsLookedAt text n
  read : (m : ℕ) → IsBlock (skip_pairs text) m → n ≡ led_by text + 2 * m → IsLookedAt text n

-- each byte that is looked at is counted, where a message's text grows to the longer one
pub record Counts (looked more : ℕ) (text longer : List ℕ) : Type 0 where
  pub before : ℕ
  pub after : ℕ
  pub was : IsLookedAt text before
  pub is : IsLookedAt longer after
  pub counted : more ≡ looked_on looked (after - before)
  pub rises : looked ≤ more

-- of the bytes that were taken so many were looked at, where `left` are those of a message that is not whole: each byte
-- twice at most, and those of a head that has not ended once
pub record HasLooked (looked : ℕ) (left : Option (List ℕ)) (bytes : List ℕ) : Type 0 where
  pub twice : looked ≤ 2 * length bytes
  pub once : (text : List ℕ) → left ≡ Some text → HasNoBlock text → looked + length text ≤ 2 * length bytes
