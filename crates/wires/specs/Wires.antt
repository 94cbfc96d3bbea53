-- What a read and a write make of what was read and written, and of what may be done without waiting.
use Rattle.std.specs.Prelude.{Bool, true, false, ◌||◌, ◌&&◌, nat_le, ◌≡◌, ℕ, ◌<◌, ◌≤◌, ◌++◌, List, length, take}
use Rattle.std.specs.List.{list_any}
use Rattle.wires.specs.declared.got.Got.{Got}
use Rattle.wires.specs.declared.got.Got.TheVariants as got
use Rattle.wires.specs.declared.got.Sent.{Sent}
use Rattle.wires.specs.declared.got.Sent.TheVariants as sent
use Rattle.wires.specs.declared.ready.Ready.{Ready}

-- a read gave the first n bytes of the piece, and at least one; or nothing
abbrev pub Gives : List ℕ → List ℕ → List ℕ → Got → Type 0
Gives old new piece (got.Bytes n) = (0 < n) × (n ≤ length piece) × (new ≡ old ++ take n piece)
Gives old new piece got.Nothing = new ≡ old
Gives old new piece got.Interrupted = new ≡ old
Gives old new piece (got.End kind) = new ≡ old

-- a read found the end, or failed; or it did not
abbrev pub Ends : Bool → Bool → Got → Type 0
Ends old new (got.Bytes n) = new ≡ old
Ends old new got.Nothing = new ≡ old
Ends old new got.Interrupted = new ≡ old
Ends old new (got.End kind) = new ≡ true

-- a write took the first n bytes that wait, and at least one; or nothing
abbrev pub Takes : List ℕ → List ℕ → List ℕ → Sent → Type 0
Takes old new waiting (sent.Bytes n) = (0 < n) × (n ≤ length waiting) × (new ≡ old ++ take n waiting)
Takes old new waiting sent.Nothing = new ≡ old
Takes old new waiting sent.Interrupted = new ≡ old
Takes old new waiting (sent.Failed kind) = new ≡ old

-- ---- what may be done

-- a read stops short at what was reported: an end or an urgent mark has no report of what is behind it
abbrev pub is_stop : Ready → Bool
is_stop r = r.read_closed || r.urgent

-- by this report a read may bring something, if only the end
abbrev pub is_to_read : Ready → Bool
is_to_read r = r.readable || is_stop r

-- one of these reports told of an end or an urgent mark
abbrev pub has_stop : List Ready → Bool
has_stop reported = list_any is_stop reported

-- Whether a read may bring something behind one that answered so. One that left room in its piece of 4,096 bytes has found all that was
-- there, unless it may have stopped short.
abbrev pub reads_after : Bool → Bool → Got → Bool
reads_after stops old (got.Bytes n) = old && (stops || nat_le 4096 n)
reads_after stops old got.Nothing = false
reads_after stops old got.Interrupted = old
reads_after stops old (got.End kind) = false

-- whether a write may be taken behind one that answered so
abbrev pub writes_after : Bool → Sent → Bool
writes_after old (sent.Bytes n) = old
writes_after old sent.Nothing = false
writes_after old sent.Interrupted = old
writes_after old (sent.Failed kind) = old
