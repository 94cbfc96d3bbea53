-- How messages of a kind lie in the bytes of their stream, and what a piece adds to them.
use Rattle.std.specs.Prelude.{◌≡◌, ℕ, ◌+◌, ◌-◌, ◌<◌, ◌≤◌, Bool, true, false, if◌then◌else◌, nat_lt, List, [], ◌++◌, length, take, Result, Ok, Err}
use Rattle.http_pieces.specs.declared.phase.Phase.{Phase}
use Rattle.http_pieces.specs.declared.phase.Phase.TheVariants as phase
use Rattle.http_pieces.specs.Cut.{Asks, Refusal, Body, Kind, Incomplete, Refused, Complete, IsBlock, IsCut, skip_pairs}
use Rattle.http_pieces.specs.Scan.{IsScanned}

-- a kind of message, and how its readers keep it: what was read of a head is an H
pub record Form (R H V : Type 0) : Type 1 where
  -- the kind, for the message of that number in its stream
  pub kind : ℕ → Kind R V
  -- the message in these bytes, by what was read of its head, the place of its body, and its number
  pub message : List ℕ → H → ℕ → ℕ → V
  -- what was read of the head lies in the bytes
  pub IsIn : List ℕ → H → Type 0

-- the block is a head, of which this was read, and which asks for a body of so many bytes
pub record IsHeadOf {R H V : Type 0} (form : Form R H V) (block : List ℕ) (head : H) (size : ℕ) : Type 0 where
  pub asks : (k : ℕ) → (form.kind k).IsHead block (Body size (λ body. form.message (block ++ body) head (length block) k))
  pub within : (body : List ℕ) → form.IsIn (block ++ body) head

-- the block is refused: as a head that asks for it, or as no head
pub data IsRefused {R V : Type 0} (kind : Kind R V) (block : List ℕ) (r : R) : Type 0 where
  as_head : kind.IsHead block (Refusal r) → IsRefused kind block r
  as_none : ((a : Asks R V) → ¬ (kind.IsHead block a)) → r ≡ kind.no_head → IsRefused kind block r

-- the block is judged so, whatever the message's number
abbrev pub JudgesTo : {R H V : Type 0} → Form R H V → List ℕ → Result (H × ℕ) R → Type 0
JudgesTo form block (Err r) = (k : ℕ) → IsRefused (form.kind k) block r
JudgesTo form block (Ok head) = IsHeadOf form block head.0 head.1

-- the bytes are a block and the first ones of its body, of which so many are missing
pub record IsOpenBody {R H V : Type 0} (form : Form R H V) (text : List ℕ) (head : H) (body_at missing : ℕ) : Type 0 where
  pub unpaired : skip_pairs text ≡ text
  pub block : IsBlock text body_at
  pub head_is : IsHeadOf form (take body_at text) head (length text - body_at + missing)

-- what is true of a reader's bytes and phase: a head that has not ended, a body that has not, or a message that lies in
-- the bytes
abbrev pub IsPhaseSound : {R H V : Type 0} → Form R H V → List ℕ → Phase H R → Type 0
IsPhaseSound form bytes (phase.Head matched) = IsScanned bytes matched
IsPhaseSound form bytes (phase.Body head body_at missing) = IsOpenBody form bytes head body_at missing × (0 < missing)
IsPhaseSound form bytes (phase.Complete head body_at) = form.IsIn bytes head × (body_at ≤ length bytes)
IsPhaseSound form bytes (phase.Refused r) = Unit {0}
IsPhaseSound form bytes phase.Ended = Unit {0}

-- bytes are kept in this phase, and more are to come
abbrev pub is_more : {R H : Type 0} → Phase H R → Bool
is_more (phase.Head matched) = true
is_more (phase.Body head body_at missing) = true
is_more (phase.Complete head body_at) = false
is_more (phase.Refused r) = false
is_more phase.Ended = false

-- the bytes that were scanned, and that `httparse` has not been given
abbrev pub unread : {R H : Type 0} → List ℕ → Phase H R → ℕ
unread bytes (phase.Head matched) = length bytes
unread bytes (phase.Body head body_at missing) = 0
unread bytes (phase.Complete head body_at) = 0
unread bytes (phase.Refused r) = 0
unread bytes phase.Ended = 0

-- the phase once so many bytes of the body were added
abbrev pub filled : {R H : Type 0} → Phase H R → ℕ → Phase H R
filled (phase.Head matched) n = phase.Head matched
filled (phase.Body head body_at missing) n = if nat_lt n missing then phase.Body head body_at (missing - n) else phase.Complete head body_at
filled (phase.Complete head body_at) n = phase.Complete head body_at
filled (phase.Refused r) n = phase.Refused r
filled phase.Ended n = phase.Ended

-- the bytes after a push are those before it and n of the piece, of which no message has come
abbrev pub IsMore : {R H V : Type 0} → Form R H V → List ℕ → List ℕ → List ℕ → ℕ → Type 0
IsMore form before piece after n =
    (n ≡ length piece) × (after ≡ skip_pairs (before ++ take n piece)) × ((k : ℕ) → IsCut (form.kind k) (before ++ take n piece) Incomplete)

-- from bytes that are no whole message, a piece leads to these, n bytes of it are taken, and this came of it
abbrev pub GrowsTo : {R H V : Type 0} → Form R H V → List ℕ → List ℕ → List ℕ → ℕ → Phase H R → Type 0
GrowsTo form before piece after n (phase.Head matched) = IsMore form before piece after n
GrowsTo form before piece after n (phase.Body head body_at missing) = IsMore form before piece after n
GrowsTo form before piece after n (phase.Refused r) =
    (n ≡ length piece) × ((k : ℕ) → IsCut (form.kind k) (before ++ take n piece) (Refused r))
GrowsTo form before piece after n (phase.Complete head body_at) =
    (k : ℕ) → IsCut (form.kind k) (before ++ take n piece) (Complete (form.message after head body_at k) [])
GrowsTo form before piece after n phase.Ended = ⊥

pub record Grows {R H V : Type 0} (form : Form R H V) (before piece after : List ℕ) (n : ℕ) (phase : Phase H R) : Type 0 where
  pub within : n ≤ length piece
  pub to : GrowsTo form before piece after n phase
  pub sound : IsPhaseSound form after phase

pub record Advances {R H V : Type 0} (form : Form R H V) (before piece after : List ℕ) (n : ℕ) (phase : Phase H R) : Type 0 where
  pub grows : Grows form before piece after n phase
  pub moves : 0 < length piece → 0 < n

-- a reader of these bytes and this phase, to which a piece is pushed, has those afterwards, and took n bytes of it
abbrev pub Pushes : {R H V : Type 0} → Form R H V → List ℕ → Phase H R → List ℕ → List ℕ → Phase H R → ℕ → Type 0
Pushes form before (phase.Head matched) piece after new n = Advances form before piece after n new
Pushes form before (phase.Body head body_at missing) piece after new n = Advances form before piece after n new
Pushes form before (phase.Complete head body_at) piece after new n = (n ≡ 0) × (after ≡ before) × (new ≡ phase.Complete head body_at)
Pushes form before (phase.Refused r) piece after new n = (n ≡ length piece) × (after ≡ before) × (new ≡ phase.Refused r)
Pushes form before phase.Ended piece after new n = (n ≡ length piece) × (after ≡ before) × (new ≡ phase.Ended)
