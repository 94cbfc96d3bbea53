-- When nothing is left that a loop could do without waiting.
use Rattle.std.specs.List.{Contains}
use Rattle.std.specs.Prelude.{◌≡◌, ⊤, ◌⊎◌, All, ℕ, ◌≤◌, ◌+◌, ◌*◌, Bool, true, false, List, [], is_some, count_by, Option, Some, None}
use Rattle.gateway_model.specs.Known.{Shown}
use Rattle.gateway_theory.specs.Values.{shown}
use Rattle.loop_model.specs.Asking.{AskingValue, got_for}
use Rattle.loop_model.specs.Clients.{ClientValue}
use Rattle.loop_model.specs.Explained.{at}
use Rattle.loop_model.specs.Requests.{request_of}
use Rattle.loop_model.specs.Streams.{KeptValue}
use Rattle.loop_model.specs.Whole.{WholeLoop, asked_at}
use Rattle.loop_model.specs.declared.manner.Manner.{Manner}

-- it ends by that moment, if there is one
abbrev pub AtMost : Option ℕ → Option ℕ → Type 0
AtMost until None = ⊤
AtMost None (Some limit) = ⊥
AtMost (Some until) (Some limit) = until ≤ limit

-- all that was queued for the client so far was written
pub record IsWritten (s : Shown) (x : ClientValue) : Type 0 where
  pub nothing_waits : x.waiting ≡ []
  pub nothing_untaken : s.untaken x.conn ≡ []

-- it is watched by that token, and for room to write too
abbrev pub IsWatched : ℕ → Option (ℕ × Bool) → Type 0
IsWatched token watched = watched ≡ Some (token, true)

-- Nothing is to be done for the client in that place before that moment. Its stream is watched by twice its place. If its connection is
-- open, all was written, or its stream takes no more. Where all was written, its connection goes on, and its stream has nothing to read.
-- One that lingers has nothing to read either, and a limit.
pub record RestsClient (s : Shown) (until : Option ℕ) (i : ℕ) (x : ClientValue) : Type 0 where
  pub watched : IsWatched (2 * i) x.watched
  pub written : x.lingers ≡ false → IsWritten s x ⊎ (x.writes ≡ false)
  pub goes_on : x.lingers ≡ false → IsWritten s x → s.is_ended x.conn ≡ false
  pub unread : x.lingers ≡ false → IsWritten s x → x.ended ≡ false → x.reads ≡ false
  pub dropped : x.lingers ≡ true → (x.ended ≡ false) × (x.reads ≡ false)
  pub limited : x.lingers ≡ true → (is_some x.until ≡ true) × AtMost until x.until

-- Nothing is to be done for the job in that place before that moment: its call can still be decided, it has not ended, neither its deadline
-- has come nor its address's time, and its stream, if it has one, is watched by twice its place and one. That stream has nothing to read;
-- and where its request was not written whole, it is watched for room to write, and takes no more. One that has not taken a byte is not
-- read: what fails it shows as it is written.
pub record RestsAsking (manner : Manner) (s : Shown) (until : Option ℕ) (i : ℕ) (x : AskingValue) : Type 0 where
  pub wanted : is_some (s.recorded x.job.call) ≡ true
  pub goes_on : x.over ≡ false
  pub limited : AtMost until x.job.deadline × AtMost until x.until
  pub watched : is_some x.stream ≡ true → (writes : Bool) × (x.watched ≡ Some (2 * i + 1, writes)) × ((got_for x ≡ request_of manner x.job → ⊥) → writes ≡ true)
  pub unread : (got_for x ≡ [] → ⊥) → x.reads ≡ false
  pub unsent : (got_for x ≡ request_of manner x.job → ⊥) → x.writes ≡ false

-- nothing is to be done for the stream that is kept: it is watched, nothing is there to be read, and its time is not over before that moment
pub record RestsKept (until : Option ℕ) (x : KeptValue) : Type 0 where
  pub watched : is_some x.watched ≡ true
  pub unread : x.reads ≡ false
  pub limited : AtMost until (Some x.until)

-- Nothing is to be done before that moment: for no client, for no job that is asked for, and for no stream that is kept; a job that has no
-- stream waits for its name; a job waits only while all places are taken; and no deadline lies before it.
pub record RestsTill (until : Option ℕ) (w : WholeLoop) : Type 0 where
  pub clients : (i : ℕ) (x : ClientValue) → at i w.side.clients ≡ Some x → RestsClient (shown w.side.core) until i x
  pub asking : (i : ℕ) (x : AskingValue) → asked_at i w.asking ≡ Some x → RestsAsking w.manner (shown w.side.core) until i x
  pub named : (i : ℕ) (x : AskingValue) → asked_at i w.asking ≡ Some x → x.stream ≡ None → Contains w.waits x.job.address
  pub kept : All (RestsKept until) w.kept
  pub jobs : ((shown w.side.core).waiting ≡ []) ⊎ (1024 ≤ count_by is_some w.asking)
  pub deadline : AtMost until (shown w.side.core).deadline
