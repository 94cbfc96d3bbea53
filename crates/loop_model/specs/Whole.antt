-- A loop: its clients, and the exchanges with its backends.
use Rattle.std.specs.Prelude.{◌≡◌, ⊤, ◌⊎◌, ℕ, ◌+◌, Bool, false, All, List, [], ◌∷◌, ◌++◌, count_by, map, slice_index_or, sum_by, Option, Some, None, option_to_list}
use Rattle.std.specs.Option.{option_map_or}
use Rattle.std.specs.declared.net.socket_addr.SocketAddr.{SocketAddr}
use Rattle.connect_codec.specs.declared.answer.Outcome.{Outcome}
use Rattle.gateway_model.specs.Job.{JobValue}
use Rattle.gateway_model.specs.Queue.{IsPrefixOf}
use Rattle.loop_model.specs.Asking.{AskingValue, BeginsRequest, EndedValue, IsFair, ended_value}
use Rattle.loop_model.specs.Explained.{LoopValue}
use Rattle.loop_model.specs.Found.{AreOfName, FoundValue}
use Rattle.loop_model.specs.Histories.{IsExplained}
use Rattle.loop_model.specs.Growing.{Continues}
use Rattle.loop_model.specs.Shares.{IsKept, IsLeft}
use Rattle.loop_model.specs.Streams.{ClosedValue, KeptValue, ShareValue, StreamValue, share_value}
use Rattle.loop_model.specs.declared.manner.Manner.{Manner}

-- what is seen of a loop: how it asks its backends, its clients' side, the jobs that are asked for, in their places, those that were, in the
-- order in which they ended, the streams that are kept, those that jobs have left, of these those that wait for their backends' ends, what was
-- found for names and handed in, and the names that it waits for
pub record WholeLoop : Type 0 where
  pub manner : Manner
  pub side : LoopValue
  pub asking : List (Option AskingValue)
  pub ended : List EndedValue
  pub kept : List KeptValue
  pub left : List StreamValue
  pub closing : List ClosedValue
  pub looked_up : List FoundValue
  pub waits : List (List ℕ)

-- how many jobs with the property are asked for
abbrev pub count_asked : (JobValue → Bool) → List (Option AskingValue) → ℕ
count_asked p asking = count_by (λ (o : Option AskingValue). option_map_or (λ (x : AskingValue). p x.job) o false) asking

-- the job that is asked for in that place
abbrev pub asked_at : ℕ → List (Option AskingValue) → Option AskingValue
asked_at i asking = slice_index_or asking i None

-- the share of its stream that a job had which has ended, if it went over one
abbrev pub share_of : EndedValue → List ShareValue
share_of e = option_map_or (λ (s : StreamValue). share_value e.asking.job s.turns e.outcome ∷ []) e.asking.stream []

-- how many shares these streams have, each to such an address, with the property
abbrev pub count_shares : (SocketAddr → ShareValue → Bool) → List StreamValue → ℕ
count_shares p streams = sum_by (λ (s : StreamValue). count_by (p s.peer) s.before) streams

-- .. and how many the job had that has ended
abbrev pub count_own : (SocketAddr → ShareValue → Bool) → EndedValue → ℕ
count_own p e = option_map_or (λ (s : StreamValue). count_by (p s.peer) (share_of e)) e.asking.stream 0

-- .. and how many the stream has over which a job goes
abbrev pub count_under_way : (SocketAddr → ShareValue → Bool) → Option AskingValue → ℕ
count_under_way p o = option_map_or (λ (x : AskingValue). count_shares p (option_to_list x.stream)) o 0

-- the streams that are kept
abbrev pub kept_streams : List KeptValue → List StreamValue
kept_streams kept = map (λ (x : KeptValue). x.stream) kept

-- The shares of all streams, those over which jobs go, those that are kept, and those that were left, are those of the jobs that have ended,
-- each of a stream to the address to which its job's led.
pub record AreShared (manner : Manner) (asking : List (Option AskingValue)) (ended : List EndedValue) (kept : List KeptValue) (left : List StreamValue) : Type 0 where
  pub shares : (p : SocketAddr → ShareValue → Bool)
      → sum_by (count_under_way p) asking + count_shares p (kept_streams kept) + count_shares p left ≡ sum_by (count_own p) ended
  pub kept_are : All (IsKept manner) kept
  pub left_are : All (IsLeft manner) left

-- the results that were handed in are those of the exchanges that ended, in order, and each ended fairly; what was written of each that is
-- asked for begins its request; what was found for each was found for its name; a job was taken as often as it has ended, or is asked for; and
-- the shares of all streams are those of the jobs that ended
pub record AsksFairly (w : WholeLoop) : Type 0 where
  pub results : w.side.results ≡ map (λ (e : EndedValue). (e.asking.job, e.outcome)) w.ended
  pub fair : All (IsFair w.manner) w.ended
  pub begun : (i : ℕ) (x : AskingValue) → asked_at i w.asking ≡ Some x → BeginsRequest w.manner x
  pub found : (i : ℕ) (x : AskingValue) → asked_at i w.asking ≡ Some x → AreOfName x.job.address x.found w.looked_up
  pub found_ended : All (λ (e : EndedValue). AreOfName e.asking.job.address e.asking.found w.looked_up) w.ended
  pub jobs : (p : JobValue → Bool) → count_by p w.side.handed ≡ count_by (λ (e : EndedValue). p e.asking.job) w.ended + count_asked p w.asking
  pub shared : AreShared w.manner w.asking w.ended w.kept w.left

-- one history explains its clients, its moments, its results and its jobs, and its results are those of its exchanges
pub record IsExplainedLoop (w : WholeLoop) : Type 0 where
  pub explained : IsExplained w.side
  pub asks : AsksFairly w

-- ---- what only grows

-- the same stream, with more turns of the same job
pub record IsSameStream (s t : StreamValue) : Type 0 where
  pub peer : t.peer ≡ s.peer
  pub before : t.before ≡ s.before
  pub turns : IsPrefixOf s.turns t.turns

-- .. if the one is there
abbrev pub IsSameIfThere : Option StreamValue → StreamValue → Type 0
IsSameIfThere None t = ⊤
IsSameIfThere (Some s) t = IsSameStream s t

-- it goes over the same stream, or over its first, with more turns, and more may have been reported of it
pub record KeepsStream (x y : AskingValue) : Type 0 where
  pub tried : y.tried ≡ x.tried
  pub stream : (x.stream ≡ None) ⊎ ((t : StreamValue) × (y.stream ≡ Some t) × IsSameIfThere x.stream t)
  pub reported : (x.stream ≡ None) ⊎ IsPrefixOf x.reported y.reported

-- that stream was given up since, with all its turns
pub record GivesUpStream (x y : AskingValue) : Type 0 where
  pub last : StreamValue
  pub others : List StreamValue
  pub tried_are : y.tried ≡ x.tried ++ last ∷ others
  pub stream : IsSameIfThere x.stream last

-- the same job: nothing that was found, read or written for it is forgotten
pub record AsksOn (x y : AskingValue) : Type 0 where
  pub job : y.job ≡ x.job
  pub found : IsPrefixOf x.found y.found
  pub streams : KeepsStream x y ⊎ GivesUpStream x y

-- it has ended since
pub record HasEndedSince (v w : WholeLoop) (y : AskingValue) : Type 0 where
  pub before : List EndedValue
  pub outcome : Option Outcome
  pub after : List EndedValue
  pub ended_are : w.ended ≡ v.ended ++ (before ++ ended_value y outcome ∷ after)

-- it asks as before; all of its clients' side continues; each job that was asked for is asked for in its place with more,
-- or has ended with more; and what had ended stays, and what was left
pub record ContinuesLoop (v w : WholeLoop) : Type 0 where
  pub manner : w.manner ≡ v.manner
  pub side : Continues v.side w.side
  pub asking : (i : ℕ) (x : AskingValue) → asked_at i v.asking ≡ Some x
      → (y : AskingValue) × ((asked_at i w.asking ≡ Some y) ⊎ HasEndedSince v w y) × AsksOn x y
  pub ended : IsPrefixOf v.ended w.ended
  pub left : IsPrefixOf v.left w.left
  pub looked_up : IsPrefixOf v.looked_up w.looked_up
