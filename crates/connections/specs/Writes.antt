-- What writing the replies of a queue makes of the queue and of the writer.
use Rattle.std.specs.Prelude.{◌≡◌, ◌<◌, ℕ, Bool, true, false, List, [], ◌∷◌, ◌++◌, length, take, map, flat_map, Option, None, Some, ⊤}
use Rattle.std.specs.List.{range_with_len}
use Rattle.std.specs.Io.KnownBytes.{Appends}
use Rattle.gateway_model.specs.declared.id.CallId.{CallId}
use Rattle.gateway_model.specs.Past.{call_id}
use Rattle.gateway_model.specs.Queue.{answer_of}
use Rattle.gateway_theory.specs.Replies.{ReplyValue}
use Rattle.connections.specs.declared.writing.Handed.{Handed}
use Rattle.connections.specs.declared.writing.Handed.TheVariants.{Reply, Over, Closing}
use Rattle.connections.specs.Pumps.{Tells}

-- what a queue tells that gave this reply, or is over
abbrev pub told_by : Option ReplyValue → List Handed
told_by None = Over ∷ []
told_by (Some reply) = Reply reply.id ∷ []

-- so many requests of the connection, from this one on
abbrev pub calls_of : ℕ → ℕ → ℕ → List CallId
calls_of conn from count = map (call_id conn) (range_with_len from count)

-- the bytes of a reply
abbrev pub bytes_of : ReplyValue → List ℕ
bytes_of reply = (answer_of reply.entry).bytes

-- how the writing ends
pub data End : Type 0 where
  -- it goes on
  NotYet : End
  -- the queue is over
  IsOver : End
  -- it gave the reply to this request, of which nothing was written
  Unwritten : CallId → End
  -- so many bytes of this reply were written, and then a write failed
  CutShort : ReplyValue → ℕ → End

abbrev pub goes_on : End → Bool
goes_on NotYet = true
goes_on IsOver = false
goes_on (Unwritten id) = false
goes_on (CutShort reply n) = false

-- the reply that was written in part
abbrev pub part : End → List ReplyValue
part (CutShort reply n) = reply ∷ []
part _ = []

-- what was written of it
abbrev pub begun : End → List ℕ
begun (CutShort reply n) = take n (bytes_of reply)
begun _ = []

-- it was not the whole
abbrev pub IsCut : End → Type 0
IsCut (CutShort reply n) = n < length (bytes_of reply)
IsCut _ = ⊤

-- what the queue tells at the end, beside the replies that were written
abbrev pub told_last : End → List Handed
told_last IsOver = Over ∷ []
told_last (Unwritten id) = Reply id ∷ []
told_last _ = []

-- The replies that the queue gave, to the requests of the connection from this one on, were written one after the other: whole,
-- but for one that was cut short at the end. This was told behind them.
pub record Writes (conn from : ℕ) (old new : Option (List ℕ)) (told tells : Option (List Handed))
    (replies : List ReplyValue) (end : End) (last : List Handed) : Type 0 where
  -- those that were written whole
  pub whole : List ReplyValue
  pub are : replies ≡ whole ++ part end
  pub short : IsCut end
  pub own : map (λ r. r.id) replies ≡ calls_of conn from (length replies)
  pub bytes : Appends old new (flat_map bytes_of whole ++ begun end)
  pub given : Tells told tells ((map (λ r. Reply r.id) replies ++ told_last end) ++ last)

-- The writing has ended, from request 0 on, and the queue was told so, once.
abbrev pub WritesToItsEnd : ℕ → Option (List ℕ) → Option (List ℕ) → Option (List Handed) → Option (List Handed) → List ReplyValue → Type 0
WritesToItsEnd conn old new told tells replies =
    (end : End) × (goes_on end ≡ false) × Writes conn 0 old new told tells replies end (Closing ∷ [])

-- The replies were written one after the other: whole, but for the last, which was perhaps cut short.
pub record WritesOut (old new : Option (List ℕ)) (replies : List ReplyValue) : Type 0 where
  pub whole : List ReplyValue
  pub end : End
  pub are : replies ≡ whole ++ part end
  pub short : IsCut end
  pub bytes : Appends old new (flat_map bytes_of whole ++ begun end)
