-- A job that is asked for, and how that ended.
use Rattle.std.specs.Prelude.{◌≡◌, ◌⊎◌, ◌&&◌, ◌==◌, ℕ, Bool, true, false, All, List, [], ◌∷◌, ◌++◌, map, Option, Some, None, option_to_list}
use Rattle.std.specs.Option.{option_map_or}
use Rattle.std.specs.Net.Grammar.{IsSocketText}
use Rattle.std.specs.declared.net.socket_addr.SocketAddr.{SocketAddr}
use Rattle.connect_codec.specs.Outcome.{outcome_of}
use Rattle.connect_codec.specs.declared.answer.Outcome.{Outcome}
use Rattle.gateway_model.specs.Job.{JobValue}
use Rattle.gateway_model.specs.Queue.{IsPrefixOf}
use Rattle.http_pieces.specs.Cut.{Complete, IsCut}
use Rattle.http_pieces.specs.ReplyHead.{reply_kind}
use Rattle.http_pieces.specs.declared.reply.HttpReply.{HttpReply}
use Rattle.loop_model.specs.Requests.{request_of}
use Rattle.loop_model.specs.Shares.{IsStreamFor}
use Rattle.loop_model.specs.Streams.{IsNew, ShareValue, StreamValue}
use Rattle.loop_model.specs.declared.manner.Manner.{Manner}
use Rattle.wires.specs.Turns.{given_of, got_of}
use Rattle.wires.specs.declared.ready.Ready.{Ready}

-- a job that is asked for: whether its addresses are known, those that were found for its name, the streams that were given up before, and
-- the one that it goes over, if there is one
pub record AskingValue : Type 0 where
  pub job : JobValue
  pub known : Bool
  pub found : List SocketAddr
  pub tried : List StreamValue
  pub stream : Option StreamValue
  -- by all that was reported of that stream and answered: whether a read may bring something, and whether a write may be taken
  pub reads : Bool
  pub writes : Bool
  -- by what token that stream is watched, and whether for room to write too; all that was reported of it, in order; and until when it has
  -- to take a byte, where another address follows
  pub watched : Option (ℕ × Bool)
  pub reported : List Ready
  pub until : Option ℕ
  -- whether it has ended, and its outcome is to be recorded
  pub over : Bool

-- what was read for it from that stream, and what was written for it
abbrev pub given_for : AskingValue → List ℕ
given_for x = option_map_or (λ (s : StreamValue). given_of s.turns) x.stream []

abbrev pub got_for : AskingValue → List ℕ
got_for x = option_map_or (λ (s : StreamValue). got_of s.turns) x.stream []

-- its streams, in the order in which it went over them
abbrev pub streams_for : AskingValue → List StreamValue
streams_for x = x.tried ++ option_to_list x.stream

-- whether jobs had shares of the stream before
abbrev pub is_used_by : List ShareValue → Bool
is_used_by [] = false
is_used_by (x ∷ before) = true

-- those of them over which no job went before
abbrev pub new_by : StreamValue → List ShareValue → List StreamValue
new_by s [] = s ∷ []
new_by s (x ∷ before) = []

abbrev pub new_for : AskingValue → List StreamValue
new_for x = x.tried ++ option_map_or (λ (s : StreamValue). new_by s s.before) x.stream []

-- one that has ended, and the outcome that was recorded; None where there was no memory for one
pub record EndedValue : Type 0 where
  pub asking : AskingValue
  pub outcome : Option Outcome

abbrev pub ended_value : AskingValue → Option Outcome → EndedValue
ended_value asking outcome = record { asking = asking; outcome = outcome }

-- nothing was read from the stream, or written to it, since the last share
abbrev pub IsUntouched : StreamValue → Type 0
IsUntouched s = (given_of s.turns ≡ []) × (got_of s.turns ≡ [])

-- jobs went over the stream before, if there is one
abbrev pub is_used : Option StreamValue → Bool
is_used None = false
is_used (Some s) = is_used_by s.before

-- Over such a stream a reply of status 408 may have been on its way before the request, to say that none came in time (RFC 9110, section
-- 15.5.9). So it is nobody's.
abbrev pub is_stray : Option StreamValue → HttpReply → Bool
is_stray stream reply = is_used stream && reply.status == 408

-- what was read for it begins with this reply, whose body may be framed so
abbrev pub BeginsWith : Manner → AskingValue → HttpReply → Type 0
BeginsWith manner x reply = (rest : List ℕ) × IsCut (reply_kind manner.framing) (given_for x) (Complete reply rest)

-- the request was written whole, what was read begins with a reply of its own, and the outcome is that of this reply
pub record IsAnswered (manner : Manner) (x : AskingValue) (o : Outcome) : Type 0 where
  pub whole : got_for x ≡ request_of manner x.job
  pub reply : HttpReply
  pub begins : BeginsWith manner x reply
  pub own : is_stray x.stream reply ≡ false
  pub outcome_is : o ≡ outcome_of (Some reply)

-- no reply was lost: the request was not written whole, or what was read does not begin with a whole reply, or with one that is nobody's
abbrev pub IsUnanswered : Manner → AskingValue → Type 0
IsUnanswered manner x =
    got_for x ≡ request_of manner x.job
    → ((reply : HttpReply) → ¬ (BeginsWith manner x reply)) ⊎ ((reply : HttpReply) × BeginsWith manner x reply × (is_stray x.stream reply ≡ true))

-- these are the addresses of the text: the one that it spells, or those that were found for it
abbrev pub AreAddressesOf : List ℕ → List SocketAddr → List SocketAddr → Type 0
AreAddressesOf text found addresses = ((address : SocketAddr) × IsSocketText text address × (addresses ≡ address ∷ [])) ⊎ (addresses ≡ found)

-- the addresses that these streams lead to
abbrev pub peers_of : List StreamValue → List SocketAddr
peers_of streams = map (λ (s : StreamValue). s.peer) streams

-- its new streams lead to the addresses of its job, one after the other and from the first on
pub record IsAddressed (x : AskingValue) : Type 0 where
  pub later : List SocketAddr
  pub in_order : AreAddressesOf x.job.address x.found (peers_of (new_for x) ++ later)

-- No job went over a stream that was given up, and nothing was written to it or read. To the one that it goes over, if there is one, some
-- first bytes of the job's request were written, and no others; and it is one for the job's address. The new ones lead to addresses of the
-- job, in order.
pub record BeginsRequest (manner : Manner) (x : AskingValue) : Type 0 where
  pub new : All IsNew x.tried
  pub untouched : All IsUntouched x.tried
  pub goes_over : All (IsStreamFor manner x.job.address) (option_to_list x.stream)
  pub prefix : IsPrefixOf (got_for x) (request_of manner x.job)
  pub addressed : IsAddressed x

-- so it began, and its outcome is that of its reply, which may be framed so, or says that there is none
pub record IsFair (manner : Manner) (e : EndedValue) : Type 0 where
  pub begun : BeginsRequest manner e.asking
  pub outcome : (o : Outcome) → e.outcome ≡ Some o → ((o ≡ outcome_of None) × IsUnanswered manner e.asking) ⊎ IsAnswered manner e.asking o
