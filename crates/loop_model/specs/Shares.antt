-- The shares that jobs have of one stream to a backend, and the replies that its bytes are cut into.
use Rattle.std.specs.Prelude.{◌≡◌, ℕ, true, false, All, List, [], ◌∷◌, ◌++◌, drop, is_some, Some}
use Rattle.connect_codec.specs.Outcome.{outcome_of}
use Rattle.http_pieces.specs.Cut.{Complete, IsCut}
use Rattle.http_pieces.specs.ReplyHead.{reply_kind}
use Rattle.http_pieces.specs.declared.framing.Framing.{Framing}
use Rattle.http_pieces.specs.declared.reply.HttpReply.{HttpReply}
use Rattle.loop_model.specs.Requests.{request_of}
use Rattle.loop_model.specs.Streams.{KeptValue, ShareValue, StreamValue}
use Rattle.loop_model.specs.declared.manner.Manner.{Manner}
use Rattle.wires.specs.Turns.{BeginsQuietly, Quiet, Turn, given_of, got_of}

-- its request was written whole, what was read for it begins with a reply, whose body may be framed so, and its outcome is that of this reply
pub record IsShareAnswered (manner : Manner) (x : ShareValue) : Type 0 where
  pub sent : got_of x.turns ≡ request_of manner x.job
  pub reply : HttpReply
  pub rest : List ℕ
  pub begins : IsCut (reply_kind manner.framing) (given_of x.turns) (Complete reply rest)
  pub outcome_is : x.outcome ≡ Some (outcome_of (Some reply))

-- the same, where nothing was read behind the reply, which does not end its connection
pub record IsWhole (manner : Manner) (x : ShareValue) : Type 0 where
  pub sent : got_of x.turns ≡ request_of manner x.job
  pub reply : HttpReply
  pub is : IsCut (reply_kind manner.framing) (given_of x.turns) (Complete reply [])
  pub stays : reply.closes ≡ false
  pub outcome_is : x.outcome ≡ Some (outcome_of (Some reply))

-- each is whole, and each but the first began on a quiet stream
pub record AreShares (manner : Manner) (shares : List ShareValue) : Type 0 where
  pub whole : All (IsWhole manner) shares
  pub quiet : All (λ (x : ShareValue). BeginsQuietly x.turns) (drop 1 shares)

-- the text is these replies, one behind the other, and then the rest
abbrev pub Replies : Framing → List ℕ → List HttpReply → List ℕ → Type 0
Replies framing text [] rest = text ≡ rest
Replies framing text (q ∷ replies) rest = (more : List ℕ) × IsCut (reply_kind framing) text (Complete q more) × Replies framing more replies rest

-- ---- where a stream is

-- the jobs that had these shares were asked for at this address
abbrev pub AreAt : List ℕ → List ShareValue → Type 0
AreAt address shares = All (λ (x : ShareValue). x.job.address ≡ address) shares

-- A job of this address goes over the stream. Over a new one; or, where streams are kept, over one that jobs of the same address went over
-- before: each had its whole reply, and nothing was there as the next began, and as this one did.
pub record IsStreamFor (manner : Manner) (address : List ℕ) (s : StreamValue) : Type 0 where
  pub shares : AreShares manner s.before
  pub same : AreAt address s.before
  pub quiet : (s.before ≡ [] → ⊥) → BeginsQuietly s.turns
  pub kept : manner.keeps ≡ false → s.before ≡ []

-- It is kept: each of the jobs that went over it, and one did, had its whole reply, and nothing was read since. It is watched, and nothing is
-- there to be read.
pub record IsKept (manner : Manner) (x : KeptValue) : Type 0 where
  pub keeps : manner.keeps ≡ true
  pub used : x.stream.before ≡ [] → ⊥
  pub shares : AreShares manner x.stream.before
  pub same : AreAt x.address x.stream.before
  pub still : All (λ (turn : Turn). turn ≡ Quiet) x.stream.turns
  pub watched : is_some x.watched ≡ true
  pub unread : x.reads ≡ false

-- It was left: each of the jobs that went over it had its whole reply, but for the last, which began on a quiet stream as each but the first
-- did. Nothing was written since. Where no streams are kept, one job went over it, and nothing was read since.
pub record IsLeft (manner : Manner) (s : StreamValue) : Type 0 where
  pub others : List ShareValue
  pub last : ShareValue
  pub before_are : s.before ≡ others ++ last ∷ []
  pub shares : AreShares manner others
  pub quiet : (others ≡ [] → ⊥) → BeginsQuietly last.turns
  pub unwritten : got_of s.turns ≡ []
  pub once : manner.keeps ≡ false → (others ≡ []) × (s.turns ≡ [])
