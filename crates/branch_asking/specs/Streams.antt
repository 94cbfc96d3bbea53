-- The streams that a job goes over.
use Rattle.std.specs.Prelude.{◌≡◌, ◌⊎◌, ℕ, true, All, List, [], ◌∷◌, ◌++◌, map, Option, None, Some, option_map, option_to_list}
use Rattle.std.specs.Option.{option_map_or}
use Rattle.std.specs.declared.net.socket_addr.SocketAddr.{SocketAddr}
use Rattle.connect_codec.specs.declared.answer.Outcome.{Outcome}
use Rattle.loop_model.specs.Accounts.{NetworkValue}
use Rattle.loop_model.specs.Asking.{AskingValue, ended_value}
use Rattle.loop_model.specs.Shares.{AreAt, AreShares}
use Rattle.loop_model.specs.declared.manner.Manner.{Manner}
use Rattle.loop_model.specs.Streams.{ClosedValue, IsNew, StreamValue, closed_stream, stream_value}
use Rattle.loop_model.specs.Whole.{share_of}
use Rattle.branch_asking.specs.Asking.{IsStill}

-- the stream that it goes over, if there is one, as it is once it is closed
abbrev pub stream_now : AskingValue → List ClosedValue
stream_now x = map closed_stream (option_to_list x.stream)

-- a stream, but for its turns since the last share
abbrev pub without_turns : StreamValue → StreamValue
without_turns s = stream_value s.peer s.before []

-- it goes over the same stream, and none was given up
pub record HasStreamsOf (x y : AskingValue) : Type 0 where
  pub tried : y.tried ≡ x.tried
  pub stream : option_map without_turns y.stream ≡ option_map without_turns x.stream

-- a stream to that address was made, over which it goes; and the one before, if there was one, was given up, and closed: no job went over it
pub record GoesOver (address : SocketAddr) (a b : NetworkValue) (x y : AskingValue) : Type 0 where
  pub net : b ≡ record a { made = a.made ++ address ∷ []; closed = a.closed ++ stream_now x }
  pub stream : y.stream ≡ Some (stream_value address [] [])
  pub tried : y.tried ≡ x.tried ++ option_to_list x.stream
  pub new : All IsNew (option_to_list x.stream)

-- it goes over a new stream, or over the same
abbrev pub Connects : NetworkValue → NetworkValue → AskingValue → AskingValue → Type 0
Connects a b x y = ((b ≡ a) × HasStreamsOf x y) ⊎ ((address : SocketAddr) × GoesOver address a b x y)

-- A job of this address may go over the stream, where those are kept: jobs of the same address went over it, each had its whole reply, and
-- nothing was read since.
pub record IsReadyFor (manner : Manner) (address : List ℕ) (s : StreamValue) : Type 0 where
  pub keeps : manner.keeps ≡ true
  pub used : s.before ≡ [] → ⊥
  pub shares : AreShares manner s.before
  pub same : AreAt address s.before
  pub still : IsStill s

-- it had no stream, and goes over this one, over which the same jobs went before
pub record GoesOverAgain (s : StreamValue) (x y : AskingValue) : Type 0 where
  pub alone : x.stream ≡ None
  pub now : StreamValue
  pub stream : y.stream ≡ Some now
  pub peer : now.peer ≡ s.peer
  pub before : now.before ≡ s.before
  pub tried : y.tried ≡ x.tried

-- its stream, as its job leaves it with this outcome
abbrev pub left_by : AskingValue → Option Outcome → List StreamValue
left_by x outcome =
    option_map_or (λ (s : StreamValue). stream_value s.peer (s.before ++ share_of (ended_value x outcome)) [] ∷ []) x.stream []
