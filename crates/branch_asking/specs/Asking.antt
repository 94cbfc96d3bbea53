-- A job that is asked for: what was written and read for it, and how that ends.
use Rattle.std.specs.Prelude.{◌≡◌, ◌⊎◌, ℕ, Bool, true, false, ◌&&◌, ◌||◌, All, List, [], ◌∷◌, ◌++◌, drop, length, map, Option, Some, None, option_map, option_and_then, option_to_list, is_some, if◌then◌else◌}
use Rattle.std.specs.Option.{option_map_or}
use Rattle.std.specs.declared.net.socket_addr.SocketAddr.{SocketAddr}
use Rattle.http_pieces.specs.declared.framing.Framing.{Framing}
use Rattle.http_pieces.specs.declared.reply.HttpReply.{HttpReply}
use Rattle.branch_exchange.specs.Exchange.{BeginsWithReply, ExchangeValue, HasNoReply, IsReading, IsReplyAlone}
use Rattle.branch_exchange.specs.declared.exchange_end.ExchangeEnd.{ExchangeEnd}
use Rattle.branch_exchange.specs.declared.exchange_end.ExchangeEnd.TheVariants as ends
use Rattle.branch_exchange.specs.declared.exchange_end.Loss.{Loss}
use Rattle.branch_exchange.specs.declared.exchange_end.Loss.TheVariants as loss
use Rattle.branch_causes.specs.Causes.{is_timeout}
use Rattle.gateway_model.specs.Queue.{IsPrefixOf}
use Rattle.gateway_theory.specs.Task.{HandedJob}
use Rattle.loop_model.specs.Requests.{request_of}
use Rattle.loop_model.specs.Shares.{IsStreamFor}
use Rattle.loop_model.specs.Streams.{IsNew, ShareValue, StreamValue, stream_value, turns_of}
use Rattle.loop_model.specs.Whole.{IsSameStream}
use Rattle.loop_model.specs.Asking.{AskingValue, IsUntouched, is_stray, new_for, peers_of}
use Rattle.loop_model.specs.declared.manner.Manner.{Manner}
use Rattle.wires.specs.Turns.{BeginsQuietly, Quiet, Turn, ended_of, given_of, got_of}
use Rattle.wires.specs.Wires.{is_to_read}
use Rattle.wires.specs.declared.ready.Ready.{Ready}
use Rattle.branch_asking.specs.Addresses.{AddressesValue, AreOf, once_found}
use Rattle.branch_asking.specs.declared.attempt.Step.{Step}
use Rattle.branch_asking.specs.declared.attempt.Step.TheVariants.{Waits, More, Refused, Ended}

-- ---- an exchange over a stream

-- a stream, and by all that was reported of it and answered: whether a read may bring something, and whether a write may be taken; and by
-- what token it is watched, and whether for room to write too
pub record BackendValue : Type 0 where
  pub stream : StreamValue
  pub reads : Bool
  pub writes : Bool
  pub watched : Option (ℕ × Bool)
  -- all that was reported of it
  pub reported : List Ready

abbrev pub backend_value : StreamValue → Bool → Bool → Option (ℕ × Bool) → List Ready → BackendValue
backend_value stream reads writes watched reported =
    record { stream = stream; reads = reads; writes = writes; watched = watched; reported = reported }

-- the same stream, with more turns
abbrev pub with_turns : List Turn → StreamValue → StreamValue
with_turns turns s = stream_value s.peer s.before (s.turns ++ turns)

-- .. of which none took a byte
abbrev pub HasLookedAt : StreamValue → StreamValue → Type 0
HasLookedAt s t = (turns : List Turn) × (t ≡ with_turns turns s) × (got_of turns ≡ [])

-- since the last share it was read alone, and nothing was there
abbrev pub IsStill : StreamValue → Type 0
IsStill s = All (λ (turn : Turn). turn ≡ Quiet) s.turns

-- of all turns of a stream those behind these shares
abbrev pub own_turns : List ShareValue → List Turn → List Turn
own_turns before turns = drop (length (turns_of before)) turns

-- what is left to be written of its request and the reader of its reply, and its stream, if it has one
pub record AttemptValue : Type 0 where
  pub exchange : ExchangeValue
  pub stream : Option StreamValue
  -- whether that took or gave a byte
  pub connected : Bool
  -- whether a read of it may bring something, and whether a write may be taken; by what token it is watched; and all that was reported
  pub reads : Bool
  pub writes : Bool
  pub watched : Option (ℕ × Bool)
  pub reported : List Ready
  -- until when it has to take a byte, where another address follows
  pub until : Option ℕ

abbrev pub attempt_value : ExchangeValue → Option BackendValue → Bool → Option ℕ → AttemptValue
attempt_value exchange backend connected until = record {
  exchange = exchange;
  stream = option_map (λ (b : BackendValue). b.stream) backend;
  connected = connected;
  reads = option_map_or (λ (b : BackendValue). b.reads) backend false;
  writes = option_map_or (λ (b : BackendValue). b.writes) backend false;
  watched = option_and_then (λ (b : BackendValue). b.watched) backend;
  reported = option_map_or (λ (b : BackendValue). b.reported) backend [];
  until = until;
}

-- what was read from that stream since the last share, and what was written to it, if there is one, and whether a read found its end, or
-- failed
abbrev pub given_by : Option StreamValue → List ℕ
given_by stream = option_map_or (λ (s : StreamValue). given_of s.turns) stream []

abbrev pub got_by : Option StreamValue → List ℕ
got_by stream = option_map_or (λ (s : StreamValue). got_of s.turns) stream []

abbrev pub ended_by : Option StreamValue → Bool
ended_by stream = option_map_or (λ (s : StreamValue). ended_of s.turns) stream false

-- that limit, until it took a byte
abbrev pub until_of : AttemptValue → Option ℕ
until_of x = if x.connected then None else x.until

-- this request is being written, or its reply, whose body may be framed so, is being read and is not whole yet; and no read found the end
-- of its stream, or failed
pub record Asks (framing : Framing) (request : List ℕ) (x : AttemptValue) : Type 0 where
  pub sends : got_by x.stream ++ x.exchange.left ≡ request
  pub reads : IsReading framing x.exchange.replies (given_by x.stream)
  pub goes_on : ended_by x.stream ≡ false

-- What an exchange came to, over a stream that jobs went over before, or not: there a reply that says that no request came in time is lost.
abbrev pub own_end : Bool → ExchangeEnd → ExchangeEnd
own_end used end = if used && is_timeout end then ends.Lost loss.Early else end

-- It has ended so: with a reply only if the request was written whole, and what was read begins with that, and is no more where that is said,
-- and it is not stray; and as lost only if the request was not, or what was read begins with none, or with one that is stray. In any case the
-- first bytes of the request were written, and no others.
pub record HasEnded (framing : Framing) (request : List ℕ) (end : ExchangeEnd) (x : AttemptValue) : Type 0 where
  pub prefix : IsPrefixOf (got_by x.stream) request
  pub whole : (reply : HttpReply) → end ≡ ends.Reply reply
      → (got_by x.stream ≡ request) × BeginsWithReply framing (given_by x.stream) reply × (is_stray x.stream reply ≡ false)
  pub alone : (reply : HttpReply) → end ≡ ends.Reply reply → x.exchange.alone ≡ true → IsReplyAlone framing (given_by x.stream) reply
  pub unanswered : (loss : Loss) → end ≡ ends.Lost loss → got_by x.stream ≡ request
      → HasNoReply framing (given_by x.stream) ⊎ ((reply : HttpReply) × BeginsWithReply framing (given_by x.stream) reply × (is_stray x.stream reply ≡ true))

-- the report became known of its stream, if it has one
abbrev pub noted_attempt : Ready → AttemptValue → AttemptValue
noted_attempt ready x = record x {
  reported = if is_some x.stream then x.reported ++ ready ∷ [] else x.reported;
  reads = is_some x.stream && (x.reads || is_to_read ready);
  writes = is_some x.stream && (x.writes || ready.writable);
}

-- its stream is watched so from now on; or has to take a byte until then
abbrev pub watched_attempt : Option (ℕ × Bool) → AttemptValue → AttemptValue
watched_attempt watched x = record x { watched = watched }

abbrev pub timed_attempt : Option ℕ → AttemptValue → AttemptValue
timed_attempt until x = record x { until = until }

-- nothing was written or read, and no job went over its stream before
abbrev pub IsUntouchedAttempt : AttemptValue → Type 0
IsUntouchedAttempt x = (got_by x.stream ≡ []) × (given_by x.stream ≡ []) × All IsNew (option_to_list x.stream)

-- more may have been done at its stream, and reported of it
abbrev pub GrowsTo : Option StreamValue → Option StreamValue → Type 0
GrowsTo None y = y ≡ None
GrowsTo (Some s) y = (t : StreamValue) × (y ≡ Some t) × IsSameStream s t

abbrev pub HasGrown : AttemptValue → AttemptValue → Type 0
HasGrown x y = GrowsTo x.stream y.stream × IsPrefixOf x.reported y.reported

-- it goes on; or its address accepts no connection; or it has ended so
abbrev pub StepsTo : Framing → List ℕ → Step → AttemptValue → Type 0
StepsTo framing request Waits x = Asks framing request x
StepsTo framing request More x = Asks framing request x
StepsTo framing request (Refused kind) x = Asks framing request x × IsUntouchedAttempt x
StepsTo framing request (Ended end) x = HasEnded framing request end x

-- whatever its request is, and however its reply may be framed, a step of it is such a one
abbrev pub Steps : AttemptValue → Step → AttemptValue → Type 0
Steps x step y = (framing : Framing) (request : List ℕ) → Asks framing request x → StepsTo framing request step y

-- It had no stream, and goes over this one from now on, of which nothing was to be read as it took some first bytes.
pub record Reuses (s : StreamValue) (x y : AttemptValue) : Type 0 where
  pub alone : x.stream ≡ None
  pub now : StreamValue
  pub stream : y.stream ≡ Some now
  pub peer : now.peer ≡ s.peer
  pub before : now.before ≡ s.before
  pub quiet : BeginsQuietly now.turns
  pub connected : y.connected ≡ true
  pub asks : (framing : Framing) (request : List ℕ) → Asks framing request x → Asks framing request y

-- ---- the job that it asks for

-- how it is asked, the job, its addresses, its attempt, how it ended, if it did, and the streams that were given up before
pub record AskingState : Type 0 where
  pub manner : Manner
  pub job : HandedJob
  pub addresses : AddressesValue
  pub attempt : AttemptValue
  pub end : Option ExchangeEnd
  pub tried : List StreamValue

abbrev pub asking_state : Manner → HandedJob → AddressesValue → AttemptValue → Option ExchangeEnd → List (BackendValue × Bool) → AskingState
asking_state manner job addresses attempt end tried = record {
  manner = manner;
  job = job;
  addresses = addresses;
  attempt = attempt;
  end = end;
  tried = map (λ (t : BackendValue × Bool). t.0.stream) tried;
}

-- what the loop shows of it
abbrev pub asked_for : AskingState → AskingValue
asked_for x = record {
  job = x.job.job;
  known = x.addresses.known;
  found = x.addresses.found;
  tried = x.tried;
  stream = x.attempt.stream;
  reads = x.attempt.reads;
  writes = x.attempt.writes;
  watched = x.attempt.watched;
  reported = x.attempt.reported;
  until = until_of x.attempt;
  over = is_some x.end;
}

-- where it goes over another stream from now on, the one before is among those that were given up; unless it ended, or its stream took a byte
abbrev pub NotesStream : Bool → AskingState → AskingState → Type 0
NotesStream true x y = x.end ≡ None → x.attempt.connected ≡ false → y.tried ≡ x.tried ++ option_to_list x.attempt.stream
NotesStream false x y = (y.attempt ≡ x.attempt) × (y.tried ≡ x.tried)

-- these addresses were found for the name, and are its own if that is the address of its job
abbrev pub Finds : List ℕ → List SocketAddr → AskingState → AskingState → Type 0
Finds name more x y =
    (x.job.job.address ≡ name → y ≡ record x { addresses = once_found more x.addresses }) × ((x.job.job.address ≡ name → ⊥) → y ≡ x)

-- no job went over those that were given up, and nothing was read from them, or written to them; its stream, if it has one, is one for the
-- address of its job; its new streams lead to the addresses of its job, and so will others; and it asks for its job, or ended so
pub record HasBegun (x : AskingState) : Type 0 where
  pub new : All IsNew x.tried
  pub goes_over : All (IsStreamFor x.manner x.job.job.address) (option_to_list x.attempt.stream)
  pub given : AreOf x.job.job.address (peers_of (new_for (asked_for x))) x.addresses
  pub untouched : All IsUntouched x.tried
  pub asks : x.end ≡ None → Asks x.manner.framing (request_of x.manner x.job.job) x.attempt
  pub ended : (end : ExchangeEnd) → x.end ≡ Some end → HasEnded x.manner.framing (request_of x.manner x.job.job) end x.attempt
