-- What the worked rows speak of.
use Rattle.std.specs.Prelude.{◌≡◌, ◌<◌, ℕ, Bool, true, false, List, [], ◌∷◌, ◌++◌, flat_map, Option, None, Some, is_some}
use Rattle.std.specs.Option.{option_map_or}
use Rattle.call_plan.specs.Plan.{PlanRecord}
use Rattle.connect_codec.specs.declared.answer.Outcome.{Outcome}
use Rattle.gateway_model.specs.Events.{Before, Occurs, connections, hung_up, stream}
use Rattle.gateway_model.specs.History.{History, history_of}
use Rattle.gateway_model.specs.Job.{JobValue}
use Rattle.gateway_model.specs.Known.{Shown}
use Rattle.gateway_model.specs.Past.{call_id, marked}
use Rattle.gateway_model.specs.Queue.{queued}
use Rattle.gateway_model.specs.Starts.{Placed, occurrences}
use Rattle.gateway_model.specs.declared.event.Event.TheVariants.{Opening}
use Rattle.gateway_theory.specs.Values.{GatewayValue}
use Rattle.http_pieces.specs.Cut.{Complete, IsCut, Refused}
use Rattle.http_pieces.specs.ReplyHead.{reply_kind}
use Rattle.http_pieces.specs.declared.framing.Framing.{Framing}
use Rattle.http_pieces.specs.declared.framing.Framing.TheVariants as framing
use Rattle.http_pieces.specs.declared.reply.HttpReply.{HttpReply}
use Rattle.http_pieces.specs.declared.reply_fault.ReplyFault.{ReplyFault}
use Rattle.std.specs.declared.net.socket_addr.SocketAddr.{SocketAddr}
use Rattle.loop_model.specs.Accounts.{Account, NetworkValue}
use Rattle.loop_model.specs.Found.{FoundValue, LookUp}
use Rattle.loop_model.specs.Streams.{ClosedValue, KeptValue, ShareValue, StreamValue, kept_value, stream_value}
use Rattle.loop_model.specs.Asking.{AskingValue, EndedValue, ended_value, peers_of}
use Rattle.loop_model.specs.Clients.{ClientValue, client_value}
use Rattle.loop_model.specs.Explained.{LoopValue}
use Rattle.loop_model.specs.Handed.{ResultValue}
use Rattle.loop_model.specs.Whole.{WholeLoop, share_of}
use Rattle.loop_model.specs.declared.manner.Manner.{Manner}
use Rattle.wires.specs.Turns.{Came, Turn, Went}
use Rattle.wires.specs.declared.ready.Ready.{Ready}

-- replies may be framed so, and no stream is kept
abbrev pub without_keeping : Framing → Manner
without_keeping framing = record { framing = framing; keeps = false }

-- .. and streams are kept
abbrev pub keeping : Framing → Manner
keeping framing = record { framing = framing; keeps = true }

-- these events after two openings that succeeded
abbrev pub after : Before → History
after events = history_of (0 ∷ 1 ∷ []) (events ++ Opening ∷ Opening ∷ []) (λ c. []) []

-- the job of that branch of that request of that connection
abbrev pub job : ℕ → ℕ → ℕ → JobValue
job conn request branch = record { call = call_id conn request; branch = branch; plan_path = []; branch_name = []; address = []; path = []; body = []; request_id = None; passed = []; deadline = None; remaining = None }

abbrev pub result_of : ℕ → ℕ → ℕ → Outcome → ResultValue
result_of conn request branch outcome = record { call = call_id conn request; branch = branch; outcome = outcome }

-- that job is asked for, and nothing was done for it yet
abbrev pub asking : JobValue → AskingValue
asking job = record { job = job; known = false; found = []; tried = []; stream = None; reads = false; writes = false; watched = None; reported = []; until = None; over = false }

-- these bytes were written to a stream, and then these were read
abbrev pub talk : List ℕ → List ℕ → List Turn
talk got given = Went got ∷ Came given ∷ []

-- a stream to this address over which no job went before, at which these turns were done
abbrev pub new_stream : SocketAddr → List Turn → StreamValue
new_stream a turns = stream_value a [] turns

-- it is asked for so, over a stream to this address at which these turns were done, which was found for its name behind those that were tried
abbrev pub asked : SocketAddr → JobValue → List StreamValue → List Turn → AskingValue
asked a j tried turns = record { job = j; known = true; found = peers_of tried ++ a ∷ []; tried = tried; stream = Some (new_stream a turns); reads = false; writes = false; watched = None; reported = []; until = None; over = false }

-- .. over such a stream, over which jobs with these shares went before
abbrev pub asked_over : SocketAddr → JobValue → List ShareValue → List Turn → AskingValue
asked_over a j before turns = record (asked a j [] turns) { stream = Some (stream_value a before turns) }

-- .. over a stream to this address, where these were found for its name
abbrev pub asked_at_peer : SocketAddr → List SocketAddr → JobValue → AskingValue
asked_at_peer peer found job = record { job = job; known = true; found = found; tried = []; stream = Some (new_stream peer []); reads = false; writes = false; watched = None; reported = []; until = None; over = false }

-- it was asked for so, and that was recorded of it
abbrev pub ended : SocketAddr → JobValue → List StreamValue → List Turn → Option Outcome → EndedValue
ended a j tried turns outcome = ended_value (asked a j tried turns) outcome

-- .. over a stream over which jobs with these shares went before
abbrev pub ended_over : SocketAddr → JobValue → List ShareValue → List Turn → Option Outcome → EndedValue
ended_over a j before turns outcome = ended_value (asked_over a j before turns) outcome

-- a stream to this address that is kept until 5 for jobs at that address text: jobs with these shares went over it, and these turns were done
-- since. It is watched, and nothing is there to be read.
abbrev pub kept_for : List ℕ → SocketAddr → List ShareValue → List Turn → KeptValue
kept_for address a before turns = kept_value (stream_value a before turns) address false (Some (3, true)) 5

-- a client of that connection: whether it lingers, what was read and written, whether a read found its end, and what waits to be written
abbrev pub client_with : ℕ → Bool → List ℕ → List ℕ → Bool → List ℕ → ClientValue
client_with conn lingers given got ended waiting = client_value conn lingers given got ended waiting false false None [] None

-- .. of whom nothing came
abbrev pub client_of : ℕ → ClientValue
client_of conn = client_with conn false [] [] false []

-- a loop with these clients in their places, and these who are gone, that was told nothing
abbrev pub with_clients : GatewayValue → List (Option ClientValue) → List ClientValue → LoopValue
with_clients core clients gone = record { core = core; clients = clients; gone = gone; unserved = []; told = []; results = []; handed = []; drained = false }

-- its stream, as the job has left it
abbrev pub left_of : EndedValue → List StreamValue
left_of e = option_map_or (λ (s : StreamValue). stream_value s.peer (s.before ++ share_of e) [] ∷ []) e.asking.stream []

-- a loop without clients, which asks its backends so, and keeps no stream now
abbrev pub loop_of : Manner → GatewayValue → List (JobValue × Option Outcome) → List JobValue → List (Option AskingValue) → List EndedValue → WholeLoop
loop_of manner core results handed asking ended = record {
  manner = manner;
  side = record { core = core; clients = []; gone = []; unserved = []; told = []; results = results; handed = handed; drained = false };
  asking = asking;
  ended = ended;
  kept = [];
  left = flat_map left_of ended;
  closing = [];
  looked_up = [];
  waits = [];
}

-- .. that asks for one job
abbrev pub asks : Manner → GatewayValue → AskingValue → WholeLoop
asks manner core x = loop_of manner core [] (x.job ∷ []) (Some x ∷ []) []

-- something occurs by the history, and by whatever does these bytes are queued for that connection
pub record Queues (plans : List PlanRecord) (h : History) (conn : ℕ) (bytes : List ℕ) : Type 0 where
  pub occurred : List Placed
  pub occurs : Occurs plans h.opened h.events occurred
  pub queued_are : (occurred : List Placed) → Occurs plans h.opened h.events occurred → queued conn (marked (occurrences occurred)) ≡ bytes

-- that connection was opened, these bytes came of it, and so is whether it hung up
abbrev pub IsAt : History → ℕ → List ℕ → Bool → Type 0
IsAt h conn bytes ended = (conn < connections h.opened h.events) × (stream h.opened conn h.events ≡ bytes) × (hung_up h.opened conn h.events ≡ ended)

-- the text begins with this reply where chunks are taken, and is refused where they are not
pub record IsReplyInChunks (text : List ℕ) (reply : HttpReply) : Type 0 where
  pub rest : List ℕ
  pub taken : IsCut (reply_kind framing.Any) text (Complete reply rest)
  pub fault : ReplyFault
  pub not_taken : IsCut (reply_kind framing.Fixed) text (Refused fault)

-- a client of connection 0 in place 0 that brought nothing: what waits for it, whether it may be read and written
abbrev pub standing_client : List ℕ → Bool → Bool → ClientValue
standing_client waiting reads writes = client_value 0 false [] [] false waiting reads writes (Some (0, true)) [] None

-- .. that lingers: whether its end was found, whether it may be read, and until when
abbrev pub lingering_client : Bool → Bool → Option ℕ → ClientValue
lingering_client ended reads until = client_value 0 true [] [] ended [] reads true (Some (0, true)) [] until

-- .. to whom nothing is owed, watched so
abbrev pub watched_client : Option (ℕ × Bool) → ClientValue
watched_client watched = client_value 0 false [] [] false [] false true watched [] None

-- that job is asked for without a stream, and this may be done at one; and whether it has ended
abbrev pub standing_job : JobValue → Bool → Bool → Bool → AskingValue
standing_job job reads writes over =
    record { job = job; known = false; found = []; tried = []; stream = None; reads = reads; writes = writes; watched = None; reported = []; until = None; over = over }

-- .. over a stream to this address, in place 1, to which so much of its request was written, where this may be done
abbrev pub talking_job : SocketAddr → JobValue → List ℕ → Bool → Bool → AskingValue
talking_job a job got reads writes =
    record { job = job; known = true; found = []; tried = []; stream = Some (new_stream a (Went got ∷ [])); reads = reads; writes = writes; watched = Some (3, true); reported = []; until = None; over = false }

-- .. at which nothing may be done, and which is watched so; and until when it has to take a byte
abbrev pub watched_job : SocketAddr → JobValue → List ℕ → Option (ℕ × Bool) → Option ℕ → AskingValue
watched_job a job got watched until =
    record { job = job; known = true; found = []; tried = []; stream = Some (new_stream a (Went got ∷ [])); reads = false; writes = false; watched = watched; reported = []; until = until; over = false }

-- a read may bring something at the stream of that token
abbrev pub readable : ℕ → Ready
readable token = record { token = token; readable = true; writable = false; read_closed = false; urgent = false }

-- a loop with these clients, which asks for these jobs
abbrev pub loop_with : Manner → GatewayValue → List (Option ClientValue) → List (Option AskingValue) → WholeLoop
loop_with manner core clients asking = record { manner = manner; side = with_clients core clients []; asking = asking; ended = []; kept = []; left = []; closing = []; looked_up = []; waits = [] }

-- .. without clients, which waits for these names
abbrev pub loop_that_waits : Manner → GatewayValue → List (Option AskingValue) → List FoundValue → List (List ℕ) → WholeLoop
loop_that_waits manner core asking looked_up waits = record (loop_with manner core [] asking) { looked_up = looked_up; waits = waits }

-- nothing is there for connection 0, which goes on
pub record IsQuietAt (s : Shown) : Type 0 where
  pub nothing_untaken : s.untaken 0 ≡ []
  pub goes_on : s.is_ended 0 ≡ false

-- its call can still be decided
abbrev pub IsWantedBy : Shown → JobValue → Type 0
IsWantedBy s job = is_some (s.recorded job.call) ≡ true

-- a network that made streams to these addresses, and closed these
abbrev pub network : List SocketAddr → List ClosedValue → NetworkValue
network made closed = record { told = []; made = made; closed = closed; asked = [] }

-- before its loop it did nothing, and so many streams were dealt to that
abbrev pub account : ℕ → Account
account dealt = record { before = network [] []; dealt = dealt; lookups = [] }

-- .. none was, and this was done with names
abbrev pub account_of : List LookUp → Account
account_of lookups = record { before = network [] []; dealt = 0; lookups = lookups }

-- a network that took these names to look up
abbrev pub network_asked : List (List ℕ) → NetworkValue
network_asked names = record { told = []; made = []; closed = []; asked = names }

-- a loop without clients, whose jobs ended so, and where these streams wait to be closed
abbrev pub with_ends : Manner → GatewayValue → List EndedValue → List ClosedValue → WholeLoop
with_ends manner core ended closing = record { manner = manner; side = with_clients core [] []; asking = []; ended = ended; kept = []; left = flat_map left_of ended; closing = closing; looked_up = []; waits = [] }

-- .. with these clients, and these who have gone
abbrev pub with_gone : Manner → GatewayValue → List (Option ClientValue) → List ClientValue → WholeLoop
with_gone manner core clients gone = record { manner = manner; side = with_clients core clients gone; asking = []; ended = []; kept = []; left = []; closing = []; looked_up = []; waits = [] }

-- .. without clients, whose jobs ended so, and which keeps these streams
abbrev pub with_kept : Manner → GatewayValue → List EndedValue → List KeptValue → WholeLoop
with_kept manner core ended kept = record (with_gone manner core [] []) { ended = ended; kept = kept }
