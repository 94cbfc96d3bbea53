-- What the gateway holds, and what is seen of it.
use Rattle.std.specs.BTreeMap.{is_at}
use Rattle.std.specs.List.{count_by, list_any, range_with_len}
use Rattle.std.specs.Map.{lookup}
use Rattle.std.specs.Option.{option_map_or}
use Rattle.std.specs.Ordering.{nat_cmp}
use Rattle.std.specs.Prelude.{ℕ, ◌+◌, ◌^◌, max, min, Bool, false, ◌&&◌, ◌||◌, not, if◌then◌else◌, nat_lt, is_none, List, [], ◌∷◌, length, map, Option, None, option_and_then, option_map}
use Rattle.http_pieces.specs.Reader.{Partial, ReaderValue, is_over, reader_value}
use Rattle.call_plan.specs.Plan.{PlanRecord}
use Rattle.gateway_model.specs.Job.{JobValue}
use Rattle.gateway_model.specs.Known.{Shown}
use Rattle.gateway_model.specs.Past.{ArrivedCall, call_id, is_call, is_due, least_of, smaller}
use Rattle.gateway_model.specs.Queue.{front, record_of}
use Rattle.gateway_model.specs.declared.call_event.CallEvent.{CallEvent}
use Rattle.gateway_model.specs.declared.entry.ReplyEntry.{ReplyEntry}
use Rattle.gateway_model.specs.declared.id.CallId.{CallId}
use Rattle.gateway_theory.specs.declared.tally.Tally.{Tally}

-- ---- a call

-- a branch of a call that waits for its start
pub record TaskValue : Type 0 where
  pub call : CallId
  pub branch : ℕ
  pub asked : ArrivedCall

-- a call that can still be decided: its own events so far, the deadlines of its branches that have started, and the branches that wait for their start
pub record Live : Type 0 where
  pub asked : ArrivedCall
  pub events : List CallEvent
  pub deadlines : List (Option ℕ)
  pub waiting : List TaskValue

-- which branches are out, and the call as long as it can be decided
pub record CallState : Type 0 where
  pub out : List Bool
  pub live : Option Live

abbrev pub call_state : List Bool → Option Live → CallState
call_state out live = record { out = out; live = live }

-- what stands for a call that is not kept
abbrev pub gone : CallState
gone = call_state [] None

-- a call that is kept
pub record KeptValue : Type 0 where
  pub id : CallId
  pub call : CallState

-- the call of that id, or what stands for none
abbrev pub call_at : CallId → List KeptValue → CallState
call_at id [] = gone
call_at id (k ∷ calls) = if is_call k.id id then k.call else call_at id calls

-- ---- deadlines

-- of these deadlines of branches those of which the branch is out
abbrev pub deadlines_in : List Bool → List (Option ℕ) → List (Option ℕ)
deadlines_in [] ds = []
deadlines_in (b ∷ out) [] = None ∷ deadlines_in out []
deadlines_in (b ∷ out) (d ∷ ds) = (if b then d else None) ∷ deadlines_in out ds

-- the least deadline of a call that can be decided: its own, or that of a branch of it which is out
abbrev pub call_deadline : CallState → Option ℕ
call_deadline c = option_and_then (λ (l : Live). smaller l.asked.deadline (least_of (deadlines_in c.out l.deadlines))) c.live

-- ---- a connection

-- a connection as the code holds it
pub record HeldConnection : Type 0 where
  pub number : ℕ
  -- how many of its replies were taken, and a slot for each request behind them
  pub taken : ℕ
  pub slots : List (Option ReplyEntry)
  -- its calls that can be decided, and those of which a branch is out, by request
  pub calls : List KeptValue
  -- memory was refused in a step of it, and it is not closed
  pub broken : Bool
  pub closed : Bool
  -- its peer hung up
  pub hung_up : Bool
  -- how far its stream was read
  pub reader : ReaderValue

abbrev pub held_connection : ℕ → ℕ → List (Option ReplyEntry) → List KeptValue → Bool → Bool → Bool → ReaderValue → HeldConnection
held_connection number taken slots calls broken closed hung_up reader = record {
  number = number;
  taken = taken;
  slots = slots;
  calls = calls;
  broken = broken;
  closed = closed;
  hung_up = hung_up;
  reader = reader;
}

-- its stream: how far it was read, and whether its peer hung up
pub record StreamValue : Type 0 where
  pub reader : ReaderValue
  pub hung_up : Bool

abbrev pub new_stream : StreamValue
new_stream = record { reader = reader_value 0 (Partial []); hung_up = false }

abbrev pub stream_in : HeldConnection → StreamValue
stream_in k = record { reader = k.reader; hung_up = k.hung_up }

abbrev pub stream_of : Option HeldConnection → StreamValue
stream_of o = option_map_or stream_in o new_stream

-- a connection by its calls: what an occurrence steps on (see Connection)
pub record ConnectionValue : Type 0 where
  pub number : ℕ
  -- how many of its replies were taken, and a slot for each request behind them
  pub taken : ℕ
  pub slots : List (Option ReplyEntry)
  -- its calls, by the numbers of their requests: one that is not kept is new, or gone
  pub calls : ℕ → CallState
  -- whether it was closed: then its slots were dropped; and whether it broke, and is not closed
  pub broken : Bool
  pub closed : Bool

-- one that is not kept: it was not opened yet, or it was closed, and none of its branches is out
abbrev pub not_kept : Bool → ℕ → ConnectionValue
not_kept closed number = record { number = number; taken = 0; slots = []; calls = λ k. gone; broken = false; closed = closed }

-- the connection: its calls by their requests
abbrev pub connection_of : HeldConnection → ConnectionValue
connection_of k = record {
  number = k.number;
  taken = k.taken;
  slots = k.slots;
  calls = λ request. call_at (call_id k.number request) k.calls;
  broken = k.broken;
  closed = k.closed;
}

-- ---- the gateway

-- the gateway as the code keeps it
pub record GatewayValue : Type 0 where
  pub plans : List PlanRecord
  pub moment : ℕ
  pub drained : Bool
  -- by number: those that are open, and those that are closed while a branch of a call of theirs is out
  pub conns : List (ℕ × HeldConnection)
  -- the jobs that wait, in order of start
  pub jobs : List JobValue
  -- how many connections were opened, and how many calls were begun
  pub opened : ℕ
  pub begun : ℕ
  -- how results were seen
  pub tally : Tally

abbrev pub gateway_value : List PlanRecord → ℕ → Bool → List (ℕ × HeldConnection) → List JobValue → ℕ → ℕ → Tally → GatewayValue
gateway_value plans moment drained conns jobs opened begun tally = record {
  plans = plans;
  moment = moment;
  drained = drained;
  conns = conns;
  jobs = jobs;
  opened = opened;
  begun = begun;
  tally = tally;
}

-- the connection that is kept under that number
abbrev pub conn_of : ℕ → GatewayValue → Option HeldConnection
conn_of c v = lookup (is_at (nat_cmp c)) v.conns

-- the connection of that number as a value: one that is not kept was not opened yet, or is closed
abbrev pub value_of : ℕ → ℕ → Option HeldConnection → ConnectionValue
value_of opened c o = option_map_or connection_of o (not_kept (nat_lt c opened) c)

abbrev pub connection : ℕ → GatewayValue → ConnectionValue
connection c v = value_of v.opened c (conn_of c v)

-- ---- what is seen of it

-- it was opened, where so many were, and is not closed
abbrev pub is_open_value : ℕ → ℕ → ConnectionValue → Bool
is_open_value count c v = nat_lt c count && not v.closed

-- it is open, and broken
abbrev pub is_broken_value : ℕ → ℕ → ConnectionValue → Bool
is_broken_value count c v = is_open_value count c v && v.broken

-- the replies of it that can be taken, if it is open
abbrev pub untaken_value : ℕ → ℕ → ConnectionValue → List ReplyEntry
untaken_value count c v = if is_open_value count c v then front v.slots else []

-- each of these is there
abbrev pub are_all_there : List (Option ReplyEntry) → Bool
are_all_there slots = not (list_any is_none slots)

-- each request of it has its reply, or it is not open
abbrev pub is_idle_value : ℕ → ℕ → ConnectionValue → Bool
is_idle_value count c v = not (is_open_value count c v) || are_all_there v.slots

-- its stream brings nothing more: its requests have ended, or its peer hung up
abbrev pub is_done : StreamValue → Bool
is_done s = is_over s.reader.reading || s.hung_up

-- it is not open, or broken, or its stream brings nothing more and each request has its reply
abbrev pub is_ended_value : ℕ → ℕ → ConnectionValue → StreamValue → Bool
is_ended_value count c v s = not (is_open_value count c v) || (v.broken || (is_done s && are_all_there v.slots))

-- the least deadline of its calls
abbrev pub deadline_in : ConnectionValue → Option ℕ
deadline_in v = least_of (map (λ k. call_deadline (v.calls k)) (range_with_len 0 (v.taken + length v.slots)))

-- that of all of them, where so many were opened
abbrev pub deadline_among : ℕ → (ℕ → ConnectionValue) → Option ℕ
deadline_among opened conns = least_of (map (λ c. deadline_in (conns c)) (range_with_len 0 opened))

-- the moment after one that comes, which never goes back
abbrev pub moment_after : ℕ → ℕ → ℕ
moment_after moment m = max moment (min m (2 ^ 62))

-- what is seen of them at this moment, where so many were opened
abbrev pub shown_of : ℕ → ℕ → (ℕ → ConnectionValue) → (ℕ → StreamValue) → List JobValue → Shown
shown_of moment opened conns streams waiting = record {
  is_open = λ c. is_open_value opened c (conns c);
  is_broken = λ c. is_broken_value opened c (conns c);
  untaken = λ c. untaken_value opened c (conns c);
  waiting = waiting;
  outs = λ id. count_by (λ b. b) ((conns id.conn).calls id.request).out;
  recorded = λ id. option_map (λ (l : Live). record_of l.asked l.deadlines l.events) ((conns id.conn).calls id.request).live;
  is_idle = λ c. is_idle_value opened c (conns c);
  is_ended = λ c. is_ended_value opened c (conns c) (streams c);
  deadline = deadline_among opened conns;
  ends_calls = λ m. is_due (moment_after moment m) (deadline_among opened conns);
}

-- what is seen of the gateway
abbrev pub shown : GatewayValue → Shown
shown v = shown_of v.moment v.opened (λ c. connection c v) (λ c. stream_of (conn_of c v)) v.jobs
