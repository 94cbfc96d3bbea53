-- The gateway as the code keeps it, and what can be asked of it.
use Rattle.std.specs.List.{count_by, sum_by}
use Rattle.std.specs.Map.{values_of}
use Rattle.std.specs.Prelude.{ℕ, Bool, if◌then◌else◌, List, length, Option, None, Some, option_and_then, option_map}
use Rattle.gateway_model.specs.CallRecord.{CallRecord}
use Rattle.gateway_model.specs.Job.{JobValue}
use Rattle.gateway_model.specs.Past.{call_id}
use Rattle.gateway_model.specs.Queue.{record_of}
use Rattle.gateway_model.specs.declared.entry.ReplyEntry.{ReplyEntry}
use Rattle.gateway_model.specs.declared.id.CallId.{CallId}
use Rattle.gateway_theory.specs.Values.{CallState, Live, is_broken_value, is_open_value, untaken_value, HeldConnection, GatewayValue, conn_of, connection, stream_of}
use Rattle.gateway_theory.specs.Connection.{now_of}
use Rattle.gateway_theory.specs.Core.{CoreValue}

-- ---- its connections

-- the gateway by its connections as values
abbrev pub core_of : GatewayValue → CoreValue
core_of v = record {
  plans = v.plans;
  now = now_of v.moment v.drained;
  conns = λ c. connection c v;
  streams = λ c. stream_of (conn_of c v);
  opened = v.opened;
  begun = v.begun;
  waiting = v.jobs;
}

-- ---- what can be asked of it

-- the connection of that number, if it is open
abbrev pub if_open : Option HeldConnection → Option HeldConnection
if_open o = option_and_then (λ (k : HeldConnection). if k.closed then None else Some k) o

abbrev pub open_of : ℕ → GatewayValue → Option HeldConnection
open_of c v = if_open (conn_of c v)

-- the connection is open
abbrev pub is_open_conn : ℕ → GatewayValue → Bool
is_open_conn c v = is_open_value v.opened c (connection c v)

-- the connection is open and broken
abbrev pub is_broken_conn : ℕ → GatewayValue → Bool
is_broken_conn c v = is_broken_value v.opened c (connection c v)

-- the replies of the connection that can be taken
abbrev pub untaken_of : ℕ → GatewayValue → List ReplyEntry
untaken_of c v = untaken_value v.opened c (connection c v)

-- the request to which the next reply of the connection is
abbrev pub next_reply : ℕ → GatewayValue → CallId
next_reply c v = call_id c (connection c v).taken

-- what is kept of the call
abbrev pub call_in : CallId → GatewayValue → CallState
call_in id v = (connection id.conn v).calls id.request

-- how many branches of the call are out
abbrev pub outs_of : CallId → GatewayValue → ℕ
outs_of id v = count_by (λ b. b) (call_in id v).out

-- how many connections were opened, and how many are open
abbrev pub conn_count : GatewayValue → ℕ
conn_count v = v.opened

abbrev pub one_if_open : HeldConnection → ℕ
one_if_open k = if k.closed then 0 else 1

abbrev pub open_count : GatewayValue → ℕ
open_count v = sum_by one_if_open (values_of v.conns)

-- how many calls are kept
abbrev pub calls_kept : GatewayValue → ℕ
calls_kept v = sum_by (λ (k : HeldConnection). length k.calls) (values_of v.conns)

-- the jobs that wait to be taken, in order of start
abbrev pub jobs_of : GatewayValue → List JobValue
jobs_of v = v.jobs

-- the same gateway, in which these jobs wait
abbrev pub with_jobs : List JobValue → GatewayValue → GatewayValue
with_jobs jobs v = record v { jobs = jobs }

-- the record so far of a call that can be decided, as it is kept
abbrev pub kept_record : CallId → GatewayValue → Option CallRecord
kept_record id v = option_map (λ (l : Live). record_of l.asked l.deadlines l.events) (call_in id v).live
