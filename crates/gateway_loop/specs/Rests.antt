-- Whether nothing is left to be done before a moment, by tests.
use Rattle.std.specs.List.{Contains}
use Rattle.std.specs.Prelude.{◌≡◌, ◌⊎◌, ◌≤◌, ℕ, Bool, true, false, ◌&&◌, ◌||◌, not, if◌then◌else◌, nat_le, is_some, ◌==◌, ◌/◌, ◌%◌, List, [], length, count_by, Option, Some, None}
use Rattle.branch_asking.specs.Asking.{AskingState, until_of}
use Rattle.branch_asking.specs.Rests.{rests_asked}
use Rattle.gateway_model.specs.Known.{Shown}
use Rattle.gateway_theory.specs.Values.{shown}
use Rattle.gateway_loop.specs.Names.{is_among}
use Rattle.gateway_loop.specs.declared.tokens.Owner.{Owner}
use Rattle.gateway_loop.specs.declared.tokens.Owner.TheVariants.{Client, Exchange}
use Rattle.loop_model.specs.Asking.{AskingValue}
use Rattle.loop_model.specs.Clients.{ClientValue}
use Rattle.loop_model.specs.Explained.{LoopValue, at}
use Rattle.loop_model.specs.Rest.{RestsAsking, RestsClient}
use Rattle.loop_model.specs.Whole.{WholeLoop, asked_at}

abbrev pub is_at_most : Option ℕ → Option ℕ → Bool
is_at_most until None = true
is_at_most None (Some limit) = false
is_at_most (Some until) (Some limit) = nat_le until limit

abbrev pub is_written : Shown → ClientValue → Bool
is_written s x = (length x.waiting == 0) && (length (s.untaken x.conn) == 0)

-- the token is that of the client in that place; or that of the exchange
abbrev pub is_clients : ℕ → ℕ → Bool
is_clients token place = (token % 2 == 0) && (token / 2 == place)

abbrev pub is_exchanges : ℕ → ℕ → Bool
is_exchanges token place = (token % 2 == 1) && (token / 2 == place)

-- a client has that place; or an exchange
abbrev pub owner_as : Bool → ℕ → Owner
owner_as true place = Client place
owner_as false place = Exchange place

-- it is watched by the token of the client in that place, and for room to write too
abbrev pub is_watched : ℕ → Option (ℕ × Bool) → Bool
is_watched place None = false
is_watched place (Some w) = w.1 && is_clients w.0 place

-- .. by that of the exchange, if at all
abbrev pub is_watched_as : ℕ → Option (ℕ × Bool) → Bool
is_watched_as place None = true
is_watched_as place (Some w) = is_exchanges w.0 place

abbrev pub waits_client : Shown → Option ℕ → ClientValue → Bool
waits_client s until x =
    if x.lingers then not x.ended && (not x.reads && (is_some x.until && is_at_most until x.until))
    else (if is_written s x then not (s.is_ended x.conn) && (x.ended || not x.reads) else not x.writes)

abbrev pub rests_client : Shown → Option ℕ → ℕ → ClientValue → Bool
rests_client s until place x = is_watched place x.watched && waits_client s until x

abbrev pub rests_asking : Shown → Option ℕ → ℕ → AskingState → Bool
rests_asking s until place x =
    rests_asked x && (is_watched_as place x.attempt.watched
    && (is_at_most until (until_of x.attempt) && (is_at_most until x.job.job.deadline && is_some (s.recorded x.job.job.call))))

-- it has a stream, or its name is among these
abbrev pub is_named : List (List ℕ) → AskingState → Bool
is_named waits x = is_some x.attempt.stream || is_among x.job.job.address waits

abbrev pub AllRest : Option ℕ → LoopValue → Type 0
AllRest until l = (i : ℕ) (x : ClientValue) → at i l.clients ≡ Some x → RestsClient (shown l.core) until i x

-- no job waits, or all places are taken
abbrev pub WaitsForPlace : WholeLoop → Type 0
WaitsForPlace w = ((shown w.side.core).waiting ≡ []) ⊎ (1024 ≤ count_by is_some w.asking)

-- each job that has no stream waits for its name
abbrev pub AllNamed : WholeLoop → Type 0
AllNamed w = (i : ℕ) (x : AskingValue) → asked_at i w.asking ≡ Some x → x.stream ≡ None → Contains w.waits x.job.address

abbrev pub AllAskingRest : Option ℕ → WholeLoop → Type 0
AllAskingRest until w = (i : ℕ) (x : AskingValue) → asked_at i w.asking ≡ Some x → RestsAsking w.manner (shown w.side.core) until i x
