-- What every call keeps of the gateway, what a step tells of a connection, and what holds between two calls.
use Rattle.std.specs.List.Sorted.{IsStrictlySortedBy}
use Rattle.std.specs.Map.{keys_of}
use Rattle.std.specs.Option.{option_map_or}
use Rattle.std.specs.Ordering.{nat_cmp}
use Rattle.std.specs.Prelude.{◌≡◌, ◌↔◌, ℕ, ◌+◌, ◌<◌, ◌≤◌, ◌==◌, Bool, true, false, ◌&&◌, nat_lt, List, [], ◌∷◌, ◌++◌, filter, take, Some, Result, Err, OnOk}
use Rattle.http_pieces.specs.Reader.{HasRead, ReaderValue, ending_after}
use Rattle.http_pieces.specs.Request.{HttpRequest}
use Rattle.http_pieces.specs.Requests.{Requests}
use Rattle.gateway_model.specs.Arrival.{arrival_of}
use Rattle.gateway_model.specs.Events.{most_open}
use Rattle.gateway_model.specs.Job.{JobValue}
use Rattle.gateway_model.specs.Known.{is_of}
use Rattle.gateway_model.specs.Occurrence.{Request}
use Rattle.gateway_model.specs.Past.{most_calls}
use Rattle.gateway_model.specs.Queue.{IsPrefixOf}
use Rattle.gateway_model.specs.declared.id.CallId.{CallId}
use Rattle.gateway_model.specs.declared.seen.Seen.{Seen}
use Rattle.gateway_theory.specs.Results.{NoneSpent as NoneSpentIn}
use Rattle.gateway_theory.specs.Tally.{tally_of}
use Rattle.gateway_theory.specs.declared.fault.StepFault.{StepFault}
use Rattle.gateway_theory.specs.declared.fault.StepFault.TheVariants.{Exhausted, Gone, Memory}
use Rattle.gateway_theory.specs.Gateway.{calls_kept, is_broken_conn, is_open_conn, open_count, open_of, untaken_of}
use Rattle.gateway_theory.specs.Values.{GatewayValue, conn_of, HeldConnection}
use Rattle.gateway_theory.specs.Held.{HasBrought, Holds, arriving_in, begins_call, hears, is_gone, is_listening, most_begun, undecided}
use Rattle.gateway_theory.specs.Core.{is_waiting}

-- ---- what every call keeps

-- nothing comes of the connection any more: it was opened, and is closed or broken
abbrev pub is_silent : ℕ → GatewayValue → Bool
is_silent c v = nat_lt c v.opened && option_map_or (λ (k : HeldConnection). k.broken) (open_of c v) true

-- the plans stay, and what can be taken stays, though more may stand behind it; nothing comes of a silent connection. But for the
-- connections of the first numbers, which close; those of the second alone may break. Where no more calls are kept, none was begun;
-- and so many results were seen so
pub record KeepsBut (closed breaks : ℕ → Bool) (seen : List Seen) (v w : GatewayValue) : Type 0 where
  pub plans_are : w.plans ≡ v.plans
  pub begun_is : calls_kept w ≤ calls_kept v → w.begun ≡ v.begun
  pub tally_is : (before : List Seen) → v.tally ≡ tally_of before → w.tally ≡ tally_of (seen ++ before)
  pub stays_silent : (c : ℕ) → is_silent c v ≡ true → is_silent c w ≡ true
  pub stays_broken : (c : ℕ) → closed c ≡ false → is_broken_conn c v ≡ true → is_broken_conn c w ≡ true
  pub broken_are : (c : ℕ) → is_broken_conn c w ≡ true → is_broken_conn c v ≡ false → breaks c ≡ true
  pub replies_stay : (c : ℕ) → closed c ≡ false → IsPrefixOf (untaken_of c v) (untaken_of c w)
  pub no_replies : (c : ℕ) → closed c ≡ false → is_silent c v ≡ true → untaken_of c w ≡ untaken_of c v
  pub jobs : List JobValue
  pub jobs_are : w.jobs ≡ v.jobs ++ jobs
  pub no_jobs : (c : ℕ) → is_silent c v ≡ true → filter (is_of c) jobs ≡ []

-- the same, where none closes and no result comes
abbrev pub Keeps : (ℕ → Bool) → GatewayValue → GatewayValue → Type 0
Keeps breaks v w = KeepsBut (λ c. false) breaks [] v w

-- as many calls were begun as are kept more, and no more than may be
pub record CountsCalls (v w : GatewayValue) : Type 0 where
  pub grows : v.begun ≤ w.begun
  pub sum_is : w.begun + calls_kept v ≡ v.begun + calls_kept w
  pub few : v.begun < w.begun → w.begun ≤ most_begun

-- nothing changes but what can be taken of the connection of that number
pub record TakesOnly (n : ℕ) (v w : GatewayValue) : Type 0 where
  pub plans_are : w.plans ≡ v.plans
  pub opened_is : w.opened ≡ v.opened
  pub begun_is : w.begun ≡ v.begun
  pub tally_is : w.tally ≡ v.tally
  pub jobs_are : w.jobs ≡ v.jobs
  pub open_are : (c : ℕ) → is_open_conn c w ≡ is_open_conn c v
  pub broken_are : (c : ℕ) → is_broken_conn c w ≡ is_broken_conn c v
  pub others_are : (c : ℕ) → (c == n) ≡ false → untaken_of c w ≡ untaken_of c v

-- ---- what a step tells

-- the connection of that number is not open, or no pieces of its stream are taken
abbrev pub NotListening : ℕ → GatewayValue → Type 0
NotListening number v = (k : HeldConnection) → open_of number v ≡ Some k → is_listening k ≡ false

-- a connection breaks in the step, or none does
abbrev pub Breaks : GatewayValue → GatewayValue → Bool → Type 0
Breaks v w true = (c : ℕ) × (is_broken_conn c w ≡ true) × (is_broken_conn c v ≡ false)
Breaks v w false = (c : ℕ) → is_broken_conn c w ≡ true → is_broken_conn c v ≡ true

-- what a step tells of a connection by its answer
pub record TellsStep {A : Type 0} (c : ℕ) (v w : GatewayValue) (result : Result A StepFault) : Type 0 where
  pub gone : (result ≡ Err Gone) ↔ NotListening c v
  pub unchanged : result ≡ Err Gone → w ≡ v
  pub broke : result ≡ Err Memory → is_broken_conn c w ≡ true
  pub exhausted : result ≡ Err Exhausted → (is_broken_conn c w ≡ true) × (most_begun ≤ w.begun)
  pub unbroken : OnOk result (is_broken_conn c w ≡ false)

-- no call of that id is kept of which nothing is left
abbrev pub NoneSpent : CallId → GatewayValue → Type 0
NoneSpent id v = (k : HeldConnection) → conn_of id.conn v ≡ Some k → NoneSpentIn id k.calls

-- of that many bytes so many are taken: no more, and some where there are some
pub record TakesSome (given taken : ℕ) : Type 0 where
  pub within : taken ≤ given
  pub moves : 0 < given → 0 < taken

-- with so many bytes of the piece that request of the stream is whole
abbrev pub IsWhole : ℕ → List ℕ → ReaderValue → HttpRequest → Type 0
IsWhole n bytes reader q = (text : List ℕ) (given : List HttpRequest) → HasRead reader text given → Requests 0 (text ++ take n bytes) (given ++ q ∷ []) (ending_after q)

-- with the piece a request of that connection is whole which would begin a call
pub record WouldBegin (number : ℕ) (bytes : List ℕ) (v : GatewayValue) : Type 0 where
  pub conn : HeldConnection
  pub there : open_of number v ≡ Some conn
  pub read : ℕ
  pub request : HttpRequest
  pub whole : IsWhole read bytes conn.reader request
  pub begins : begins_call (arriving_in v.moment v.drained (Request request (arrival_of v.plans request)) conn) ≡ true

-- ---- between two calls

-- no connection that goes on has more requests that wait than may be
abbrev pub HasFewCalls : GatewayValue → Type 0
HasFewCalls v = (c : ℕ) (k : HeldConnection) → open_of c v ≡ Some k → k.broken ≡ false → undecided k ≤ most_calls

-- a connection that is kept under that number, where so many were opened: no request of its stream waits, and no more have come than that brought
pub record IsHeld (count c : ℕ) (k : HeldConnection) : Type 0 where
  pub number_is : k.number ≡ c
  pub born : c < count
  pub holds : Holds k
  -- one that is closed is not broken, has no slots, and a branch of a call of it is out
  pub whole : k.closed ≡ true → k.broken ≡ false
  pub none_queued : k.closed ≡ true → k.slots ≡ []
  pub stays : is_gone k ≡ false
  pub settled : is_waiting k.reader.reading ≡ false
  pub few_calls : k.closed ≡ false → k.broken ≡ false → undecided k ≤ most_calls
  pub brought : hears k ≡ true → HasBrought k

-- each connection is held so, each under its own number, and no more are open than may be
pub record IsServing (v : GatewayValue) : Type 0 where
  pub each : (c : ℕ) (k : HeldConnection) → conn_of c v ≡ Some k → IsHeld v.opened c k
  pub sorted : IsStrictlySortedBy nat_cmp (keys_of v.conns)
  pub few_open : open_count v ≤ most_open
