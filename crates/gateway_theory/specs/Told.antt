-- What the calls of the core say: what the gateway stands for after each, how a result is seen, and whether a job is wanted.
use Rattle.std.specs.Prelude.{◌≡◌, ℕ, ◌<◌, ◌≤◌, Bool, true, false, List, [], ◌∷◌, ◌++◌, length, take, Option, is_some, Result, IfOk, MatchResult}
use Rattle.http_pieces.specs.Request.{HttpRequest}
use Rattle.http_pieces.specs.Requests.{Open, Requests, StreamEnd}
use Rattle.call_plan.specs.Plan.{PlanRecord}
use Rattle.gateway_model.specs.declared.event.Event.{Event}
use Rattle.gateway_model.specs.declared.event.Event.TheVariants.{Opening, Piece}
use Rattle.gateway_model.specs.declared.id.CallId.{CallId}
use Rattle.gateway_model.specs.declared.seen.Seen.{Seen}
use Rattle.gateway_model.specs.declared.seen.Seen.TheVariants.{Counted, Unknown}
use Rattle.gateway_model.specs.Events.{Gains, most_open, open_connections, stream}
use Rattle.gateway_model.specs.Job.{JobValue}
use Rattle.gateway_model.specs.Known.{is_whole}
use Rattle.gateway_model.specs.Occurrence.{Coming}
use Rattle.gateway_model.specs.Past.{how_seen, marked}
use Rattle.gateway_model.specs.Starts.{Placed, occurrences}
use Rattle.gateway_model.specs.History.{History, after_event, after_opening, after_jobs}
use Rattle.gateway_theory.specs.declared.fault.StepFault.{StepFault}
use Rattle.gateway_theory.specs.declared.fault.Took.{Took}
use Rattle.gateway_theory.specs.Breaks.{seen_by}
use Rattle.gateway_theory.specs.LiveStands.{is_live}
use Rattle.gateway_theory.specs.Replies.{ReplyValue}
use Rattle.gateway_theory.specs.Gateway.{call_in}
use Rattle.gateway_theory.specs.Values.{GatewayValue, shown}
use Rattle.gateway_theory.specs.Served.{Adds, FedUpTo, Lives, Served, after_reply}
use Rattle.gateway_theory.specs.Serving.{Breaks, NoneSpent, WouldBegin}

-- ---- what it stands for

-- whatever it stood for, it stands for that, and for this event more
abbrev pub TakesEvent : Event → GatewayValue → GatewayValue → Type 0
TakesEvent e v w =
    (h : History) → Served v h
    → Served w (after_event e h)

-- whatever was lived, this event adds to it
abbrev pub AddsEvent : Event → GatewayValue → GatewayValue → Type 0
AddsEvent e v w = (h : History) → Adds h.opened e h v w

-- an opening more, which succeeded or did not
abbrev pub TakesOpening : {E : Type 0} → Result ℕ E → GatewayValue → GatewayValue → Type 0
TakesOpening result v w =
    (h : History) → Served v h
    → MatchResult result (λ _. Served w (after_opening h)) (λ _. Served w (after_event Opening h))

abbrev pub AddsOpening : {E : Type 0} → Result ℕ E → GatewayValue → GatewayValue → Type 0
AddsOpening result v w =
    (h : History) → MatchResult result (λ _. Adds (h.opened ++ length h.events ∷ []) Opening h v w) (λ _. Adds h.opened Opening h v w)

-- it succeeds only where fewer are open than may be
abbrev pub OpensFew : {E : Type 0} → Result ℕ E → GatewayValue → Type 0
OpensFew result v =
    (h : History) → Served v h
    → IfOk result (λ _. open_connections h.opened h.events < most_open)

-- bytes more of a piece, of which the first were fed before: as many as were taken; at a fault all of them
abbrev pub TakesBytes : ℕ → List ℕ → Result ℕ StepFault → GatewayValue → GatewayValue → Type 0
TakesBytes conn bytes result v w =
    (fed : List ℕ) (h : History) (first : GatewayValue) → FedUpTo conn fed h first v
    → MatchResult result (λ n. FedUpTo conn (fed ++ take n bytes) h first w) (λ _. Adds h.opened (Piece conn (fed ++ bytes)) h first w)

-- the first bytes of the piece were fed, whatever it stood for, and with the rest a request is whole which would begin a call
pub record BeginsWithin (conn : ℕ) (piece : List ℕ) (v : GatewayValue) : Type 0 where
  pub fed : List ℕ
  pub rest : List ℕ
  pub parts : fed ++ rest ≡ piece
  pub now : GatewayValue
  pub stands : (h : History) → Served v h → FedUpTo conn fed h v now
  pub begins : WouldBegin conn rest now

-- of a stream that goes on, the bytes taken bring one request at most, or the stream's refusal; of one that has ended all are taken
pub record TakesOne (plans : List PlanRecord) (text bytes : List ℕ) (n : ℕ) : Type 0 where
  pub one : (gained : List Coming) → Gains plans text (text ++ take n bytes) gained → length gained ≤ 1
  pub all : (given : List HttpRequest) (ending : StreamEnd) → Requests 0 text given ending → ((left : List ℕ) → ending ≡ Open left → ⊥) → n ≡ length bytes

abbrev pub TakesOneOf : ℕ → List ℕ → Result ℕ StepFault → GatewayValue → Type 0
TakesOneOf conn bytes result v =
    (h : History) → Served v h
    → IfOk result (λ n. TakesOne v.plans (stream h.opened conn h.events) bytes n)

-- these jobs were taken, and no event came
abbrev pub HandsJobs : List JobValue → GatewayValue → GatewayValue → Type 0
HandsJobs jobs v w =
    (h : History) → Served v h
    → Served w (after_jobs jobs h)

-- and nothing else was lived
abbrev pub LeavesLived : List JobValue → GatewayValue → GatewayValue → Type 0
LeavesLived jobs v w = (h : History) (lived : List Placed) → Lives v h lived → Lives w (after_jobs jobs h) lived

-- the reply of that connection was taken, if there was one, and no event came
abbrev pub HandsReply : ℕ → Option ReplyValue → GatewayValue → GatewayValue → Type 0
HandsReply conn reply v w =
    (h : History) → Served v h
    → Served w (after_reply conn reply h)

-- and nothing else was lived
abbrev pub LeavesReplied : ℕ → Option ReplyValue → GatewayValue → GatewayValue → Type 0
LeavesReplied conn reply v w = (h : History) (lived : List Placed) → Lives v h lived → Lives w (after_reply conn reply h) lived

-- ---- results

-- how a result is seen, whatever its connection: by what is kept of its call, and by what was lived
pub record IsSeen (id : CallId) (branch : ℕ) (v : GatewayValue) (seen : Seen) : Type 0 where
  pub kept : seen ≡ seen_by (call_in id v) branch
  pub by_lived : (h : History) (lived : List Placed) → Lives v h lived → seen ≡ how_seen id branch (marked (occurrences lived))

-- what the answer to a result tells: a connection breaks only by one that counts; one of a branch that is not out changes nothing but the
-- tally; and a call that is kept behind it can be decided or has a branch out
pub record TellsTook (id : CallId) (branch : ℕ) (took : Took) (v w : GatewayValue) : Type 0 where
  pub seen : IsSeen id branch v took.seen
  pub counted : took.broke ≡ true → took.seen ≡ Counted
  pub broke : Breaks v w took.broke
  pub unknown : took.seen ≡ Unknown → w ≡ record v { tally = w.tally }
  pub none_spent : (took.seen ≡ Unknown → ⊥) → NoneSpent id w

-- ---- jobs

-- whether the answer to a job of this call is wanted: where the call can be decided, by what was lived
pub record IsWanted (id : CallId) (v : GatewayValue) (wanted : Bool) : Type 0 where
  pub kept : wanted ≡ is_some ((shown v).recorded id)
  pub broken : is_whole id.conn (shown v) ≡ false → wanted ≡ false
  pub by_lived : (h : History) (lived : List Placed) → Lives v h lived → wanted ≡ is_live id (marked (occurrences lived))
