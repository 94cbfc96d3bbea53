-- A client of a loop, and what its steps make of the history that the core stands for.
use Rattle.std.specs.Prelude.{◌≡◌, ◌⊎◌, ℕ, ◌+◌, ◌<◌, Bool, true, false, ◌==◌, List, [], ◌∷◌, ◌++◌, map, reverse, Option, None, Some}
use Rattle.std.specs.declared.net.socket_addr.SocketAddr.{SocketAddr}
use Rattle.call_plan.specs.Plan.{PlanRecord}
use Rattle.connect_codec.specs.declared.answer.Outcome.{Outcome}
use Rattle.gateway_model.specs.Events.{Occurs, connections, hung_up, is_open, stream}
use Rattle.gateway_model.specs.History.{History}
use Rattle.gateway_model.specs.Past.{Past, marked}
use Rattle.gateway_model.specs.Starts.{Placed, occurrences}
use Rattle.gateway_theory.specs.Values.{GatewayValue}
use Rattle.gateway_theory.specs.Served.{Served}
use Rattle.gateway_theory.specs.Task.{HandedJob}
use Rattle.loop_model.specs.Accounts.{NetworkValue, closed_client}
use Rattle.loop_model.specs.Clients.{ClientValue}
use Rattle.loop_model.specs.Explained.{LoopValue}
use Rattle.loop_model.specs.Histories.{Extends, LivesOn}
use Rattle.loop_model.specs.Holding.{Fits, Holds}
use Rattle.loop_model.specs.Standing.{count_clients}
use Rattle.loop_model.specs.Streams.{ClosedValue}
use Rattle.loop_model.specs.Growing.{Continues}
use Rattle.loop_model.specs.Handed.{has_drained, latest, moments, results}

-- its connection was closed, and it lingers until then at most
abbrev pub lingering : ℕ → ClientValue → ClientValue
lingering until x = record x { lingers = true; until = Some until }

-- its stream is watched so from now on
abbrev pub watched_by : Option (ℕ × Bool) → ClientValue → ClientValue
watched_by watched x = record x { watched = watched }

-- it was accepted, and nothing was read or written yet
pub record IsFresh (peer : Option SocketAddr) (given got : List ℕ) (ended : Bool) : Type 0 where
  pub accepted : peer ≡ None
  pub given_none : given ≡ []
  pub got_none : got ≡ []
  pub goes_on : ended ≡ false

-- ---- steps

-- the stream of that connection is the same by both, and so is whether it is open and hung up
pub record IsStreamOf (c : ℕ) (h k : History) : Type 0 where
  pub known : c < connections k.opened k.events
  pub still_open : is_open k.opened c k.events ≡ is_open h.opened c h.events
  pub hung : hung_up k.opened c k.events ≡ hung_up h.opened c h.events
  pub text : stream k.opened c k.events ≡ stream h.opened c h.events

-- the same, and what was taken of its queue
pub record IsSameOf (c : ℕ) (h k : History) : Type 0 where
  pub of_stream : IsStreamOf c h k
  pub taken : k.taken c ≡ h.taken c

-- what had occurred by the one history, and more
pub record Follows (plans : List PlanRecord) (h : History) (later : List Placed) : Type 0 where
  pub before : List Placed
  pub occurred : Occurs plans h.opened h.events before
  pub since : Past
  pub later_is : marked (occurrences later) ≡ since ++ marked (occurrences before)

-- the one history goes on from the other: nothing is new of other connections than these, and nothing of one that is closed
pub record Leads (plans : List PlanRecord) (own : ℕ → Bool) (h k : History) : Type 0 where
  pub others : (c : ℕ) → own c ≡ false → c < connections h.opened h.events → IsSameOf c h k
  pub shut : (c : ℕ) → c < connections h.opened h.events → is_open h.opened c h.events ≡ false → IsStreamOf c h k
  pub follows : (later : List Placed) → Occurs plans k.opened k.events later → Follows plans h later

-- no moment, no result, no drain and no job is new
pub record IsQuiet (h k : History) : Type 0 where
  pub moments_are : moments k.events ≡ moments h.events
  pub results_are : results k.events ≡ results h.events
  pub drains_are : has_drained k.events ≡ has_drained h.events
  pub handed_are : k.handed ≡ h.handed

-- so many connections were opened by both
abbrev pub OpensNone : History → History → Type 0
OpensNone h k = connections k.opened k.events ≡ connections h.opened h.events

-- the core and a client of it made steps of its connection, and of no other
pub record Steps (plans : List PlanRecord) (v w : GatewayValue) (x y : ClientValue) (h : History) : Type 0 where
  pub later : History
  pub serves : Served w later
  pub fits : Fits plans later y
  pub leads : Leads plans (λ c. c == x.conn) h later
  pub quiet : IsQuiet h later
  pub opens : OpensNone h later
  pub extends : Extends h later
  pub lives : LivesOn v h w later

pub record MakesSteps (v w : GatewayValue) (x y : ClientValue) : Type 0 where
  pub conn : y.conn ≡ x.conn
  pub plans : w.plans ≡ v.plans
  pub steps : (plans : List PlanRecord) (h : History) → v.plans ≡ plans → Served v h → Fits plans h x → Steps plans v w x y h

-- by no event: the client fits what it fitted
pub record FitsOn (x y : ClientValue) : Type 0 where
  pub conn : y.conn ≡ x.conn
  pub fits : (plans : List PlanRecord) (h : History) → Fits plans h x → Fits plans h y

-- ---- the loop

abbrev pub loop_value : GatewayValue → List (Option ClientValue) → List (ClientValue × Bool) → List ClosedValue → List (ℕ × Bool) → List (HandedJob × Option Outcome)
    → List (HandedJob × Bool) → Bool → LoopValue
loop_value v clients gone unserved told results handed drained = record {
  core = v;
  clients = clients;
  gone = map (λ g. g.0) gone;
  unserved = unserved;
  told = map (λ t. t.0) told;
  results = map (λ r. (r.0.job, r.1)) results;
  handed = map (λ j. j.0.job) handed;
  drained = drained;
}

-- a new loop
pub record Starts (l : LoopValue) : Type 0 where
  pub none_there : l.clients ≡ []
  pub none_gone : l.gone ≡ []
  pub none_unserved : l.unserved ≡ []
  pub none_told : l.told ≡ []
  pub no_results : l.results ≡ []
  pub none_handed : l.handed ≡ []
  pub not_drained : l.drained ≡ false

-- what the one continues the other does too, and it is told to drain if it was
pub record Onward (v w : LoopValue) : Type 0 where
  pub on : (u : LoopValue) → Continues u v → Continues u w
  pub drained : w.drained ≡ v.drained

-- this is the last moment that was told, and some history holds
pub record IsServing (moment : ℕ) (l : LoopValue) : Type 0 where
  pub moment_is : moment ≡ latest (reverse l.told)
  pub holds : (unknown : Outcome) → (h : History) × Holds unknown h l

-- no result was handed in, and no job was taken
pub record HandsNothing (v w : LoopValue) : Type 0 where
  pub no_result : w.results ≡ v.results
  pub no_job : w.handed ≡ v.handed

-- no client came or went, and no moment was told
pub record IsStill (v w : LoopValue) : Type 0 where
  pub told : w.told ≡ v.told
  pub gone : w.gone ≡ v.gone
  pub unserved : w.unserved ≡ v.unserved
  pub there : count_clients w.clients ≡ count_clients v.clients

-- a client came; or its stream was not taken in, and was closed
abbrev pub HasCome : NetworkValue → NetworkValue → LoopValue → LoopValue → Type 0
HasCome a b v w = (b ≡ a) × (w.unserved ≡ v.unserved) × (count_clients w.clients ≡ count_clients v.clients + 1)

abbrev pub IsTurnedAway : NetworkValue → NetworkValue → LoopValue → LoopValue → Type 0
IsTurnedAway a b v w =
    (s : ClosedValue) × (b ≡ record a { closed = a.closed ++ s ∷ [] }) × (w.unserved ≡ v.unserved ++ s ∷ []) × (count_clients w.clients ≡ count_clients v.clients)

pub record TakesIn (a b : NetworkValue) (v w : LoopValue) : Type 0 where
  pub told : w.told ≡ v.told
  pub gone : w.gone ≡ v.gone
  pub one : HasCome a b v w ⊎ IsTurnedAway a b v w

-- a client has gone, whose stream was closed; or nobody was there
abbrev pub HasGone : NetworkValue → NetworkValue → LoopValue → LoopValue → Type 0
HasGone a b v w =
    (x : ClientValue) × (b ≡ record a { closed = a.closed ++ closed_client x ∷ [] }) × (w.gone ≡ v.gone ++ x ∷ []) × (count_clients v.clients ≡ count_clients w.clients + 1)

pub record LetsGo (a b : NetworkValue) (v w : LoopValue) : Type 0 where
  pub told : w.told ≡ v.told
  pub unserved : w.unserved ≡ v.unserved
  pub one : ((b ≡ a) × (w.gone ≡ v.gone) × (count_clients w.clients ≡ count_clients v.clients)) ⊎ HasGone a b v w

-- a moment was told
pub record IsTold (a b : NetworkValue) (v w : LoopValue) : Type 0 where
  pub moment : ℕ
  pub net : b ≡ record a { told = a.told ++ moment ∷ [] }
  pub told : w.told ≡ v.told ++ moment ∷ []
  pub gone : w.gone ≡ v.gone
  pub unserved : w.unserved ≡ v.unserved
  pub there : w.clients ≡ v.clients
