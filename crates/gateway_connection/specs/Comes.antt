-- What comes on a connection's stream, as the code takes it.
use Rattle.std.specs.Prelude.{◌≡◌, ℕ, Bool, if◌then◌else◌, ◌+◌, ◌<◌, ◌≤◌, List, [], ◌++◌, None, Option, Some, Result}
use Rattle.http_pieces.specs.Reader.{ReaderValue}
use Rattle.http_pieces.specs.Request.{HttpRequest, closes}
use Rattle.gateway_model.specs.Past.{ArrivedCall}
use Rattle.gateway_model.specs.declared.entry.ReplyEntry.TheVariants.{Crowded}
use Rattle.gateway_model.specs.declared.id.CallId.{CallId}
use Rattle.gateway_model.specs.Job.{JobValue}
use Rattle.gateway_model.specs.Occurrence.{Coming}
use Rattle.gateway_replies.specs.Hooks.{TakesAtMostOne}
use Rattle.gateway_theory.specs.Begins.{begins, ends_first}
use Rattle.gateway_theory.specs.Step.{Step, step_to}
use Rattle.gateway_theory.specs.Values.{gone, HeldConnection}
use Rattle.gateway_theory.specs.Store.{waiting}
use Rattle.gateway_theory.specs.declared.fault.StepFault.{StepFault}
use Rattle.gateway_theory.specs.declared.fault.StepFault.TheVariants.{Memory}
use Rattle.gateway_theory.specs.Held.{IsFault, ReadsOn, TakesBytes, arriving_in, begins_call, begun_by, coming_of, entered_held, most_begun, read_held}
use Rattle.gateway_connection.specs.Lent.{LeavesRest}
use Rattle.gateway_connection.specs.Linked.{ComesWith, none_over}
use Rattle.gateway_connection.specs.OwnContexts.{IsTied}
use Rattle.gateway_connection.specs.declared.arriving.Arriving.{Arriving}
use Rattle.gateway_connection.specs.declared.arriving.Arriving.TheVariants.{Answered, Begins as BeginsCall}
use Rattle.gateway_connection.specs.declared.shared.Shared.{Shared}

-- a call that is asked for: it is crowded out, ends as it comes, or begins
abbrev pub asking : Bool → ℕ → Bool → CallId → ArrivedCall → Step
asking crowded moment drained id a = if crowded then step_to gone (Some (Crowded (closes a.request))) [] else begins moment (ends_first moment drained a) id a

-- what it comes to, by its step: an answer at once, or a call that begins
abbrev pub ComesTo : Arriving → CallId → ℕ → Step → Type 0
ComesTo (Answered r) next moment step = (r.id ≡ next) × (step ≡ step_to gone (Some r.entry) [])
ComesTo (BeginsCall a) next moment step = step ≡ begins moment None next a

module _ {H : Type 0} where
  -- .. and what is left of its contexts
  pub record Arrives (arriving : Arriving) (next : CallId) (step : Step) (a b : Shared H) : Type 0 where
    pub comes : ComesTo arriving next a.moment step
    pub contexts : ComesWith arriving next a.moment a.contexts.standing b.contexts.standing
    pub hooks : TakesAtMostOne next.conn a.contexts b.contexts
    pub rest : b ≡ record a { contexts = b.contexts }

  -- a call begins by this step: it is kept and counted, and its jobs are queued
  pub record Begins (s : Step) (k l : HeldConnection) (a b : Shared H) : Type 0 where
    pub conn_is : l ≡ entered_held s k
    pub begun_is : b.begun ≡ a.begun + 1
    pub few : b.begun ≤ most_begun
    pub jobs_are : b.jobs.jobs ≡ a.jobs.jobs ++ s.jobs
    pub waits : b.jobs.waiting + waiting k.calls ≡ a.jobs.waiting + waiting l.calls
    pub rest : b ≡ record a { jobs = b.jobs; begun = b.begun }

  -- something came, and made this step
  pub record Enters (s : Step) (k l : HeldConnection) (a b : Shared H) : Type 0 where
    pub conn_is : l ≡ entered_held s k
    pub tied : IsTied none_over l b.contexts
    pub begun_is : b.begun ≡ a.begun + begun_by s
    pub few : a.begun < b.begun → b.begun ≤ most_begun
    pub rest : LeavesRest s.jobs k l a b

  -- memory was refused: it has not come, but contexts of its call may be left
  pub record MayFail (k l : HeldConnection) (a b : Shared H) : Type 0 where
    pub conn_is : l ≡ k
    pub begun_is : b.begun ≡ a.begun
    pub rest : LeavesRest [] k l a b

  -- what the stream has come to enters, if that is anything
  abbrev pub Brings : Option Coming → HeldConnection → HeldConnection → Shared H → Shared H → Type 0
  Brings None k l a b = (l ≡ k) × (b ≡ a)
  Brings (Some x) k l a b = Enters (arriving_in a.moment a.contexts.standing.drained x k) k l a b

  -- .. or it would have, and this was the fault
  abbrev pub BringsNone : Option Coming → StepFault → HeldConnection → HeldConnection → Shared H → Shared H → Type 0
  BringsNone None fault k l a b = ⊥
  BringsNone (Some x) fault k l a b = IsFault fault a.begun (begins_call (arriving_in a.moment a.contexts.standing.drained x k)) × MayFail k l a b

  -- so many bytes were read, and what they brought came
  pub record ReadsAll (bytes : List ℕ) (n : ℕ) (k l : HeldConnection) (a b : Shared H) : Type 0 where
    pub request : Option HttpRequest
    pub reader : ReaderValue
    pub reads : ReadsOn n request bytes k.reader reader
    pub brings : Brings (coming_of a.plans request reader.reading) (read_held reader k) l a b

  -- nothing was read, or nothing came of it
  pub data ReadsNone (bytes : List ℕ) (fault : StepFault) (k l : HeldConnection) (a b : Shared H) : Type 0 where
    unread : fault ≡ Memory → l ≡ k → b ≡ a → ReadsNone bytes fault k l a b
    read : (n : ℕ) (request : Option HttpRequest) (reader : ReaderValue) → ReadsOn n request bytes k.reader reader
        → BringsNone (coming_of a.plans request reader.reading) fault (read_held reader k) l a b → ReadsNone bytes fault k l a b

  -- what bytes of its stream make of it
  pub record Feeds (bytes : List ℕ) (result : Result ℕ StepFault) (k l : HeldConnection) (a b : Shared H) : Type 0 where
    pub jobs : List JobValue
    pub takes : TakesBytes a.plans a.moment a.contexts.standing.drained bytes a.begun k b.begun l jobs result
    pub rest : LeavesRest jobs k l a b
