-- The core with its three totals, and the events that it stands for.
use Rattle.std.specs.Prelude.{◌≡◌, ⊤, ℕ, ◌+◌, ◌^◌, ◌<◌, IfOk, MatchResult, Result, Err, List, [], ◌∷◌, ◌++◌, length, Option, Some, None, option_map, option_to_list}
use Rattle.connect_codec.specs.declared.answer.Outcome.{Outcome}
use Rattle.gateway_model.specs.declared.seen.Seen.{Seen}
use Rattle.gateway_model.specs.Events.{Before, most_open, open_connections}
use Rattle.gateway_model.specs.declared.event.Event.TheVariants.{BranchResult, Opening, Piece}
use Rattle.gateway_model.specs.declared.event.Event.{Event}
use Rattle.gateway_theory.specs.Gateway.{jobs_of}
use Rattle.gateway_theory.specs.Values.{GatewayValue}
use Rattle.gateway_theory.specs.Task.{HandedJob}
use Rattle.gateway_model.specs.Job.{JobValue}
use Rattle.gateway_model.specs.History.{History, after_event, after_opening, after_jobs}
use Rattle.gateway_theory.specs.Replies.{ReplyValue}
use Rattle.gateway_theory.specs.Served.{Served, after_reply}
use Rattle.gateway_theory.specs.Serving.{TellsStep}
use Rattle.gateway_theory.specs.Told.{BeginsWithin, IsWanted}
use Rattle.gateway_theory.specs.declared.fault.StepFault.{StepFault}
use Rattle.gateway_theory.specs.declared.fault.StepFault.TheVariants.{Exhausted}
use Rattle.gateway_theory.specs.Tally.{tally_of}
use Rattle.backend_pool.specs.declared.counter.Totals.{Totals}
use Rattle.backend_pool.specs.declared.next_reply.NextReply.{NextReply}
use Rattle.backend_pool.specs.declared.next_reply.NextReply.TheVariants.{Ready, Pending, Over}

-- the core, and the totals of bytes, jobs and results
pub record BookValue : Type 0 where
  pub core : GatewayValue
  pub bytes : ℕ
  pub jobs : ℕ
  pub results : ℕ

abbrev pub book_value : GatewayValue → ℕ → ℕ → ℕ → BookValue
book_value core bytes jobs results = record { core = core; bytes = bytes; jobs = jobs; results = results }

abbrev pub totals_of : BookValue → Totals
totals_of b = record { bytes = b.bytes; jobs = b.jobs; results = b.results }

-- no total is greater (this project's choice)
abbrev pub most_total : ℕ
most_total = 2 ^ 62

-- ---- totals

-- the bytes that an event brings
abbrev pub bytes_in : Event → ℕ
bytes_in (Piece conn bytes) = length bytes
bytes_in _ = 0

-- the results that an event brings
abbrev pub results_in : Event → ℕ
results_in (BranchResult conn request branch outcome) = 1
results_in _ = 0

abbrev pub bytes_of : Before → ℕ
bytes_of [] = 0
bytes_of (e ∷ before) = bytes_of before + bytes_in e

abbrev pub results_of : Before → ℕ
results_of [] = 0
results_of (e ∷ before) = results_of before + results_in e

-- so many results came, and were seen as the tally of the core says
abbrev pub IsTallied : GatewayValue → ℕ → Type 0
IsTallied v results = (seen : List Seen) × (v.tally ≡ tally_of seen) × (length seen ≡ results)

-- ---- what a book stands for

-- the core after all that came; and the totals are those of the pieces, the jobs taken and the results
pub record BookStands (b : BookValue) (h : History) : Type 0 where
  pub served : Served b.core h
  pub bytes_are : b.bytes ≡ bytes_of h.events
  pub jobs_are : b.jobs ≡ length h.handed
  pub results_are : b.results ≡ results_of h.events
  pub tallied : IsTallied b.core b.results

-- whatever it stood for, it stands for that and this event more
abbrev pub TakesEvent : Event → BookValue → BookValue → Type 0
TakesEvent e b c = (h : History) → BookStands b h → BookStands c (after_event e h)

-- so it does of a job's branch that ended with this outcome; and where no memory was found for one, with whatever outcome
abbrev pub Records : Option Outcome → JobValue → BookValue → BookValue → Type 0
Records (Some outcome) job b c = TakesEvent (BranchResult job.call.conn job.call.request job.branch outcome) b c
Records None job b c = (outcome : Outcome) → TakesEvent (BranchResult job.call.conn job.call.request job.branch outcome) b c

-- an opening more, which succeeded or did not; it succeeds only where fewer are open than may be
abbrev pub TakesOpening : {E : Type 0} → Result ℕ E → BookValue → BookValue → Type 0
TakesOpening result b c = (h : History) → BookStands b h → MatchResult result (λ _. BookStands c (after_opening h)) (λ _. BookStands c (after_event Opening h))

abbrev pub OpensFew : {E : Type 0} → Result ℕ E → BookValue → Type 0
OpensFew result b = (h : History) → BookStands b h → IfOk result (λ _. open_connections h.opened h.events < most_open)

-- these jobs were taken, or the reply of that connection, if there was one, and no event came
abbrev pub HandsJobs : List JobValue → BookValue → BookValue → Type 0
HandsJobs jobs b c = (h : History) → BookStands b h → BookStands c (after_jobs jobs h)

abbrev pub HandsReply : ℕ → Option ReplyValue → BookValue → BookValue → Type 0
HandsReply conn reply b c = (h : History) → BookStands b h → BookStands c (after_reply conn reply h)

-- there is a history that it stands for
abbrev pub IsReached : BookValue → Type 0
IsReached b = (h : History) × BookStands b h

-- ---- what a call tells

-- what the step of a piece tells of its connection; the numbers of calls are used up only where one would begin
pub record TellsPiece (conn : ℕ) (piece : List ℕ) (v w : GatewayValue) (result : Result ⊤ StepFault) : Type 0 where
  pub step : TellsStep conn v w result
  pub begins : result ≡ Err Exhausted → BeginsWithin conn piece v

abbrev pub job_list : Option HandedJob → List JobValue
job_list job = option_to_list (option_map (λ j. j.job) job)

-- the first job that waits is given, and whether it is wanted; none only where none waits
pub record GivesJob (job : Option HandedJob) (v w : GatewayValue) : Type 0 where
  pub first : jobs_of v ≡ job_list job ++ jobs_of w
  pub none : job ≡ None → jobs_of v ≡ []
  pub wanted : (j : HandedJob) → job ≡ Some j → IsWanted j.job.call v j.wanted

-- the reply that is given, if one is
abbrev pub reply_given : NextReply → Option ReplyValue
reply_given (Ready reply) = Some reply
reply_given Pending = None
reply_given Over = None
