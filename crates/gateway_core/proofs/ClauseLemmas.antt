-- What each method says of its step: its clauses, by the exact step.
use Rattle.gateway_core.proofs.Names.{◌≡◌, ℕ, true, false, List, [], ◌∷◌, ◌++◌, length, Option, None, Some, Result, Err, Bool, ⊤, ◌==◌, IfOk, IfSome, OnOk, option_map, option_to_list, CallId, jobs_of, next_reply, untaken_of, ReplyValue, Breaks, CountsCalls, IsServing, Keeps, KeepsBut, NotListening, TakesOnly, TakesSome, TellsStep, WouldBegin, Closes, Drains, Feeds, HangsUpAt, Reaches, Results, Starves, TakesJob, TakesReplyAt, AddsEvent, HandsJobs, HandsReply, IsWanted, LeavesLived, LeavesReplied, TakesBytes, TakesEvent, TakesOneOf, TellsTook, GatewayValue, shown, Exhausted, closes_adds, closes_keeps, closes_stands, closes_told, drains_adds, drains_keeps, drains_stands, feeds_begins, feeds_counts, feeds_keeps, feeds_listens, feeds_one, feeds_stands, feeds_takes, feeds_tells, hangs_adds, hangs_begins, hangs_keeps, hangs_stands, hangs_tells, job_lives, job_stands, job_wanted, reaches_adds, reaches_keeps, reaches_stands, reply_first, reply_its, reply_lives, reply_none, reply_only, reply_stands, results_adds, results_keeps, results_stands, results_tells, starves_adds, starves_keeps, starves_stands, starves_tells}
use Rattle.connect_codec.specs.declared.answer.Outcome.{Outcome}
use Rattle.gateway_model.specs.declared.event.Event.TheVariants.{BranchResult, Closing, Drain, HangUp, Moment}
use Rattle.gateway_theory.specs.RequestLaws.{RequestLaws}
use Rattle.gateway_theory.specs.Task.{HandedJob}
use Rattle.gateway_theory.specs.declared.fault.StepFault.{StepFault}
use Rattle.gateway_theory.specs.declared.fault.Took.{Took}

-- ---- of feed, and of hang_up

pub record Fed (n : ℕ) (bytes : List ℕ) (result : Result ℕ StepFault) (v w : GatewayValue) : Type 0 where
  pub stands : TakesBytes n bytes result v w
  pub takes : IfOk result (TakesSome (length bytes))
  pub one : TakesOneOf n bytes result v
  pub tells : TellsStep n v w result
  pub begins : result ≡ Err Exhausted → WouldBegin n bytes v
  pub listens : OnOk result (NotListening n w → ⊥)
  pub counts : CountsCalls v w
  pub keeps : Keeps (λ c. c == n) v w

pub fed : {n : ℕ} {bytes : List ℕ} {v w : GatewayValue} {result : Result ℕ StepFault} → RequestLaws → IsServing v → Feeds n bytes v w result → Fed n bytes result v w
fed {n} {bytes} {v} {w} {result} laws s f = record {
  stands = feeds_stands n bytes v w result f s laws;
  takes = feeds_takes n bytes v w result f s;
  one = feeds_one n bytes v w result f s laws;
  tells = feeds_tells n bytes v w result f s;
  begins = feeds_begins n bytes v w result f s;
  listens = feeds_listens n bytes v w result f s;
  counts = feeds_counts n bytes v w result f s;
  keeps = feeds_keeps n bytes v w result f s;
}

pub record HungUp (n : ℕ) (result : Result ⊤ StepFault) (v w : GatewayValue) : Type 0 where
  pub stands : TakesEvent (HangUp n) v w
  pub adds : AddsEvent (HangUp n) v w
  pub tells : TellsStep n v w result
  pub begins : result ≡ Err Exhausted → ⊥
  pub keeps : Keeps (λ c. c == n) v w

pub hung_up : {n : ℕ} {v w : GatewayValue} {result : Result ⊤ StepFault} → IsServing v → HangsUpAt n v w result → HungUp n result v w
hung_up {n} {v} {w} {result} s h = record {
  stands = hangs_stands n v w result h s;
  adds = hangs_adds n v w result h s;
  tells = hangs_tells n v w result h s;
  begins = hangs_begins n v w result h s;
  keeps = hangs_keeps n v w result h s;
}

-- ---- of close, moment and drain

pub record Closed (n : ℕ) (result : Bool) (v w : GatewayValue) : Type 0 where
  pub stands : TakesEvent (Closing n) v w
  pub adds : AddsEvent (Closing n) v w
  pub closed : result ≡ (shown v).is_open n
  pub keeps : KeepsBut (λ c. c == n) (λ c. false) [] v w

pub closed_by : {n : ℕ} {v w : GatewayValue} {result : Bool} → IsServing v → Closes n v w result → Closed n result v w
closed_by {n} {v} {w} {result} s x = record { stands = closes_stands n v w result x s; adds = closes_adds n v w result x s; closed = closes_told n v w result x s; keeps = closes_keeps n v w result x s }

pub record Reached (moment : ℕ) (broke : Bool) (v w : GatewayValue) : Type 0 where
  pub stands : TakesEvent (Moment moment) v w
  pub adds : AddsEvent (Moment moment) v w
  pub told : Breaks v w broke
  pub keeps : Keeps (λ c. true) v w

pub reached : {moment : ℕ} {v w : GatewayValue} {broke : Bool} → IsServing v → Reaches moment v w broke → Reached moment broke v w
reached {moment} {v} {w} {broke} s r = record { stands = reaches_stands moment v w broke r s; adds = reaches_adds moment v w broke r s; told = r.ends.broke_is; keeps = reaches_keeps moment v w broke r s }

pub record Drained (broke : Bool) (v w : GatewayValue) : Type 0 where
  pub stands : TakesEvent Drain v w
  pub adds : AddsEvent Drain v w
  pub told : Breaks v w broke
  pub keeps : Keeps (λ c. true) v w

pub drained : {v w : GatewayValue} {broke : Bool} → IsServing v → Drains v w broke → Drained broke v w
drained {v} {w} {broke} s r = record { stands = drains_stands v w broke r s; adds = drains_adds v w broke r s; told = r.ends.broke_is; keeps = drains_keeps v w broke r s }

-- ---- of result and starved

pub record Ended (id : CallId) (branch : ℕ) (outcome : Outcome) (took : Took) (v w : GatewayValue) : Type 0 where
  pub stands : TakesEvent (BranchResult id.conn id.request branch outcome) v w
  pub adds : AddsEvent (BranchResult id.conn id.request branch outcome) v w
  pub tells : TellsTook id branch took v w
  pub keeps : KeepsBut (λ c. false) (λ c. c == id.conn) (took.seen ∷ []) v w

pub ended : {id : CallId} {branch : ℕ} {outcome : Outcome} {v w : GatewayValue} {took : Took} → IsServing v → Results id branch outcome v w took → Ended id branch outcome took v w
ended {id} {branch} {outcome} {v} {w} {took} s r = record {
  stands = results_stands id branch outcome v w took r s;
  adds = results_adds id branch outcome v w took r s;
  tells = results_tells id branch outcome v w took r s;
  keeps = results_keeps id branch outcome v w took r s;
}

pub record Unheard (id : CallId) (branch : ℕ) (took : Took) (v w : GatewayValue) : Type 0 where
  pub stands : (outcome : Outcome) → TakesEvent (BranchResult id.conn id.request branch outcome) v w
  pub adds : (outcome : Outcome) → AddsEvent (BranchResult id.conn id.request branch outcome) v w
  pub tells : TellsTook id branch took v w
  pub keeps : KeepsBut (λ c. false) (λ c. c == id.conn) (took.seen ∷ []) v w

pub unheard : {id : CallId} {branch : ℕ} {v w : GatewayValue} {took : Took} → IsServing v → Starves id branch v w took → Unheard id branch took v w
unheard {id} {branch} {v} {w} {took} s r = record {
  stands = starves_stands id branch v w took r s;
  adds = starves_adds id branch v w took r s;
  tells = starves_tells id branch v w took r s;
  keeps = starves_keeps id branch v w took r s;
}

-- ---- of take_job and take_reply

pub record HandsJob (job : Option HandedJob) (v w : GatewayValue) : Type 0 where
  pub stands : HandsJobs (option_to_list (option_map (λ j. j.job) job)) v w
  pub lives : LeavesLived (option_to_list (option_map (λ j. j.job) job)) v w
  pub first : jobs_of v ≡ option_to_list (option_map (λ j. j.job) job) ++ jobs_of w
  pub none : job ≡ None → jobs_of v ≡ []
  pub wanted : (j : HandedJob) → job ≡ Some j → IsWanted j.job.call v j.wanted

pub hands_job : {v w : GatewayValue} {job : Option HandedJob} → IsServing v → TakesJob v w job → HandsJob job v w
hands_job {v} {w} {job} s t = record { stands = job_stands v w job t s; lives = job_lives v w job t s; first = t.first; none = t.none; wanted = job_wanted v w job t s }

pub record GivesReply (n : ℕ) (reply : Option ReplyValue) (v w : GatewayValue) : Type 0 where
  pub stands : HandsReply n reply v w
  pub lives : LeavesReplied n reply v w
  pub first : untaken_of n v ≡ option_to_list (option_map (λ r. r.entry) reply) ++ untaken_of n w
  pub its : IfSome reply (λ r. r.id ≡ next_reply n v)
  pub none : reply ≡ None → untaken_of n v ≡ []
  pub only : TakesOnly n v w

pub gives_reply : {n : ℕ} {v w : GatewayValue} {reply : Option ReplyValue} → IsServing v → TakesReplyAt n v w reply → GivesReply n reply v w
gives_reply {n} {v} {w} {reply} s t = record {
  stands = reply_stands n v w reply t s;
  lives = reply_lives n v w reply t s;
  first = reply_first n v w reply t s;
  its = reply_its n v w reply t s;
  none = reply_none n v w reply t s;
  only = reply_only n v w reply t s;
}
