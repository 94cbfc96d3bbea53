-- Jobs that are taken one by one.
use Rattle.gateway_run.proofs.Names.{◌≡◌, ℕ, Bool, true, false, List, [], ◌∷◌, ◌++◌, refl, sym, ap, ◌∙◌, subst, append-nil, append_assoc, Option, Result, Ok, Err, arith, eq-eqb, ne_eqb, ◌==◌, ⊤, IfOk, IfErr, OnErr, MatchResult, option_map, option_to_list, Seen, TellsBreaks, TellsConn, TellsOpening, done_of, opened_by, opening_of, seen_in, taken_of, Fault, Opened, with_jobs, GatewayValue, Breaks, KeepsBut, TellsStep, HandedJob, JobValue, Lives, Served, log_value, History, after_jobs, Placed, nat_tests}
use Rattle.gateway_theory.specs.declared.fault.OpenError.{OpenError}
use Rattle.gateway_theory.specs.declared.fault.StepFault.{StepFault}
use Rattle.gateway_run.specs.declared.stepping.Stepped.{Stepped}
use Rattle.gateway_theory.specs.Refused.{RefusesOpening}
use Rattle.gateway_theory.specs.declared.fault.StepFault.TheVariants.{Exhausted}
use Rattle.gateway_model.specs.declared.run.Start.{Start}

-- the first jobs were taken
pub record Started (v w : GatewayValue) : Type 0 where
  pub gone : List JobValue
  pub jobs_are : v.jobs ≡ gone ++ w.jobs
  pub rest : w ≡ with_jobs w.jobs v
  pub served : (history : History) → Served v history → Served w (after_jobs gone history)
  pub lives : (history : History) (lived : List Placed) → Lives v history lived → Lives w (after_jobs gone history) lived

pub one_started : (u v w : GatewayValue) (job : Option HandedJob) → Started u v
    → ((history : History) → Served v history → Served w (after_jobs (option_to_list (option_map (λ (j : HandedJob). j.job) job)) history))
    → ((history : History) (lived : List Placed) → Lives v history lived → Lives w (after_jobs (option_to_list (option_map (λ (j : HandedJob). j.job) job)) history) lived)
    → v.jobs ≡ option_to_list (option_map (λ (j : HandedJob). j.job) job) ++ w.jobs
    → w ≡ with_jobs w.jobs v → Started u w
one_started u v w job s stands lives first rest = record {
  gone = s.gone ++ option_to_list (option_map (λ (j : HandedJob). j.job) job);
  jobs_are = s.jobs_are ∙ ap (λ js. s.gone ++ js) first ∙ sym (append_assoc s.gone (option_to_list (option_map (λ (j : HandedJob). j.job) job)) w.jobs);
  rest = rest ∙ ap (with_jobs w.jobs) s.rest;
  served = λ history h. subst (λ js. Served w (record history { handed = js })) (append_assoc history.handed s.gone (option_to_list (option_map (λ (j : HandedJob). j.job) job)))
      (stands (after_jobs s.gone history) (s.served history h));
  lives = λ history lived l. subst (λ js. Lives w (record history { handed = js }) lived) (append_assoc history.handed s.gone (option_to_list (option_map (λ (j : HandedJob). j.job) job)))
      (lives (after_jobs s.gone history) lived (s.lives history lived l));
}

-- where none is left, all were
pub all_started : (v w : GatewayValue) → Started v w → w.jobs ≡ [] → (w ≡ with_jobs [] v)
    × ((history : History) → Served v history → Served w (after_jobs v.jobs history))
    × ((history : History) (lived : List Placed) → Lives v history lived → Lives w (after_jobs v.jobs history) lived)
all_started v w s none = grind (arith, nat_tests, append-nil)

-- a log by its parts
pub log_same : {o o' : List ℕ} {q q' : List (List ℕ)} {b b' : List Bool} {s s' : List Start} {j j' : List JobValue} → o ≡ o' → q ≡ q' → b ≡ b' → s ≡ s' → j ≡ j'
    → log_value o q b s j ≡ log_value o' q' b' s' j'
log_same {o} {o'} {q} {q'} {b} {b'} {s} {s'} {j} {j'} os qs bs ss js =
    ap (λ x. log_value x q b s j) os ∙ ap (λ x. log_value o' x b s j) qs ∙ ap (λ x. log_value o' q' x s j) bs ∙ ap (λ x. log_value o' q' b' x j) ss ∙ ap (λ x. log_value o' q' b' s' x) js

-- ---- an event that is no opening opens none

pub by_done : {H : Type 0} → (answer : Result ⊤ StepFault) (stepped : Stepped H) (place : ℕ) (opened : List ℕ) → stepped ≡ done_of answer → opened_by stepped place opened ≡ opened
by_done {H} answer stepped place opened is = grind arith

pub by_taken : {H : Type 0} → (broke : Bool) (stepped : Stepped H) (place : ℕ) (opened : List ℕ) → stepped ≡ taken_of broke → opened_by stepped place opened ≡ opened
by_taken {H} broke stepped place opened is = grind arith

-- ---- an opening

module _ {H : Type 0} where
  pub by_opening : (P : List ℕ → Type 0) (answer : Result ℕ (List H × OpenError)) (stepped : Stepped H) (place : ℕ) (opened : List ℕ) → stepped ≡ opening_of answer
      → MatchResult answer (λ _. P (opened ++ place ∷ [])) (λ _. P opened) → P (opened_by stepped place opened)
  by_opening P (Ok conn) stepped place opened is h = subst (λ s. P (opened_by s place opened)) (sym is) h
  by_opening P (Err refused) stepped place opened is h = subst (λ s. P (opened_by s place opened)) (sym is) h

  pub few_told : (Q : Type 0) (answer : Result ℕ (List H × OpenError)) (stepped : Stepped H) (conn : ℕ) → stepped ≡ opening_of answer → stepped ≡ Opened conn
      → IfOk answer (λ _. Q) → Q
  few_told Q (Ok n) stepped conn is told q = q
  few_told Q (Err refused) stepped conn is told q = absurd (cc)

-- ---- what is told

pub begins_told : {H : Type 0} → (P : Type 0) (answer : Result ⊤ StepFault) → (answer ≡ Err Exhausted → P) → done_of {H = H} answer ≡ Fault Exhausted → P
begins_told P answer h2 h3 = grind (arith, nat_tests)

pub conn_told : (H : Type 0) (n : ℕ) (answer : Result ⊤ StepFault) (w : GatewayValue) → (v : GatewayValue) → TellsStep n v w answer → TellsConn n (done_of {H = H} answer) v w
conn_told H n answer w v h5 = grind (arith, nat_tests)

pub opening_told : (H : Type 0) (answer : Result ℕ (List H × OpenError)) (v w : GatewayValue) → IfOk answer (λ conn. conn ≡ v.opened)
    → IfErr answer (λ e. RefusesOpening e.1 v) → OnErr answer (w ≡ v)
    → TellsOpening (opening_of answer) v w
opening_told H (Ok conn) v w number why same = number
opening_told H (Err refused) v w number why same = (same, why)

pub breaks_told : (H : Type 0) (broke : Bool) (v w : GatewayValue) → Breaks v w broke → TellsBreaks (taken_of {H = H} broke) v w
breaks_told H true v w h = h
breaks_told H false v w h = h

-- ---- what is seen

pub none_done : {H : Type 0} → (answer : Result ⊤ StepFault) (stepped : Stepped H) → stepped ≡ done_of answer → seen_in stepped ≡ []
none_done {H} answer stepped is = grind arith

pub none_taken : {H : Type 0} → (broke : Bool) (stepped : Stepped H) → stepped ≡ taken_of broke → seen_in stepped ≡ []
none_taken {H} broke stepped is = grind arith

pub none_opening : {H : Type 0} → (answer : Result ℕ (List H × OpenError)) (stepped : Stepped H) → stepped ≡ opening_of answer → seen_in stepped ≡ []
none_opening {H} answer stepped is = grind arith

-- ---- what is kept

-- where none closes, and whatever breaks
pub keeps_for : (closes breaks : ℕ → Bool) (seen : List Seen) (v w : GatewayValue) → KeepsBut (λ c. false) breaks seen v w → KeepsBut closes (λ c. true) seen v w
keeps_for closes breaks seen v w k = record {
  plans_are = k.plans_are;
  begun_is = k.begun_is;
  tally_is = k.tally_is;
  stays_silent = k.stays_silent;
  stays_broken = λ c other. k.stays_broken c refl;
  broken_are = λ c now before. refl;
  replies_stay = λ c other. k.replies_stay c refl;
  no_replies = λ c other. k.no_replies c refl;
  jobs = k.jobs;
  jobs_are = k.jobs_are;
  no_jobs = k.no_jobs;
}

pub keeps_closing : (n : ℕ) (v w : GatewayValue) → KeepsBut (λ c. c == n) (λ c. false) [] v w → KeepsBut (λ c. n == c) (λ c. true) [] v w
keeps_closing n v w k = record {
  plans_are = k.plans_are;
  begun_is = k.begun_is;
  tally_is = k.tally_is;
  stays_silent = k.stays_silent;
  stays_broken = λ c other. k.stays_broken c (turned c other);
  broken_are = λ c now before. refl;
  replies_stay = λ c other. k.replies_stay c (turned c other);
  no_replies = λ c other. k.no_replies c (turned c other);
  jobs = k.jobs;
  jobs_are = k.jobs_are;
  no_jobs = k.no_jobs;
}
  where
    turned : (c : ℕ) → (n == c) ≡ false → (c == n) ≡ false
    turned c other = ne_eqb c n (λ same. let clash : true ≡ false = sym (eq-eqb n c (sym same)) ∙ other in cc)
