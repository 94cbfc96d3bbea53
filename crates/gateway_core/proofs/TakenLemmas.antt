-- What is taken of the gateway, and what is asked of it.
use Rattle.gateway_core.proofs.Names.{◌≡◌, ℕ, ◌+◌, refl, sym, ap, ◌∙◌, List, [], ◌∷◌, ◌++◌, length, Option, Some, None, Bool, true, false, arith, subst, IsStrictlySortedBy, keys_of, nat_cmp, lt-ltb, ◌&&◌, if◌then◌else◌, not, is_some, option_map, option_to_list, call_in, untaken_of, GatewayValue, conn_of, value_of, HeldConnection, untaken_value, TakesReply, IsHeld, IsServing, TakesJob, first_gateway, CallId, ReplyValue, waiting, Tally, HookedContexts, none_hooked, LeavesRest, none_over, IsTied, Shared, others_none, AreTied, Conns, IsWhole, call_kept, gateway_of, nat_tests}
use Rattle.call_plan.specs.Plan.{PlanRecord}
use Rattle.gateway_model.specs.Queue.{front}
use Rattle.gateway_theory.specs.Tally.{tally_of}
use Rattle.gateway_theory.specs.Task.{HandedJob}
use Rattle.gateway_connection.specs.Jobs.{JobsValue, jobs_value}

-- what is kept of a call
pub kept_is : (id : CallId) (v : GatewayValue) → call_kept id v.conns ≡ call_in id v
kept_is id v = grind arith

-- how many replies can be taken of one that is kept: of one that is closed none
pub untaken_is : (n : ℕ) (k : HeldConnection) (v : GatewayValue) → IsServing v → conn_of n v ≡ Some k → length (front k.slots) ≡ length (untaken_of n v)
untaken_is n k v serving is = sym (ap (λ o. length (untaken_value v.opened n (value_of v.opened n o))) is ∙ ap (λ b. length (if b && not k.closed then front k.slots else [])) (lt-ltb n v.opened held.born) ∙ by k.closed refl)
  where
    held : IsHeld v.opened n k
    held = serving.each n k is

    by : (b : Bool) → k.closed ≡ b → length (if true && not k.closed then front k.slots else []) ≡ length (front k.slots)
    by true shut = rw (shut, held.none_queued shut) refl
    by false still = rw still refl

module _ {H : Type 0} where
  -- ---- at first

  pub first_is : (s : Shared H) (es : Conns) (tally : Tally) (plans : List PlanRecord) → s.plans ≡ plans → s.moment ≡ 0 → s.contexts ≡ none_hooked → s.jobs ≡ jobs_value [] 0 → s.begun ≡ 0 → es ≡ [] → tally ≡ tally_of []
      → first_gateway plans ≡ gateway_of s es 0 tally
  first_is s es tally plans plans_are moment_is contexts_are jobs_are begun_is none tally_is = grind arith

  -- and it is whole
  pub first_whole : (s : Shared H) (es : Conns) (tally : Tally) → s.moment ≡ 0 → s.contexts ≡ none_hooked → s.jobs ≡ jobs_value [] 0 → es ≡ [] → IsStrictlySortedBy nat_cmp (keys_of es) → IsWhole s es 0 0 tally
  first_whole s es tally moment_is contexts_are jobs_are none sorted = subst (λ fs. IsWhole s fs 0 0 tally) (sym none) (record {
    serving = record { each = λ c k is. absurd (let clash : None ≡ Some k = is in cc); sorted = subst (λ fs. IsStrictlySortedBy nat_cmp (keys_of fs)) none sorted; few_open = omega arith };
    fit = record {
      tied = subst (AreTied none_over []) (sym contexts_are) (λ c. refl);
      waits = ap (λ (q : JobsValue). q.waiting) jobs_are;
      early = omega (arith, moment_is);
    };
    open_is = refl;
  })

  -- ---- jobs

  module _ {s : Shared H} {es : Conns} {opened open_now : ℕ} {tally : Tally} (w : IsWhole s es opened open_now tally) (jobs : JobsValue) where
    pub job_step : (job : Option HandedJob) → s.jobs.jobs ≡ option_to_list (option_map (λ j. j.job) job) ++ jobs.jobs → (job ≡ None → s.jobs.jobs ≡ [])
        → ((j : HandedJob) → job ≡ Some j → j.wanted ≡ is_some (call_kept j.job.call es).live) → TakesJob (gateway_of s es opened tally) (gateway_of (record s { jobs = jobs }) es opened tally) job
    job_step job first none wanted = grind arith

    pub handed_step : (first_job h : HandedJob) (id : CallId) (wanted : Bool) → h ≡ record first_job { wanted = wanted } → s.jobs.jobs ≡ first_job.job ∷ jobs.jobs → id ≡ first_job.job.call
        → wanted ≡ is_some (call_kept id es).live → TakesJob (gateway_of s es opened tally) (gateway_of (record s { jobs = jobs }) es opened tally) (Some h)
    handed_step first_job h id wanted is first id_is live = grind arith

    pub job_whole : (job : Option HandedJob) → jobs.waiting ≡ s.jobs.waiting → TakesJob (gateway_of s es opened tally) (gateway_of (record s { jobs = jobs }) es opened tally) job
        → IsWhole (record s { jobs = jobs }) es opened open_now tally
    job_whole job same step = grind arith

  -- ---- replies

  pub taken_tied : (k l : HeldConnection) (reply : Option ReplyValue) (x : HookedContexts H) → TakesReply k l reply → IsTied none_over k x → IsTied none_over l x
  taken_tied k l reply x h4 h5 = grind (arith, nat_tests)

  pub taken_rest : (k l : HeldConnection) (reply : Option ReplyValue) (s : Shared H) → TakesReply k l reply → LeavesRest [] k l s s
  taken_rest k l reply s t = record {
    plans_are = refl;
    moment_is = refl;
    jobs_are = append_none s.jobs.jobs;
    waits = ap (λ n. s.jobs.waiting + n) (by reply t);
    others = others_none k.number s.contexts;
  }
    where
      append_none : {A : Type 0} (xs : List A) → xs ≡ xs ++ []
      append_none [] = refl
      append_none (x ∷ xs) = ap (λ ys. x ∷ ys) (append_none xs)

      by : (reply : Option ReplyValue) → TakesReply k l reply → waiting k.calls ≡ waiting l.calls
      by None t = ap (λ (m : HeldConnection). waiting m.calls) (sym t.1)
      by (Some r) t = ap (λ (m : HeldConnection). waiting m.calls) (sym t.2)
