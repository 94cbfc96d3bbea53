use Rattle.gateway_run.proofs.Names.{◌≡◌, ◌∷◌, ◌++◌, [], map, sym, ap, ◌∙◌, append-nil, append_assoc, map-append, CallId, HandedJob, LogValue, start_at}
use Rattle.gateway_run.proofs.Starting.{all_started, log_same, one_started}
use Rattle.gateway_run.proofs.log.Log.start.Goals as goal

pub loop-job-preserved : goal.loop-job-preserved
loop-job-preserved g c = record {
  started = one_started c.args.core.now c.loop-job.core c.take_job.new.self c.take_job.result c.loop-job.invariant.started c.take_job.ensures.stands c.take_job.ensures.lives c.take_job.ensures.first c.take_job.ensures.rest;
  opened_is = c.loop-job.invariant.opened_is;
  queued_is = c.loop-job.invariant.queued_is;
  broke_is = c.loop-job.invariant.broke_is;
  starts_are =
      let start_is : record { event = c.args.event; conn = c.number.result; request = c.call-in-Some.result.request; branch = c.branch-job.result } ≡ start_at c.args.event c.in-Some.job.job =
      ap (λ n. record { event = c.args.event; conn = n; request = c.call-in-Some.result.request; branch = c.branch-job.result }) (c.number.ensures ∙ ap (λ (id : CallId). id.conn) c.call.ensures)
      ∙ ap (λ (id : CallId). record { event = c.args.event; conn = c.in-Some.job.job.call.conn; request = id.request; branch = c.branch-job.result }) c.call-in-Some.ensures
      ∙ ap (λ b. record { event = c.args.event; conn = c.in-Some.job.job.call.conn; request = c.in-Some.job.job.call.request; branch = b }) c.branch-job.ensures in
      ap (λ xs. xs ++ map (start_at c.args.event) c.take_job.new.self.jobs) (c.in_ok-push.ensures.items ∙ ap (λ s. c.loop-job.self-inside.starts.items ++ s ∷ []) start_is)
      ∙ append_assoc c.loop-job.self-inside.starts.items (start_at c.args.event c.in-Some.job.job ∷ []) (map (start_at c.args.event) c.take_job.new.self.jobs)
      ∙ ap (λ js. c.loop-job.self-inside.starts.items ++ map (start_at c.args.event) js) (sym c.in-Some.ensures.first) ∙ c.loop-job.invariant.starts_are;
  jobs_are =
      ap (λ xs. map (λ (j : HandedJob). j.job) xs ++ c.take_job.new.self.jobs) c.in_ok-push-2.ensures.items
      ∙ ap (λ xs. xs ++ c.take_job.new.self.jobs) (map-append (λ (j : HandedJob). j.job) c.loop-job.self-inside.jobs.items (c.in-Some.job ∷ []))
      ∙ append_assoc (map (λ (j : HandedJob). j.job) c.loop-job.self-inside.jobs.items) (c.in-Some.job.job ∷ []) c.take_job.new.self.jobs
      ∙ ap (λ js. map (λ (j : HandedJob). j.job) c.loop-job.self-inside.jobs.items ++ js) (sym c.in-Some.ensures.first) ∙ c.loop-job.invariant.jobs_are;
}

pub returns : goal.returns
returns g c =
    let none : c.take_job.new.self.jobs ≡ [] = sym c.in_default.ensures.first ∙ c.take_job.ensures.none c.in_default.is in
    let all = all_started c.args.core.now c.take_job.new.self
    (one_started c.args.core.now c.loop-job.core c.take_job.new.self c.take_job.result c.loop-job.invariant.started c.take_job.ensures.stands c.take_job.ensures.lives c.take_job.ensures.first c.take_job.ensures.rest) none in
    record {
      rest = all.0;
      served = all.1;
      lives = all.2;
      log_is =
          log_same (ap (λ v. v.items) c.loop-job.invariant.opened_is) (ap (λ v. v.items) c.loop-job.invariant.queued_is) (ap (λ v. v.items) c.loop-job.invariant.broke_is)
          (sym (append-nil c.loop-job.self-inside.starts.items)
          ∙ ap (λ js. c.loop-job.self-inside.starts.items ++ map (start_at c.args.event) js) (sym (c.take_job.ensures.none c.in_default.is)) ∙ c.loop-job.invariant.starts_are)
          (sym (append-nil (map (λ (j : HandedJob). j.job) c.loop-job.self-inside.jobs.items))
          ∙ ap (λ js. map (λ (j : HandedJob). j.job) c.loop-job.self-inside.jobs.items ++ js) (sym (c.take_job.ensures.none c.in_default.is)) ∙ c.loop-job.invariant.jobs_are)
          ∙ ap (λ (l : LogValue). record l { starts = l.starts ++ map (start_at c.args.event) c.args.core.now.jobs; jobs = l.jobs ++ c.args.core.now.jobs }) c.self.view_is;
    }
