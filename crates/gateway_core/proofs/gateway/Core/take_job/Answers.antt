use Rattle.gateway_core.proofs.Names.{subst, Some, None, refl, ◌≡◌, jobs_of, with_jobs, gateway_of}
use Rattle.gateway_core.proofs.TakenLemmas.{job_step, job_whole, handed_step}
use Rattle.gateway_core.proofs.StepLemmas.{numbered}
use Rattle.gateway_core.proofs.ClauseLemmas.{HandsJob, hands_job}
use Rattle.gateway_core.proofs.gateway.Core.take_job.Goals as goal

pub is_live-wanted-requires : goal.is_live-wanted-requires
is_live-wanted-requires g c = numbered c.self.inside.shared c.self.inside.conns.entries c.self.inside.opened c.self.inside.tally c.self.invariant.serving

pub invariant_of-self-2 : goal.invariant_of-self-2
invariant_of-self-2 g c = job_whole c.self.invariant c.take.new.self (Some c.handed.result) c.in-Some.ensures.waiting (handed_step c.self.invariant c.take.new.self c.in-Some.job c.handed.result c.call.result c.is_live-wanted.result c.handed.ensures c.in-Some.ensures.jobs c.call.ensures c.is_live-wanted.ensures)

pub returns-in_default : goal.returns-in_default
returns-in_default g c =
    let w = gateway_of (record c.self.inside.shared { jobs = c.take.new.self }) c.self.inside.conns.entries c.self.inside.opened c.self.inside.tally in
    let all = subst (λ x. HandsJob (None) x w) c.self.view_is (hands_job c.self.invariant.serving (job_step c.self.invariant c.take.new.self None c.in_default.ensures.jobs (λ none. c.in_default.ensures.none refl) (λ j is. let clash : None ≡ Some j = is in cc))) in
    record { stands = all.stands; lives = all.lives; first = all.first; none = all.none; wanted = all.wanted; rest = subst (λ x. w ≡ with_jobs (jobs_of w) x) c.self.view_is refl }

pub returns : goal.returns
returns g c =
    let w = gateway_of (record c.self.inside.shared { jobs = c.take.new.self }) c.self.inside.conns.entries c.self.inside.opened c.self.inside.tally in
    let all = subst (λ x. HandsJob (Some c.handed.result) x w) c.self.view_is (hands_job c.self.invariant.serving (handed_step c.self.invariant c.take.new.self c.in-Some.job c.handed.result c.call.result c.is_live-wanted.result c.handed.ensures c.in-Some.ensures.jobs c.call.ensures c.is_live-wanted.ensures)) in
    record { stands = all.stands; lives = all.lives; first = all.first; none = all.none; wanted = all.wanted; rest = subst (λ x. w ≡ with_jobs (jobs_of w) x) c.self.view_is refl }
