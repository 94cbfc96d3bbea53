use Rattle.gateway_connection.specs.lemmas.Names.{◌-◌, ◌++◌, ◌∷◌, [], ◌∙◌, ap, arith, map, map-append, HandedJob, JobsValue}
use Rattle.gateway_connection.specs.Jobs.{jobs_value}
use Rattle.gateway_connection.proofs.jobs.JobQueue.push.Goals as goal

pub invariant_of-self : goal.invariant_of-self
invariant_of-self c =
    let room = ap (λ (q : JobsValue). q.waiting) c.self.view_is in
    omega (arith, c.self.invariant, c.push_back_reserved.ensures.len, c.push_back_reserved.ensures.capacity, c.requires, room)

pub returns : goal.returns
returns c =
    ap (λ js. jobs_value (map (λ (j : HandedJob). j.job) js) (c.self.inside.waiting - 1)) c.push_back_reserved.ensures.items
    ∙ ap (λ js. jobs_value js (c.self.inside.waiting - 1)) (map-append (λ (j : HandedJob). j.job) c.self.inside.jobs.items (c.args.job ∷ []))
    ∙ ap (λ (q : JobsValue). jobs_value (q.jobs ++ c.args.job.job ∷ []) (q.waiting - 1)) c.self.view_is
