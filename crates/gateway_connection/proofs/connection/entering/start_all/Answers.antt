use Rattle.gateway_connection.specs.lemmas.Names.{rules, ◌≡◌, ◌+◌, ◌++◌, [], ◌∷◌, List, map, length, sym, ap, ◌∙◌, append-nil, append_assoc, arith, refl, map-append, length-append, HandedJob, job_at, TaskValue, JobsValue}
use Rattle.gateway_connection.proofs.connection.entering.start_all.Goals as goal

pub loop-task-init : goal.loop-task-init
loop-task-init c = record { done = []; first_is = refl; jobs_are = sym (append-nil c.args.jobs.now.jobs); waits = omega arith }

pub push-requires : goal.push-requires
push-requires c =
    let size : length c.args.first.items ≡ length c.loop-task.invariant.done + length c.loop-task.first.items =
    ap (λ (ts : List TaskValue). length ts) c.loop-task.invariant.first_is ∙ length-append c.loop-task.invariant.done c.loop-task.first.items in
    let some = ap (λ (ts : List TaskValue). length ts) c.in-Some.ensures.items in
    omega (arith, c.requires.room, size, some, c.loop-task.invariant.waits)

pub loop-task-preserved : goal.loop-task-preserved
loop-task-preserved c =
    let size : length c.args.first.items ≡ length c.loop-task.invariant.done + length c.loop-task.first.items =
    ap (λ (ts : List TaskValue). length ts) c.loop-task.invariant.first_is ∙ length-append c.loop-task.invariant.done c.loop-task.first.items in
    let some = ap (λ (ts : List TaskValue). length ts) c.in-Some.ensures.items in
    record {
      done = c.loop-task.invariant.done ++ c.in-Some.task ∷ [];
      first_is = c.loop-task.invariant.first_is ∙ ap (λ ts. c.loop-task.invariant.done ++ ts) c.in-Some.ensures.items
          ∙ sym (append_assoc c.loop-task.invariant.done (c.in-Some.task ∷ []) c.pop_front.new.self.items);
      jobs_are = ap (λ (q : JobsValue). q.jobs) c.push.ensures
          ∙ ap (λ (j : HandedJob). c.loop-task.jobs.jobs ++ j.job ∷ []) c.new.ensures
          ∙ ap (λ js. js ++ job_at c.args.moment c.in-Some.task ∷ []) c.loop-task.invariant.jobs_are
          ∙ append_assoc c.args.jobs.now.jobs (map (job_at c.args.moment) c.loop-task.invariant.done) (job_at c.args.moment c.in-Some.task ∷ [])
          ∙ ap (λ js. c.args.jobs.now.jobs ++ js) (sym (map-append (job_at c.args.moment) c.loop-task.invariant.done (c.in-Some.task ∷ [])));
      waits = omega (
        arith,
        ap (λ (q : JobsValue). q.waiting) c.push.ensures,
        length-append c.loop-task.invariant.done (c.in-Some.task ∷ []),
        c.requires.room,
        size,
        some,
        c.loop-task.invariant.waits,
      );
    }

pub returns : goal.returns
returns c =
    let none : c.loop-task.first.items ≡ [] = search rules in
    let all = c.loop-task.invariant.first_is ∙ ap (λ ts. c.loop-task.invariant.done ++ ts) none ∙ append-nil c.loop-task.invariant.done in record {
      jobs = c.loop-task.invariant.jobs_are ∙ ap (λ ts. c.args.jobs.now.jobs ++ map (job_at c.args.moment) ts) (sym all);
      waits = omega (arith, c.loop-task.invariant.waits, ap (λ (ts : List TaskValue). length ts) all);
    }
