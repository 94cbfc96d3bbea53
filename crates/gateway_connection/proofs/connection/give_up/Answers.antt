use Rattle.gateway_connection.specs.lemmas.Names.{◌≡◌, ◌<◌, ◌≤◌, ◌∙◌, ap, arith, length, refl, List, KeptValue, given_up, kept_at, waiting_in, JobsValue}
use Rattle.gateway_connection.proofs.DoneLemmas.{done_all, done_at, done_next, done_size, part_waits, set_waits}
use Rattle.gateway_connection.proofs.HoldsLemmas.{here_is}
use Rattle.gateway_connection.proofs.connection.give_up.Goals as goal

pub loop-index-init : goal.loop-index-init
loop-index-init c = record { calls_are = refl; jobs_are = refl; waits = refl }

pub release-requires : goal.release-requires
release-requires c =
    let size = ap (λ (xs : List KeptValue). length xs) c.loop-index.invariant.calls_are ∙ done_size given_up c.loop-index.index c.args.calls.now.items in
    let lt : c.loop-index.index < length c.loop-index.calls.items = omega (arith, c.loop-index-test.true, c.len-index-end.ensures, size) in
    let here = here_is c.loop-index.calls.items c.loop-index.calls.items c.loop-index.index c.index.result.now refl lt c.index.ensures in
    omega (arith, c.waiting.ensures, ap waiting_in here, part_waits c.loop-index.calls.items c.loop-index.index lt, c.loop-index.invariant.waits, c.requires)

pub loop-index-preserved : goal.loop-index-preserved
loop-index-preserved c =
    let size = ap (λ (xs : List KeptValue). length xs) c.loop-index.invariant.calls_are ∙ done_size given_up c.loop-index.index c.args.calls.now.items in
    let lt : c.loop-index.index < length c.loop-index.calls.items = omega (arith, c.loop-index-test.true, c.len-index-end.ensures, size) in
    let here = here_is c.loop-index.calls.items c.loop-index.calls.items c.loop-index.index c.index.result.now refl lt c.index.ensures in
    let changed = here_is c.loop-index.calls.items c.loop-index.calls.items c.loop-index.index c.index_mut.result.now refl lt c.index_mut.ensures.value in
    let new : c.give_up.new.self ≡ given_up (kept_at c.loop-index.index c.args.calls.now.items) =
    c.give_up.ensures ∙ ap given_up (changed ∙ ap (kept_at c.loop-index.index) c.loop-index.invariant.calls_are ∙ done_at given_up c.loop-index.index c.args.calls.now.items) in
    let less : c.waiting.result ≤ c.loop-index.jobs.waiting =
    omega (arith, c.waiting.ensures, ap waiting_in here, part_waits c.loop-index.calls.items c.loop-index.index lt, c.loop-index.invariant.waits, c.requires) in
    let none : waiting_in c.give_up.new.self ≡ 0 = ap waiting_in new in
    record {
      calls_are = done_next given_up c.loop-index.index c.args.calls.now.items c.loop-index.calls.items c.give_up.new.self (omega (arith, lt, size)) c.loop-index.invariant.calls_are new;
      jobs_are = ap (λ (q : JobsValue). q.jobs) c.release.ensures ∙ c.loop-index.invariant.jobs_are;
      waits = omega (
        arith,
        ap (λ (q : JobsValue). q.waiting) c.release.ensures,
        less,
        c.waiting.ensures,
        ap waiting_in here,
        none,
        set_waits c.loop-index.calls.items c.loop-index.index c.give_up.new.self lt,
        c.loop-index.invariant.waits,
      );
    }

pub returns : goal.returns
returns c =
    let size = ap (λ (xs : List KeptValue). length xs) c.loop-index.invariant.calls_are ∙ done_size given_up c.loop-index.index c.args.calls.now.items in
    record {
      given = c.loop-index.invariant.calls_are ∙ done_all given_up c.loop-index.index c.args.calls.now.items (omega (arith, c.loop-index-test.false, c.len-index-end.ensures));
      jobs = c.loop-index.invariant.jobs_are;
      waits = c.loop-index.invariant.waits;
    }
