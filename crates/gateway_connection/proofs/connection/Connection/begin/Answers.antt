use Rattle.gateway_connection.specs.lemmas.Names.{◌≡◌, ◌∙◌, ◌++◌, ◌∷◌, [], None, ap, arith, err_if, map, refl, sym, subst, sum_by_push, AreInPlace, KeptValue, HeldConnection, waiting, waiting_in, job_at, next_held, held_by, JobsValue, IsBegun, true}
use Rattle.gateway_connection.proofs.EnterLemmas.{begun_held, begun_now, first_queued}
use Rattle.gateway_connection.proofs.HoldsLemmas.{holds_begun, roomy_holds, roomy_is}
use Rattle.gateway_connection.proofs.SlotLemmas.{more_place}
use Rattle.gateway_connection.proofs.ResultLemmas.{by_memory, none_on}
use Rattle.gateway_connection.proofs.connection.Connection.begin.Goals as goal

pub invariant_of-self : goal.invariant_of-self
invariant_of-self g c =
    roomy_holds c.self.inside.number c.self.inside.taken c.self.inside.slots.items c.self.inside.slots.items c.self.inside.calls.items c.reserve.new.self.items c.self.inside.broken c.self.inside.closed c.self.inside.hung_up c.self.inside.reader refl c.reserve.ensures.items c.self.invariant

pub invariant_of-self-in_err-reserve-2 : goal.invariant_of-self-in_err-reserve-2
invariant_of-self-in_err-reserve-2 g c =
    roomy_holds c.self.inside.number c.self.inside.taken c.self.inside.slots.items c.reserve-2.new.self.items c.self.inside.calls.items c.reserve.new.self.items c.self.inside.broken c.self.inside.closed c.self.inside.hung_up c.self.inside.reader c.reserve-2.ensures.items c.reserve.ensures.items c.self.invariant

pub invariant_of-self-in_err-reserve-3 : goal.invariant_of-self-in_err-reserve-3
invariant_of-self-in_err-reserve-3 g c =
    roomy_holds c.self.inside.number c.self.inside.taken c.self.inside.slots.items c.reserve-2.new.self.items c.self.inside.calls.items c.reserve.new.self.items c.self.inside.broken c.self.inside.closed c.self.inside.hung_up c.self.inside.reader c.reserve-2.ensures.items c.reserve.ensures.items c.self.invariant

pub invariant_of-self-in_err-begun : goal.invariant_of-self-in_err-begun
invariant_of-self-in_err-begun g c =
    roomy_holds c.self.inside.number c.self.inside.taken c.self.inside.slots.items c.reserve-2.new.self.items c.self.inside.calls.items c.reserve.new.self.items c.self.inside.broken c.self.inside.closed c.self.inside.hung_up c.self.inside.reader c.reserve-2.ensures.items c.reserve.ensures.items c.self.invariant

pub invariant_of-self-2 : goal.invariant_of-self-2
invariant_of-self-2 g c =
    let slots : c.push_back_reserved.new.self.items ≡ c.self.inside.slots.items ++ None ∷ [] = c.push_back_reserved.ensures.items ∙ ap (λ xs. xs ++ None ∷ []) c.reserve-2.ensures.items in
    let calls : c.push_reserved.new.self.items ≡ c.self.inside.calls.items ++ c.in_ok-begun.begun.call ∷ [] = c.push_reserved.ensures.items ∙ ap (λ ks. ks ++ c.in_ok-begun.begun.call ∷ []) c.reserve.ensures.items in
    let now = begun_now c.self.inside.number c.self.inside.taken c.self.inside.slots.items c.push_back_reserved.new.self.items c.self.inside.calls.items c.push_reserved.new.self.items c.in_ok-begun.begun.call
    c.self.inside.broken c.self.inside.closed c.self.inside.hung_up c.self.inside.reader slots calls in (
      subst (AreInPlace c.self.inside.number c.self.inside.taken) (sym slots) (more_place c.self.inside.number c.self.inside.taken c.self.inside.slots.items c.self.invariant.0),
      holds_begun (held_by c.self.inside.number c.self.inside.taken c.self.inside.slots.items c.self.inside.calls.items c.self.inside.broken c.self.inside.closed c.self.inside.hung_up c.self.inside.reader)
          (held_by c.self.inside.number c.self.inside.taken c.push_back_reserved.new.self.items c.push_reserved.new.self.items c.self.inside.broken c.self.inside.closed c.self.inside.hung_up c.self.inside.reader) c.in_ok-begun.begun.call now
          (ap (λ (x : KeptValue). x.id) c.in_ok-begun.ensures.call_is ∙ c.next_id-id.ensures ∙ ap next_held (sym c.self.view_is))
          (ap (λ (x : HeldConnection). x.closed) c.self.view_is ∙ c.requires.open) (ap (λ (x : HeldConnection). x.broken) c.self.view_is ∙ c.requires.whole)
          (let room = c.requires.room in omega (arith, room, ap (λ (x : HeldConnection). (next_held x).request) c.self.view_is)) c.self.invariant.1,
    )

pub returns-clause-ok : goal.returns-clause-ok
returns-clause-ok g c =
    let slots : c.push_back_reserved.new.self.items ≡ c.self.inside.slots.items ++ None ∷ [] = c.push_back_reserved.ensures.items ∙ ap (λ xs. xs ++ None ∷ []) c.reserve-2.ensures.items in
    let calls : c.push_reserved.new.self.items ≡ c.self.inside.calls.items ++ c.in_ok-begun.begun.call ∷ [] = c.push_reserved.ensures.items ∙ ap (λ ks. ks ++ c.in_ok-begun.begun.call ∷ []) c.reserve.ensures.items in
    let now = begun_now c.self.inside.number c.self.inside.taken c.self.inside.slots.items c.push_back_reserved.new.self.items c.self.inside.calls.items c.push_reserved.new.self.items c.in_ok-begun.begun.call
    c.self.inside.broken c.self.inside.closed c.self.inside.hung_up c.self.inside.reader slots calls in
    let begun : IsBegun c.args.shared.now.moment (next_held c.args.self.now) c.args.asked c.in_ok-begun.begun.call c.in_ok-begun.begun.first.items =
    subst (λ d. IsBegun c.args.shared.now.moment d c.args.asked c.in_ok-begun.begun.call c.in_ok-begun.begun.first.items) c.next_id-id.ensures c.in_ok-begun.ensures in
    let made = ap (λ (q : JobsValue). q.jobs) c.in_ok-reserve-3.ensures.ok in
    let counted = ap (λ (q : JobsValue). q.waiting) c.in_ok-reserve-3.ensures.ok in
    record {
      conn_is = now ∙ ap (λ (x : HeldConnection). record x { slots = x.slots ++ None ∷ []; calls = x.calls ++ c.in_ok-begun.begun.call ∷ [] }) c.self.view_is
          ∙ begun_held c.args.self.now c.args.shared.now.moment c.args.asked c.in_ok-begun.begun.call c.in_ok-begun.begun.first.items begun;
      begun_is = refl;
      few = omega (arith, c.if-shared-ge-MOST_BEGUN.false);
      jobs_are = c.start_all.ensures.jobs ∙ ap (λ js. js ++ map (job_at c.args.shared.now.moment) c.in_ok-begun.begun.first.items) made
          ∙ ap (λ js. c.args.shared.now.jobs.jobs ++ js) (first_queued c.args.shared.now.moment (next_held c.args.self.now) c.args.asked c.in_ok-begun.begun.first.items begun.first_are);
      waits = omega (
        arith,
        c.start_all.ensures.waits,
        counted,
        c.waiting.ensures,
        c.len.ensures,
        ap waiting calls,
        sum_by_push waiting_in c.self.inside.calls.items c.in_ok-begun.begun.call,
        ap (λ (x : HeldConnection). waiting x.calls) c.self.view_is,
      );
      rest = refl;
    }

pub returns-in_err-reserve-clause-err : goal.returns-in_err-reserve-clause-err
returns-in_err-reserve-clause-err g c =
    err_if c.from_residual.result (roomy_is c.self.inside.number c.self.inside.taken c.self.inside.slots.items c.self.inside.slots.items c.self.inside.calls.items c.reserve.new.self.items c.self.inside.broken c.self.inside.closed c.self.inside.hung_up c.self.inside.reader refl c.reserve.ensures.items ∙ c.self.view_is)

pub returns-in_err-reserve-2-clause-err : goal.returns-in_err-reserve-2-clause-err
returns-in_err-reserve-2-clause-err g c =
    err_if c.from_residual-in_err-reserve-2.result (roomy_is c.self.inside.number c.self.inside.taken c.self.inside.slots.items c.reserve-2.new.self.items c.self.inside.calls.items c.reserve.new.self.items c.self.inside.broken c.self.inside.closed c.self.inside.hung_up c.self.inside.reader c.reserve-2.ensures.items c.reserve.ensures.items ∙ c.self.view_is)

pub returns-in_err-begun-clause-err : goal.returns-in_err-begun-clause-err
returns-in_err-begun-clause-err g c =
    err_if c.from_residual-in_err-begun.result (roomy_is c.self.inside.number c.self.inside.taken c.self.inside.slots.items c.reserve-2.new.self.items c.self.inside.calls.items c.reserve.new.self.items c.self.inside.broken c.self.inside.closed c.self.inside.hung_up c.self.inside.reader c.reserve-2.ensures.items c.reserve.ensures.items ∙ c.self.view_is)

pub returns-in_err-reserve-3-clause-err : goal.returns-in_err-reserve-3-clause-err
returns-in_err-reserve-3-clause-err g c =
    err_if c.from_residual-in_err-reserve-3.result (roomy_is c.self.inside.number c.self.inside.taken c.self.inside.slots.items c.reserve-2.new.self.items c.self.inside.calls.items c.reserve.new.self.items c.self.inside.broken c.self.inside.closed c.self.inside.hung_up c.self.inside.reader c.reserve-2.ensures.items c.reserve.ensures.items ∙ c.self.view_is)

pub returns-in_err-reserve-clause-ok : goal.returns-in_err-reserve-clause-ok
returns-in_err-reserve-clause-ok g c = none_on _ _ c.from_residual.result c.from_residual.ensures.1

pub returns-in_err-reserve-clause-same : goal.returns-in_err-reserve-clause-same
returns-in_err-reserve-clause-same g c = err_if c.from_residual.result refl

pub returns-in_err-reserve-clause-fault : goal.returns-in_err-reserve-clause-fault
returns-in_err-reserve-clause-fault g c = by_memory c.args.shared.now.begun true c.from_residual.result c.from_residual.ensures.1

pub returns-in_err-reserve-2-clause-ok : goal.returns-in_err-reserve-2-clause-ok
returns-in_err-reserve-2-clause-ok g c = none_on _ _ c.from_residual-in_err-reserve-2.result c.from_residual-in_err-reserve-2.ensures.1

pub returns-in_err-reserve-2-clause-same : goal.returns-in_err-reserve-2-clause-same
returns-in_err-reserve-2-clause-same g c = err_if c.from_residual-in_err-reserve-2.result refl

pub returns-in_err-reserve-2-clause-fault : goal.returns-in_err-reserve-2-clause-fault
returns-in_err-reserve-2-clause-fault g c = by_memory c.args.shared.now.begun true c.from_residual-in_err-reserve-2.result c.from_residual-in_err-reserve-2.ensures.1

pub returns-in_err-begun-clause-ok : goal.returns-in_err-begun-clause-ok
returns-in_err-begun-clause-ok g c = none_on _ _ c.from_residual-in_err-begun.result c.from_residual-in_err-begun.ensures.1

pub returns-in_err-begun-clause-same : goal.returns-in_err-begun-clause-same
returns-in_err-begun-clause-same g c = err_if c.from_residual-in_err-begun.result refl

pub returns-in_err-begun-clause-fault : goal.returns-in_err-begun-clause-fault
returns-in_err-begun-clause-fault g c = by_memory c.args.shared.now.begun true c.from_residual-in_err-begun.result c.from_residual-in_err-begun.ensures.1

pub returns-in_err-reserve-3-clause-ok : goal.returns-in_err-reserve-3-clause-ok
returns-in_err-reserve-3-clause-ok g c = none_on _ _ c.from_residual-in_err-reserve-3.result c.from_residual-in_err-reserve-3.ensures.1

pub returns-in_err-reserve-3-clause-same : goal.returns-in_err-reserve-3-clause-same
returns-in_err-reserve-3-clause-same g c = err_if c.from_residual-in_err-reserve-3.result (ap (λ (q : JobsValue). record c.args.shared.now { jobs = q }) c.in_err-reserve-3.ensures.err)

pub returns-in_err-reserve-3-clause-fault : goal.returns-in_err-reserve-3-clause-fault
returns-in_err-reserve-3-clause-fault g c = by_memory c.args.shared.now.begun true c.from_residual-in_err-reserve-3.result c.from_residual-in_err-reserve-3.ensures.1

pub start_all-requires-clause-moment : goal.start_all-requires-clause-moment
start_all-requires-clause-moment g c = c.requires.moment

pub start_all-requires-clause-room : goal.start_all-requires-clause-room
start_all-requires-clause-room g c = omega (arith, ap (λ (q : JobsValue). q.waiting) c.in_ok-reserve-3.ensures.ok, c.len.ensures)

pub push_reserved-requires : goal.push_reserved-requires
push_reserved-requires g c = omega (arith, c.in_ok-reserve.ensures.ok)

pub push_back_reserved-requires : goal.push_back_reserved-requires
push_back_reserved-requires g c = omega (arith, c.in_ok-reserve-2.ensures.ok)
