use Rattle.gateway_connection.specs.lemmas.Names.{◌≡◌, ◌<◌, ◌+◌, ◌∷◌, ◌∙◌, Some, [], ap, append-nil, arith, inl, length, refl, sym, subst, false, ◌||◌, if◌then◌else◌, is_some, has_out, slice_set, ContextsValue, KeepsOthers, ends_of, is_life, peer, KeptValue, Live, HeldConnection, held_by, result_on, kept_at, no_call, waiting, waiting_in, Holds, result_in, JobsValue, GoesOn, IsStep, none_over, passed_on, LeavesContexts, LeavesOthers, own_contexts, on_err, on_ok}
use Rattle.gateway_connection.specs.lemmas.OwnContexts.{apart_own, is_life_own, keeps_leaves, leaves_none, others_same}
use Rattle.gateway_connection.proofs.DoneLemmas.{part_waits, set_waits, set_same}
use Rattle.gateway_connection.proofs.HoldsLemmas.{here_is, holds_set}
use Rattle.gateway_connection.proofs.LinkedLemmas.{live_has_life}
use Rattle.gateway_connection.proofs.SettleLemmas.{next_waits, passed_keeps, passed_own, stepped_own}
use Rattle.gateway_connection.proofs.connection.Connection.take_at.Goals as goal

pub pass_on-requires-clause-known : goal.pass_on-requires-clause-known
pass_on-requires-clause-known g c = λ live.
    let items = ap (λ (k : HeldConnection). k.calls) c.self.view_is in
    let lt : c.args.index < length c.self.inside.calls.items = subst (λ ks. c.args.index < length ks) (sym items) c.requires.there in
    let was : c.index_mut-call.result.now ≡ kept_at c.args.index c.args.self.now.calls = here_is c.self.inside.calls.items c.args.self.now.calls c.args.index c.index_mut-call.result.now items lt c.index_mut-call.ensures.value in
    let h = subst Holds c.self.view_is c.self.invariant.1 in
    let own : c.index_mut-call.result.now.id.conn ≡ c.args.self.now.number = ap (λ (x : KeptValue). x.id.conn) was ∙ h.own c.args.index no_call c.requires.there in
    sym (is_life_own c.index_mut-call.result.now.id c.args.shared.now.contexts.standing)
    ∙ ap (λ n. is_life c.index_mut-call.result.now.id (own_contexts n c.args.shared.now.contexts.standing).calls) own
    ∙ ap (λ (x : ContextsValue). is_life c.index_mut-call.result.now.id x.calls) c.requires.may.tied.are
    ∙ live_has_life none_over c.args.self.now.calls c.args.index c.index_mut-call.result.now was live

pub overflow_sub-fewer : goal.overflow_sub-fewer
overflow_sub-fewer g c =
    let le = next_waits c.args.shared.now.moment c.args.branch c.args.outcome c.index_mut-call.result.now c.take_result-taken.new.self c.take_result-taken.result.decided c.take_result-taken.result.next c.take_result-taken.ensures in
    omega (arith, le, c.waiting-waited.ensures, c.waiting.ensures)

pub start-requires-clause-one : goal.start-requires-clause-one
start-requires-clause-one g c =
    let le = next_waits c.args.shared.now.moment c.args.branch c.args.outcome c.index_mut-call.result.now c.take_result-taken.new.self c.take_result-taken.result.decided c.take_result-taken.result.next c.take_result-taken.ensures in
    omega (arith, le, c.waiting-waited.ensures, c.waiting.ensures)

pub returns-then-is_err-clause-err : goal.returns-then-is_err-clause-err
returns-then-is_err-clause-err g c =
    let failed = sym c.is_err.ensures.value ∙ c.if-is_err.true in
    let items = ap (λ (k : HeldConnection). k.calls) c.self.view_is in
    let lt : c.args.index < length c.self.inside.calls.items = subst (λ ks. c.args.index < length ks) (sym items) c.requires.there in
    let was : c.index_mut-call.result.now ≡ kept_at c.args.index c.args.self.now.calls = here_is c.self.inside.calls.items c.args.self.now.calls c.args.index c.index_mut-call.result.now items lt c.index_mut-call.ensures.value in
    let same = ap (λ (k : HeldConnection). record k { calls = slice_set k.calls c.args.index c.index_mut-call.result.now }) c.self.view_is ∙ set_same c.args.self.now c.args.index c.index_mut-call.result.now was in
    let others : LeavesOthers c.args.self.now.number c.args.shared.now.contexts c.pass_on.new.contexts =
    others_same c.args.self.now.number c.args.shared.now.contexts c.pass_on.new.contexts
    (subst (LeavesContexts c.args.self.now.number c.args.shared.now.contexts.standing) (sym (on_err c.pass_on.result _ c.pass_on.ensures.err failed)) (leaves_none c.args.self.now.number c.args.shared.now.contexts.standing)) c.pass_on.ensures.stocks in
    record {
      live = ap (λ (x : KeptValue). is_some x.call.live) (sym was) ∙ on_err c.pass_on.result _ c.pass_on.ensures.live failed;
      conn_is = inl same;
      begun_is = refl;
      rest = record {
        plans_are = refl;
        moment_is = refl;
        jobs_are = sym (append-nil c.args.shared.now.jobs.jobs);
        waits = ap (λ (k : HeldConnection). c.args.shared.now.jobs.waiting + waiting k.calls) (sym same);
        others = others;
      };
    }

pub returns-clause-ok : goal.returns-clause-ok
returns-clause-ok g c =
    let items = ap (λ (k : HeldConnection). k.calls) c.self.view_is in
    let lt : c.args.index < length c.self.inside.calls.items = subst (λ ks. c.args.index < length ks) (sym items) c.requires.there in
    let was : c.index_mut-call.result.now ≡ kept_at c.args.index c.args.self.now.calls = here_is c.self.inside.calls.items c.args.self.now.calls c.args.index c.index_mut-call.result.now items lt c.index_mut-call.ensures.value in
    let h = subst Holds c.self.view_is c.self.invariant.1 in
    let own : c.index_mut-call.result.now.id.conn ≡ c.args.self.now.number = ap (λ (x : KeptValue). x.id.conn) was ∙ h.own c.args.index no_call c.requires.there in
    let y = c.take_result-taken.new.self in
    let decided = c.take_result-taken.result.decided in
    let next = c.take_result-taken.result.next in
    let step : IsStep c.args.shared.now.moment (kept_at c.args.index c.args.self.now.calls) c.take_result-taken.new.self c.take_result-taken.result.decided c.take_result-taken.result.next (result_in c.args.shared.now.moment c.args.index c.args.branch c.args.outcome c.args.self.now) =
    subst (λ (x : KeptValue). IsStep c.args.shared.now.moment x c.take_result-taken.new.self c.take_result-taken.result.decided c.take_result-taken.result.next (result_on c.args.shared.now.moment c.args.branch c.args.outcome (slice_set x.call.out c.args.branch false) x.call.live)) was c.take_result-taken.ensures in
    let goes : (l : Live) → (kept_at c.args.index c.args.self.now.calls).call.live ≡ Some l → GoesOn (kept_at c.args.index c.args.self.now.calls).id (kept_at c.args.index c.args.self.now.calls).call.out l =
    subst (λ (x : KeptValue). (l : Live) → x.call.live ≡ Some l → GoesOn x.id x.call.out l) was c.going_law.ensures in
    let passed : c.pass_on.new.contexts.standing ≡ passed_on c.args.shared.now.moment c.args.branch c.args.outcome c.index_mut-call.result.now c.args.shared.now.contexts.standing = on_ok c.pass_on.result _ c.pass_on.ensures.ok (sym c.is_err.ensures.value ∙ c.if-is_err.false) in
    let keeps : KeepsOthers c.args.self.now.number c.args.shared.now.contexts.standing c.pass_on.new.contexts.standing =
    subst (λ n. KeepsOthers n c.args.shared.now.contexts.standing c.pass_on.new.contexts.standing) own
    (subst (KeepsOthers c.index_mut-call.result.now.id.conn c.args.shared.now.contexts.standing) (sym passed) (passed_keeps c.args.shared.now.moment c.args.branch c.args.outcome c.index_mut-call.result.now c.args.shared.now.contexts.standing)) in
    let le = next_waits c.args.shared.now.moment c.args.branch c.args.outcome c.index_mut-call.result.now c.take_result-taken.new.self c.take_result-taken.result.decided c.take_result-taken.result.next c.take_result-taken.ensures in
    record {
      new = c.take_result-taken.new.self;
      next = c.take_result-taken.result.next;
      step = step;
      conn_is = ap (λ (k : HeldConnection). record k { calls = slice_set k.calls c.args.index c.take_result-taken.new.self }) c.self.view_is;
      keeps = keeps;
      own = stepped_own c.args.shared.now.moment c.args.branch c.args.outcome c.args.shared.now.contexts.standing.drained
          (if c.args.self.now.closed || c.args.self.now.broken then [] else peer c.args.self.now.number (ends_of c.args.shared.now.contexts.standing c.args.self.now.number) ∷ []) c.args.self.now.calls c.args.index
          c.take_result-taken.new.self c.take_result-taken.result.decided c.take_result-taken.result.next (own_contexts c.args.self.now.number c.args.shared.now.contexts.standing) (own_contexts c.args.self.now.number c.pass_on.new.contexts.standing)
          c.requires.there step c.requires.out goes (apart_own c.args.self.now.number c.args.shared.now.contexts.standing c.apart_law.ensures) c.requires.may.tied.are
          (ap (own_contexts c.args.self.now.number) passed ∙ passed_own c.args.shared.now.moment c.args.branch c.args.outcome c.index_mut-call.result.now c.args.self.now.number c.args.shared.now.contexts.standing
          ∙ ap (λ x. passed_on c.args.shared.now.moment c.args.branch c.args.outcome x (own_contexts c.args.self.now.number c.args.shared.now.contexts.standing)) was);
      stocks_are = c.pass_on.ensures.stocks;
      begun_is = refl;
      rest = record {
        plans_are = refl;
        moment_is = refl;
        jobs_are = ap (λ (q : JobsValue). q.jobs) c.start.ensures;
        waits = omega (
          arith,
          ap (λ (q : JobsValue). q.waiting) c.start.ensures,
          le,
          c.waiting-waited.ensures,
          c.waiting.ensures,
          ap waiting_in was,
          part_waits c.args.self.now.calls c.args.index c.requires.there,
          c.requires.may.waits,
          set_waits c.args.self.now.calls c.args.index c.take_result-taken.new.self c.requires.there,
          ap (λ (k : HeldConnection). waiting (slice_set k.calls c.args.index c.take_result-taken.new.self)) c.self.view_is,
        );
        others = others_same c.args.self.now.number c.args.shared.now.contexts c.pass_on.new.contexts
            (keeps_leaves c.args.self.now.number c.args.shared.now.contexts.standing c.pass_on.new.contexts.standing keeps) c.pass_on.ensures.stocks;
      };
    }

pub start-requires-clause-room : goal.start-requires-clause-room
start-requires-clause-room g c =
    let items = ap (λ (k : HeldConnection). k.calls) c.self.view_is in
    let lt : c.args.index < length c.self.inside.calls.items = subst (λ ks. c.args.index < length ks) (sym items) c.requires.there in
    let was : c.index_mut-call.result.now ≡ kept_at c.args.index c.args.self.now.calls = here_is c.self.inside.calls.items c.args.self.now.calls c.args.index c.index_mut-call.result.now items lt c.index_mut-call.ensures.value in
    let part = part_waits c.args.self.now.calls c.args.index c.requires.there in
    omega (arith, c.waiting-waited.ensures, ap waiting_in was, part, c.requires.may.waits)

pub take_result-taken-requires-clause-out : goal.take_result-taken-requires-clause-out
take_result-taken-requires-clause-out g c =
    let items = ap (λ (k : HeldConnection). k.calls) c.self.view_is in
    let lt : c.args.index < length c.self.inside.calls.items = subst (λ ks. c.args.index < length ks) (sym items) c.requires.there in
    let was : c.index_mut-call.result.now ≡ kept_at c.args.index c.args.self.now.calls = here_is c.self.inside.calls.items c.args.self.now.calls c.args.index c.index_mut-call.result.now items lt c.index_mut-call.ensures.value in
    ap (λ (x : KeptValue). has_out x.call c.args.branch) was ∙ c.requires.out

pub invariant_of-self : goal.invariant_of-self
invariant_of-self g c =
    let items = ap (λ (k : HeldConnection). k.calls) c.self.view_is in
    let lt : c.args.index < length c.self.inside.calls.items = subst (λ ks. c.args.index < length ks) (sym items) c.requires.there in
    let was = here_is c.self.inside.calls.items c.self.inside.calls.items c.args.index c.index_mut-call.result.now refl lt c.index_mut-call.ensures.value in
    (c.self.invariant.0, subst Holds (sym (set_same (held_by c.self.inside.number c.self.inside.taken c.self.inside.slots.items c.self.inside.calls.items c.self.inside.broken c.self.inside.closed c.self.inside.hung_up c.self.inside.reader) c.args.index c.index_mut-call.result.now was)) c.self.invariant.1)

pub pass_on-requires-clause-moment : goal.pass_on-requires-clause-moment
pass_on-requires-clause-moment g c = c.requires.may.early

pub start-requires-clause-moment : goal.start-requires-clause-moment
start-requires-clause-moment g c = c.requires.may.early

pub take_result-taken-requires-clause-moment : goal.take_result-taken-requires-clause-moment
take_result-taken-requires-clause-moment g c = c.requires.may.early

pub invariant_of-self-2 : goal.invariant_of-self-2
invariant_of-self-2 g c =
    let items = ap (λ (k : HeldConnection). k.calls) c.self.view_is in
    let lt : c.args.index < length c.self.inside.calls.items = subst (λ ks. c.args.index < length ks) (sym items) c.requires.there in
    let was : c.index_mut-call.result.now ≡ kept_at c.args.index c.self.inside.calls.items = here_is c.self.inside.calls.items c.self.inside.calls.items c.args.index c.index_mut-call.result.now refl lt c.index_mut-call.ensures.value in
    let new_is = c.take_result-taken.ensures.new_is in (
      c.self.invariant.0,
      holds_set (held_by c.self.inside.number c.self.inside.taken c.self.inside.slots.items c.self.inside.calls.items c.self.inside.broken c.self.inside.closed c.self.inside.hung_up c.self.inside.reader)
          (held_by c.self.inside.number c.self.inside.taken c.self.inside.slots.items (slice_set c.self.inside.calls.items c.args.index c.take_result-taken.new.self) c.self.inside.broken c.self.inside.closed c.self.inside.hung_up c.self.inside.reader)
          c.args.index c.take_result-taken.new.self refl refl refl refl refl (ap (λ (x : KeptValue). x.id) new_is ∙ ap (λ (x : KeptValue). x.id) was)
          (λ shut. ap (λ (x : KeptValue). x.call.live) new_is
          ∙ ap (λ l. (result_on c.args.shared.now.moment c.args.branch c.args.outcome (slice_set c.index_mut-call.result.now.call.out c.args.branch false) l).call.live)
          (ap (λ (x : KeptValue). x.call.live) was ∙ c.self.invariant.1.dead shut c.args.index no_call lt))
          c.self.invariant.1,
    )
