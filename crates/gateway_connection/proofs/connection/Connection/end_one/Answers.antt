use Rattle.gateway_connection.specs.lemmas.Names.{◌≡◌, ◌<◌, ◌++◌, ◌∷◌, ◌∙◌, Some, None, [], ap, append-nil, arith, length, refl, sym, subst, true, if◌then◌else◌, is_some, option_map, option_to_list, slice_set, without, KeptValue, HeldConnection, reply_with, given_up, kept_at, no_call, waiting, waiting_in, err_if, Holds, broken_held, ending_of, held_by, JobsValue, ends_with, event_for, is_life, LeavesContexts, LeavesOthers, on_ok}
use Rattle.gateway_connection.specs.lemmas.OwnContexts.{keeps_leaves, others_same, without_leaves}
use Rattle.gateway_connection.proofs.DoneLemmas.{part_waits, given_first, given_waits, some_ends}
use Rattle.gateway_connection.proofs.EndLemmas.{no_event, none_ends, not_live}
use Rattle.gateway_connection.proofs.HoldsLemmas.{here_is, holds_set}
use Rattle.gateway_connection.proofs.LentLemmas.{rest_none}
use Rattle.gateway_connection.proofs.ResultLemmas.{none_on}
use Rattle.gateway_connection.proofs.connection.Connection.end_one.Goals as goal

pub invariant_of-self : goal.invariant_of-self
invariant_of-self g c =
    let items = ap (λ (k : HeldConnection). k.calls) c.self.view_is in
    let lt : c.args.index < length c.self.inside.calls.items = subst (λ ks. c.args.index < length ks) (sym items) c.requires.there in
    let was = here_is c.self.inside.calls.items c.self.inside.calls.items c.args.index c.index_mut-call.result.now refl lt c.index_mut-call.ensures.value in (
      c.self.invariant.0,
      holds_set (held_by c.self.inside.number c.self.inside.taken c.self.inside.slots.items c.self.inside.calls.items c.self.inside.broken c.self.inside.closed c.self.inside.hung_up c.self.inside.reader) (held_by c.self.inside.number c.self.inside.taken c.self.inside.slots.items (slice_set c.self.inside.calls.items c.args.index c.end.new.self) c.self.inside.broken c.self.inside.closed c.self.inside.hung_up c.self.inside.reader)
          c.args.index c.end.new.self refl refl refl refl refl (ap (λ (x : KeptValue). x.id) (c.end.ensures.given ∙ ap given_up was)) (λ shut. ap (λ (x : KeptValue). x.call.live) c.end.ensures.given) c.self.invariant.1,
    )

pub invariant_of-self-2 : goal.invariant_of-self-2
invariant_of-self-2 g c =
    let items = ap (λ (k : HeldConnection). k.calls) c.self.view_is in
    let lt : c.args.index < length c.self.inside.calls.items = subst (λ ks. c.args.index < length ks) (sym items) c.requires.there in
    let was = here_is c.self.inside.calls.items c.self.inside.calls.items c.args.index c.index_mut-call.result.now refl lt c.index_mut-call.ensures.value in (
      c.self.invariant.0,
      holds_set (held_by c.self.inside.number c.self.inside.taken c.self.inside.slots.items c.self.inside.calls.items c.self.inside.broken c.self.inside.closed c.self.inside.hung_up c.self.inside.reader) (held_by c.self.inside.number c.self.inside.taken c.self.inside.slots.items (slice_set c.self.inside.calls.items c.args.index c.end.new.self) c.self.inside.broken c.self.inside.closed c.self.inside.hung_up c.self.inside.reader)
          c.args.index c.end.new.self refl refl refl refl refl (ap (λ (x : KeptValue). x.id) (c.end.ensures.given ∙ ap given_up was)) (λ shut. ap (λ (x : KeptValue). x.call.live) c.end.ensures.given) c.self.invariant.1,
    )

pub returns-in_err-reply-clause-err : goal.returns-in_err-reply-clause-err
returns-in_err-reply-clause-err g c =
    let items = ap (λ (k : HeldConnection). k.calls) c.self.view_is in
    let lt : c.args.index < length c.self.inside.calls.items = subst (λ ks. c.args.index < length ks) (sym items) c.requires.there in
    let seen : c.index-call.result.now ≡ kept_at c.args.index c.args.self.now.calls = here_is c.self.inside.calls.items c.args.self.now.calls c.args.index c.index-call.result.now items lt c.index-call.ensures in
    let was : c.index_mut-call.result.now ≡ kept_at c.args.index c.args.self.now.calls = here_is c.self.inside.calls.items c.args.self.now.calls c.args.index c.index_mut-call.result.now items lt c.index_mut-call.ensures.value in
    let live : is_some (kept_at c.args.index c.args.self.now.calls).call.live ≡ true = ap (λ (x : KeptValue). is_some x.call.live) (sym seen) ∙ sym c.is_live.ensures ∙ c.if-not-is_live.false in
    let event : event_for c.args.shared.now.moment (kept_at c.args.index c.args.self.now.calls).id c.args.shared.now.contexts.standing ≡ Some c.in-Some.event =
    ap (λ d. event_for c.args.shared.now.moment d c.args.shared.now.contexts.standing) (sym (c.id-id.ensures ∙ ap (λ (x : KeptValue). x.id) seen)) ∙ sym c.ending.ensures ∙ c.in-Some.is in
    let ends = some_ends c.in-Some.event (event_for c.args.shared.now.moment (kept_at c.args.index c.args.self.now.calls).id c.args.shared.now.contexts.standing) (kept_at c.args.index c.args.self.now.calls) event live in
    let given : c.end.new.self ≡ given_up (kept_at c.args.index c.args.self.now.calls) = c.end.ensures.given ∙ ap given_up was in
    let fewer : c.waiting.result ≡ waiting_in (kept_at c.args.index c.args.self.now.calls) = c.waiting.ensures ∙ ap waiting_in was in
    let part = part_waits c.args.self.now.calls c.args.index c.requires.there in
    let h = subst Holds c.self.view_is c.self.invariant.1 in
    let own = (ap (λ (x : KeptValue). x.id.conn) was ∙ h.own c.args.index no_call c.requires.there) in
    let others : LeavesOthers c.args.self.now.number c.args.shared.now.contexts c.end.new.contexts =
    others_same c.args.self.now.number c.args.shared.now.contexts c.end.new.contexts
    (subst (λ n. LeavesContexts n c.args.shared.now.contexts.standing c.end.new.contexts.standing) own
    (keeps_leaves c.index_mut-call.result.now.id.conn c.args.shared.now.contexts.standing c.end.new.contexts.standing c.in_err-reply.ensures.goes.others)) c.end.ensures.goes.stocks_are in
    err_if c.from_residual.result (record {
      ends = ends.1;
      broken = ap broken_held (ap (λ (k : HeldConnection). record k { calls = slice_set k.calls c.args.index c.end.new.self }) c.self.view_is) ∙ ap (λ ks. record c.args.self.now { calls = ks; broken = true }) (given_first c.args.self.now.calls c.args.index c.end.new.self given);
      number_is = ap (λ (k : HeldConnection). k.number) c.self.view_is;
      begun_is = refl;
      rest = record {
        plans_are = refl;
        moment_is = refl;
        jobs_are = ap (λ (q : JobsValue). q.jobs) c.release.ensures ∙ sym (append-nil c.args.shared.now.jobs.jobs);
        waits = omega (
          arith,
          ap (λ (q : JobsValue). q.waiting) c.release.ensures,
          fewer,
          part,
          c.requires.waits,
          given_waits c.args.self.now.calls c.args.index c.end.new.self c.requires.there given,
          ap (λ (k : HeldConnection). waiting (slice_set k.calls c.args.index c.end.new.self)) c.self.view_is,
        );
        others = others;
      };
    })

pub returns-clause-ok : goal.returns-clause-ok
returns-clause-ok g c =
    let items = ap (λ (k : HeldConnection). k.calls) c.self.view_is in
    let lt : c.args.index < length c.self.inside.calls.items = subst (λ ks. c.args.index < length ks) (sym items) c.requires.there in
    let seen : c.index-call.result.now ≡ kept_at c.args.index c.args.self.now.calls = here_is c.self.inside.calls.items c.args.self.now.calls c.args.index c.index-call.result.now items lt c.index-call.ensures in
    let was : c.index_mut-call.result.now ≡ kept_at c.args.index c.args.self.now.calls = here_is c.self.inside.calls.items c.args.self.now.calls c.args.index c.index_mut-call.result.now items lt c.index_mut-call.ensures.value in
    let live : is_some (kept_at c.args.index c.args.self.now.calls).call.live ≡ true = ap (λ (x : KeptValue). is_some x.call.live) (sym seen) ∙ sym c.is_live.ensures ∙ c.if-not-is_live.false in
    let event : event_for c.args.shared.now.moment (kept_at c.args.index c.args.self.now.calls).id c.args.shared.now.contexts.standing ≡ Some c.in-Some.event =
    ap (λ d. event_for c.args.shared.now.moment d c.args.shared.now.contexts.standing) (sym (c.id-id.ensures ∙ ap (λ (x : KeptValue). x.id) seen)) ∙ sym c.ending.ensures ∙ c.in-Some.is in
    let ends = some_ends c.in-Some.event (event_for c.args.shared.now.moment (kept_at c.args.index c.args.self.now.calls).id c.args.shared.now.contexts.standing) (kept_at c.args.index c.args.self.now.calls) event live in
    let given : c.end.new.self ≡ given_up (kept_at c.args.index c.args.self.now.calls) = c.end.ensures.given ∙ ap given_up was in
    let fewer : c.waiting.result ≡ waiting_in (kept_at c.args.index c.args.self.now.calls) = c.waiting.ensures ∙ ap waiting_in was in
    let part = part_waits c.args.self.now.calls c.args.index c.requires.there in
    let h = subst Holds c.self.view_is c.self.invariant.1 in
    let own = (ap (λ (x : KeptValue). x.id.conn) was ∙ h.own c.args.index no_call c.requires.there) in
    let others : LeavesOthers c.args.self.now.number c.args.shared.now.contexts c.end.new.contexts =
    others_same c.args.self.now.number c.args.shared.now.contexts c.end.new.contexts
    (subst (λ n. LeavesContexts n c.args.shared.now.contexts.standing c.end.new.contexts.standing) own
    (subst (LeavesContexts c.index_mut-call.result.now.id.conn c.args.shared.now.contexts.standing) (sym c.in_ok-reply.ensures.goes.gone) (without_leaves c.index_mut-call.result.now.id c.args.shared.now.contexts.standing))) c.end.ensures.goes.stocks_are in
    let its : option_map (reply_with (kept_at c.args.index c.args.self.now.calls).id) (ending_of c.args.index c.args.self.now c.args.shared.now).reply ≡ Some c.in_ok-reply.reply =
    ap (λ e. option_map (reply_with (kept_at c.args.index c.args.self.now.calls).id) (ends_with e (kept_at c.args.index c.args.self.now.calls).call.out (kept_at c.args.index c.args.self.now.calls).call.live).reply) event
    ∙ ap (λ (x : KeptValue). option_map (reply_with x.id) (ends_with (Some c.in-Some.event) x.call.out x.call.live).reply) (sym was) ∙ c.in_ok-reply.ensures.made in
    record {
      conn_is = ap (λ (k : HeldConnection). record k { calls = slice_set k.calls c.args.index c.end.new.self }) c.self.view_is ∙ ap (λ y. record c.args.self.now { calls = slice_set c.args.self.now.calls c.args.index y }) (given ∙ sym ends.0);
      made_are = c.push_reserved.ensures.items ∙ ap (λ rs. rs ++ c.in_ok-reply.reply ∷ []) c.reserve.ensures.items ∙ ap (λ o. c.args.shared.now.made.items ++ option_to_list o) (sym its);
      standing_is = c.in_ok-reply.ensures.goes.gone ∙ ap (λ (x : KeptValue). without x.id c.args.shared.now.contexts.standing) was
          ∙ sym (ap (λ b. if b then without (kept_at c.args.index c.args.self.now.calls).id c.args.shared.now.contexts.standing else c.args.shared.now.contexts.standing) ends.1);
      stocks_are = c.end.ensures.goes.stocks_are;
      begun_is = refl;
      rest = record {
        plans_are = refl;
        moment_is = refl;
        jobs_are = ap (λ (q : JobsValue). q.jobs) c.release.ensures ∙ sym (append-nil c.args.shared.now.jobs.jobs);
        waits = omega (
          arith,
          ap (λ (q : JobsValue). q.waiting) c.release.ensures,
          fewer,
          part,
          c.requires.waits,
          given_waits c.args.self.now.calls c.args.index c.end.new.self c.requires.there given,
          ap (λ (k : HeldConnection). waiting (slice_set k.calls c.args.index c.end.new.self)) c.self.view_is,
        );
        others = others;
      };
    }

pub returns-then-not-is_live-clause-ok : goal.returns-then-not-is_live-clause-ok
returns-then-not-is_live-clause-ok g c =
    let items = ap (λ (k : HeldConnection). k.calls) c.self.view_is in
    let lt : c.args.index < length c.self.inside.calls.items = subst (λ ks. c.args.index < length ks) (sym items) c.requires.there in
    let seen : c.index-call.result.now ≡ kept_at c.args.index c.args.self.now.calls = here_is c.self.inside.calls.items c.args.self.now.calls c.args.index c.index-call.result.now items lt c.index-call.ensures in
    none_ends c.args.index (ending_of c.args.index c.args.self.now c.args.shared.now) c.args.self.now c.args.shared.now
    (not_live (event_for c.args.shared.now.moment (kept_at c.args.index c.args.self.now.calls).id c.args.shared.now.contexts.standing) (kept_at c.args.index c.args.self.now.calls).call (ap (λ (x : KeptValue). is_some x.call.live) (sym seen) ∙ sym c.is_live.ensures ∙ c.if-not-is_live.true))

pub returns-in_default-clause-ok : goal.returns-in_default-clause-ok
returns-in_default-clause-ok g c =
    let items = ap (λ (k : HeldConnection). k.calls) c.self.view_is in
    let lt : c.args.index < length c.self.inside.calls.items = subst (λ ks. c.args.index < length ks) (sym items) c.requires.there in
    let seen : c.index-call.result.now ≡ kept_at c.args.index c.args.self.now.calls = here_is c.self.inside.calls.items c.args.self.now.calls c.args.index c.index-call.result.now items lt c.index-call.ensures in
    let event : event_for c.args.shared.now.moment (kept_at c.args.index c.args.self.now.calls).id c.args.shared.now.contexts.standing ≡ None =
    ap (λ d. event_for c.args.shared.now.moment d c.args.shared.now.contexts.standing) (sym (c.id-id.ensures ∙ ap (λ (x : KeptValue). x.id) seen)) ∙ sym c.ending.ensures ∙ c.in_default.is in
    none_ends c.args.index (ending_of c.args.index c.args.self.now c.args.shared.now) c.args.self.now c.args.shared.now (no_event (event_for c.args.shared.now.moment (kept_at c.args.index c.args.self.now.calls).id c.args.shared.now.contexts.standing) (kept_at c.args.index c.args.self.now.calls).call event)

pub returns-then-is_err-clause-err : goal.returns-then-is_err-clause-err
returns-then-is_err-clause-err g c =
    let items = ap (λ (k : HeldConnection). k.calls) c.self.view_is in
    let lt : c.args.index < length c.self.inside.calls.items = subst (λ ks. c.args.index < length ks) (sym items) c.requires.there in
    let seen : c.index-call.result.now ≡ kept_at c.args.index c.args.self.now.calls = here_is c.self.inside.calls.items c.args.self.now.calls c.args.index c.index-call.result.now items lt c.index-call.ensures in
    let live : is_some (kept_at c.args.index c.args.self.now.calls).call.live ≡ true = ap (λ (x : KeptValue). is_some x.call.live) (sym seen) ∙ sym c.is_live.ensures ∙ c.if-not-is_live.false in
    let event : event_for c.args.shared.now.moment (kept_at c.args.index c.args.self.now.calls).id c.args.shared.now.contexts.standing ≡ Some c.in-Some.event =
    ap (λ d. event_for c.args.shared.now.moment d c.args.shared.now.contexts.standing) (sym (c.id-id.ensures ∙ ap (λ (x : KeptValue). x.id) seen)) ∙ sym c.ending.ensures ∙ c.in-Some.is in
    let ends = some_ends c.in-Some.event (event_for c.args.shared.now.moment (kept_at c.args.index c.args.self.now.calls).id c.args.shared.now.contexts.standing) (kept_at c.args.index c.args.self.now.calls) event live in
    let rest = rest_none c.args.self.now c.args.shared.now in
    record {
      ends = ends.1;
      broken = refl;
      number_is = refl;
      begun_is = refl;
      rest = record { plans_are = refl; moment_is = refl; jobs_are = rest.jobs_are; waits = refl; others = rest.others };
    }

pub end-requires-clause-known : goal.end-requires-clause-known
end-requires-clause-known g c =
    let items = ap (λ (k : HeldConnection). k.calls) c.self.view_is in
    let lt : c.args.index < length c.self.inside.calls.items = subst (λ ks. c.args.index < length ks) (sym items) c.requires.there in
    let seen : c.index-call.result.now ≡ kept_at c.args.index c.args.self.now.calls = here_is c.self.inside.calls.items c.args.self.now.calls c.args.index c.index-call.result.now items lt c.index-call.ensures in
    let was : c.index_mut-call.result.now ≡ kept_at c.args.index c.args.self.now.calls = here_is c.self.inside.calls.items c.args.self.now.calls c.args.index c.index_mut-call.result.now items lt c.index_mut-call.ensures.value in
    let live : is_some (kept_at c.args.index c.args.self.now.calls).call.live ≡ true = ap (λ (x : KeptValue). is_some x.call.live) (sym seen) ∙ sym c.is_live.ensures ∙ c.if-not-is_live.false in
    ap (λ (x : KeptValue). is_life x.id c.args.shared.now.contexts.standing.calls) was ∙ c.requires.known live

pub end-requires-clause-live : goal.end-requires-clause-live
end-requires-clause-live g c =
    let items = ap (λ (k : HeldConnection). k.calls) c.self.view_is in
    let lt : c.args.index < length c.self.inside.calls.items = subst (λ ks. c.args.index < length ks) (sym items) c.requires.there in
    let seen : c.index-call.result.now ≡ kept_at c.args.index c.args.self.now.calls = here_is c.self.inside.calls.items c.args.self.now.calls c.args.index c.index-call.result.now items lt c.index-call.ensures in
    let was : c.index_mut-call.result.now ≡ kept_at c.args.index c.args.self.now.calls = here_is c.self.inside.calls.items c.args.self.now.calls c.args.index c.index_mut-call.result.now items lt c.index_mut-call.ensures.value in
    ap (λ (x : KeptValue). is_some x.call.live) (was ∙ sym seen) ∙ sym c.is_live.ensures ∙ c.if-not-is_live.false

pub release-requires : goal.release-requires
release-requires g c =
    let items = ap (λ (k : HeldConnection). k.calls) c.self.view_is in
    let lt : c.args.index < length c.self.inside.calls.items = subst (λ ks. c.args.index < length ks) (sym items) c.requires.there in
    let was : c.index_mut-call.result.now ≡ kept_at c.args.index c.args.self.now.calls = here_is c.self.inside.calls.items c.args.self.now.calls c.args.index c.index_mut-call.result.now items lt c.index_mut-call.ensures.value in
    let part = part_waits c.args.self.now.calls c.args.index c.requires.there in
    omega (arith, c.waiting.ensures, ap waiting_in was, part, c.requires.waits)

pub returns-in_err-reply-clause-ok : goal.returns-in_err-reply-clause-ok
returns-in_err-reply-clause-ok g c = none_on _ _ c.from_residual.result c.from_residual.ensures.1

pub push_reserved-requires : goal.push_reserved-requires
push_reserved-requires g c = omega (arith, on_ok c.reserve.result _ c.reserve.ensures.ok (sym c.is_err.ensures.value ∙ c.if-is_err.false))

pub index-call-requires : goal.index-call-requires
index-call-requires g c =
    let there : c.args.index < length c.self.inside.calls.items = subst (λ ks. c.args.index < length ks) (sym (ap (λ (k : HeldConnection). k.calls) c.self.view_is)) c.requires.there in
    omega (arith, there)

pub index_mut-call-requires : goal.index_mut-call-requires
index_mut-call-requires g c =
    let there : c.args.index < length c.self.inside.calls.items = subst (λ ks. c.args.index < length ks) (sym (ap (λ (k : HeldConnection). k.calls) c.self.view_is)) c.requires.there in
    omega (arith, there)
