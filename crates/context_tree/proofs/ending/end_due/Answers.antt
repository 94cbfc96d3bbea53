use Rattle.std.proofs.Common.{◌≡◌, ◌∷◌, [], ℕ, length, filter, not, refl, sym, ap, subst, ◌∙◌, arith, true}
use Rattle.timer_heap.specs.Timers.{Timing, timing, left_by, popped}
use Rattle.context_tree.specs.Context.{Advances, Id, own_due}
use Rattle.context_tree.specs.Tree.{StandsFor}
use Rattle.context_tree.specs.Walks.{IsDueAt, id_in, is_in, is_live_at}
use Rattle.context_tree.specs.Links.{slot_of}
use Rattle.context_tree.proofs.Enders.{ByMoment}
use Rattle.context_tree.proofs.Expiring.{PopLaws, expired, first_popped, fewer_wait, moment_on, moment_over, popped_not, popped_some}
use Rattle.context_tree.proofs.Underway.{begin}
use Rattle.context_tree.proofs.ending.end_due.Goals as goal

pub loop-key-init : goal.loop-key-init
loop-key-init g c = record {
  ready = c.requires.ready;
  moment = λ made visits past s. record { ended = []; underway = begin (ByMoment c.args.now) _ past s };
}

pub due_at-id-requires : goal.due_at-id-requires
due_at-id-requires g c =
    let laws : PopLaws = record { found = c.first_due_law.ensures.found; none = c.first_due_law.ensures.none } in
    let p = popped_some (popped c.args.now c.loop-key.timers.entries) c.pop_due.result c.in-Some.field-0-0 c.in-Some.key c.pop_due.ensures.answer c.in-Some.is in
    let m = c.loop-key.invariant.moment c.requires.reached.made c.requires.reached.visits c.requires.reached.past c.requires.reached.stands in
    let x = expired c.args.now c.requires.reached.past c.loop-key.nodes.slots c.loop-key.done.items c.args.done.now.items (timing c.loop-key.timers) m.ended m.underway p.0 (first_popped laws c.args.now c.loop-key.timers.entries p.0 p.1) in
    subst (λ (k : ℕ). IsDueAt c.loop-key.nodes.slots k c.args.now) p.2 x.due_at

pub end-requires-clause-live : goal.end-requires-clause-live
end-requires-clause-live g c =
    let laws : PopLaws = record { found = c.first_due_law.ensures.found; none = c.first_due_law.ensures.none } in
    let p = popped_some (popped c.args.now c.loop-key.timers.entries) c.pop_due.result c.in-Some.field-0-0 c.in-Some.key c.pop_due.ensures.answer c.in-Some.is in
    let m = c.loop-key.invariant.moment c.requires.reached.made c.requires.reached.visits c.requires.reached.past c.requires.reached.stands in
    let x = expired c.args.now c.requires.reached.past c.loop-key.nodes.slots c.loop-key.done.items c.args.done.now.items (timing c.loop-key.timers) m.ended m.underway p.0 (first_popped laws c.args.now c.loop-key.timers.entries p.0 p.1) in
    let key = ap (λ (z : Id). z.1) c.due_at-id.ensures.id in
    subst (λ (k : ℕ). is_live_at c.loop-key.nodes.slots k ≡ true) (p.2 ∙ sym key) x.live

pub loop-key-smaller : goal.loop-key-smaller
loop-key-smaller g c =
    let laws : PopLaws = record { found = c.first_due_law.ensures.found; none = c.first_due_law.ensures.none } in
    let p = popped_some (popped c.args.now c.loop-key.timers.entries) c.pop_due.result c.in-Some.field-0-0 c.in-Some.key c.pop_due.ensures.answer c.in-Some.is in
    let left = c.pop_due.ensures.left ∙ ap (λ o. record (timing c.loop-key.timers) { entries = left_by o c.loop-key.timers.entries }) p.1 in
    let w = c.end.ensures.walked in
    let less = fewer_wait laws c.args.now c.loop-key.timers.entries p.0 (λ t. not (is_in t.id w.keys)) p.1 in
    let same = ap (λ (t : Timing). length t.entries) w.walk.timers_are ∙ ap (λ (t : Timing). length (filter (λ e. not (is_in e.id w.keys)) t.entries)) left in
    omega (arith, less, same)

pub loop-key-preserved : goal.loop-key-preserved
loop-key-preserved g c =
    let laws : PopLaws = record { found = c.first_due_law.ensures.found; none = c.first_due_law.ensures.none } in
    let p = popped_some (popped c.args.now c.loop-key.timers.entries) c.pop_due.result c.in-Some.field-0-0 c.in-Some.key c.pop_due.ensures.answer c.in-Some.is in
    let left = c.pop_due.ensures.left ∙ ap (λ o. record (timing c.loop-key.timers) { entries = left_by o c.loop-key.timers.entries }) p.1 in
    record {
      ready = c.end.ensures.ready;
      moment = λ made visits past s. moment_on laws c.args.now past c.loop-key.nodes.slots c.loop-key.done.items c.args.done.now.items (timing c.loop-key.timers) (timing c.pop_due.new.self)
          (c.loop-key.invariant.moment made visits past s) p.0 p.1 left c.due_at-id.result.0 c.due_at-id.result.1 c.of-how.result
          (c.due_at-id.ensures.id ∙ ap (λ k. id_in c.loop-key.nodes.slots k) (sym p.2))
          (λ n is. ap (λ k. own_due c.args.now (id_in c.loop-key.nodes.slots k, n.kind)) p.2 ∙ c.due_at-id.ensures.due n (ap (λ k. slot_of c.loop-key.nodes.slots k) (sym p.2) ∙ is))
          c.of-how.ensures c.end.new.nodes.slots c.end.new.done.items (timing c.end.new.timers) c.end.result c.end.ensures.walked;
    }

pub returns-clause-stands : goal.returns-clause-stands
returns-clause-stands g c = λ made visits past s.
    let laws : PopLaws = record { found = c.first_due_law.ensures.found; none = c.first_due_law.ensures.none } in
    let none = popped_not (popped c.args.now c.loop-key.timers.entries) c.pop_due.result c.pop_due.ensures.answer c.in_default.is in
    let left = c.pop_due.ensures.left ∙ ap (λ o. record (timing c.loop-key.timers) { entries = left_by o c.loop-key.timers.entries }) none in
    subst (λ (t : Timing). StandsFor (record { slots = c.loop-key.nodes.slots; done = c.loop-key.done.items; timers = t; made = made; visits = visits }) (Advances c.args.now ∷ past)) (sym left)
    (moment_over laws c.args.now (record { slots = c.args.nodes.now.slots; done = c.args.done.now.items; timers = timing c.args.timers.now; made = made; visits = visits })
    (record { slots = c.loop-key.nodes.slots; done = c.loop-key.done.items; timers = timing c.loop-key.timers; made = made; visits = visits }) past s refl refl
    (c.loop-key.invariant.moment made visits past s) none)
