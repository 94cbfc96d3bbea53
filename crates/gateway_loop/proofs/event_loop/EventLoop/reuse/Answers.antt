use Rattle.gateway_loop.proofs.Words.{◌≡◌, ◌∷◌, ◌∙◌, [], List, ap, beside, map, refl, subst, sym, HandedJob, Manner, StreamValue}
use Rattle.branch_asking.specs.Asking.{BackendValue, HasLookedAt}
use Rattle.branch_asking.specs.Streams.{IsReadyFor}
use Rattle.gateway_loop.proofs.AskLemmas.{goes_again, goes_kept, goes_same}
use Rattle.gateway_loop.proofs.FairLemmas.{keeps_again, keeps_kept, left_push}
use Rattle.gateway_loop.proofs.KeptLemmas.{looked_same, out_moves, ready}
use Rattle.gateway_loop.proofs.Places.{put_set, set_same}
use Rattle.gateway_loop.proofs.event_loop.EventLoop.reuse.Goals as goal

-- none is kept for its address
pub invariant_of-self-in_default-take : goal.invariant_of-self-in_default-take
invariant_of-self-in_default-take g c = rw (set_same _ _ _ (sym c.in-Some.ensures.value), c.in_default-take.ensures) c.self.invariant

pub returns-in_default-take : goal.returns-in_default-take
returns-in_default-take g c = record { goes = rw (← c.self.view_is) (rw (set_same _ _ _ (sym c.in-Some.ensures.value), c.in_default-take.ensures) (goes_same _)) }

pub reuse-requires : goal.reuse-requires
reuse-requires g c =
    let i = c.self.inside in
    let asking = c.in-Some.asking.now in
    let took = c.in-Some-take.ensures in
    let address = c.address.ensures ∙ ap (λ (j : HandedJob). j.job.address) c.job.ensures in
    subst (λ (m : Manner). IsReadyFor m asking.job.job.address c.in-Some-take.stream.stream) (sym (c.self.invariant.1 c.args.place asking (sym c.in-Some.ensures.value)).0)
    (ready i.manner i.kept c.take.new.self took.0 took.1 asking.job.job.address c.in-Some-take.stream.stream (took.2 ∙ address) took.3 c.self.invariant.0.shared.kept_are)

-- the job goes over it
pub invariant_of-self-in_default-reuse : goal.invariant_of-self-in_default-reuse
invariant_of-self-in_default-reuse g c =
    let i = c.self.inside in
    let took = c.in-Some-take.ensures in
    keeps_again i.manner i.kept c.take.new.self (map (λ s. s.0.stream) i.left.items) (map (λ f. f.0) i.looked_up.items) i.clients i.asking.slots _ i.ended.items c.args.place c.in-Some.asking.now c.reuse.new.self took.0 c.in-Some-take.stream.stream
    (sym c.in-Some.ensures.value) c.in_default-reuse.ensures.job c.in_default-reuse.ensures.manner c.in_default-reuse.ensures.found
    (put_set i.asking.slots c.args.place c.in-Some.asking.now c.reuse.new.self (sym c.in-Some.ensures.value)) c.begun_law.ensures.begun c.begun_law.ensures.untouched took.3
    (c.in_default-reuse.ensures.goes refl) (out_moves i.manner i.kept c.take.new.self took.0 took.1 took.0.stream (looked_same took.0.stream took.0.stream refl)) c.self.invariant

pub returns-in_default-reuse : goal.returns-in_default-reuse
returns-in_default-reuse g c =
    let i = c.self.inside in
    let took = c.in-Some-take.ensures in
    record {
      goes = rw (← c.self.view_is)
          (goes_again i.asking.slots _ c.args.place i.manner i.clients i.ended.items (beside i.kept (map (λ s. s.0.stream) i.left.items) i.closing (map (λ f. f.0) i.looked_up.items) i.names) c.take.new.self c.in-Some.asking.now c.reuse.new.self took.0
          c.in-Some-take.stream.stream (sym c.in-Some.ensures.value) (put_set i.asking.slots c.args.place c.in-Some.asking.now c.reuse.new.self (sym c.in-Some.ensures.value)) c.in_default-reuse.ensures.on took.3
          (c.in_default-reuse.ensures.goes refl) (out_moves i.manner i.kept c.take.new.self took.0 took.1 took.0.stream (looked_same took.0.stream took.0.stream refl)) _);
    }

-- it can't be used, and is closed
pub invariant_of-self-2 : goal.invariant_of-self-2
invariant_of-self-2 g c =
    let i = c.self.inside in
    let took = c.in-Some-take.ensures in
    let back = c.in-Some-reuse.ensures.back in
    rw (back.0, set_same _ _ _ (sym c.in-Some.ensures.value))
    (keeps_kept i.manner i.kept c.take.new.self (map (λ s. s.0.stream) i.left.items) (map (λ s. s.0.stream) c.close.new.left.items) (c.in-Some-reuse.stream.stream ∷ []) (map (λ f. f.0) i.looked_up.items) i.clients i.asking.slots i.ended.items
    (out_moves i.manner i.kept c.take.new.self took.0 took.1 c.in-Some-reuse.stream.stream (subst (λ (s : StreamValue). HasLookedAt s c.in-Some-reuse.stream.stream) took.3 back.1))
    (left_push (λ (b : BackendValue). b.stream) i.left.items c.close.new.left.items c.in-Some-reuse.stream _ c.close.ensures.noted refl) c.self.invariant)

pub returns : goal.returns
returns g c =
    let i = c.self.inside in
    let took = c.in-Some-take.ensures in
    let back = c.in-Some-reuse.ensures.back in
    record {
      goes = rw (← c.self.view_is)
          (rw (back.0, set_same _ _ _ (sym c.in-Some.ensures.value))
          (goes_kept i.manner i.clients i.asking.slots i.ended.items (beside i.kept (map (λ s. s.0.stream) i.left.items) i.closing (map (λ f. f.0) i.looked_up.items) i.names) c.take.new.self (map (λ s. s.0.stream) c.close.new.left.items)
          (c.in-Some-reuse.stream.stream ∷ []) (out_moves i.manner i.kept c.take.new.self took.0 took.1 c.in-Some-reuse.stream.stream (subst (λ (s : StreamValue). HasLookedAt s c.in-Some-reuse.stream.stream) took.3 back.1))
          (left_push (λ (b : BackendValue). b.stream) i.left.items c.close.new.left.items c.in-Some-reuse.stream _ c.close.ensures.noted refl) c.close.ensures.closed));
    }
