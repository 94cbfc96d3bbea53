use Rattle.gateway_loop.proofs.Words.{◌≡◌, ◌∷◌, ◌∙◌, [], List, append-nil, beside, map, refl, sym, ⊎_elim, KeptValue}
use Rattle.branch_asking.specs.Asking.{BackendValue}
use Rattle.gateway_loop.specs.Kept.{OneIsQuiet}
use Rattle.gateway_loop.proofs.AskLemmas.{goes_kept, goes_unkept}
use Rattle.gateway_loop.proofs.FairLemmas.{keeps_kept, left_push}
use Rattle.gateway_loop.proofs.KeptLemmas.{Moves, none_moves, out_moves, quiet_moves}
use Rattle.gateway_loop.proofs.event_loop.EventLoop.look_at_kept.Goals as goal

pub invariant_of-self : goal.invariant_of-self
invariant_of-self g c =
    let i = c.self.inside in
    let out = c.in-Some.ensures in
    keeps_kept i.manner i.kept c.look.new.self (map (λ s. s.0.stream) i.left.items) (map (λ s. s.0.stream) c.close.new.left.items) (c.in-Some.stream.stream ∷ []) (map (λ f. f.0) i.looked_up.items) i.clients i.asking.slots i.ended.items
    (out_moves i.manner i.kept c.look.new.self out.0 out.1 c.in-Some.stream.stream out.2)
    (left_push (λ (b : BackendValue). b.stream) i.left.items c.close.new.left.items c.in-Some.stream _ c.close.ensures.noted refl) c.self.invariant

quiet_or_same : goal.invariant_of-self-in-None
quiet_or_same g c =
    let i = c.self.inside in
    keeps_kept i.manner i.kept c.look.new.self (map (λ s. s.0.stream) i.left.items) (map (λ s. s.0.stream) i.left.items) [] (map (λ f. f.0) i.looked_up.items) i.clients i.asking.slots i.ended.items
    (⊎_elim (λ (same : c.look.new.self ≡ i.kept). none_moves i.manner i.kept c.look.new.self same) (λ (one : OneIsQuiet i.kept c.look.new.self). quiet_moves i.manner i.kept c.look.new.self one) c.in-None.ensures)
    (sym (append-nil _)) c.self.invariant

pub invariant_of-self-in-None : goal.invariant_of-self-in-None
invariant_of-self-in-None g c = quiet_or_same g c

pub returns-in-Some-clause-rest : goal.returns-in-Some-clause-rest
returns-in-Some-clause-rest g c =
    let i = c.self.inside in
    rw (← c.self.view_is) record {
      rest = refl;
      left = (c.in-Some.stream.stream ∷ [], left_push (λ (b : BackendValue). b.stream) i.left.items c.close.new.left.items c.in-Some.stream _ c.close.ensures.noted refl);
    }

pub returns-in-Some-clause-goes : goal.returns-in-Some-clause-goes
returns-in-Some-clause-goes g c =
    let i = c.self.inside in
    let out = c.in-Some.ensures in
    rw (← c.self.view_is)
    (goes_kept i.manner i.clients i.asking.slots i.ended.items (beside i.kept (map (λ s. s.0.stream) i.left.items) i.closing (map (λ f. f.0) i.looked_up.items) i.names) c.look.new.self
    (map (λ s. s.0.stream) c.close.new.left.items) (c.in-Some.stream.stream ∷ []) (out_moves i.manner i.kept c.look.new.self out.0 out.1 c.in-Some.stream.stream out.2)
    (left_push (λ (b : BackendValue). b.stream) i.left.items c.close.new.left.items c.in-Some.stream _ c.close.ensures.noted refl) c.close.ensures.closed)

pub returns-in-None-clause-goes : goal.returns-in-None-clause-goes
returns-in-None-clause-goes g c =
    let i = c.self.inside in
    rw (← c.self.view_is)
    (goes_unkept i.manner i.clients i.asking.slots i.ended.items (beside i.kept (map (λ s. s.0.stream) i.left.items) i.closing (map (λ f. f.0) i.looked_up.items) i.names) c.look.new.self
    (⊎_elim (λ (same : c.look.new.self ≡ i.kept). none_moves i.manner i.kept c.look.new.self same) (λ (one : OneIsQuiet i.kept c.look.new.self). quiet_moves i.manner i.kept c.look.new.self one) c.in-None.ensures))
