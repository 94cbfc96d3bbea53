use Rattle.gateway_loop.proofs.Words.{◌≡◌, ◌∷◌, ◌∙◌, [], List, ap, append-nil, beside, map, refl, sym, KeptValue, length}
use Rattle.branch_asking.specs.Asking.{BackendValue}
use Rattle.gateway_loop.proofs.AskLemmas.{goes_kept, goes_unkept}
use Rattle.gateway_loop.proofs.FairLemmas.{keeps_kept, left_push}
use Rattle.gateway_loop.proofs.KeptLemmas.{looked_same, none_moves, one_fewer, out_moves}
use Rattle.gateway_loop.proofs.event_loop.EventLoop.close_kept_due.Goals as goal

pub invariant_of-self : goal.invariant_of-self
invariant_of-self g c =
    let i = c.self.inside in
    let out = c.in-Some.ensures in
    keeps_kept i.manner i.kept c.take_due.new.self (map (λ s. s.0.stream) i.left.items) (map (λ s. s.0.stream) c.close.new.left.items) (c.in-Some.stream.stream ∷ []) (map (λ f. f.0) i.looked_up.items) i.clients i.asking.slots i.ended.items
    (out_moves i.manner i.kept c.take_due.new.self out.0 out.1 c.in-Some.stream.stream (looked_same out.0.stream c.in-Some.stream.stream out.2))
    (left_push (λ (b : BackendValue). b.stream) i.left.items c.close.new.left.items c.in-Some.stream _ c.close.ensures.noted refl) c.self.invariant

pub returns-in-Some : goal.returns-in-Some
returns-in-Some g c =
    let i = c.self.inside in
    let out = c.in-Some.ensures in record {
      goes = rw (← c.self.view_is)
          (goes_kept i.manner i.clients i.asking.slots i.ended.items (beside i.kept (map (λ s. s.0.stream) i.left.items) i.closing (map (λ f. f.0) i.looked_up.items) i.names) c.take_due.new.self
          (map (λ s. s.0.stream) c.close.new.left.items) (c.in-Some.stream.stream ∷ []) (out_moves i.manner i.kept c.take_due.new.self out.0 out.1 c.in-Some.stream.stream (looked_same out.0.stream c.in-Some.stream.stream out.2))
          (left_push (λ (b : BackendValue). b.stream) i.left.items c.close.new.left.items c.in-Some.stream _ c.close.ensures.noted refl) c.close.ensures.closed);
    }
