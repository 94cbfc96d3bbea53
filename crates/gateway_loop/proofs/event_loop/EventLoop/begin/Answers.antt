use Rattle.gateway_loop.proofs.Words.{◌≡◌, List, Option, None, Some, ap, sym, subst, ◌∙◌, slice_index_or, Slab, AskingState, HandedJob, beside, map}
use Rattle.gateway_loop.proofs.AskLemmas.{goes_begin, goes_still}
use Rattle.gateway_loop.proofs.FairLemmas.{takes_job, takes_none}
use Rattle.gateway_loop.proofs.Places.{Put, put_one}
use Rattle.gateway_loop.proofs.event_loop.EventLoop.begin.Goals as goal

pub invariant_of-self : goal.invariant_of-self
invariant_of-self g c =
    let slots : c.reserve.new.self.slots ≡ c.self.inside.asking.slots = ap (λ (s : Slab AskingState). s.slots) c.reserve.ensures.rest_kept in
    rw slots c.self.invariant

pub invariant_of-self-2 : goal.invariant_of-self-2
invariant_of-self-2 g c =
    let i = c.self.inside in
    let put = c.insert_reserved-place in
    let slots : c.reserve.new.self.slots ≡ i.asking.slots = ap (λ (s : Slab AskingState). s.slots) c.reserve.ensures.rest_kept in
    takes_job i.manner i.kept (map (λ s. s.0.stream) i.left.items) (map (λ f. f.0) i.looked_up.items) i.clients c.take_job.new.self i.asking.slots put.new.self.slots i.ended.items put.result c.new-asking.result c.in_ok-job.job.job
    c.in_ok-job.ensures.results c.in_ok-job.ensures.handed (ap (λ (j : HandedJob). j.job) c.new-asking.ensures.job) c.new-asking.ensures.manner c.new-asking.ensures.found c.new-asking.ensures.fresh.1
    (sym (ap (λ (old : List (Option AskingState)). slice_index_or old put.result None) slots) ∙ put.ensures.was_vacant)
    (subst (λ (old : List (Option AskingState)). Put old put.new.self.slots put.result (Some c.new-asking.result)) slots (put_one c.reserve.new.self put.new.self put.result _ put.ensures.updates))
    c.begun_law.ensures.begun c.begun_law.ensures.untouched c.self.invariant

pub invariant_of-self-in_err-job : goal.invariant_of-self-in_err-job
invariant_of-self-in_err-job g c =
    let i = c.self.inside in
    let slots : c.reserve.new.self.slots ≡ i.asking.slots = ap (λ (s : Slab AskingState). s.slots) c.reserve.ensures.rest_kept in
    takes_none i.manner i.kept (map (λ s. s.0.stream) i.left.items) (map (λ f. f.0) i.looked_up.items) i.clients c.take_job.new.self i.asking.slots c.reserve.new.self.slots i.ended.items c.in_err-job.ensures.results c.in_err-job.ensures.handed slots
    c.self.invariant

pub returns : goal.returns
returns g c =
    let i = c.self.inside in
    let put = c.insert_reserved-place in
    let slots : c.reserve.new.self.slots ≡ i.asking.slots = ap (λ (s : Slab AskingState). s.slots) c.reserve.ensures.rest_kept in record {
      goes = rw (← c.self.view_is) (λ a.
          goes_begin i.asking.slots put.new.self.slots put.result i.manner i.clients c.take_job.new.self i.ended.items (beside i.kept (map (λ s. s.0.stream) i.left.items) i.closing (map (λ f. f.0) i.looked_up.items) i.names) c.new-asking.result c.in_ok-job.ensures.goes c.in_ok-job.ensures.still
          (sym (ap (λ (old : List (Option AskingState)). slice_index_or old put.result None) slots) ∙ put.ensures.was_vacant)
          (subst (λ (old : List (Option AskingState)). Put old put.new.self.slots put.result (Some c.new-asking.result)) slots (put_one c.reserve.new.self put.new.self put.result _ put.ensures.updates))
          c.new-asking.ensures.fresh.0 c.new-asking.ensures.fresh.1 a);
    }

pub returns-in_err-job : goal.returns-in_err-job
returns-in_err-job g c =
    let i = c.self.inside in
    let slots : c.reserve.new.self.slots ≡ i.asking.slots = ap (λ (s : Slab AskingState). s.slots) c.reserve.ensures.rest_kept in record {
      goes = rw (← c.self.view_is, slots) (λ a. goes_still i.manner i.asking.slots i.ended.items (beside i.kept (map (λ s. s.0.stream) i.left.items) i.closing (map (λ f. f.0) i.looked_up.items) i.names) _ _ c.take_job.ensures.goes c.take_job.ensures.still);
    }
