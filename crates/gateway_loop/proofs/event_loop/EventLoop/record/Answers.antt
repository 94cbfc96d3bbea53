use Rattle.gateway_loop.proofs.Words.{◌≡◌, ◌∙◌, ◌∷◌, ◌++◌, [], List, None, Option, Some, ap, append-nil, map, subst, sym, AskingState, ClosedValue, HandedJob, StreamValue, asked_for, beside, closed_stream}
use Rattle.branch_asking.specs.Asking.{BackendValue}
use Rattle.gateway_loop.specs.Closing.{ClosesFrom}
use Rattle.gateway_loop.proofs.AskLemmas.{goes_ended}
use Rattle.gateway_loop.proofs.FairLemmas.{ends_one, left_push, shares_stay}
use Rattle.gateway_loop.proofs.ClosingLemmas.{closes_none}
use Rattle.gateway_loop.proofs.CountLemmas.{shown_goes}
use Rattle.gateway_loop.proofs.KeptLemmas.{record_parts, shown_streams}
use Rattle.gateway_loop.proofs.Places.{put_one}
use Rattle.gateway_loop.proofs.event_loop.EventLoop.record.Goals as goal
use Rattle.gateway_loop.proofs.event_loop.EventLoop.record.Goals.{in-Some, in_default-keep}

-- nothing was there
pub invariant_of-self : goal.invariant_of-self
invariant_of-self g c = rw c.in_err-asking.ensures.absent c.self.invariant

-- its stream is left
pub invariant_of-self-in-Some : goal.invariant_of-self-in-Some
invariant_of-self-in-Some g c =
    let i = c.self.inside in
    let y = c.conclude-outcome.new.self in
    let o = c.conclude-outcome.result.outcome in
    let same = c.conclude-outcome.ensures.manner ∙ (c.self.invariant.1 c.args.place c.in_ok-asking.asking (sym c.in_ok-asking.ensures.value)).0 in
    let parted =
    record_parts i.manner y.manner (asked_for y) o same c.conclude-outcome.ensures.fair i.kept c.keep.new.self c.may_be_kept-may_keep.result c.conclude-outcome.result.is_whole c.into_parts-job.result.2 c.keep.result
    c.address.result.now c.into_parts-job.ensures.stream (c.address.ensures ∙ ap (λ (j : HandedJob). j.job.address) c.into_parts-job.ensures.job) c.may_be_kept-may_keep.ensures.whole c.conclude-outcome.ensures.whole
    c.keep.ensures in
    let put = put_one i.asking c.try_remove.new.self c.args.place _ c.try_remove.ensures.updates in
    ends_one i.manner i.kept (map (λ s. s.0.stream) i.left.items) (map (λ f. f.0) i.looked_up.items) i.clients c.record.new.self i.asking.slots c.try_remove.new.self.slots i.ended.items c.and-self-inside.result.items
    c.keep.new.self (map (λ s. s.0.stream) c.and-self-inside-in-Some.result.items) (shown_streams c.keep.result) c.args.place c.in_ok-asking.asking y o
    c.into_parts-job.result.0 c.record.ensures.results c.record.ensures.handed (sym c.in_ok-asking.ensures.value) c.conclude-outcome.ensures.job c.conclude-outcome.ensures.manner c.conclude-outcome.ensures.found
    (shares_stay c.in_ok-asking.asking y c.conclude-outcome.ensures.streams) c.into_parts-job.ensures.job put c.and-self-inside.ensures parted
    (left_push (λ (b : BackendValue). b.stream) i.left.items c.and-self-inside-in-Some.result.items c.in-Some.stream _ c.and-self-inside-in-Some.ensures (ap shown_streams (sym c.in-Some.is)))
    c.conclude-outcome.ensures.fair c.self.invariant

-- .. or it is kept, or there was none
pub invariant_of-self-in_default-keep : goal.invariant_of-self-in_default-keep
invariant_of-self-in_default-keep g c =
    let i = c.self.inside in
    let y = c.conclude-outcome.new.self in
    let o = c.conclude-outcome.result.outcome in
    let same = c.conclude-outcome.ensures.manner ∙ (c.self.invariant.1 c.args.place c.in_ok-asking.asking (sym c.in_ok-asking.ensures.value)).0 in
    let parted =
    record_parts i.manner y.manner (asked_for y) o same c.conclude-outcome.ensures.fair i.kept c.keep.new.self c.may_be_kept-may_keep.result c.conclude-outcome.result.is_whole c.into_parts-job.result.2 c.keep.result
    c.address.result.now c.into_parts-job.ensures.stream (c.address.ensures ∙ ap (λ (j : HandedJob). j.job.address) c.into_parts-job.ensures.job) c.may_be_kept-may_keep.ensures.whole c.conclude-outcome.ensures.whole
    c.keep.ensures in
    let put = put_one i.asking c.try_remove.new.self c.args.place _ c.try_remove.ensures.updates in
    ends_one i.manner i.kept (map (λ s. s.0.stream) i.left.items) (map (λ f. f.0) i.looked_up.items) i.clients c.record.new.self i.asking.slots c.try_remove.new.self.slots i.ended.items c.and-self-inside.result.items
    c.keep.new.self (map (λ s. s.0.stream) i.left.items) (shown_streams c.keep.result) c.args.place c.in_ok-asking.asking y o
    c.into_parts-job.result.0 c.record.ensures.results c.record.ensures.handed (sym c.in_ok-asking.ensures.value) c.conclude-outcome.ensures.job c.conclude-outcome.ensures.manner c.conclude-outcome.ensures.found
    (shares_stay c.in_ok-asking.asking y c.conclude-outcome.ensures.streams) c.into_parts-job.ensures.job put c.and-self-inside.ensures parted
    (sym (append-nil _) ∙ ap (λ (l : List StreamValue). map (λ s. s.0.stream) i.left.items ++ l) (ap shown_streams (sym c.in_default-keep.is)))
    c.conclude-outcome.ensures.fair c.self.invariant

pub returns-clause-goes : goal.returns-clause-goes
returns-clause-goes g c =
    let i = c.self.inside in
    let y = c.conclude-outcome.new.self in
    let o = c.conclude-outcome.result.outcome in
    let same = c.conclude-outcome.ensures.manner ∙ (c.self.invariant.1 c.args.place c.in_ok-asking.asking (sym c.in_ok-asking.ensures.value)).0 in
    let parted =
    record_parts i.manner y.manner (asked_for y) o same c.conclude-outcome.ensures.fair i.kept c.keep.new.self c.may_be_kept-may_keep.result c.conclude-outcome.result.is_whole c.into_parts-job.result.2 c.keep.result
    c.address.result.now c.into_parts-job.ensures.stream (c.address.ensures ∙ ap (λ (j : HandedJob). j.job.address) c.into_parts-job.ensures.job) c.may_be_kept-may_keep.ensures.whole c.conclude-outcome.ensures.whole
    c.keep.ensures in
    let put = put_one i.asking c.try_remove.new.self c.args.place _ c.try_remove.ensures.updates in
    let net = g.N.Network.value c.args.net.now in
    rw (← c.self.view_is) (elim c.match-keep.branch [
      | in-Some w ↦
          let gone = ap shown_streams (sym w.in-Some.is) in
          rw (w.self-is, w.net-is)
          (goes_ended i.asking.slots c.try_remove.new.self.slots c.args.place i.manner i.clients c.record.new.self i.ended.items c.and-self-inside.result.items (beside i.kept (map (λ s. s.0.stream) i.left.items) i.closing (map (λ f. f.0) i.looked_up.items) i.names)
          c.keep.new.self (map (λ s. s.0.stream) w.and-self-inside-in-Some.result.items) (shown_streams c.keep.result) w.put.new.self c.in_ok-asking.asking y o c.record.ensures.goes c.record.ensures.still (sym c.in_ok-asking.ensures.value) put c.and-self-inside.ensures
          c.conclude-outcome.ensures.on c.conclude-outcome.ensures.streams parted
          (left_push (λ (b : BackendValue). b.stream) i.left.items w.and-self-inside-in-Some.result.items w.in-Some.stream _ w.and-self-inside-in-Some.ensures gone)
          (subst (λ (l : List ClosedValue). ClosesFrom net (g.N.Network.value w.put.new.net) l w.put.new.self) (ap (λ (v : ClosedValue). v ∷ i.closing) w.into_wire.ensures ∙ ap (λ (l : List StreamValue). map closed_stream l ++ i.closing) gone) w.put.ensures))
      | in_default-keep w ↦
          let none = ap shown_streams (sym w.in_default-keep.is) in
          rw (w.self-is, w.net-is)
          (goes_ended i.asking.slots c.try_remove.new.self.slots c.args.place i.manner i.clients c.record.new.self i.ended.items c.and-self-inside.result.items (beside i.kept (map (λ s. s.0.stream) i.left.items) i.closing (map (λ f. f.0) i.looked_up.items) i.names)
          c.keep.new.self (map (λ s. s.0.stream) i.left.items) (shown_streams c.keep.result) i.closing c.in_ok-asking.asking y o c.record.ensures.goes c.record.ensures.still (sym c.in_ok-asking.ensures.value) put c.and-self-inside.ensures
          c.conclude-outcome.ensures.on c.conclude-outcome.ensures.streams parted
          (sym (append-nil _) ∙ ap (λ (l : List StreamValue). map (λ s. s.0.stream) i.left.items ++ l) none)
          (subst (λ (l : List StreamValue). ClosesFrom net net (map closed_stream l ++ i.closing) i.closing) none (closes_none net i.closing)))
    ])

pub returns-clause-fewer : goal.returns-clause-fewer
returns-clause-fewer g c =
    let i = c.self.inside in
    let put = put_one i.asking c.try_remove.new.self c.args.place _ c.try_remove.ensures.updates in
    rw (← c.self.view_is) (elim c.match-keep.branch [
      | in-Some w ↦ rw w.self-is (λ there. shown_goes (λ (x : AskingState). asked_for x) i.asking.slots c.try_remove.new.self.slots c.args.place c.in_ok-asking.asking (sym c.in_ok-asking.ensures.value) put)
      | in_default-keep w ↦ rw w.self-is (λ there. shown_goes (λ (x : AskingState). asked_for x) i.asking.slots c.try_remove.new.self.slots c.args.place c.in_ok-asking.asking (sym c.in_ok-asking.ensures.value) put)
    ])
