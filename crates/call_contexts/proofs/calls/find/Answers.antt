use Rattle.call_contexts.proofs.Names.{◌∙◌, ap, sym, Some}
use Rattle.call_contexts.proofs.Order.{life_placed}
use Rattle.call_contexts.proofs.calls.find.Goals as goal

pub returns : goal.returns
returns c =
    let l = c.index-calls-place.result in
    ap (λ k. Some k) c.index-calls-place.is ∙ sym (life_placed c.args.ctx c.args.calls.now c.requires c.in_ok-place.place l c.in_ok-place.ensures.some (c.in_ok-place.ensures.its l))
