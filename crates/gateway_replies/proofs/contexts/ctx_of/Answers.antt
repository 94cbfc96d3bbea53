use Rattle.gateway_replies.proofs.Names.{◌∙◌, sym}
use Rattle.gateway_replies.proofs.PlaceLemmas.{ctx_at, no_ctx, others_before}
use Rattle.gateway_replies.proofs.contexts.ctx_of.Goals as goal

pub returns-in_err-place : goal.returns-in_err-place
returns-in_err-place g c = c.from_residual.ensures ∙ sym (no_ctx c.args.number c.args.peers.now c.in_err-place.ensures.none)

pub returns : goal.returns
returns g c =
    let at = c.in_ok-place.ensures in
    let p = c.index-peers-place.result in
    sym (ctx_at c.args.number c.args.peers.now c.in_ok-place.place p at.some (at.its p) (others_before c.args.number c.args.peers.now c.requires c.in_ok-place.place p at.some (at.its p)))
