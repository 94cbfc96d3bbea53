use Rattle.gateway_replies.proofs.Names.{◌∙◌, ◌<◌, ap, subst, sym, length, Some}
use Rattle.gateway_replies.specs.Ties.{AreOthers, IsAt}
use Rattle.gateway_replies.specs.declared.contexts.peer.Peer.{Peer}
use Rattle.gateway_replies.proofs.PlaceLemmas.{ctx_at, no_ctx, others_before, others_left}
use Rattle.gateway_replies.proofs.contexts.remove_peer.Goals as goal

pub returns-in_err-place-clause-ctx : goal.returns-in_err-place-clause-ctx
returns-in_err-place-clause-ctx g c =
    c.from_residual.ensures ∙ sym (no_ctx c.args.number c.args.peers.now.items (subst (λ ps. AreOthers c.args.number (length ps) ps) c.deref.ensures.value c.in_err-place.ensures.none))

pub returns-clause-ctx : goal.returns-clause-ctx
returns-clause-ctx g c =
    let ps = c.args.peers.now.items in
    let i = c.in_ok-place.place in
    let p = c.remove-peer.result in
    let low : i < length ps = subst (λ qs. i < length qs) c.deref.ensures.value c.in_ok-place.ensures.some in
    let at : IsAt c.args.number i ps = subst (IsAt c.args.number i) c.deref.ensures.value c.in_ok-place.ensures.its in
    ap (λ (q : Peer _). Some q.ctx) c.remove-peer.ensures.value ∙ sym (ctx_at c.args.number ps i p low (at p) (others_before c.args.number ps c.requires i p low (at p)))

pub returns-clause-left : goal.returns-clause-left
returns-clause-left g c =
    let ps = c.args.peers.now.items in
    let i = c.in_ok-place.place in
    let p = c.remove-peer.result in
    let low : i < length ps = subst (λ qs. i < length qs) c.deref.ensures.value c.in_ok-place.ensures.some in
    let at : IsAt c.args.number i ps = subst (IsAt c.args.number i) c.deref.ensures.value c.in_ok-place.ensures.its in
    c.remove-peer.ensures.items ∙ others_left c.args.number ps c.requires i p low (at p) (others_before c.args.number ps c.requires i p low (at p))
