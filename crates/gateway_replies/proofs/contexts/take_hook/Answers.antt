use Rattle.gateway_replies.proofs.Names.{◌∙◌, ◌<◌, None, Some, ap, refl, subst, sym, length, eq-eqb}
use Rattle.gateway_replies.specs.Ties.{AreOthers, IsAt}
use Rattle.gateway_replies.specs.declared.contexts.peer.Peer.{Peer}
use Rattle.gateway_replies.proofs.ContextLemmas.{ties_set}
use Rattle.gateway_replies.proofs.HookLemmas.{no_stock, taken_at}
use Rattle.gateway_replies.proofs.PlaceLemmas.{ctx_at, others_before}
use Rattle.gateway_replies.proofs.contexts.take_hook.Goals as goal

pub returns-in_err-place-clause-taken : goal.returns-in_err-place-clause-taken
returns-in_err-place-clause-taken g c =
    rw c.from_residual.ensures (no_stock c.args.number c.args.peers.now.items (subst (λ ps. AreOthers c.args.number (length ps) ps) c.deref.ensures.value c.in_err-place.ensures.none), refl)

pub returns-in_err-hook-clause-ties : goal.returns-in_err-hook-clause-ties
returns-in_err-hook-clause-ties g c = ties_set c.args.peers.now.items c.in_ok-place.place c.index_mut-peer.result.now _ refl c.index_mut-peer.ensures.value

pub returns-in_err-hook-clause-taken : goal.returns-in_err-hook-clause-taken
returns-in_err-hook-clause-taken g c =
    let ps = c.args.peers.now.items in
    let i = c.in_ok-place.place in
    let p : Peer _ = c.index_mut-peer.result.now in
    let low : i < length ps = subst (λ (qs : _). i < length qs) c.deref.ensures.value c.in_ok-place.ensures.some in
    let at : IsAt c.args.number i ps = subst (IsAt c.args.number i) c.deref.ensures.value c.in_ok-place.ensures.its in
    let own = eq-eqb p.number c.args.number (ap (λ (q : Peer _). q.number) c.index_mut-peer.ensures.value ∙ at p) in
    rw c.from_residual-in_err-hook.ensures (taken_at c.args.number i ps p (record { number = p.number; ctx = p.ctx; stock = c.take_first.new.stock }) None low c.index_mut-peer.ensures.value own refl
    (others_before c.args.number ps c.requires i p low (at p)) tt c.in_err-hook.ensures.none)

pub returns-clause-ties : goal.returns-clause-ties
returns-clause-ties g c = ties_set c.args.peers.now.items c.in_ok-place.place c.index_mut-peer.result.now _ refl c.index_mut-peer.ensures.value

pub returns-clause-ctx : goal.returns-clause-ctx
returns-clause-ctx g c =
    let ps = c.args.peers.now.items in
    let i = c.in_ok-place.place in
    let p : Peer _ = c.index_mut-peer.result.now in
    let low : i < length ps = subst (λ (qs : _). i < length qs) c.deref.ensures.value c.in_ok-place.ensures.some in
    let at : IsAt c.args.number i ps = subst (IsAt c.args.number i) c.deref.ensures.value c.in_ok-place.ensures.its in
    ctx_at c.args.number ps i p low (at p) (others_before c.args.number ps c.requires i p low (at p)) ∙ ap (λ (q : Peer _). Some q.ctx) (sym c.index_mut-peer.ensures.value)

pub returns-clause-taken : goal.returns-clause-taken
returns-clause-taken g c =
    let ps = c.args.peers.now.items in
    let i = c.in_ok-place.place in
    let p : Peer _ = c.index_mut-peer.result.now in
    let low : i < length ps = subst (λ (qs : _). i < length qs) c.deref.ensures.value c.in_ok-place.ensures.some in
    let at : IsAt c.args.number i ps = subst (IsAt c.args.number i) c.deref.ensures.value c.in_ok-place.ensures.its in
    let own = eq-eqb p.number c.args.number (ap (λ (q : Peer _). q.number) c.index_mut-peer.ensures.value ∙ at p) in
    taken_at c.args.number i ps p (record { number = p.number; ctx = p.ctx; stock = c.take_first.new.stock }) (Some c.in_ok-hook.hook) low c.index_mut-peer.ensures.value own refl
    (others_before c.args.number ps c.requires i p low (at p)) c.in_ok-hook.ensures.first tt
