use Rattle.gateway_loop.proofs.Words.{◌<◌, ◌∙◌, ◌∷◌, ◌++◌, [], ap, length, rules, ClosedValue}
use Rattle.gateway_loop.proofs.ClosingLemmas.{closes_one}
use Rattle.gateway_loop.proofs.closing.ClosingStreams.note_ready.Goals as goal

pub returns : goal.returns
returns g c =
    let lt : c.in-Some.index < length c.self.inside.waiting.items = search rules in
    let net = g.N.Network.value c.args.net.now in
    rw (← c.self.view_is) (closes_one _ _ c.in-Some-remove.ended c.self.inside.waiting.items c.remove.new.self.items c.in-Some.index lt c.in-Some-remove.ensures.value c.in-Some-remove.ensures.items
    (c.close.ensures.closed ∙ ap (λ (s : ClosedValue). record net { closed = net.closed ++ s ∷ [] }) c.into_wire.ensures))
