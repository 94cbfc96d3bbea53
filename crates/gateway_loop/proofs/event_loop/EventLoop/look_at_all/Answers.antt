use Rattle.gateway_loop.proofs.Words.{Goes}
use Rattle.gateway_loop.proofs.AskLemmas.{goes_same, goes_then}
use Rattle.gateway_loop.proofs.event_loop.EventLoop.look_at_all.Goals as goal
use Rattle.gateway_loop.proofs.event_loop.EventLoop.look_at_all.Goals.{then-has_news, else-has_news}

pub loop-place-preserved : goal.loop-place-preserved
loop-place-preserved g c =
    let net = g.N.Network.value c.loop-place.net in
    let noted : Goes net net c.loop-place.self c.if-has_news.self = elim c.if-has_news.branch [
      | then-has_news w ↦ rw (w.self-is, w.note.ensures) (goes_same _)
      | else-has_news w ↦ rw w.self-is (goes_same _)
    ] in
    goes_then _ _ _ c.loop-place.invariant (goes_then _ _ _ noted c.give_up_unwanted.ensures.goes)

pub returns : goal.returns
returns g c = record { goes = c.loop-place.invariant }
