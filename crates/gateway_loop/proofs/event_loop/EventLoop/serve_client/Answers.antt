use Rattle.gateway_loop.proofs.Words.{Goes}
use Rattle.gateway_loop.proofs.AskLemmas.{goes_same, goes_then}
use Rattle.gateway_loop.proofs.event_loop.EventLoop.serve_client.Goals as goal
use Rattle.gateway_loop.proofs.event_loop.EventLoop.serve_client.Goals.{then-matches, else-matches}

pub returns : goal.returns
returns g c =
    let after : Goes (g.N.Network.value c.tick.new.net) (g.N.Network.value c.if-matches.net) c.read_client-heard.new.self c.if-matches.self = elim c.if-matches.branch [
      | then-matches w ↦ rw (w.self-is, w.net-is) w.give_up_unwanted.ensures.goes
      | else-matches w ↦ rw (w.self-is, w.net-is) (goes_same _)
    ] in record { goes = goes_then _ _ _ c.tick.ensures.goes (goes_then _ _ _ (c.read_client-heard.ensures.goes _) (rw c.note.ensures after)) }

pub returns-then-is_to_go : goal.returns-then-is_to_go
returns-then-is_to_go g c = record { goes = goes_then _ _ _ c.tick.ensures.goes (goes_then _ _ _ (c.read_client-heard.ensures.goes _) c.drop_client.ensures.goes) }
