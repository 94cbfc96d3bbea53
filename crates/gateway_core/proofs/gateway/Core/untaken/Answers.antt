use Rattle.gateway_core.proofs.Names.{sym, ◌∙◌, length, ◌≡◌, untaken_of, gateway_of}
use Rattle.gateway_core.proofs.StepLemmas.{at_both}
use Rattle.gateway_core.proofs.TakenLemmas.{untaken_is}
use Rattle.gateway_model.specs.Queue.{front}
use Rattle.gateway_core.proofs.gateway.Core.untaken.Goals as goal

pub returns-in-Some : goal.returns-in-Some
returns-in-Some g c = c.untaken.ensures ∙ at_both (λ m x. length (front c.in-Some.held.now.slots) ≡ length (untaken_of m x)) c.number.ensures c.self.view_is (untaken_is c.number.result c.in-Some.held.now (gateway_of c.self.inside.shared c.self.inside.conns.entries c.self.inside.opened c.self.inside.tally) c.self.invariant.serving (sym c.in-Some.ensures.value))
