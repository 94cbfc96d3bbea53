use Rattle.gateway_theory.specs.lemmas.CutLemmas.{any_cut}
use Rattle.gateway_theory.proofs.event_laws.pieces_law.Goals as goal

pub returns : goal.returns
returns c = any_cut c.request_laws.ensures
