use Rattle.connections.proofs.Lemmas.{Counts-of}
use Rattle.connections.proofs.sides.read_side.Goals as goal

pub returns-clause-read : goal.returns-clause-read
returns-clause-read g c = Counts-of _ _ _ _ _ _ _ _ _ c.pump-fed.ensures
