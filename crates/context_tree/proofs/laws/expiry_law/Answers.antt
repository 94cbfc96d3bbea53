use Rattle.context_tree.proofs.Framing.{expires, expires_so}
use Rattle.context_tree.proofs.laws.expiry_law.Goals as goal

pub returns-clause-exactly : goal.returns-clause-exactly
returns-clause-exactly g c = expires

pub returns-clause-error : goal.returns-clause-error
returns-clause-error g c = expires_so
