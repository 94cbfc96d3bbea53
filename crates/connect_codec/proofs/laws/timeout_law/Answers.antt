use Rattle.connect_codec.proofs.TimeoutLemmas.{verdict_low}
use Rattle.connect_codec.proofs.laws.timeout_law.Goals as goal

pub returns : goal.returns
returns c = verdict_low
