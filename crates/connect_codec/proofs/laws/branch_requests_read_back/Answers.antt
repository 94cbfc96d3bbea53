use Rattle.connect_codec.proofs.ReadBackLemmas.{call_reads_back}
use Rattle.connect_codec.proofs.laws.branch_requests_read_back.Goals as goal

pub returns : goal.returns
returns c = call_reads_back
