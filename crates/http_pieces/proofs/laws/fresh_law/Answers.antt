use Rattle.std.proofs.Common.{ℕ, List, [], Option, Some, length, refl, ap, arith}
use Rattle.std.specs.Option.{option_map_or}
use Rattle.http_pieces.specs.Looked.{HasLooked}
use Rattle.http_pieces.specs.ReplyHead.{reply_kind}
use Rattle.http_pieces.specs.Requests.{unfinished}
use Rattle.http_pieces.proofs.CutLemmas.{kind_empty}
use Rattle.http_pieces.proofs.RequestsLemmas.{cut_empty}
use Rattle.http_pieces.proofs.laws.fresh_law.Goals as goal

nothing_looked : HasLooked 0 (Some []) []
nothing_looked = record {
  twice = omega arith;
  once = λ text e none. omega (arith, ap (λ (o : Option (List ℕ)). option_map_or (λ t. length t) o 0) e);
}

pub returns-clause-requests : goal.returns-clause-requests
returns-clause-requests c = record { count = refl; reads = unfinished (cut_empty 0) refl; looked = nothing_looked }

pub returns-clause-reply : goal.returns-clause-reply
returns-clause-reply c = λ framing. record { reads = (refl, refl, kind_empty (reply_kind framing)); looked = nothing_looked }
