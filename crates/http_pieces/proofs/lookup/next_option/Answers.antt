use Rattle.std.proofs.Common.{sym}
use Rattle.std.proofs.lemmas.List.{take_rest}
use Rattle.http_pieces.proofs.FieldLemmas.{cut_at}
use Rattle.http_pieces.proofs.lookup.next_option.Goals as goal

pub returns-in-Some-clause-parts : goal.returns-in-Some-clause-parts
returns-in-Some-clause-parts c = rw (take_rest c.args.options.now) (cut_at _ _ (sym c.in-Some.ensures))
