use Rattle.std.proofs.Common.{sym}
use Rattle.connect_codec.proofs.PathLemmas.{path_of-none, path_of-some}
use Rattle.connect_codec.proofs.path.path_in.Goals as goal

pub returns-in_err-path_and_query : goal.returns-in_err-path_and_query
returns-in_err-path_and_query c = rw (c.from_residual.ensures) (sym (path_of-none c.args.target.now (sym c.in_err-path_and_query.ensures)))

pub returns : goal.returns
returns c = rw (c.until.ensures) (sym (path_of-some c.args.target.now _ (sym c.in_ok-path_and_query.ensures)))
