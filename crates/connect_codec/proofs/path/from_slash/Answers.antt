use Rattle.std.proofs.Common.{sym, ◌∙◌}
use Rattle.std.proofs.lemmas.List.{take_rest}
use Rattle.connect_codec.proofs.PathLemmas.{from_slash_found, from_slash_missing}
use Rattle.connect_codec.proofs.path.from_slash.Goals as goal

pub returns-in_err-slash : goal.returns-in_err-slash
returns-in_err-slash c = rw (c.from_residual.ensures) (sym (from_slash_missing c.args.text.now (sym c.index_of.ensures ∙ c.in_err-slash.was)))

pub returns : goal.returns
returns c = rw (take_rest c.args.text.now) (sym (from_slash_found c.args.text.now _ (sym c.index_of.ensures ∙ c.in_ok-slash.was)))
