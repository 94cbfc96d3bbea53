use Rattle.gateway_loop.proofs.Words.{◌∙◌}
use Rattle.gateway_loop.proofs.NameLemmas.{some_among}
use Rattle.gateway_loop.proofs.names.Names.waits_for.Goals as goal

pub returns : goal.returns
returns c = rw (← c.self.view_is) (c.contains_key.ensures ∙ some_among c.args.name.now c.self.inside.places.entries)
