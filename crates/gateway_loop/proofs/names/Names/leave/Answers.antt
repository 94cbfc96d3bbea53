use Rattle.gateway_loop.proofs.Words.{◌∙◌, ap}
use Rattle.gateway_loop.specs.Names.{names_of}
use Rattle.gateway_loop.proofs.NameLemmas.{same_names}
use Rattle.gateway_loop.proofs.names.Names.leave.Goals as goal
use Rattle.gateway_loop.proofs.names.Names.leave.Goals.{in-Some-get_mut, in_default-get_mut}

pub returns : goal.returns
returns c = elim c.match-get_mut.branch [
  | in-Some-get_mut w ↦ rw w.self-inside-is (same_names c.self.inside.places.entries _ (c.get_mut.follows.holds w.try_remove-place.new.self).1 ∙ c.self.view_is)
  | in_default-get_mut w ↦ rw w.self-inside-is (ap (λ m. names_of m.entries) c.get_mut.follows.holds-at-none ∙ c.self.view_is)
]
