use Rattle.gateway_loop.proofs.Words.{◌∙◌, List, ℕ, Option, ap, subst, sym, Contains, is_some}
use Rattle.gateway_loop.specs.Names.{names_of}
use Rattle.gateway_loop.proofs.NameLemmas.{left_there, not_among, some_among, stays_there}
use Rattle.gateway_loop.proofs.names.Names.found.Goals as goal

pub returns : goal.returns
returns c =
    let name = c.args.name.now in
    let old = c.self.inside.places.entries in
    let new = c.remove.new.self.entries in
    rw (← c.self.view_is)
    (λ n. (
      λ there. (
        left_there _ old n (rw c.remove.ensures.entries at there),
        λ its. not_among name (names_of new) (sym (some_among name new) ∙ ap (λ (o : Option _). is_some o) c.remove.ensures.updates.1) (subst (λ (m : List ℕ). Contains (names_of new) m) its there),
      ),
      λ was apart. rw c.remove.ensures.entries (stays_there name old n apart was),
    ))
