use Rattle.gateway_loop.proofs.Words.{◌∙◌, List, ℕ, Option, ap, inl, inr, subst, sym, ⊎_elim, Contains, is_some}
use Rattle.gateway_loop.specs.Names.{names_of}
use Rattle.gateway_loop.proofs.NameLemmas.{among_there, kept_there, put_there, some_among}
use Rattle.gateway_loop.proofs.names.Names.add.Goals as goal

pub returns-clause-adds : goal.returns-clause-adds
returns-clause-adds c =
    let old = c.self.inside.places.entries in
    let new = c.insert-2.new.self.entries in
    rw (← c.self.view_is) (
      subst (λ (name : List ℕ). Contains (names_of new) name) c.in_ok-key.ensures.ok
          (among_there _ (names_of new) (sym (some_among _ new) ∙ ap (λ (o : Option _). is_some o) c.in_ok-_known.ensures.updates.1)),
      λ n. (
        λ there.
            ⊎_elim (λ is. inl (is ∙ c.in_ok-key.ensures.ok)) (λ (was : Contains (names_of old) n). inr was)
            (put_there _ old c.in_ok-key.key _ n (rw c.in_ok-_known.ensures.entries at there)),
        λ was. rw c.in_ok-_known.ensures.entries (kept_there _ old c.in_ok-key.key _ n was),
      ),
    )
