use Rattle.gateway_loop.proofs.Words.{◌≡◌, ◌∙◌, List, ℕ, Option, ap, subst, sym, ⊎_elim, Contains, inl, inr, is_some, refl}
use Rattle.gateway_loop.specs.Names.{AreSame, names_of}
use Rattle.gateway_loop.proofs.NameLemmas.{among_there, left_there, not_among, same_names, some_among, stays_there}
use Rattle.gateway_loop.proofs.names.Names.wait.Goals as goal

same_are : (v w : List (List ℕ)) → w ≡ v → AreSame v w
same_are v w same n = (λ there. subst (λ (l : List (List ℕ)). Contains l n) same there, λ there. subst (λ (l : List (List ℕ)). Contains l n) (sym same) there)

pub returns-in_err-insert-clause-asks : goal.returns-in_err-insert-clause-asks
returns-in_err-insert-clause-asks g c = inl (refl, same_are c.args.self.now _ (same_names c.self.inside.places.entries _ (c.get_mut.follows.holds c.insert.new.self).1 ∙ c.self.view_is))

pub returns-in-Some-clause-asks : goal.returns-in-Some-clause-asks
returns-in-Some-clause-asks g c = inl (refl, same_are c.args.self.now _ (same_names c.self.inside.places.entries _ (c.get_mut.follows.holds c.insert.new.self).1 ∙ c.self.view_is))

pub returns-in-Some-clause-waits : goal.returns-in-Some-clause-waits
returns-in-Some-clause-waits g c = λ yes.
    let old = c.self.inside.places.entries in
    subst (λ (l : List (List ℕ)). Contains l c.args.name.now) (sym (same_names old _ (c.get_mut.follows.holds c.insert.new.self).1))
    (among_there c.args.name.now (names_of old) (sym (some_among c.args.name.now old) ∙ sym (ap (λ (o : Option _). is_some o) c.in-Some.ensures.value)))

pub returns-in_err-number-clause-asks : goal.returns-in_err-number-clause-asks
returns-in_err-number-clause-asks g c =
    let same = ap (λ m. names_of m.entries) c.get_mut.follows.holds-at-none ∙ c.self.view_is in
    inl (refl, same_are c.args.self.now _ (c.in_err-number.ensures.stays ∙ same))

pub returns-then-not-look_up-clause-asks : goal.returns-then-not-look_up-clause-asks
returns-then-not-look_up-clause-asks g c =
    let name = c.args.name.now in
    let old = c.self.inside.places.entries in
    let same = ap (λ m. names_of m.entries) c.get_mut.follows.holds-at-none ∙ c.self.view_is in
    let with_it = c.self-2.inside.places.entries in
    let without = c.remove-places.new.self.entries in
    inl (
      c.if-not-look_up.ensures.same refl,
      λ n. (
        λ there.
            let was = left_there _ with_it n (rw c.remove-places.ensures.entries at there) in
            ⊎_elim
            (λ (its : n ≡ name).
            absurd (not_among name (names_of without) (sym (some_among name without) ∙ ap (λ (o : Option _). is_some o) c.remove-places.ensures.updates.1) (subst (λ (m : List ℕ). Contains (names_of without) m) its there)))
            (λ before. subst (λ (l : List (List ℕ)). Contains l n) same before)
            ((c.in_ok-number.ensures.adds.1 n).0 (subst (λ (l : List (List ℕ)). Contains l n) c.self-2.view_is was)),
        λ was.
            let apart : n ≡ name → ⊥ = λ its.
            not_among name (names_of old) (sym (some_among name old) ∙ sym (ap (λ (o : Option _). is_some o) c.in_default.ensures.value)) (subst (λ (m : List ℕ). Contains (names_of old) m) its (subst (λ (l : List (List ℕ)). Contains l n) (sym c.self.view_is) was)) in
            let there = (c.in_ok-number.ensures.adds.1 n).1 (subst (λ (l : List (List ℕ)). Contains l n) (sym same) was) in
            rw c.remove-places.ensures.entries (stays_there name with_it n apart (subst (λ (l : List (List ℕ)). Contains l n) (sym c.self-2.view_is) there)),
      ),
    )

pub returns-clause-asks : goal.returns-clause-asks
returns-clause-asks g c =
    let same = ap (λ m. names_of m.entries) c.get_mut.follows.holds-at-none ∙ c.self.view_is in
    inr record { net = c.if-not-look_up.ensures.asked refl; adds = rw same at c.in_ok-number.ensures.adds }
