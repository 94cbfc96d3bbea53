-- A node comes in behind the last child of its parent, and a node with no children goes.
use Rattle.std.proofs.Common.{◌≡◌, refl, sym, ap, subst, ◌∙◌, arith, ℕ, zero, suc, ◌+◌, ◌<◌, ◌≤◌, Option, Some, None, true, false, inl, inr, ⊎_elim}
use Rattle.std.specs.Prelude.{◌⊎◌, ◌==◌, is_some, option_and_then}
use Rattle.std.proofs.lemmas.Bool.{cases_Bool, cases_lt, eqb-true, eq-eqb}
use Rattle.std.proofs.lemmas.Option.{same_Some}
use Rattle.context_tree.specs.declared.node.Links.{Links}
use Rattle.context_tree.specs.Links.{no_links, child_at, AreNext, AreLinked, is_at, put, where_none}
use Rattle.context_tree.proofs.Lineage.{option_cases}

-- ---- keys that may be there

pub apart : (a b : ℕ) → (a ≡ b) ⊎ (a ≡ b → ⊥)
apart a b = ⊎_elim
    (λ (yes' : (a == b) ≡ true). inl (eqb-true a b yes'))
    (λ (no' : (a == b) ≡ false). inr (λ e. let bad : true ≡ false = sym (eq-eqb a b e) ∙ no' in cc))
    (cases_Bool (a == b))

at_true : (o : Option ℕ) (k : ℕ) → is_at o k ≡ true → o ≡ Some k
at_true None k is = cc
at_true (Some a) k is = ap Some (eqb-true a k is)

at_same : (o : Option ℕ) (k : ℕ) → o ≡ Some k → is_at o k ≡ true
at_same None k is = cc
at_same (Some a) k is = eq-eqb a k (same_Some a k is)

pub put_same : (at new : Option ℕ) (k : ℕ) (old : Option ℕ) → at ≡ Some k → put at new k old ≡ new
put_same at new k old is = rw (at_same at k is) refl

pub put_other : (at new : Option ℕ) (k : ℕ) (old : Option ℕ) → (at ≡ Some k → ⊥) → put at new k old ≡ old
put_other at new k old other = ⊎_elim
    (λ (yes' : is_at at k ≡ true). absurd (other (at_true at k yes')))
    (λ (no' : is_at at k ≡ false). rw no' refl)
    (cases_Bool (is_at at k))

pub put_cases : (at new : Option ℕ) (k : ℕ) (old r : Option ℕ) → put at new k old ≡ r → ((at ≡ Some k) × (new ≡ r)) ⊎ ((at ≡ Some k → ⊥) × (old ≡ r))
put_cases at new k old r is = ⊎_elim
    (λ (yes' : is_at at k ≡ true). inl (at_true at k yes', rw yes' at is))
    (λ (no' : is_at at k ≡ false). inr (λ e. let bad : true ≡ false = sym (at_same at k e) ∙ no' in cc, rw no' at is))
    (cases_Bool (is_at at k))

pub where_none_is : (l at : Option ℕ) (k : ℕ) → where_none l at ≡ Some k → (l ≡ None) × (at ≡ Some k)
where_none_is None at k is = (refl, is)
where_none_is (Some a) at k is = cc

pub where_none_of : (l at : Option ℕ) (k : ℕ) → l ≡ None → at ≡ Some k → where_none l at ≡ Some k
where_none_of None at k none is = is
where_none_of (Some a) at k none is = cc

none_some : {A : Type 0} (o : Option A) (a : A) → o ≡ None → o ≡ Some a → ⊥
none_some None a none is = cc
none_some (Some b) a none is = cc

some_of : (o : Option ℕ) → is_some o ≡ true → o ≡ None → ⊥
some_of None is none = cc
some_of (Some a) is none = cc

to_some : (o : Option ℕ) (a : ℕ) → o ≡ Some a → is_some o ≡ true
to_some None a is = cc
to_some (Some b) a is = refl

some_unless : (o : Option ℕ) → (o ≡ None → ⊥) → is_some o ≡ true
some_unless None other = absurd (other refl)
some_unless (Some a) other = refl

-- ---- what links say

module _ (up : ℕ → Option ℕ) (number : ℕ → ℕ) (links : ℕ → Links) (linked : AreLinked up number links) where
  -- a node that has no first child has none
  childless : (n k j : ℕ) → (links k).first ≡ None → number j < n → up j ≡ Some k → ⊥
  childless zero k j none low is = omega (arith, low)
  childless (suc n) k j none low is = ⊎_elim
      (λ (first : (links j).prev ≡ None). none_some _ j none (linked.begins j k is first))
      (λ (some : (i : ℕ) × ((links j).prev ≡ Some i)).
      let next = linked.next_is some.0 j (linked.prev_is j some.0 some.1) in
      let same_parent : next.parent ≡ k = same_Some next.parent k (sym next.second_up ∙ is) in
      let less : number some.0 < number j = next.rises in
      childless n k some.0 none (omega (arith, less, low)) (next.first_up ∙ ap Some same_parent))
      (option_cases (links j).prev)

  pub no_child : (k j : ℕ) → (links k).first ≡ None → up j ≡ Some k → ⊥
  no_child k j none = childless (number j + 1) k j none (omega arith)

  -- each child is reached from the first one
  reached : (n k j : ℕ) → number j < n → up j ≡ Some k → (i : ℕ) × (child_at links k i ≡ Some j)
  reached zero k j low is = absurd (omega (arith, low))
  reached (suc n) k j low is = ⊎_elim
      (λ (first : (links j).prev ≡ None). (zero, linked.begins j k is first))
      (λ (some : (i : ℕ) × ((links j).prev ≡ Some i)).
      let on = linked.prev_is j some.0 some.1 in
      let next = linked.next_is some.0 j on in
      let same_parent : next.parent ≡ k = same_Some next.parent k (sym next.second_up ∙ is) in
      let less : number some.0 < number j = next.rises in
      let before = reached n k some.0 (omega (arith, less, low)) (next.first_up ∙ ap Some same_parent) in
      (suc before.0, ap (option_and_then (λ m. (links m).next)) before.1 ∙ on))
      (option_cases (links j).prev)

  pub all_reached : (k j : ℕ) → up j ≡ Some k → (i : ℕ) × (child_at links k i ≡ Some j)
  all_reached k j is = reached (number j + 1) k j (omega arith) is

  -- the child before one that is reached, by a step
  pub step_before : (k i j : ℕ) → child_at links k (suc i) ≡ Some j → (m : ℕ) × (child_at links k i ≡ Some m) × ((links m).next ≡ Some j)
  step_before k i j is = ⊎_elim
      (λ (none : child_at links k i ≡ None). let bad : None ≡ Some j = rw none at is in cc)
      (λ (some : (m : ℕ) × (child_at links k i ≡ Some m)). (some.0, some.1, rw some.1 at is))
      (option_cases (child_at links k i))

  -- what is reached is a child
  pub only_children : (k i j : ℕ) → child_at links k i ≡ Some j → up j ≡ Some k
  only_children k zero j is = (linked.first_is k j is).0
  only_children k (suc i) j is =
      let b = step_before k i j is in
      let next = linked.next_is b.0 j b.2 in
      next.second_up ∙ sym next.first_up ∙ only_children k i b.0 b.1

  -- later places have higher numbers
  pub places_rise : (k i l a b : ℕ) → i < l → child_at links k i ≡ Some a → child_at links k l ≡ Some b → number a < number b
  places_rise k i zero a b lt ia lb = absurd (omega (arith, lt))
  places_rise k i (suc l) a b lt ia lb =
      let before = step_before k l b lb in
      let less : number before.0 < number b = (linked.next_is before.0 b before.2).rises in
      ⊎_elim
      (λ (earlier : i < l). let low : number a < number before.0 = places_rise k i l a before.0 earlier ia before.1 in omega (arith, low, less))
      (λ (not_earlier : l ≤ i).
      let e : i ≡ l = omega (arith, lt, not_earlier) in
      let same_child : a ≡ before.0 = same_Some a before.0 (sym ia ∙ ap (child_at links k) e ∙ before.1) in
      rw same_child less)
      (cases_lt i l)

-- links that say the same of the same nodes
pub same_linked : (up up2 : ℕ → Option ℕ) (number number2 : ℕ → ℕ) (links links2 : ℕ → Links) → ((k : ℕ) → up2 k ≡ up k) → ((k : ℕ) → number2 k ≡ number k)
    → ((k : ℕ) → links2 k ≡ links k) → AreLinked up number links → AreLinked up2 number2 links2
same_linked up up2 number number2 links links2 us ns ls linked = record {
  first_is = λ k j is. let f = linked.first_is k j (ap (λ (l : Links). l.first) (sym (ls k)) ∙ is) in (us j ∙ f.0, ap (λ (l : Links). l.prev) (ls j) ∙ f.1);
  last_is = λ k j is. let f = linked.last_is k j (ap (λ (l : Links). l.last) (sym (ls k)) ∙ is) in (us j ∙ f.0, ap (λ (l : Links). l.next) (ls j) ∙ f.1);
  next_is = λ k j is.
      let f = linked.next_is k j (ap (λ (l : Links). l.next) (sym (ls k)) ∙ is) in
      let less : number k < number j = f.rises in
      record { parent = f.parent; first_up = us k ∙ f.first_up; second_up = us j ∙ f.second_up; back = ap (λ (l : Links). l.prev) (ls j) ∙ f.back; rises = rw (ns k, ns j) less };
  prev_is = λ k j is. ap (λ (l : Links). l.next) (ls j) ∙ linked.prev_is k j (ap (λ (l : Links). l.prev) (sym (ls k)) ∙ is);
  begins = λ k p is none. ap (λ (l : Links). l.first) (ls p) ∙ linked.begins k p (sym (us k) ∙ is) (ap (λ (l : Links). l.prev) (sym (ls k)) ∙ none);
  ends = λ k p is none. ap (λ (l : Links). l.last) (ls p) ∙ linked.ends k p (sym (us k) ∙ is) (ap (λ (l : Links). l.next) (sym (ls k)) ∙ none);
  both = λ k j is. ap is_some (ap (λ (l : Links). l.last) (ls k)) ∙ linked.both k j (ap (λ (l : Links). l.first) (sym (ls k)) ∙ is);
}

-- ---- a node comes in

-- The key was free; its node, the newest, has this parent and stands behind the parent's last child.
pub record IsAppended (up up2 : ℕ → Option ℕ) (number number2 : ℕ → ℕ) (links links2 : ℕ → Links) (k : ℕ) (parent last : Option ℕ) : Type 0 where
  pub was_free : up k ≡ None
  pub childless : (j : ℕ) → up j ≡ Some k → ⊥
  pub parent_is : up2 k ≡ parent
  pub last_child : last ≡ option_and_then (λ p. (links p).last) parent
  pub parent_other : parent ≡ Some k → ⊥
  pub others_up : (j : ℕ) → (j ≡ k → ⊥) → up2 j ≡ up j
  pub others_number : (j : ℕ) → (j ≡ k → ⊥) → number2 j ≡ number j
  pub newest : (j p : ℕ) → up j ≡ Some p → number j < number2 k
  pub own_first : (links2 k).first ≡ None
  pub own_last : (links2 k).last ≡ None
  pub own_prev : (links2 k).prev ≡ last
  pub own_next : (links2 k).next ≡ None
  pub first_is : (j : ℕ) → (j ≡ k → ⊥) → (links2 j).first ≡ put (where_none last parent) (Some k) j (links j).first
  pub last_is : (j : ℕ) → (j ≡ k → ⊥) → (links2 j).last ≡ put parent (Some k) j (links j).last
  pub prev_is : (j : ℕ) → (j ≡ k → ⊥) → (links2 j).prev ≡ (links j).prev
  pub next_is : (j : ℕ) → (j ≡ k → ⊥) → (links2 j).next ≡ put last (Some k) j (links j).next

module _ (up up2 : ℕ → Option ℕ) (number number2 : ℕ → ℕ) (links links2 : ℕ → Links) (k : ℕ) (parent last : Option ℕ)
    (linked : AreLinked up number links) (a : IsAppended up up2 number number2 links links2 k parent last) where
  not_free : (j p : ℕ) → up j ≡ Some p → j ≡ k → ⊥
  not_free j p is e = none_some (up k) p a.was_free (ap up (sym e) ∙ is)

  -- the last child is one of the parent's
  last_of : (j : ℕ) → last ≡ Some j → (p : ℕ) × (parent ≡ Some p) × ((links p).last ≡ Some j)
  last_of j is = by_parent parent refl
    where
      by_parent : (o : Option ℕ) → parent ≡ o → (p : ℕ) × (parent ≡ Some p) × ((links p).last ≡ Some j)
      by_parent None e = let bad : None ≡ Some j = rw e at (sym a.last_child ∙ is) in cc
      by_parent (Some p) e = (p, e, rw e at (sym a.last_child ∙ is))

  -- where the parent has no last child, it has no first one
  no_first : (p j : ℕ) → parent ≡ Some p → last ≡ None → (links p).first ≡ Some j → ⊥
  no_first p j e none is = some_of (links p).last (linked.both p j is) (rw e at (sym a.last_child ∙ none))

  new_first : (x j : ℕ) → (links2 x).first ≡ Some j → (up2 j ≡ Some x) × ((links2 j).prev ≡ None)
  new_first x j is = ⊎_elim
      (λ (e : x ≡ k). absurd (none_some (links2 k).first j a.own_first (ap (λ z. (links2 z).first) (sym e) ∙ is)))
      (λ (o : x ≡ k → ⊥). ⊎_elim
      (λ (here : (where_none last parent ≡ Some x) × (Some k ≡ Some j)).
      let w = where_none_is last parent x here.0 in
      subst (λ z. (up2 z ≡ Some x) × ((links2 z).prev ≡ None)) (same_Some k j here.1) (a.parent_is ∙ w.1, a.own_prev ∙ w.0))
      (λ (old : (where_none last parent ≡ Some x → ⊥) × ((links x).first ≡ Some j)).
      let f = linked.first_is x j old.1 in
      let other = not_free j x f.0 in
      (a.others_up j other ∙ f.0, a.prev_is j other ∙ f.1))
      (put_cases _ _ x _ (Some j) (sym (a.first_is x o) ∙ is)))
      (apart x k)

  new_last : (x j : ℕ) → (links2 x).last ≡ Some j → (up2 j ≡ Some x) × ((links2 j).next ≡ None)
  new_last x j is = ⊎_elim
      (λ (e : x ≡ k). absurd (none_some (links2 k).last j a.own_last (ap (λ z. (links2 z).last) (sym e) ∙ is)))
      (λ (o : x ≡ k → ⊥). ⊎_elim
      (λ (here : (parent ≡ Some x) × (Some k ≡ Some j)). subst (λ z. (up2 z ≡ Some x) × ((links2 z).next ≡ None)) (same_Some k j here.1) (a.parent_is ∙ here.0, a.own_next))
      (λ (old : (parent ≡ Some x → ⊥) × ((links x).last ≡ Some j)).
      let f = linked.last_is x j old.1 in
      let other = not_free j x f.0 in
      let not_last : last ≡ Some j → ⊥ = λ l.
      let p = last_of j l in
      let same_parent = same_Some p.0 x (sym (linked.last_is p.0 j p.2).0 ∙ f.0) in
      old.0 (p.1 ∙ ap Some same_parent) in
      (a.others_up j other ∙ f.0, a.next_is j other ∙ put_other last (Some k) j (links j).next not_last ∙ f.1))
      (put_cases _ _ x _ (Some j) (sym (a.last_is x o) ∙ is)))
      (apart x k)

  new_next : (x j : ℕ) → (links2 x).next ≡ Some j → AreNext up2 number2 links2 x j
  new_next x j is = ⊎_elim
      (λ (e : x ≡ k). absurd (none_some (links2 k).next j a.own_next (ap (λ z. (links2 z).next) (sym e) ∙ is)))
      (λ (o : x ≡ k → ⊥). ⊎_elim
      (λ (here : (last ≡ Some x) × (Some k ≡ Some j)).
      let p = last_of x here.0 in
      let was = (linked.last_is p.0 x p.2).0 in
      let less : number x < number2 k = a.newest x p.0 was in
      subst (λ z. AreNext up2 number2 links2 x z) (same_Some k j here.1) (record {
        parent = p.0;
        first_up = a.others_up x o ∙ was;
        second_up = a.parent_is ∙ p.1;
        back = a.own_prev ∙ here.0;
        rises = rw (a.others_number x o) less;
      }))
      (λ (old : (last ≡ Some x → ⊥) × ((links x).next ≡ Some j)).
      let f = linked.next_is x j old.1 in
      let other = not_free j f.parent f.second_up in
      let less : number x < number j = f.rises in
      record {
        parent = f.parent;
        first_up = a.others_up x o ∙ f.first_up;
        second_up = a.others_up j other ∙ f.second_up;
        back = a.prev_is j other ∙ f.back;
        rises = rw (a.others_number x o, a.others_number j other) less;
      })
      (put_cases _ _ x _ (Some j) (sym (a.next_is x o) ∙ is)))
      (apart x k)

  new_prev : (x j : ℕ) → (links2 x).prev ≡ Some j → (links2 j).next ≡ Some x
  new_prev x j is = ⊎_elim
      (λ (e : x ≡ k).
      let l : last ≡ Some j = sym a.own_prev ∙ ap (λ z. (links2 z).prev) (sym e) ∙ is in
      let p = last_of j l in
      let other = not_free j p.0 (linked.last_is p.0 j p.2).0 in
      a.next_is j other ∙ put_same last (Some k) j (links j).next l ∙ ap Some (sym e))
      (λ (o : x ≡ k → ⊥).
      let back = linked.prev_is x j (sym (a.prev_is x o) ∙ is) in
      let other = not_free j (linked.next_is j x back).parent (linked.next_is j x back).first_up in
      let not_last : last ≡ Some j → ⊥ = λ l. let p = last_of j l in none_some (links j).next x (linked.last_is p.0 j p.2).1 back in
      a.next_is j other ∙ put_other last (Some k) j (links j).next not_last ∙ back)
      (apart x k)

  new_begins : (x p : ℕ) → up2 x ≡ Some p → (links2 x).prev ≡ None → (links2 p).first ≡ Some x
  new_begins x p is none = ⊎_elim
      (λ (e : x ≡ k).
      let of_p : parent ≡ Some p = sym a.parent_is ∙ ap up2 (sym e) ∙ is in
      let no_last : last ≡ None = sym a.own_prev ∙ ap (λ z. (links2 z).prev) (sym e) ∙ none in
      let other : p ≡ k → ⊥ = λ s. a.parent_other (of_p ∙ ap Some s) in
      a.first_is p other ∙ put_same (where_none last parent) (Some k) p (links p).first (where_none_of last parent p no_last of_p) ∙ ap Some (sym e))
      (λ (o : x ≡ k → ⊥).
      let was = sym (a.others_up x o) ∙ is in
      let first = linked.begins x p was (sym (a.prev_is x o) ∙ none) in
      let other : p ≡ k → ⊥ = λ s. a.childless x (was ∙ ap Some s) in
      let not_new : where_none last parent ≡ Some p → ⊥ = λ w. let v = where_none_is last parent p w in no_first p x v.1 v.0 first in
      a.first_is p other ∙ put_other (where_none last parent) (Some k) p (links p).first not_new ∙ first)
      (apart x k)

  new_ends : (x p : ℕ) → up2 x ≡ Some p → (links2 x).next ≡ None → (links2 p).last ≡ Some x
  new_ends x p is none = ⊎_elim
      (λ (e : x ≡ k).
      let of_p : parent ≡ Some p = sym a.parent_is ∙ ap up2 (sym e) ∙ is in
      let other : p ≡ k → ⊥ = λ s. a.parent_other (of_p ∙ ap Some s) in
      a.last_is p other ∙ put_same parent (Some k) p (links p).last of_p ∙ ap Some (sym e))
      (λ (o : x ≡ k → ⊥).
      let was = sym (a.others_up x o) ∙ is in
      let other : p ≡ k → ⊥ = λ s. a.childless x (was ∙ ap Some s) in
      ⊎_elim
      (λ (here : (last ≡ Some x) × (Some k ≡ None)). let bad : Some k ≡ None = here.1 in cc)
      (λ (old : (last ≡ Some x → ⊥) × ((links x).next ≡ None)).
      let end = linked.ends x p was old.1 in
      let not_parent : parent ≡ Some p → ⊥ = λ e. old.0 (rw e at (a.last_child) ∙ end) in
      a.last_is p other ∙ put_other parent (Some k) p (links p).last not_parent ∙ end)
      (put_cases _ _ x _ None (sym (a.next_is x o) ∙ none)))
      (apart x k)

  new_both : (x j : ℕ) → (links2 x).first ≡ Some j → is_some (links2 x).last ≡ true
  new_both x j is = ⊎_elim
      (λ (e : x ≡ k). absurd (none_some (links2 k).first j a.own_first (ap (λ z. (links2 z).first) (sym e) ∙ is)))
      (λ (o : x ≡ k → ⊥). ⊎_elim
      (λ (here : (parent ≡ Some x) × (Some k ≡ (links2 x).last)). to_some _ k (sym here.1))
      (λ (old : (parent ≡ Some x → ⊥) × ((links x).last ≡ (links2 x).last)).
      let not_new : where_none last parent ≡ Some x → ⊥ = λ w. old.0 (where_none_is last parent x w).1 in
      let was : (links x).first ≡ Some j = sym (put_other (where_none last parent) (Some k) x (links x).first not_new) ∙ sym (a.first_is x o) ∙ is in
      ap is_some (sym old.1) ∙ linked.both x j was)
      (put_cases _ _ x _ (links2 x).last (sym (a.last_is x o))))
      (apart x k)

  pub appended : AreLinked up2 number2 links2
  appended = record { first_is = new_first; last_is = new_last; next_is = new_next; prev_is = new_prev; begins = new_begins; ends = new_ends; both = new_both }

-- ---- a node goes

-- The node at the key has no children; its slot is free, and its siblings are linked past it.
pub record IsRemoved (up up2 : ℕ → Option ℕ) (number number2 : ℕ → ℕ) (links links2 : ℕ → Links) (k : ℕ) : Type 0 where
  pub childless : (j : ℕ) → up j ≡ Some k → ⊥
  pub is_free : up2 k ≡ None
  pub others_up : (j : ℕ) → (j ≡ k → ⊥) → up2 j ≡ up j
  pub others_number : (j : ℕ) → (j ≡ k → ⊥) → number2 j ≡ number j
  pub no_more : links2 k ≡ no_links
  pub first_is : (j : ℕ) → (j ≡ k → ⊥) → (links2 j).first ≡ put (where_none (links k).prev (up k)) (links k).next j (links j).first
  pub last_is : (j : ℕ) → (j ≡ k → ⊥) → (links2 j).last ≡ put (where_none (links k).next (up k)) (links k).prev j (links j).last
  pub prev_is : (j : ℕ) → (j ≡ k → ⊥) → (links2 j).prev ≡ put (links k).next (links k).prev j (links j).prev
  pub next_is : (j : ℕ) → (j ≡ k → ⊥) → (links2 j).next ≡ put (links k).prev (links k).next j (links j).next

module _ (up up2 : ℕ → Option ℕ) (number number2 : ℕ → ℕ) (links links2 : ℕ → Links) (k : ℕ)
    (linked : AreLinked up number links) (r : IsRemoved up up2 number number2 links links2 k) where
  -- the one before it and the one after it are others
  next_other : (j : ℕ) → (links k).next ≡ Some j → j ≡ k → ⊥
  next_other j is e = let less : number k < number j = (linked.next_is k j is).rises in let same_number : number j ≡ number k = ap number e in omega (arith, less, same_number)

  prev_other : (j : ℕ) → (links k).prev ≡ Some j → j ≡ k → ⊥
  prev_other j is e = let less : number j < number k = (linked.next_is j k (linked.prev_is k j is)).rises in let same_number : number j ≡ number k = ap number e in omega (arith, less, same_number)

  left_first : (x j : ℕ) → (links2 x).first ≡ Some j → (up2 j ≡ Some x) × ((links2 j).prev ≡ None)
  left_first x j is = ⊎_elim
      (λ (e : x ≡ k). absurd (none_some (links2 k).first j (ap (λ (l : Links). l.first) r.no_more) (ap (λ z. (links2 z).first) (sym e) ∙ is)))
      (λ (o : x ≡ k → ⊥). ⊎_elim
      (λ (here : (where_none (links k).prev (up k) ≡ Some x) × ((links k).next ≡ Some j)).
      let w = where_none_is (links k).prev (up k) x here.0 in
      let f = linked.next_is k j here.1 in
      let other = next_other j here.1 in
      (r.others_up j other ∙ f.second_up ∙ sym f.first_up ∙ w.1, r.prev_is j other ∙ put_same (links k).next (links k).prev j (links j).prev here.1 ∙ w.0))
      (λ (old : (where_none (links k).prev (up k) ≡ Some x → ⊥) × ((links x).first ≡ Some j)).
      let f = linked.first_is x j old.1 in
      let other : j ≡ k → ⊥ = λ e. old.0 (where_none_of (links k).prev (up k) x (ap (λ z. (links z).prev) (sym e) ∙ f.1) (ap up (sym e) ∙ f.0)) in
      let not_next : (links k).next ≡ Some j → ⊥ = λ n. none_some (links j).prev k f.1 (linked.next_is k j n).back in
      (r.others_up j other ∙ f.0, r.prev_is j other ∙ put_other (links k).next (links k).prev j (links j).prev not_next ∙ f.1))
      (put_cases _ _ x _ (Some j) (sym (r.first_is x o) ∙ is)))
      (apart x k)

  left_last : (x j : ℕ) → (links2 x).last ≡ Some j → (up2 j ≡ Some x) × ((links2 j).next ≡ None)
  left_last x j is = ⊎_elim
      (λ (e : x ≡ k). absurd (none_some (links2 k).last j (ap (λ (l : Links). l.last) r.no_more) (ap (λ z. (links2 z).last) (sym e) ∙ is)))
      (λ (o : x ≡ k → ⊥). ⊎_elim
      (λ (here : (where_none (links k).next (up k) ≡ Some x) × ((links k).prev ≡ Some j)).
      let w = where_none_is (links k).next (up k) x here.0 in
      let f = linked.next_is j k (linked.prev_is k j here.1) in
      let other = prev_other j here.1 in
      (r.others_up j other ∙ f.first_up ∙ sym f.second_up ∙ w.1, r.next_is j other ∙ put_same (links k).prev (links k).next j (links j).next here.1 ∙ w.0))
      (λ (old : (where_none (links k).next (up k) ≡ Some x → ⊥) × ((links x).last ≡ Some j)).
      let f = linked.last_is x j old.1 in
      let other : j ≡ k → ⊥ = λ e. old.0 (where_none_of (links k).next (up k) x (ap (λ z. (links z).next) (sym e) ∙ f.1) (ap up (sym e) ∙ f.0)) in
      let not_prev : (links k).prev ≡ Some j → ⊥ = λ n. none_some (links j).next k f.1 (linked.prev_is k j n) in
      (r.others_up j other ∙ f.0, r.next_is j other ∙ put_other (links k).prev (links k).next j (links j).next not_prev ∙ f.1))
      (put_cases _ _ x _ (Some j) (sym (r.last_is x o) ∙ is)))
      (apart x k)

  left_next : (x j : ℕ) → (links2 x).next ≡ Some j → AreNext up2 number2 links2 x j
  left_next x j is = ⊎_elim
      (λ (e : x ≡ k). absurd (none_some (links2 k).next j (ap (λ (l : Links). l.next) r.no_more) (ap (λ z. (links2 z).next) (sym e) ∙ is)))
      (λ (o : x ≡ k → ⊥). ⊎_elim
      (λ (here : ((links k).prev ≡ Some x) × ((links k).next ≡ Some j)).
      let f = linked.next_is x k (linked.prev_is k x here.0) in
      let h = linked.next_is k j here.1 in
      let other = next_other j here.1 in
      let lower : number x < number k = f.rises in
      let higher : number k < number j = h.rises in
      let less : number x < number j = omega (arith, lower, higher) in
      record {
        parent = f.parent;
        first_up = r.others_up x o ∙ f.first_up;
        second_up = r.others_up j other ∙ h.second_up ∙ sym h.first_up ∙ f.second_up;
        back = r.prev_is j other ∙ put_same (links k).next (links k).prev j (links j).prev here.1 ∙ here.0;
        rises = rw (r.others_number x o, r.others_number j other) less;
      })
      (λ (old : ((links k).prev ≡ Some x → ⊥) × ((links x).next ≡ Some j)).
      let f = linked.next_is x j old.1 in
      let other : j ≡ k → ⊥ = λ e. old.0 (ap (λ z. (links z).prev) (sym e) ∙ f.back) in
      let not_next : (links k).next ≡ Some j → ⊥ = λ n. o (same_Some x k (sym f.back ∙ (linked.next_is k j n).back)) in
      let less : number x < number j = f.rises in
      record {
        parent = f.parent;
        first_up = r.others_up x o ∙ f.first_up;
        second_up = r.others_up j other ∙ f.second_up;
        back = r.prev_is j other ∙ put_other (links k).next (links k).prev j (links j).prev not_next ∙ f.back;
        rises = rw (r.others_number x o, r.others_number j other) less;
      })
      (put_cases _ _ x _ (Some j) (sym (r.next_is x o) ∙ is)))
      (apart x k)

  left_prev : (x j : ℕ) → (links2 x).prev ≡ Some j → (links2 j).next ≡ Some x
  left_prev x j is = ⊎_elim
      (λ (e : x ≡ k). absurd (none_some (links2 k).prev j (ap (λ (l : Links). l.prev) r.no_more) (ap (λ z. (links2 z).prev) (sym e) ∙ is)))
      (λ (o : x ≡ k → ⊥). ⊎_elim
      (λ (here : ((links k).next ≡ Some x) × ((links k).prev ≡ Some j)).
      r.next_is j (prev_other j here.1) ∙ put_same (links k).prev (links k).next j (links j).next here.1 ∙ here.0)
      (λ (old : ((links k).next ≡ Some x → ⊥) × ((links x).prev ≡ Some j)).
      let back = linked.prev_is x j old.1 in
      let other : j ≡ k → ⊥ = λ e. old.0 (ap (λ z. (links z).next) (sym e) ∙ back) in
      let not_prev : (links k).prev ≡ Some j → ⊥ = λ p. o (same_Some x k (sym back ∙ linked.prev_is k j p)) in
      r.next_is j other ∙ put_other (links k).prev (links k).next j (links j).next not_prev ∙ back)
      (put_cases _ _ x _ (Some j) (sym (r.prev_is x o) ∙ is)))
      (apart x k)

  held_other : (x p : ℕ) → up2 x ≡ Some p → x ≡ k → ⊥
  held_other x p is e = none_some (up2 k) p r.is_free (ap up2 (sym e) ∙ is)

  left_begins : (x p : ℕ) → up2 x ≡ Some p → (links2 x).prev ≡ None → (links2 p).first ≡ Some x
  left_begins x p is none =
      let o = held_other x p is in
      let was = sym (r.others_up x o) ∙ is in
      let other : p ≡ k → ⊥ = λ s. r.childless x (was ∙ ap Some s) in
      ⊎_elim
      (λ (here : ((links k).next ≡ Some x) × ((links k).prev ≡ None)).
      let f = linked.next_is k x here.0 in
      let at : where_none (links k).prev (up k) ≡ Some p = where_none_of (links k).prev (up k) p here.1 (f.first_up ∙ sym f.second_up ∙ was) in
      r.first_is p other ∙ put_same _ (links k).next p (links p).first at ∙ here.0)
      (λ (old : ((links k).next ≡ Some x → ⊥) × ((links x).prev ≡ None)).
      let first = linked.begins x p was old.1 in
      let not_at : where_none (links k).prev (up k) ≡ Some p → ⊥ = λ w.
      let v = where_none_is (links k).prev (up k) p w in o (same_Some x k (sym first ∙ linked.begins k p v.1 v.0)) in
      r.first_is p other ∙ put_other _ (links k).next p (links p).first not_at ∙ first)
      (put_cases _ _ x _ None (sym (r.prev_is x o) ∙ none))

  left_ends : (x p : ℕ) → up2 x ≡ Some p → (links2 x).next ≡ None → (links2 p).last ≡ Some x
  left_ends x p is none =
      let o = held_other x p is in
      let was = sym (r.others_up x o) ∙ is in
      let other : p ≡ k → ⊥ = λ s. r.childless x (was ∙ ap Some s) in
      ⊎_elim
      (λ (here : ((links k).prev ≡ Some x) × ((links k).next ≡ None)).
      let f = linked.next_is x k (linked.prev_is k x here.0) in
      let at : where_none (links k).next (up k) ≡ Some p = where_none_of (links k).next (up k) p here.1 (f.second_up ∙ sym f.first_up ∙ was) in
      r.last_is p other ∙ put_same _ (links k).prev p (links p).last at ∙ here.0)
      (λ (old : ((links k).prev ≡ Some x → ⊥) × ((links x).next ≡ None)).
      let last = linked.ends x p was old.1 in
      let not_at : where_none (links k).next (up k) ≡ Some p → ⊥ = λ w.
      let v = where_none_is (links k).next (up k) p w in o (same_Some x k (sym last ∙ linked.ends k p v.1 v.0)) in
      r.last_is p other ∙ put_other _ (links k).prev p (links p).last not_at ∙ last)
      (put_cases _ _ x _ None (sym (r.next_is x o) ∙ none))

  left_both : (x j : ℕ) → (links2 x).first ≡ Some j → is_some (links2 x).last ≡ true
  left_both x j is = ⊎_elim
      (λ (e : x ≡ k). absurd (none_some (links2 k).first j (ap (λ (l : Links). l.first) r.no_more) (ap (λ z. (links2 z).first) (sym e) ∙ is)))
      (λ (o : x ≡ k → ⊥).
      let had : is_some (links x).last ≡ true = ⊎_elim
      (λ (here : (where_none (links k).prev (up k) ≡ Some x) × ((links k).next ≡ Some j)).
      let w = where_none_is (links k).prev (up k) x here.0 in linked.both x k (linked.begins k x w.1 w.0))
      (λ (old : (where_none (links k).prev (up k) ≡ Some x → ⊥) × ((links x).first ≡ Some j)). linked.both x j old.1)
      (put_cases _ _ x _ (Some j) (sym (r.first_is x o) ∙ is)) in
      ⊎_elim
      (λ (here : (where_none (links k).next (up k) ≡ Some x) × ((links k).prev ≡ (links2 x).last)).
      let w = where_none_is (links k).next (up k) x here.0 in
      let more : (links k).prev ≡ None → ⊥ = λ alone. ⊎_elim
      (λ (first : (where_none (links k).prev (up k) ≡ Some x) × ((links k).next ≡ Some j)). none_some (links k).next j w.0 first.1)
      (λ (old : (where_none (links k).prev (up k) ≡ Some x → ⊥) × ((links x).first ≡ Some j)). old.0 (where_none_of (links k).prev (up k) x alone w.1))
      (put_cases _ _ x _ (Some j) (sym (r.first_is x o) ∙ is)) in
      ap is_some (sym here.1) ∙ some_unless _ more)
      (λ (old : (where_none (links k).next (up k) ≡ Some x → ⊥) × ((links x).last ≡ (links2 x).last)). ap is_some (sym old.1) ∙ had)
      (put_cases _ _ x _ (links2 x).last (sym (r.last_is x o))))
      (apart x k)

  pub removed : AreLinked up2 number2 links2
  removed = record { first_is = left_first; last_is = left_last; next_is = left_next; prev_is = left_prev; begins = left_begins; ends = left_ends; both = left_both }
