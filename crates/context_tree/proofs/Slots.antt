-- The slots of a tree are linked.
use Rattle.std.proofs.Common.{◌≡◌, refl, sym, ap, ◌∙◌, arith, ℕ, zero, suc, ◌<◌, ◌≤◌, List, [], ◌∷◌, length, Option, Some, None, true, ⊎_elim, option_map, slice_index_or, slice_set}
use Rattle.std.specs.Prelude.{is_some, option_and_then}
use Rattle.std.specs.Option.{option_map_or}
use Rattle.std.proofs.lemmas.Bool.{cases_lt}
use Rattle.std.proofs.lemmas.List.{get_or-set_same, get_or-set_other}
use Rattle.std.proofs.lemmas.Option.{same_Some}
use Rattle.context_tree.specs.declared.node.Links.{Links}
use Rattle.context_tree.specs.declared.node.Node.{Node}
use Rattle.context_tree.specs.Context.{parent_of}
use Rattle.context_tree.specs.Links.{no_links, put, keep, where_none, slot_of, parent_in, number_in, links_in, IsLinked, bare, Relinks, IsThere, ArePlaced}
use Rattle.context_tree.proofs.Bare.{same_there, same_parent, same_number}
use Rattle.context_tree.proofs.Linking.{apart, appended, removed, no_child, put_other, put_same, where_none_is}

none_some : {A : Type 0} (o : Option A) → o ≡ None → is_some o ≡ true → ⊥
none_some None none is = cc
none_some (Some a) none is = cc

-- an empty tree is linked
pub empty_linked : (C V : Type 0) → IsLinked {C = C} {V = V} []
empty_linked C V = record { first_is = λ k j is. cc; last_is = λ k j is. cc; next_is = λ k j is. cc; prev_is = λ k j is. cc; begins = λ k p is none. cc; ends = λ k p is none. cc; both = λ k j is. cc }

module _ {C V : Type 0} where
  -- the key of a node with a parent has a node
  pub placed_there : (slots : List (Option (Node C V))) (k p : ℕ) → parent_in slots k ≡ Some p → is_some (slot_of slots k) ≡ true
  placed_there slots k p is = by_slot (slot_of slots k) is
    where
      by_slot : (o : Option (Node C V)) → option_and_then (λ n. option_map (λ q. q.1) (parent_of n.kind)) o ≡ Some p → is_some o ≡ true
      by_slot None e = cc
      by_slot (Some n) e = refl

  no_parent : (slots : List (Option (Node C V))) (k : ℕ) → slot_of slots k ≡ None → parent_in slots k ≡ None
  no_parent slots k free = rw free refl

  -- what keeps all nodes keeps what is there
  pub still_there : (old new : List (Option (Node C V))) → ((k : ℕ) → bare (slot_of new k) ≡ bare (slot_of old k)) → (at : Option ℕ) → IsThere old at → IsThere new at
  still_there old new same at there = λ k is. same_there (slot_of new k) (slot_of old k) (same k) ∙ there k is

  -- what is put in a free slot leaves what is there
  pub grown_there : (old new : List (Option (Node C V))) (key : ℕ) → slot_of old key ≡ None → ((k : ℕ) → (k ≡ key → ⊥) → slot_of new k ≡ slot_of old k) → (at : Option ℕ) → IsThere old at → IsThere new at
  grown_there old new key free others at there = λ k is. ap is_some (others k (λ e. none_some (slot_of old k) (rw e free) (there k is))) ∙ there k is

  pub where_there : (slots : List (Option (Node C V))) (l at : Option ℕ) → IsThere slots at → IsThere slots (where_none l at)
  where_there slots l at there = λ k is. there k (where_none_is l at k is).1

  pub next_there : (slots : List (Option (Node C V))) (k : ℕ) → IsLinked slots → IsThere slots (links_in slots k).next
  next_there slots k linked = λ j is. let n = linked.next_is k j is in placed_there slots j n.parent n.second_up

  pub prev_there : (slots : List (Option (Node C V))) (k : ℕ) → IsLinked slots → IsThere slots (links_in slots k).prev
  prev_there slots k linked = λ j is. let n = linked.next_is j k (linked.prev_is k j is) in placed_there slots j n.parent n.first_up

  last_there : (slots : List (Option (Node C V))) (p : ℕ) → IsLinked slots → IsThere slots (links_in slots p).last
  last_there slots p linked = λ j is. placed_there slots j p (linked.last_is p j is).0

  -- the last child of the parent, if there is one
  pub last_of_parent : (slots : List (Option (Node C V))) (parent : Option ℕ) → IsLinked slots → IsThere slots (option_and_then (λ p. (links_in slots p).last) parent)
  last_of_parent slots None linked = λ j is. absurd (none_is j is)
    where
      none_is : (j : ℕ) → None ≡ Some j → ⊥
      none_is j is = cc
  last_of_parent slots (Some p) linked = last_there slots p linked

  -- A node was put in a free slot, behind the last child of its parent, and then the others were linked to it.
  pub inserted : (old mid new : List (Option (Node C V))) (k : ℕ) (node : Node C V) (parent last : Option ℕ)
      → IsLinked old → ArePlaced old node.number → IsThere old parent → parent ≡ option_map (λ p. p.1) (parent_of node.kind)
      → last ≡ option_and_then (λ p. (links_in old p).last) parent
      → slot_of old k ≡ None → slot_of mid k ≡ Some (record node { links = record { first = None; last = None; prev = last; next = None } })
      → ((j : ℕ) → (j ≡ k → ⊥) → slot_of mid j ≡ slot_of old j)
      → Relinks mid new (put (where_none last parent) (Some k)) (put parent (Some k)) keep (put last (Some k))
      → IsLinked new
  inserted old mid new k node parent last linked placed there parent_is last_is free put_is others re =
      let own : Links = record { first = None; last = None; prev = last; next = None } in
      let links_own : links_in mid k ≡ own = rw put_is refl in
      let parent_other : parent ≡ Some k → ⊥ = λ e. none_some (slot_of old k) free (there k e) in
      let last_other : last ≡ Some k → ⊥ = λ e. none_some (slot_of old k) free (last_of_parent old parent linked k (sym last_is ∙ e)) in
      let where_other : where_none last parent ≡ Some k → ⊥ = λ e. parent_other (where_none_is last parent k e).1 in
      let links_old : (j : ℕ) → (j ≡ k → ⊥) → links_in mid j ≡ links_in old j = λ j o. ap (λ s. option_map_or (λ (n : Node C V). n.links) s no_links) (others j o) in
      appended (parent_in old) (parent_in new) (number_in old) (number_in new) (links_in old) (links_in new) k parent last linked (record {
        was_free = no_parent old k free;
        childless = λ j is. none_some (slot_of old k) free (placed.parents j k is);
        parent_is = same_parent mid new k (re.nodes k) ∙ rw put_is (sym parent_is);
        last_child = last_is;
        parent_other = parent_other;
        others_up = λ j o. same_parent mid new j (re.nodes j) ∙ ap (option_and_then (λ n. option_map (λ p. p.1) (parent_of n.kind))) (others j o);
        others_number = λ j o. same_number mid new j (re.nodes j) ∙ ap (λ s. option_map_or (λ (n : Node C V). n.number) s 0) (others j o);
        newest = λ j p is. let low : number_in old j < node.number = placed.newest j p is in let number_is : number_in new k ≡ node.number = same_number mid new k (re.nodes k) ∙ rw put_is refl in rw number_is low;
        own_first = re.first_is k ∙ put_other (where_none last parent) (Some k) k _ where_other ∙ ap (λ (l : Links). l.first) links_own;
        own_last = re.last_is k ∙ put_other parent (Some k) k _ parent_other ∙ ap (λ (l : Links). l.last) links_own;
        own_prev = re.prev_is k ∙ ap (λ (l : Links). l.prev) links_own;
        own_next = re.next_is k ∙ put_other last (Some k) k _ last_other ∙ ap (λ (l : Links). l.next) links_own;
        first_is = λ j o. re.first_is j ∙ ap (λ (l : Links). put (where_none last parent) (Some k) j l.first) (links_old j o);
        last_is = λ j o. re.last_is j ∙ ap (λ (l : Links). put parent (Some k) j l.last) (links_old j o);
        prev_is = λ j o. re.prev_is j ∙ ap (λ (l : Links). l.prev) (links_old j o);
        next_is = λ j o. re.next_is j ∙ ap (λ (l : Links). put last (Some k) j l.next) (links_old j o);
      })

  -- The siblings of a node with no children were linked past it, and then it was taken out.
  pub taken_out : (old mid new : List (Option (Node C V))) (k : ℕ) → IsLinked old → (links_in old k).first ≡ None
      → Relinks old mid (put (where_none (links_in old k).prev (parent_in old k)) (links_in old k).next) (put (where_none (links_in old k).next (parent_in old k)) (links_in old k).prev)
      (put (links_in old k).next (links_in old k).prev) (put (links_in old k).prev (links_in old k).next)
      → slot_of new k ≡ None → ((j : ℕ) → (j ≡ k → ⊥) → slot_of new j ≡ slot_of mid j) → IsLinked new
  taken_out old mid new k linked none re free others =
      let links_mid : (j : ℕ) → (j ≡ k → ⊥) → links_in new j ≡ links_in mid j = λ j o. ap (λ s. option_map_or (λ (n : Node C V). n.links) s no_links) (others j o) in
      removed (parent_in old) (parent_in new) (number_in old) (number_in new) (links_in old) (links_in new) k linked (record {
        childless = λ j is. no_child (parent_in old) (number_in old) (links_in old) linked k j none is;
        is_free = no_parent new k free;
        others_up = λ j o. ap (option_and_then (λ n. option_map (λ p. p.1) (parent_of n.kind))) (others j o) ∙ same_parent old mid j (re.nodes j);
        others_number = λ j o. ap (λ s. option_map_or (λ (n : Node C V). n.number) s 0) (others j o) ∙ same_number old mid j (re.nodes j);
        no_more = rw free refl;
        first_is = λ j o. ap (λ (l : Links). l.first) (links_mid j o) ∙ re.first_is j;
        last_is = λ j o. ap (λ (l : Links). l.last) (links_mid j o) ∙ re.last_is j;
        prev_is = λ j o. ap (λ (l : Links). l.prev) (links_mid j o) ∙ re.prev_is j;
        next_is = λ j o. ap (λ (l : Links). l.next) (links_mid j o) ∙ re.next_is j;
      })

  -- ---- one link is written

  past_end : (slots : List (Option (Node C V))) (i : ℕ) → length slots ≤ i → slice_index_or slots i None ≡ None
  past_end [] i le = refl
  past_end (s ∷ slots) zero le = absurd (omega (arith, le))
  past_end (s ∷ slots) (suc i) le = past_end slots i (omega (arith, le))

  in_range : (slots : List (Option (Node C V))) (i : ℕ) (n : Node C V) → slot_of slots i ≡ Some n → i < length slots
  in_range slots i n is = ⊎_elim
      (λ (lt : i < length slots). lt)
      (λ (le : length slots ≤ i). let bad : None ≡ Some n = rw (past_end slots i le) at is in cc)
      (cases_lt i (length slots))

  -- the slots with these links at a key
  abbrev with_links : List (Option (Node C V)) → ℕ → Node C V → Links → List (Option (Node C V))
  with_links slots k n l = slice_set slots k (Some (record n { links = l }))

  set_here : (slots : List (Option (Node C V))) (k : ℕ) (n : Node C V) (l : Links) → slot_of slots k ≡ Some n → slot_of (with_links slots k n l) k ≡ Some (record n { links = l })
  set_here slots k n l is = get_or-set_same slots k (Some (record n { links = l })) None (in_range slots k n is)

  set_other : (slots : List (Option (Node C V))) (k : ℕ) (n : Node C V) (l : Links) (j : ℕ) → (j ≡ k → ⊥) → slot_of (with_links slots k n l) j ≡ slot_of slots j
  set_other slots k n l j other = get_or-set_other slots k j (Some (record n { links = l })) None other

  set_bare : (slots : List (Option (Node C V))) (k : ℕ) (n : Node C V) (l : Links) → slot_of slots k ≡ Some n → (j : ℕ) → bare (slot_of (with_links slots k n l) j) ≡ bare (slot_of slots j)
  set_bare slots k n l is j = ⊎_elim
      (λ (e : j ≡ k). rw e (ap bare (set_here slots k n l is) ∙ sym (ap bare is)))
      (λ (o : j ≡ k → ⊥). ap bare (set_other slots k n l j o))
      (apart j k)

  -- a link of each node, where one was written
  set_link : (slots : List (Option (Node C V))) (k : ℕ) (n : Node C V) (l : Links) → slot_of slots k ≡ Some n → (f : Links → Option ℕ) (j : ℕ) → f (links_in (with_links slots k n l) j) ≡ put (Some k) (f l) j (f (links_in slots j))
  set_link slots k n l is f j = ⊎_elim
      (λ (e : j ≡ k). ap (λ z. f (links_in (with_links slots k n l) z)) e ∙ ap (λ o. f (option_map_or (λ (m : Node C V). m.links) o no_links)) (set_here slots k n l is) ∙ sym (put_same (Some k) (f l) j (f (links_in slots j)) (ap Some (sym e))))
      (λ (o : j ≡ k → ⊥). ap (λ s. f (option_map_or (λ (m : Node C V). m.links) s no_links)) (set_other slots k n l j o)
      ∙ sym (put_other (Some k) (f l) j (f (links_in slots j)) (λ s. o (sym (same_Some k j s)))))
      (apart j k)

  -- a link of each node, where another one was written
  kept_link : (slots : List (Option (Node C V))) (k : ℕ) (n : Node C V) (l : Links) → slot_of slots k ≡ Some n → (f : Links → Option ℕ) → f l ≡ f n.links → (j : ℕ) → f (links_in (with_links slots k n l) j) ≡ f (links_in slots j)
  kept_link slots k n l is f same_link j = ⊎_elim
      (λ (e : j ≡ k). ap (λ z. f (links_in (with_links slots k n l) z)) e ∙ ap (λ o. f (option_map_or (λ (m : Node C V). m.links) o no_links)) (set_here slots k n l is) ∙ same_link
      ∙ ap (λ o. f (option_map_or (λ (m : Node C V). m.links) o no_links)) (sym is) ∙ ap (λ z. f (links_in slots z)) (sym e))
      (λ (o : j ≡ k → ⊥). ap (λ s. f (option_map_or (λ (m : Node C V). m.links) s no_links)) (set_other slots k n l j o))
      (apart j k)

  pub first_set : (slots : List (Option (Node C V))) (k : ℕ) (n : Node C V) (v : Option ℕ) → slot_of slots k ≡ Some n
      → Relinks slots (slice_set slots k (Some (record n { links = record n.links { first = v } }))) (put (Some k) v) keep keep keep
  first_set slots k n v is =
      let l : Links = record n.links { first = v } in
      record { nodes = set_bare slots k n l is; first_is = set_link slots k n l is (λ m. m.first); last_is = kept_link slots k n l is (λ m. m.last) refl; prev_is = kept_link slots k n l is (λ m. m.prev) refl; next_is = kept_link slots k n l is (λ m. m.next) refl }

  pub last_set : (slots : List (Option (Node C V))) (k : ℕ) (n : Node C V) (v : Option ℕ) → slot_of slots k ≡ Some n
      → Relinks slots (slice_set slots k (Some (record n { links = record n.links { last = v } }))) keep (put (Some k) v) keep keep
  last_set slots k n v is =
      let l : Links = record n.links { last = v } in
      record { nodes = set_bare slots k n l is; first_is = kept_link slots k n l is (λ m. m.first) refl; last_is = set_link slots k n l is (λ m. m.last); prev_is = kept_link slots k n l is (λ m. m.prev) refl; next_is = kept_link slots k n l is (λ m. m.next) refl }

  pub prev_set : (slots : List (Option (Node C V))) (k : ℕ) (n : Node C V) (v : Option ℕ) → slot_of slots k ≡ Some n
      → Relinks slots (slice_set slots k (Some (record n { links = record n.links { prev = v } }))) keep keep (put (Some k) v) keep
  prev_set slots k n v is =
      let l : Links = record n.links { prev = v } in
      record { nodes = set_bare slots k n l is; first_is = kept_link slots k n l is (λ m. m.first) refl; last_is = kept_link slots k n l is (λ m. m.last) refl; prev_is = set_link slots k n l is (λ m. m.prev); next_is = kept_link slots k n l is (λ m. m.next) refl }

  pub next_set : (slots : List (Option (Node C V))) (k : ℕ) (n : Node C V) (v : Option ℕ) → slot_of slots k ≡ Some n
      → Relinks slots (slice_set slots k (Some (record n { links = record n.links { next = v } }))) keep keep keep (put (Some k) v)
  next_set slots k n v is =
      let l : Links = record n.links { next = v } in
      record { nodes = set_bare slots k n l is; first_is = kept_link slots k n l is (λ m. m.first) refl; last_is = kept_link slots k n l is (λ m. m.last) refl; prev_is = kept_link slots k n l is (λ m. m.prev) refl; next_is = set_link slots k n l is (λ m. m.next) }
  -- ---- an ending is written
