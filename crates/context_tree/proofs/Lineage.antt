-- The line of parents and the chain of a context that is held.
use Rattle.std.proofs.Common.{◌≡◌, refl, ap, ◌∙◌, arith, rules, ℕ, ◌<◌, List, [], ◌∷◌, Option, Some, None, true, false, inl, inr, ⊎_elim}
use Rattle.std.specs.Prelude.{◌⊎◌}
use Rattle.std.specs.Option.{option_map_or}
use Rattle.std.proofs.lemmas.Bool.{cases_Bool}
use Rattle.std.proofs.lemmas.Option.{same_Some}
use Rattle.context_tree.specs.declared.node.Kind.{Kind}
use Rattle.context_tree.specs.declared.node.Kind.TheVariants.{Background, Cancel, Deadline, Value, WithoutCancel}
use Rattle.context_tree.specs.Context.{Id, same, TreeOp, Makes, Cancels, Advances, HandsOut, Releases, makes, held, line, chain, parent_of, follows}
use Rattle.context_tree.specs.Tree.{IsLawful, ParentHeld}

pub same_refl : (x : Id) → same x x ≡ true
same_refl x = grind (arith, rules)

pub same_true : (x y : Id) → same x y ≡ true → x ≡ y
same_true x y is = grind (arith, rules)

pub same_false : (x y : Id) → (x.0 ≡ y.0 → ⊥) → same x y ≡ false
same_false x y other = grind (arith, rules)

pub option_cases : {A : Type 0} (x : Option A) → (x ≡ None) ⊎ ((a : A) × (x ≡ Some a))
option_cases None = inl refl
option_cases (Some a) = inr (a, refl)

module _ {C V : Type 0} where
  pub follows_parent : (kind : Kind C V) (p : Id) → follows kind ≡ Some p → parent_of kind ≡ Some p
  follows_parent Background p is = cc
  follows_parent (Cancel parent) p is = is
  follows_parent (Deadline parent at cause) p is = is
  follows_parent (Value parent key value) p is = is
  follows_parent (WithoutCancel parent) p is = cc

  -- one that is held was made, so its number is low
  pub held_low : (past : List (TreeOp C V)) → IsLawful past → (x : Id) (kind : Kind C V) → held x past ≡ Some kind → x.0 < makes past
  held_low [] lawful x kind is = cc
  held_low (Makes id k now ∷ past) lawful x kind is = ⊎_elim
      (λ (yes' : same id x ≡ true). let e : id ≡ x = same_true id x yes' in rw (← e) (omega (arith, lawful.0)))
      (λ (no' : same id x ≡ false). let low : x.0 < makes past = held_low past lawful.2 x kind (rw no' at is) in omega (arith, low))
      (cases_Bool (same id x))
  held_low (Cancels id cause ∷ past) lawful x kind is = held_low past lawful x kind is
  held_low (Advances now ∷ past) lawful x kind is = held_low past lawful x kind is
  held_low (HandsOut id ∷ past) lawful x kind is = held_low past lawful.1 x kind is
  held_low (Releases id ∷ past) lawful x kind is = ⊎_elim
      (λ (yes' : same id x ≡ true). let bad : None ≡ Some kind = rw yes' at is in cc)
      (λ (no' : same id x ≡ false). held_low past lawful.1 x kind (rw no' at is))
      (cases_Bool (same id x))

  -- what is known of a context that is held: its line and its chain begin with itself and go on with its parent, which is
  -- held too and was made before it
  pub record Born (x : Id) (kind : Kind C V) (past : List (TreeOp C V)) : Type 0 where
    pub line_is : line x past ≡ (x, kind) ∷ option_map_or (λ p. line p past) (parent_of kind) []
    pub chain_is : chain x past ≡ (x, kind) ∷ option_map_or (λ p. chain p past) (follows kind) []
    pub parent_low : (p : Id) → parent_of kind ≡ Some p → p.0 < x.0
    pub parent_held : (p : Id) → parent_of kind ≡ Some p → (k : Kind C V) × (held p past ≡ Some k)

  held_parent : (o : Option Id) (past : List (TreeOp C V)) → ParentHeld o past → (p : Id) → o ≡ Some p → (k : Kind C V) × (held p past ≡ Some k)
  held_parent None past h p is = cc
  held_parent (Some q) past h p is = let e : q ≡ p = same_Some q p is in rw (← e) h

  -- a context that comes in has a new number, so what was said of those before it stays
  not_new : (past : List (TreeOp C V)) → IsLawful past → (id : Id) → id.0 ≡ makes past → (p : Id) (k : Kind C V) → held p past ≡ Some k → same id p ≡ false
  not_new past lawful id new p k is = let low : p.0 < makes past = held_low past lawful p k is in same_false id p (λ e. omega (arith, low, new, e))

  lines_stay : (o : Option Id) (past : List (TreeOp C V)) (id : Id) (k : Kind C V) (now : ℕ)
      → ((p : Id) → o ≡ Some p → same id p ≡ false)
      → option_map_or (λ p. line p past) o [] ≡ option_map_or (λ p. line p (Makes id k now ∷ past)) o []
  lines_stay None past id k now other = refl
  lines_stay (Some p) past id k now other = rw (other p refl) refl

  chains_stay : (o : Option Id) (past : List (TreeOp C V)) (id : Id) (k : Kind C V) (now : ℕ)
      → ((p : Id) → o ≡ Some p → same id p ≡ false)
      → option_map_or (λ p. chain p past) o [] ≡ option_map_or (λ p. chain p (Makes id k now ∷ past)) o []
  chains_stay None past id k now other = refl
  chains_stay (Some p) past id k now other = rw (other p refl) refl

  pub born : (past : List (TreeOp C V)) → IsLawful past → (x : Id) (kind : Kind C V) → held x past ≡ Some kind → Born x kind past
  born [] lawful x kind is = cc
  born (Makes id k now ∷ past) lawful x kind is = ⊎_elim
      (λ (yes' : same id x ≡ true).
      let e : id ≡ x = same_true id x yes' in
      let ke : k ≡ kind = same_Some k kind (rw yes' at is) in
      let parent : (p : Id) → parent_of k ≡ Some p → (q : Kind C V) × (held p past ≡ Some q) = held_parent (parent_of k) past lawful.1 in
      let other : (p : Id) → parent_of k ≡ Some p → same id p ≡ false = λ p pe. not_new past lawful.2 id lawful.0 p (parent p pe).0 (parent p pe).1 in
      rw (← e, ← ke) (record {
        line_is = rw (same_refl id) (ap (λ l. (id, k) ∷ l) (lines_stay (parent_of k) past id k now other));
        chain_is = rw (same_refl id) (ap (λ l. (id, k) ∷ l) (chains_stay (follows k) past id k now (λ p pe. other p (follows_parent k p pe))));
        parent_low = λ p pe. let low : p.0 < makes past = held_low past lawful.2 p (parent p pe).0 (parent p pe).1 in omega (arith, low, lawful.0);
        parent_held = λ p pe. ((parent p pe).0, rw (other p pe) (parent p pe).1);
      }))
      (λ (no' : same id x ≡ false).
      let old = born past lawful.2 x kind (rw no' at is) in
      let other : (p : Id) → parent_of kind ≡ Some p → same id p ≡ false = λ p pe. not_new past lawful.2 id lawful.0 p (old.parent_held p pe).0 (old.parent_held p pe).1 in
      record {
        line_is = rw no' (old.line_is ∙ ap (λ l. (x, kind) ∷ l) (lines_stay (parent_of kind) past id k now other));
        chain_is = rw no' (old.chain_is ∙ ap (λ l. (x, kind) ∷ l) (chains_stay (follows kind) past id k now (λ p pe. other p (follows_parent kind p pe))));
        parent_low = old.parent_low;
        parent_held = λ p pe. ((old.parent_held p pe).0, rw (other p pe) (old.parent_held p pe).1);
      })
      (cases_Bool (same id x))
  born (Cancels id cause ∷ past) lawful x kind is = let old = born past lawful x kind is in record { line_is = old.line_is; chain_is = old.chain_is; parent_low = old.parent_low; parent_held = old.parent_held }
  born (Advances now ∷ past) lawful x kind is = let old = born past lawful x kind is in record { line_is = old.line_is; chain_is = old.chain_is; parent_low = old.parent_low; parent_held = old.parent_held }
  born (HandsOut id ∷ past) lawful x kind is = let old = born past lawful.1 x kind is in record { line_is = old.line_is; chain_is = old.chain_is; parent_low = old.parent_low; parent_held = old.parent_held }
  born (Releases id ∷ past) lawful x kind is = ⊎_elim
      (λ (yes' : same id x ≡ true). let bad : None ≡ Some kind = rw yes' at is in cc)
      (λ (no' : same id x ≡ false).
      let was : held x past ≡ Some kind = rw no' at is in
      let old = born past lawful.1 x kind was in
      record {
        line_is = old.line_is;
        chain_is = old.chain_is;
        parent_low = old.parent_low;
        parent_held = λ p pe. ⊎_elim
            (λ (gone : same id p ≡ true). let e : id ≡ p = same_true id p gone in absurd (lawful.0 x kind was (rw e pe)))
            (λ (stays : same id p ≡ false). ((old.parent_held p pe).0, rw stays (old.parent_held p pe).1))
            (cases_Bool (same id p));
      })
      (cases_Bool (same id x))
