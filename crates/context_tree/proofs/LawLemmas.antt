-- Laws of endings and deadlines.
use Rattle.std.proofs.Common.{◌≡◌, refl, sym, ap, ◌∙◌, arith, ℕ, ◌<◌, ◌≤◌, List, [], ◌∷◌, length, Option, Some, None, Bool, true, false, ⊎_elim}
use Rattle.std.specs.Prelude.{◌&&◌, if◌then◌else◌, is_some, option_and_then, min, nat_le}
use Rattle.std.specs.Option.{option_or}
use Rattle.std.proofs.lemmas.Bool.{cases_Bool, or_right}
use Rattle.std.proofs.lemmas.Option.{same_Some}
use Rattle.context_tree.specs.declared.node.Due.{Due}
use Rattle.context_tree.specs.declared.node.Kind.{Kind}
use Rattle.context_tree.specs.Context.{Id, same, can_cancel, TreeOp, Makes, Cancels, Advances, HandsOut, Releases, Ended, makes, held, chain, follows, own_due, first_of, first_due, has_cancel, ends, ending, expiry, inherited, own_deadline, sooner, deadline}
use Rattle.context_tree.specs.Tree.{IsLawful}
use Rattle.context_tree.proofs.Lineage.{held_low, born, same_true, same_false, option_cases, follows_parent}
use Rattle.context_tree.proofs.Tests.{is_some-map}

or_some : {A : Type 0} (a b : Option A) → is_some b ≡ true → is_some (option_or a b) ≡ true
or_some None b is = is
or_some (Some a) b is = refl

pub or_first : {A : Type 0} (a b : Option A) → is_some a ≡ true → is_some (option_or a b) ≡ true
or_first None b is = cc
or_first (Some a) b is = refl

sooner_low : (own : Option ℕ) (at : ℕ) → (low : ℕ) × (sooner own (Some at) ≡ Some low) × (low ≤ at)
sooner_low None at = (at, refl, omega arith)
sooner_low (Some a) at = (min a at, refl, omega arith)

first_some : {C : Type 0} (a b : Option (Due C)) → is_some b ≡ true → is_some (first_of a b) ≡ true
first_some None b is = is
first_some (Some a) None is = cc
first_some (Some a) (Some b) is = ⊎_elim
    (λ (yes' : nat_le b.at a.at ≡ true). rw yes' refl)
    (λ (no' : nat_le b.at a.at ≡ false). rw no' refl)
    (cases_Bool (nat_le b.at a.at))

is_some_if : {A : Type 0} (b : Bool) (x : A) → b ≡ true → is_some (if b then Some x else None) ≡ true
is_some_if b x is = rw is refl

some_if : {A : Type 0} (b : Bool) (x : A) → is_some (if b then Some x else None) ≡ true → b ≡ true
some_if true x is = refl
some_if false x is = cc

module _ {C V : Type 0} where
  -- one that is held is not made again
  pub other_id : (id x : Id) (k kind : Kind C V) (now : ℕ) (past : List (TreeOp C V)) → IsLawful (Makes id k now ∷ past) → held x past ≡ Some kind → same id x ≡ false
  other_id id x k kind now past lawful is =
      let low : x.0 < makes past = held_low past lawful.2 x kind is in same_false id x (λ e. omega (arith, low, lawful.0, e))

  pub first_end : (op : TreeOp C V) (past : List (TreeOp C V)) (x : Id) (kind : Kind C V) (e : Ended C) → IsLawful (op ∷ past) → held x past ≡ Some kind → ending x past ≡ Some e → ending x (op ∷ past) ≡ Some e
  first_end (Makes id k now) past x kind e lawful is end = rw (other_id id x k kind now past lawful is) end
  first_end (Cancels id cause) past x kind e lawful is end = rw end refl
  first_end (Advances now) past x kind e lawful is end = rw end refl
  first_end (HandsOut id) past x kind e lawful is end = end
  first_end (Releases id) past x kind e lawful is end = end

  pub deadline_low : (past : List (TreeOp C V)) (x p : Id) (kind : Kind C V) (at : ℕ) → IsLawful past → held x past ≡ Some kind → follows kind ≡ Some p
      → deadline p past ≡ Some at → (own : ℕ) × (deadline x past ≡ Some own) × (own ≤ at)
  deadline_low past x p kind at lawful is f d =
      let b = born past lawful x kind is in
      let low = sooner_low (own_deadline kind) at in
      (low.0, rw (b.chain_is, f, d) low.1, low.2)

  -- what ends the chain of the parent ends the chain of the child
  ends_child : (past : List (TreeOp C V)) (x p : Id) (kind : Kind C V) → IsLawful past → held x past ≡ Some kind → follows kind ≡ Some p → (turn : ℕ) (op : TreeOp C V)
      → is_some (ends turn (chain p past) op) ≡ true → is_some (ends turn (chain x past) op) ≡ true
  ends_child past x p kind lawful is f turn (Makes id k now) end = end
  ends_child past x p kind lawful is f turn (Cancels id cause) end =
      let b = born past lawful x kind is in
      let hit : has_cancel id (chain p past) ≡ true = some_if _ _ end in
      is_some_if _ _ (rw (b.chain_is, f) (or_right (same x id && can_cancel kind) (has_cancel id (chain p past)) hit))
  ends_child past x p kind lawful is f turn (Advances now) end =
      let b = born past lawful x kind is in
      let hit : is_some (first_due now (chain p past)) ≡ true = sym (is_some-map (expiry turn) (first_due now (chain p past))) ∙ end in
      is_some-map (expiry turn) (first_due now (chain x past)) ∙ rw (b.chain_is, f) (first_some (own_due now (x, kind)) (first_due now (chain p past)) hit)
  ends_child past x p kind lawful is f turn (HandsOut id) end = end
  ends_child past x p kind lawful is f turn (Releases id) end = end

  pub child_ends : (past : List (TreeOp C V)) (x p : Id) (kind : Kind C V) → IsLawful past → held x past ≡ Some kind → follows kind ≡ Some p → is_some (ending p past) ≡ true → is_some (ending x past) ≡ true
  child_ends [] x p kind lawful is f end = cc
  child_ends (Makes id k now ∷ past) x p kind lawful is f end = ⊎_elim
      (λ (yes' : same id x ≡ true).
      let b = born (Makes id k now ∷ past) lawful x kind is in
      let low : p.0 < x.0 = b.parent_low p (follows_parent kind p f) in
      let e : id ≡ x = same_true id x yes' in
      let apart : same id p ≡ false = same_false id p (λ s. let n : id.0 ≡ x.0 = ap (λ y. y.0) e in omega (arith, low, s, n)) in
      let ke : k ≡ kind = same_Some k kind (rw yes' at is) in
      let was : is_some (ending p past) ≡ true = rw apart at end in
      rw yes' (or_first _ _ (is_some-map (inherited (length past) id) (option_and_then (λ q. ending q past) (follows k)) ∙ rw (ke, f) was)))
      (λ (no' : same id x ≡ false).
      let old : held x past ≡ Some kind = rw no' at is in
      let b = born past lawful.2 x kind old in
      let ph = b.parent_held p (follows_parent kind p f) in
      let apart : same id p ≡ false = other_id id p k ph.0 now past lawful ph.1 in
      rw no' (child_ends past x p kind lawful.2 old f (rw apart at end)))
      (cases_Bool (same id x))
  child_ends (Cancels id cause ∷ past) x p kind lawful is f end = ⊎_elim
      (λ (none : ending p past ≡ None). or_some (ending x past) _ (ends_child past x p kind lawful is f (length past) (Cancels id cause) (rw none at end)))
      (λ (some : (e : Ended C) × (ending p past ≡ Some e)). or_first (ending x past) _ (child_ends past x p kind lawful is f (rw some.1 refl)))
      (option_cases (ending p past))
  child_ends (Advances now ∷ past) x p kind lawful is f end = ⊎_elim
      (λ (none : ending p past ≡ None). or_some (ending x past) _ (ends_child past x p kind lawful is f (length past) (Advances now) (rw none at end)))
      (λ (some : (e : Ended C) × (ending p past ≡ Some e)). or_first (ending x past) _ (child_ends past x p kind lawful is f (rw some.1 refl)))
      (option_cases (ending p past))
  child_ends (HandsOut id ∷ past) x p kind lawful is f end = child_ends past x p kind lawful.1 is f end
  child_ends (Releases id ∷ past) x p kind lawful is f end = ⊎_elim
      (λ (yes' : same id x ≡ true). let bad : None ≡ Some kind = rw yes' at is in cc)
      (λ (no' : same id x ≡ false). child_ends past x p kind lawful.1 (rw no' at is) f end)
      (cases_Bool (same id x))
