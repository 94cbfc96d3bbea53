-- What an operation leaves of a context, and what a new id is.
use Rattle.std.proofs.Common.{◌≡◌, refl, sym, ap, ◌∙◌, arith, ℕ, zero, suc, ◌+◌, ◌<◌, List, [], ◌∷◌, length, Option, Some, None, Bool, true, false, ⊎_elim, option_map}
use Rattle.std.specs.Prelude.{◌&&◌, ◌||◌, if◌then◌else◌, is_some, nat_le, IfSome}
use Rattle.std.specs.Option.{option_map_or}
use Rattle.std.proofs.lemmas.Bool.{cases_Bool, or_right, or_left, or_parts}
use Rattle.std.proofs.lemmas.Bool.Decides.{nat_tests}
use Rattle.context_tree.specs.declared.error.CtxErr.TheVariants.{DeadlineExceeded}
use Rattle.context_tree.specs.declared.node.Due.{Due}
use Rattle.context_tree.specs.declared.node.Kind.{Kind}
use Rattle.context_tree.specs.declared.node.Kind.TheVariants.{Background, Cancel, Deadline, Value, WithoutCancel}
use Rattle.context_tree.specs.Context.{Id, Member, same, can_cancel, TreeOp, Makes, Cancels, Advances, HandsOut, Releases, HasChild, makes, held, line, chain, follows, own_due, own_deadline, sooner, least, first_of, first_due, has_cancel, ending, expiry, deadline, value}
use Rattle.context_tree.specs.Frames.{is_due, was_made, makes_or_releases, releases, may_end}
use Rattle.context_tree.specs.Tree.{IsLawful}
use Rattle.context_tree.proofs.Lineage.{held_low, born, same_true, option_cases, follows_parent}
use Rattle.context_tree.proofs.LawLemmas.{other_id, child_ends}
use Rattle.context_tree.proofs.Tests.{is_some-map}

-- ---- a moment

sooner_due : (now : ℕ) (a b : Option ℕ) → is_due now (sooner a b) ≡ (is_due now a || is_due now b)
sooner_due now None b = refl
sooner_due now (Some a) None = or_none (nat_le a now)
  where
    or_none : (b : Bool) → b ≡ (b || false)
    or_none true = refl
    or_none false = refl
sooner_due now (Some a) (Some b) = grind (arith, nat_tests)

module _ {C : Type 0} where
  first_some : (a b : Option (Due C)) → is_some (first_of a b) ≡ (is_some a || is_some b)
  first_some None b = refl
  first_some (Some a) None = refl
  first_some (Some a) (Some b) = ⊎_elim
      (λ (yes' : nat_le b.at a.at ≡ true). rw yes' refl)
      (λ (no' : nat_le b.at a.at ≡ false). rw no' refl)
      (cases_Bool (nat_le b.at a.at))

  if_expired : (turn : ℕ) (o : Option (Due C)) → IfSome (option_map (expiry turn) o) (λ e. e.error ≡ DeadlineExceeded)
  if_expired turn None = tt
  if_expired turn (Some d) = refl

  some_if : (b : Bool) (d : Due C) → is_some (if b then Some d else None) ≡ b
  some_if true d = refl
  some_if false d = refl

module _ {C V : Type 0} where
  pub own_some : (now : ℕ) (x : Id) (kind : Kind C V) → is_some (own_due now (x, kind)) ≡ is_due now (own_deadline kind)
  own_some now x Background = refl
  own_some now x (Cancel parent) = refl
  own_some now x (Deadline parent at cause) = some_if (nat_le at now) _
  own_some now x (Value parent key value) = refl
  own_some now x (WithoutCancel parent) = refl

  pub due_some : (now : ℕ) (ms : List (Member C V)) → is_some (first_due now ms) ≡ is_due now (least ms)
  due_some now [] = refl
  due_some now (m ∷ ms) =
      first_some (own_due now m) (first_due now ms)
      ∙ ap (λ b. b || is_some (first_due now ms)) (own_some now m.0 m.1)
      ∙ ap (λ b. is_due now (own_deadline m.1) || b) (due_some now ms)
      ∙ sym (sooner_due now (own_deadline m.1) (least ms))

  pub expires : (past : List (TreeOp C V)) (x : Id) (now : ℕ) → ending x past ≡ None → is_some (ending x (Advances now ∷ past)) ≡ is_due now (deadline x past)
  expires past x now none = rw none (is_some-map (expiry (length past)) (first_due now (chain x past)) ∙ due_some now (chain x past))

  pub expires_so : (past : List (TreeOp C V)) (x : Id) (now : ℕ) → ending x past ≡ None → IfSome (ending x (Advances now ∷ past)) (λ e. e.error ≡ DeadlineExceeded)
  expires_so past x now none = rw none (if_expired (length past) (first_due now (chain x past)))

  -- ---- ids

  pub made_low : (past : List (TreeOp C V)) (x : Id) → IsLawful past → was_made x past ≡ true → x.0 < makes past
  made_low [] x lawful is = cc
  made_low (Makes id kind now ∷ past) x lawful is = ⊎_elim
      (λ (here : same id x ≡ true). let e : id ≡ x = same_true id x here in rw (← e) (omega (arith, lawful.0)))
      (λ (other : same id x ≡ false). let low : x.0 < makes past = made_low past x lawful.2 (rw other at is) in omega (arith, low))
      (cases_Bool (same id x))
  made_low (Cancels id cause ∷ past) x lawful is = made_low past x lawful is
  made_low (Advances now ∷ past) x lawful is = made_low past x lawful is
  made_low (HandsOut id ∷ past) x lawful is = made_low past x lawful.1 is
  made_low (Releases id ∷ past) x lawful is = made_low past x lawful.1 is

  -- one that was made before has another number than a new one
  not_again : (past : List (TreeOp C V)) (id x : Id) (kind : Kind C V) (now : ℕ) → IsLawful (Makes id kind now ∷ past) → was_made x past ≡ true → id.0 ≡ x.0 → ⊥
  not_again past id x kind now lawful is e = let low : x.0 < makes past = made_low past x lawful.2 is in omega (arith, low, lawful.0, e)

  pub made_apart : (past : List (TreeOp C V)) (x y : Id) → IsLawful past → was_made x past ≡ true → was_made y past ≡ true → x.0 ≡ y.0 → x ≡ y
  made_apart [] x y lawful xm ym e = cc
  made_apart (Makes id kind now ∷ past) x y lawful xm ym e = ⊎_elim
      (λ (xh : same id x ≡ true). let ix : id ≡ x = same_true id x xh in ⊎_elim
      (λ (yh : same id y ≡ true). sym ix ∙ same_true id y yh)
      (λ (yo : same id y ≡ false). absurd (not_again past id y kind now lawful (rw yo at ym) (ap (λ z. z.0) ix ∙ e)))
      (cases_Bool (same id y)))
      (λ (xo : same id x ≡ false). ⊎_elim
      (λ (yh : same id y ≡ true). absurd (not_again past id x kind now lawful (rw xo at xm) (ap (λ z. z.0) (same_true id y yh) ∙ sym e)))
      (λ (yo : same id y ≡ false). made_apart past x y lawful.2 (rw xo at xm) (rw yo at ym) e)
      (cases_Bool (same id y)))
      (cases_Bool (same id x))
  made_apart (Cancels id cause ∷ past) x y lawful xm ym e = made_apart past x y lawful xm ym e
  made_apart (Advances now ∷ past) x y lawful xm ym e = made_apart past x y lawful xm ym e
  made_apart (HandsOut id ∷ past) x y lawful xm ym e = made_apart past x y lawful.1 xm ym e
  made_apart (Releases id ∷ past) x y lawful xm ym e = made_apart past x y lawful.1 xm ym e

  pub held_made : (past : List (TreeOp C V)) (x : Id) (kind : Kind C V) → held x past ≡ Some kind → was_made x past ≡ true
  held_made [] x kind is = cc
  held_made (Makes id k now ∷ past) x kind is = ⊎_elim
      (λ (here : same id x ≡ true). or_left (same id x) (was_made x past) here)
      (λ (other : same id x ≡ false). or_right (same id x) (was_made x past) (held_made past x kind (rw other at is)))
      (cases_Bool (same id x))
  held_made (Cancels id cause ∷ past) x kind is = held_made past x kind is
  held_made (Advances now ∷ past) x kind is = held_made past x kind is
  held_made (HandsOut id ∷ past) x kind is = held_made past x kind is
  held_made (Releases id ∷ past) x kind is = ⊎_elim
      (λ (here : same id x ≡ true). let bad : None ≡ Some kind = rw here at is in cc)
      (λ (other : same id x ≡ false). held_made past x kind (rw other at is))
      (cases_Bool (same id x))

  pub new_id : (past : List (TreeOp C V)) (id : Id) (kind : Kind C V) (now : ℕ) → IsLawful (Makes id kind now ∷ past) → was_made id past ≡ false
  new_id past id kind now lawful = ⊎_elim
      (λ (yes' : was_made id past ≡ true). absurd (not_again past id id kind now lawful yes' refl))
      (λ (no' : was_made id past ≡ false). no')
      (cases_Bool (was_made id past))

  -- one that was never made is not held, has no chain and was not ended
  pub unmade_unheld : (past : List (TreeOp C V)) (x : Id) → was_made x past ≡ false → held x past ≡ None
  unmade_unheld past x no' = ⊎_elim
      (λ (none : held x past ≡ None). none)
      (λ (some : (k : Kind C V) × (held x past ≡ Some k)). let bad : true ≡ false = sym (held_made past x some.0 some.1) ∙ no' in cc)
      (option_cases (held x past))

  unmade_chain : (past : List (TreeOp C V)) (x : Id) → was_made x past ≡ false → chain x past ≡ []
  unmade_chain [] x no' = refl
  unmade_chain (Makes id kind now ∷ past) x no' = let n = or_parts (same id x) (was_made x past) no' in rw n.0 (unmade_chain past x n.1)
  unmade_chain (Cancels id cause ∷ past) x no' = unmade_chain past x no'
  unmade_chain (Advances now ∷ past) x no' = unmade_chain past x no'
  unmade_chain (HandsOut id ∷ past) x no' = unmade_chain past x no'
  unmade_chain (Releases id ∷ past) x no' = unmade_chain past x no'

  pub unmade_unended : (past : List (TreeOp C V)) (x : Id) → was_made x past ≡ false → ending x past ≡ None
  unmade_unended [] x no' = refl
  unmade_unended (Makes id kind now ∷ past) x no' = let n = or_parts (same id x) (was_made x past) no' in rw n.0 (unmade_unended past x n.1)
  unmade_unended (Cancels id cause ∷ past) x no' = rw (unmade_unended past x no', unmade_chain past x no') refl
  unmade_unended (Advances now ∷ past) x no' = rw (unmade_unended past x no', unmade_chain past x no') refl
  unmade_unended (HandsOut id ∷ past) x no' = unmade_unended past x no'
  unmade_unended (Releases id ∷ past) x no' = unmade_unended past x no'

  pub new_childless : (past : List (TreeOp C V)) (id : Id) (kind : Kind C V) (now : ℕ) → IsLawful (Makes id kind now ∷ past) → HasChild id (Makes id kind now ∷ past) → ⊥
  new_childless past id kind now lawful has =
      let b = born (Makes id kind now ∷ past) lawful has.child has.kind has.is_held in
      let above : id.0 < has.child.0 = b.parent_low id has.derives in
      let low : has.child.0 < makes past + 1 = held_low (Makes id kind now ∷ past) lawful has.child has.kind has.is_held in
      omega (arith, above, low, lawful.0)

  -- ---- the others

  pub held_stays : (op : TreeOp C V) (past : List (TreeOp C V)) (x : Id) → makes_or_releases x op ≡ false → held x (op ∷ past) ≡ held x past
  held_stays (Makes id kind now) past x other = rw other refl
  held_stays (Cancels id cause) past x other = refl
  held_stays (Advances now) past x other = refl
  held_stays (HandsOut id) past x other = refl
  held_stays (Releases id) past x other = rw other refl

  pub held_on : (op : TreeOp C V) (past : List (TreeOp C V)) (x : Id) (kind : Kind C V) → IsLawful (op ∷ past) → held x past ≡ Some kind → releases x op ≡ false → held x (op ∷ past) ≡ Some kind
  held_on (Makes id k now) past x kind lawful is other = rw (other_id id x k kind now past lawful is) is
  held_on (Cancels id cause) past x kind lawful is other = is
  held_on (Advances now) past x kind lawful is other = is
  held_on (HandsOut id) past x kind lawful is other = is
  held_on (Releases id) past x kind lawful is other = rw other is

  pub chain_on : (op : TreeOp C V) (past : List (TreeOp C V)) (x : Id) (kind : Kind C V) → IsLawful (op ∷ past) → held x past ≡ Some kind → chain x (op ∷ past) ≡ chain x past
  chain_on (Makes id k now) past x kind lawful is = rw (other_id id x k kind now past lawful is) refl
  chain_on (Cancels id cause) past x kind lawful is = refl
  chain_on (Advances now) past x kind lawful is = refl
  chain_on (HandsOut id) past x kind lawful is = refl
  chain_on (Releases id) past x kind lawful is = refl

  pub line_on : (op : TreeOp C V) (past : List (TreeOp C V)) (x : Id) (kind : Kind C V) → IsLawful (op ∷ past) → held x past ≡ Some kind → line x (op ∷ past) ≡ line x past
  line_on (Makes id k now) past x kind lawful is = rw (other_id id x k kind now past lawful is) refl
  line_on (Cancels id cause) past x kind lawful is = refl
  line_on (Advances now) past x kind lawful is = refl
  line_on (HandsOut id) past x kind lawful is = refl
  line_on (Releases id) past x kind lawful is = refl

  pub ending_on : (op : TreeOp C V) (past : List (TreeOp C V)) (x : Id) (kind : Kind C V) → IsLawful (op ∷ past) → held x past ≡ Some kind → may_end op ≡ false → ending x (op ∷ past) ≡ ending x past
  ending_on (Makes id k now) past x kind lawful is no' = rw (other_id id x k kind now past lawful is) refl
  ending_on (Cancels id cause) past x kind lawful is no' = cc
  ending_on (Advances now) past x kind lawful is no' = cc
  ending_on (HandsOut id) past x kind lawful is no' = refl
  ending_on (Releases id) past x kind lawful is no' = refl

  -- ---- a chain with an ended member

  chain_ends : (past : List (TreeOp C V)) → IsLawful past → (n : ℕ) (x t : Id) (kind : Kind C V) → x.0 < n → held x past ≡ Some kind → has_cancel t (chain x past) ≡ true → is_some (ending t past) ≡ true → is_some (ending x past) ≡ true
  chain_ends past lawful zero x t kind low is has ended = absurd (omega (arith, low))
  chain_ends past lawful (suc n) x t kind low is has ended =
      let b = born past lawful x kind is in
      let whole : ((same x t && can_cancel kind) || has_cancel t (option_map_or (λ p. chain p past) (follows kind) [])) ≡ true = rw b.chain_is at has in
      ⊎_elim
      (λ (yes' : same x t ≡ true). let e : x ≡ t = same_true x t yes' in rw e ended)
      (λ (no' : same x t ≡ false). ⊎_elim
      (λ (none : follows kind ≡ None). let bad : false ≡ true = rw (no', none) at whole in cc)
      (λ (some : (p : Id) × (follows kind ≡ Some p)).
      let p_is = follows_parent kind some.0 some.1 in
      let less : some.0.0 < x.0 = b.parent_low some.0 p_is in
      let on : has_cancel t (chain some.0 past) ≡ true = rw (no', some.1) at whole in
      let h = b.parent_held some.0 p_is in
      child_ends past x some.0 kind lawful is some.1 (chain_ends past lawful n some.0 t h.0 (omega (arith, low, less)) h.1 on ended))
      (option_cases (follows kind)))
      (cases_Bool (same x t))

  pub chain_ended : (past : List (TreeOp C V)) (x t : Id) (kind : Kind C V) → IsLawful past → held x past ≡ Some kind → has_cancel t (chain x past) ≡ true → is_some (ending t past) ≡ true → is_some (ending x past) ≡ true
  chain_ended past x t kind lawful is = chain_ends past lawful (x.0 + 1) x t kind (omega arith) is
