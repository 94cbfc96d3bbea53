-- A cancel ends what its walk ends, and a moment what the walks of the timers end.
use Rattle.std.proofs.Common.{◌≡◌, refl, sym, ap, subst, ◌∙◌, arith, ℕ, zero, suc, ◌+◌, ◌<◌, ◌≤◌, List, [], ◌∷◌, ◌++◌, length, map, Option, Some, None, Bool, true, false, ⊎_elim}
use Rattle.std.specs.Prelude.{◌&&◌, not, is_some, if◌then◌else◌}
use Rattle.std.proofs.lemmas.Bool.{cases_Bool, and_parts, eq-eqb, false_from_ne_true, or_right, or_left, and_from}
use Rattle.std.proofs.lemmas.Cmp.{nat_eq_equiv}
use Rattle.std.proofs.lemmas.Map.Made.{length-le_from_is_member}
use Rattle.std.proofs.lemmas.Option.{same_Some}
use Rattle.timer_heap.specs.Timers.{Timing}
use Rattle.context_tree.specs.declared.error.CtxErr.TheVariants.{Canceled}
use Rattle.context_tree.specs.declared.node.Ending.{Ending}
use Rattle.context_tree.specs.declared.node.Kind.{Kind}
use Rattle.context_tree.specs.declared.node.Node.{Node}
use Rattle.context_tree.specs.Context.{Id, Member, same, TreeOp, Makes, Cancels, Advances, HandsOut, Releases, Ended, held, held_ids, line, chain, is_member, descendants, follows, can_cancel, has_cancel, cause_or, ends}
use Rattle.context_tree.specs.Links.{number_in}
use Rattle.context_tree.specs.Tree.{TreeValue, node_at, is_among, IsLawful, StandsFor}
use Rattle.context_tree.specs.Walks.{is_in, keys_of, id_in, Start, IsWalk, IsWalked}
use Rattle.context_tree.proofs.Enders.{Ender, ByCancel, op_of}
use Rattle.context_tree.proofs.Keys.{distinct}
use Rattle.context_tree.proofs.Lineage.{born, option_cases, follows_parent, same_true, same_refl}
use Rattle.context_tree.proofs.Marking.{in_slot}
use Rattle.context_tree.proofs.Ordering.{among_filter}
use Rattle.context_tree.proofs.Tests.{not_both, or_cases}
use Rattle.context_tree.proofs.Underway.{begin, child_node, holds, id_shown, is_below, is_left, IsUnderway}
use Rattle.context_tree.proofs.WalkEnds.{goes_on, over, took}

none_if : {A : Type 0} (b : Bool) (a : A) → b ≡ false → is_some (if b then Some a else None) ≡ false
none_if b a is = rw is refl

-- ---- the count of a walk

key_of : (x : Id) (xs : List Id) → is_among x xs ≡ true → is_in x.1 (keys_of xs) ≡ true
key_of x [] is = cc
key_of x (y ∷ ys) is = or_cases (same x y) (is_among x ys) _ is
    (λ first. or_left _ _ (eq-eqb x.1 y.1 (ap (λ (z : Id). z.1) (same_true x y first))))
    (λ later. or_right _ _ (key_of x ys later))

keys_long : (xs : List Id) → length (keys_of xs) ≡ length xs
keys_long [] = refl
keys_long (x ∷ xs) = let rest : length (keys_of xs) ≡ length xs = keys_long xs in omega (arith, rest)

module _ {C V : Type 0} where
  -- one that is held is in the list of those
  listed : (past : List (TreeOp C V)) (x : Id) (k : Kind C V) → held x past ≡ Some k → is_among x (held_ids past) ≡ true
  listed [] x k is = cc
  listed (Makes id kind now ∷ past) x k is = ⊎_elim
      (λ (yes' : same id x ≡ true). or_left _ _ (subst (λ z. same x z ≡ true) (sym (same_true id x yes')) (same_refl x)))
      (λ (no' : same id x ≡ false). or_right _ _ (listed past x k (rw no' at is)))
      (cases_Bool (same id x))
  listed (Cancels id cause ∷ past) x k is = listed past x k is
  listed (Advances now ∷ past) x k is = listed past x k is
  listed (HandsOut id ∷ past) x k is = listed past x k is
  listed (Releases id ∷ past) x k is = ⊎_elim
      (λ (yes' : same id x ≡ true). let bad : None ≡ Some k = rw yes' at is in cc)
      (λ (no' : same id x ≡ false). among_filter (λ y. not (same id y)) x (held_ids past) ∙ and_from _ _ (listed past x k (rw no' at is)) (ap not no'))
      (cases_Bool (same id x))

  -- what a walk looked at beside its target derives from the target
  derives : (e : Ender C) (past : List (TreeOp C V)) (s : Start C V) (before : List Id) (timers : Timing) (ended : List Id) (u : IsUnderway e past s.slots s.done before timers ended)
      (new : List (Option (Node C V))) (done2 : List Id) (timers2 : Timing) (keys visited : List ℕ) (w : IsWalk s new done2 timers2 keys visited keys 0 0)
      → (k : ℕ) → is_in k visited ≡ true → is_in k (keys_of (descendants (id_in s.slots s.target) past)) ≡ true
  derives e past s before timers ended u new done2 timers2 keys visited w k is =
      let t : Id = id_in s.slots s.target in
      let v = w.visited_are k is in
      let c = child_node e past s.slots s.done before timers ended u k v.parent v.derives in
      let x : Id = (c.0.number, k) in
      let held_is = holds e past s.slots s.done before timers ended u k c.0 c.1 in
      let p : Id = c.2.0 in
      let b = born past u.lawful x c.0.kind held_is in
      let ph = b.parent_held p c.2.1 in
      let less : p.0 < x.0 = b.parent_low p c.2.1 in
      let below = is_below e past s before timers ended u new done2 timers2 keys visited w v.parent v.parent_ended in
      let parent_is : id_in s.slots v.parent ≡ p = ap (id_in s.slots) (sym c.2.2) ∙ id_shown e past s.slots s.done before timers ended u p ph.0 ph.1 in
      let on_p : is_member t (line p past) ≡ true = ap (λ z. is_member t (line z past)) (sym parent_is) ∙ below.on_line in
      let low_v : t.0 ≤ (id_in s.slots v.parent).0 = below.low in
      let low_p : (id_in s.slots v.parent).0 ≡ p.0 = ap (λ z. z.0) parent_is in
      let other : same x t ≡ false = false_from_ne_true _ (λ same_id. let n : x.0 ≡ t.0 = ap (λ z. z.0) (same_true x t same_id) in omega (arith, n, less, low_v, low_p)) in
      let on : is_member t (line x past) ≡ true = rw (b.line_is, c.2.1) (or_right _ _ on_p) in
      key_of x (descendants t past) (among_filter (λ y. not (same y t) && is_member t (line y past)) x (held_ids past)
      ∙ and_from _ _ (listed past x c.0.kind held_is) (and_from _ _ (ap not other) on))

  few_visits : (e : Ender C) (past : List (TreeOp C V)) (s : Start C V) (before : List Id) (timers : Timing) (ended : List Id) (u : IsUnderway e past s.slots s.done before timers ended)
      (new : List (Option (Node C V))) (done2 : List Id) (timers2 : Timing) (visits : ℕ) (w : IsWalked s new done2 timers2 visits)
      → visits ≤ 1 + length (descendants (id_in s.slots s.target) past)
  few_visits e past s before timers ended u new done2 timers2 visits w =
      let t : Id = id_in s.slots s.target in
      let few : length w.visited ≤ length (keys_of (descendants t past)) = length-le_from_is_member nat_eq_equiv w.visited (keys_of (descendants t past)) (distinct w.visited w.walk.visited_apart)
      (derives e past s before timers ended u new done2 timers2 w.keys w.visited w.walk) in
      let long : length (keys_of (descendants t past)) ≡ length (descendants t past) = keys_long (descendants t past) in
      let is : visits ≡ length w.visited + 1 = w.visits_is in
      omega (arith, few, long, is)

  -- ---- a cancel

  has_member : (t : Id) (ms : List (Member C V)) → has_cancel t ms ≡ true → is_member t ms ≡ true
  has_member t [] is = cc
  has_member t (m ∷ ms) is = or_cases (same m.0 t && can_cancel m.1) (has_cancel t ms) _ is
      (λ first. or_left _ _ (and_parts (same m.0 t) (can_cancel m.1) first).0)
      (λ later. or_right _ _ (has_member t ms later))

  member_has : (past : List (TreeOp C V)) → IsLawful past → (t : Id) (kt : Kind C V) → held t past ≡ Some kt → can_cancel kt ≡ true → (n : ℕ) (x : Id) (k : Kind C V) → x.0 < n → held x past ≡ Some k
      → is_member t (chain x past) ≡ true → has_cancel t (chain x past) ≡ true
  member_has past lawful t kt t_held can zero x k lt is on = absurd (omega (arith, lt))
  member_has past lawful t kt t_held can (suc n) x k lt is on =
      let b = born past lawful x k is in
      ⊎_elim
      (λ (yes' : same x t ≡ true).
      let e : x ≡ t = same_true x t yes' in
      let ke : k ≡ kt = same_Some k kt (sym is ∙ ap (λ z. held z past) e ∙ t_held) in
      rw b.chain_is (or_left _ _ (and_from _ _ yes' (ap can_cancel ke ∙ can))))
      (λ (no' : same x t ≡ false). ⊎_elim
      (λ (none : follows k ≡ None). let bad : false ≡ true = rw (b.chain_is, no', none) at on in cc)
      (λ (some : (p : Id) × (follows k ≡ Some p)).
      let p = some.0 in
      let over' = follows_parent k p some.1 in
      let ph = b.parent_held p over' in
      let less : p.0 < x.0 = b.parent_low p over' in
      let on_p : is_member t (chain p past) ≡ true = rw (b.chain_is, no', some.1) at on in
      rw (b.chain_is, some.1) (or_right _ _ (member_has past lawful t kt t_held can n p ph.0 (omega (arith, lt, less)) ph.1 on_p)))
      (option_cases (follows k)))
      (cases_Bool (same x t))

  pub cancel_stands : (t : TreeValue C V) (past : List (TreeOp C V)) → StandsFor t past → (id : Id) (n : Node C V) (cause : Option C) (how : Ending C) → node_at t.slots id ≡ Some n → can_cancel n.kind ≡ true
      → how ≡ record { error = Canceled; cause = cause_or Canceled cause }
      → (new : List (Option (Node C V))) (done2 : List Id) (timers2 : Timing) (visits : ℕ) → IsWalked (record { slots = t.slots; done = t.done; timers = t.timers; target = id.1; ending = how }) new done2 timers2 visits
      → StandsFor (record { slots = new; done = done2; timers = timers2; made = t.made; visits = visits }) (Cancels id cause ∷ past)
  cancel_stands t past st id n cause how node_is can how_is new done2 timers2 visits w =
      let s : Start C V = record { slots = t.slots; done = t.done; timers = t.timers; target = id.1; ending = how } in
      let e : Ender C = ByCancel id cause in
      let u = begin e t past st in
      let at = in_slot t.slots id n node_is in
      let number : number_in t.slots id.1 ≡ id.0 = rw at.slot_is at.number_is in
      let target_is : id_in t.slots id.1 ≡ id = ap (λ z. (z, id.1)) number in
      let by : Ended C = record { error = Canceled; cause = cause_or Canceled cause; member = id; turn = length past } in
      let slot = (in_slot t.slots id n node_is).slot_is in
      let held_is : held id past ≡ Some n.kind = ap (λ z. held (z, id.1) past) (sym (in_slot t.slots id n node_is).number_is) ∙ holds e past t.slots t.done t.done t.timers [] u id.1 n slot in
      let gives : (x : Id) (k : Kind C V) → held x past ≡ Some k → is_left past [] x ≡ true → is_member (id_in t.slots id.1) (chain x past) ≡ true → ends (length past) (chain x past) (op_of e) ≡ Some by
      = λ x k x_held left on.
      let has : has_cancel id (chain x past) ≡ true = member_has past st.contexts.lawful id n.kind held_is can (x.0 + 1) x k (omega arith) x_held (subst (λ z. is_member z (chain x past) ≡ true) target_is on) in
      rw has refl in
      let next = goes_on e past s t.done t.timers [] u new done2 timers2 w.keys w.visited w.walk by (sym how_is) (sym target_is) gives (λ at m other. refl) refl in
      over e (record { slots = new; done = done2; timers = timers2; made = t.made; visits = visits }) past t.done ([] ++ map (id_in t.slots) w.keys) next st.queue st.contexts.made_is
      (λ x k x_held x_live out. none_if (has_cancel id (chain x past)) by (false_from_ne_true _ (λ has.
      let on : is_member (id_in t.slots id.1) (chain x past) ≡ true = subst (λ z. is_member z (chain x past) ≡ true) (sym target_is) (has_member id (chain x past) has) in
      not_both _ (took e past s t.done t.timers [] u new done2 timers2 w.keys w.visited w.walk by (sym how_is) (sym target_is) gives (λ at m other. refl) refl x k x_held (rw x_live refl) on) out)))
      (subst (λ z. visits ≤ 1 + length (descendants z past)) target_is (few_visits e past s t.done t.timers [] u new done2 timers2 visits w))
