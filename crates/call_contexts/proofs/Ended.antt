-- A call that is over is found by what the tree hands out next, or none is over.
use Rattle.call_contexts.proofs.Names.{◌≡◌, refl, sym, ap, ◌∙◌, List, [], ◌∷◌, ◌++◌, Option, Some, None, Bool, true, false, ⊎_elim, subst, is_some, arith, ◌||◌, ◌&&◌, IfNone, map, not, All, option_map, option_and_then, option_or, unwrap_or, list_any, option_to_list, list_any_none as none_any, cases_Bool, eq-eqb, or_cases, or_left, or_parts, or_right, All-nil, All-cons, All-head, All-tail, All-weaker, same_Some, or-true, Id, Ended, same, HandsOut, held, handed, ending, is_waiting, parent_of, TreeValue, StandsFor, Kind, Background, Cancel, Deadline, Value, is_among, AfterFuncs, CallId, Life, Twig, Slots, cause_in, has_ended, is_over, seen, seen_branch, seen_branches, seen_call, Op, IsConn, IsHolder, IsLife, IsSound, IsTwig, IsUnhanded, all_ids, contexts, ids_in, ids_of, kind_of, life_at, owner_in, twig_ids, nat_tests}
use Rattle.call_contexts.proofs.Beginning.{seen_alike}
use Rattle.call_contexts.proofs.Branches.{only_one}
use Rattle.call_contexts.proofs.Distinct.{calls_apart, far_parts, no_call_of, none_of_conns}
use Rattle.call_contexts.proofs.Family.{among_in, among_parts, owned, twig_among}
use Rattle.call_contexts.proofs.Lists.{all_none, any_map, both_all, found_any, found_in, none_found, picked}
use Rattle.call_contexts.proofs.Seeing.{sound_held}
use Rattle.call_contexts.proofs.Trees.{not_both, same_refl, same_true, same_turned, shown}

-- ---- whose it is

-- the context of the call, or that of a branch of it
abbrev pub is_row : Id → Life → Bool
is_row x l = same l.ctx x || list_any (λ t. same t.ctx x) l.twigs

neither : (a b : Option Life) → option_map (λ l. l.id) (option_or a b) ≡ None → (a ≡ None) × (b ≡ None)
neither None None is = (refl, refl)
neither None (Some l) is = cc
neither (Some l) b is = cc

all_there : (ls : List Life) → All (λ l. list_any (λ m. same m.ctx l.ctx) ls ≡ true) ls
all_there [] = All-nil (λ l. list_any (λ (m : Life). same m.ctx l.ctx) [] ≡ true)
all_there (k ∷ ks) = All-cons (λ l. list_any (λ m. same m.ctx l.ctx) (k ∷ ks) ≡ true) k ks
    (or_left (same k.ctx k.ctx) (list_any (λ m. same m.ctx k.ctx) ks) (same_refl k.ctx))
    (All-weaker (λ l. list_any (λ m. same m.ctx l.ctx) ks ≡ true) (λ l. list_any (λ m. same m.ctx l.ctx) (k ∷ ks) ≡ true) (λ l is. or_right (same k.ctx l.ctx) (list_any (λ m. same m.ctx l.ctx) ks) is) ks (all_there ks))

twig_row : (x : Id) (ts : List Twig) → is_among x (twig_ids ts) ≡ true → list_any (λ t. same t.ctx x) ts ≡ true
twig_row x [] is = cc
twig_row x (t ∷ ts) is = grind (arith, twig_row x ts, same_turned)

module _ {C V H : Type 0} {f : AfterFuncs H} {base : Id} {conns : List Id} {calls : List Life} {now : TreeValue C V} (s : IsSound now f base conns calls) (x : Id) where
  -- one that has no owner is of no call and of no branch
  no_owner : owner_in s.past x calls ≡ None → All (λ l. is_row x l ≡ false) calls
  no_owner none = All-weaker (λ l. ((same l.ctx x ≡ false) × IsLife s.past base l) × (list_any (λ m. same m.ctx l.ctx) calls ≡ true)) (λ l. is_row x l ≡ false)
      (λ l is. rw is.0.0 (twigs_off l is.0.1 is.1)) calls
      (both_all (λ l. (same l.ctx x ≡ false) × IsLife s.past base l) (λ l. list_any (λ m. same m.ctx l.ctx) calls ≡ true) calls
      (both_all (λ l. same l.ctx x ≡ false) (IsLife s.past base) calls (all_none (λ l. same l.ctx x) calls (none_found x calls parts.0)) s.calls_are) (all_there calls))
    where
      parts : (life_at x calls ≡ None) × (option_and_then (λ p. life_at p calls) (option_and_then parent_of (held x s.past)) ≡ None)
      parts = neither (life_at x calls) _ none

      twigs_off : (l : Life) → IsLife s.past base l → list_any (λ m. same m.ctx l.ctx) calls ≡ true → list_any (λ t. same t.ctx x) l.twigs ≡ false
      twigs_off l is there = ⊎_elim
          (λ (y : list_any (λ t. same t.ctx x) l.twigs ≡ true).
          let it = picked (IsTwig s.past l.ctx) (λ t. same t.ctx x) l.twigs is.twigs_are y in
          let held_is : held x s.past ≡ Some (Deadline l.ctx it.0.at None) = subst (λ z. held z s.past ≡ Some (Deadline l.ctx it.0.at None)) (same_true it.0.ctx x it.2) it.1 in
          let off : life_at l.ctx calls ≡ None = sym (ap (λ o. option_and_then (λ p. life_at p calls) (option_and_then parent_of o)) held_is) ∙ parts.1 in
          absurd (not_both (list_any (λ m. same m.ctx l.ctx) calls) there (none_found l.ctx calls off)))
          (λ (n : list_any (λ t. same t.ctx x) l.twigs ≡ false). n)
          (cases_Bool (list_any (λ t. same t.ctx x) l.twigs))

  -- one that derives from a call's context, and is no call's own, is that of a branch of it
  module _ (p : Id) (k : Kind C V) (x_is : held x s.past ≡ Some k) (derives : parent_of k ≡ Some p) (l : Life) (found : life_at p calls ≡ Some l) (other : life_at x calls ≡ None) where
    from : (j : Kind C V) (q : Id) → held x s.past ≡ Some j → parent_of j ≡ Some q → q ≡ p
    from j q is up = same_Some q p (sym up ∙ ap parent_of (same_Some j k (sym is ∙ x_is)) ∙ derives)

    no_call : is_among p (ids_in calls) ≡ false → ⊥
    no_call none = not_both (list_any (λ m. same m.ctx p) calls) (found_any p l calls found) (no_call_of p calls none)

    abbrev Known : Life → Type 0
    Known m = (IsLife s.past base m × (is_among m.conn conns ≡ true)) × ((same m.ctx p ≡ true → m ≡ l) × (same m.ctx x ≡ false))

    known : All Known calls
    known = both_all (λ m. IsLife s.past base m × (is_among m.conn conns ≡ true)) (λ m. (same m.ctx p ≡ true → m ≡ l) × (same m.ctx x ≡ false)) calls
        (both_all (IsLife s.past base) (λ m. is_among m.conn conns ≡ true) calls s.calls_are s.known)
        (both_all (λ m. same m.ctx p ≡ true → m ≡ l) (λ m. same m.ctx x ≡ false) calls
        (only_one p l calls (calls_apart s.root base conns calls s.distinct) found) (all_none (λ m. same m.ctx x) calls (none_found x calls other)))

    no_holder : (m : Life) (holder : Option Id) → IsHolder s.past m.conn holder → is_among m.conn conns ≡ true → holder ≡ Some x → ⊥
    no_holder m None hs conn is = cc
    no_holder m (Some h) hs conn is =
        let e : m.conn ≡ p = from (Value m.conn 0 hs.0) m.conn (subst (λ z. held z s.past ≡ Some (Value m.conn 0 hs.0)) (same_Some h x is) hs.1) refl in
        no_call (none_of_conns p s.root base conns calls s.distinct (subst (λ z. is_among z conns ≡ true) e conn)).1

    of_one : (m : Life) → Known m → is_among x (ids_of m) ≡ true → list_any (λ t. same t.ctx x) l.twigs ≡ true
    of_one m is among = ⊎_elim
        (λ (o : is_among x (contexts m.ctx m.holder) ≡ true). absurd (⊎_elim
        (λ (e : x ≡ m.ctx). not_both (same m.ctx x) (subst (λ z. same m.ctx z ≡ true) (sym e) (same_refl m.ctx)) is.1.1)
        (λ (h : m.holder ≡ Some x). no_holder m m.holder is.0.0.holder_is is.0.1 h)
        (owned x m.ctx m.holder o)))
        (λ (t : is_among x (twig_ids m.twigs) ≡ true).
        let it = twig_among (IsTwig s.past m.ctx) x m.twigs is.0.0.twigs_are t in
        let e : m.ctx ≡ p = from (Deadline m.ctx it.0.at None) m.ctx (subst (λ z. held z s.past ≡ Some (Deadline m.ctx it.0.at None)) (sym it.2) it.1) refl in
        subst (λ (n : Life). list_any (λ t. same t.ctx x) n.twigs ≡ true) (is.1.0 (subst (λ z. same m.ctx z ≡ true) e (same_refl m.ctx))) (twig_row x m.twigs t))
        (among_parts x (contexts m.ctx m.holder) (twig_ids m.twigs) among)

    of_some : (ms : List Life) → All Known ms → is_among x (ids_in ms) ≡ true → list_any (λ t. same t.ctx x) l.twigs ≡ true
    of_some [] all among = cc
    of_some (m ∷ ms) all among = ⊎_elim (of_one m (All-head Known m ms all)) (of_some ms (All-tail Known m ms all)) (among_parts x (ids_of m) (ids_in ms) among)

    apart : (is_among s.root (base ∷ conns ++ ids_in calls) ≡ false) × (is_among base (conns ++ ids_in calls) ≡ false)
    apart = (s.distinct.0, s.distinct.1.0)

    among_kept : is_among x (all_ids s.root base conns calls) ≡ true
    among_kept = grind (arith, nat_tests, s.none_else x)

    branch_of : list_any (λ t. same t.ctx x) l.twigs ≡ true
    branch_of = ⊎_elim
        (λ (r : same x s.root ≡ true).
        let bad : parent_of {C = C} {V = V} Background ≡ Some p = ap parent_of (same_Some Background k (sym (subst (λ z. held z s.past ≡ Some Background) (sym (same_true x s.root r)) s.root_is) ∙ x_is)) ∙ derives in
        absurd (cc))
        (λ (rest : is_among x (base ∷ conns ++ ids_in calls) ≡ true). ⊎_elim
        (λ (b : same x base ≡ true).
        let e : s.root ≡ p = from (Cancel s.root) s.root (subst (λ z. held z s.past ≡ Some (Cancel s.root)) (sym (same_true x base b)) s.base_is) refl in
        absurd (no_call (subst (λ z. is_among z (ids_in calls) ≡ false) e (far_parts s.root (base ∷ conns) (ids_in calls) apart.0).1)))
        (λ (more : is_among x (conns ++ ids_in calls) ≡ true). ⊎_elim
        (λ (c : is_among x conns ≡ true).
        let e : base ≡ p = from (Cancel base) base (among_in (IsConn base s.past) x conns s.conns_are c) refl in
        absurd (no_call (subst (λ z. is_among z (ids_in calls) ≡ false) e (far_parts base conns (ids_in calls) apart.1).1)))
        (of_some calls known)
        (among_parts x conns (ids_in calls) more))
        (or_cases (same x base) (is_among x (conns ++ ids_in calls)) rest))
        (or_cases (same x s.root) (is_among x (base ∷ conns ++ ids_in calls)) among_kept)

-- ---- it waits, so it has ended

cause_none : {C : Type 0} (o : Option (Ended C)) → (true && is_some o && true) ≡ false → is_some (option_map (λ e. e.cause) o) ≡ false
cause_none None e = refl
cause_none (Some x) e = absurd (cc)

module _ {C V : Type 0} (now : TreeValue C V) (past : List (Op C V)) (st : StandsFor now past) (x : Id) where
  waits_ended : is_waiting x past ≡ true → is_some (cause_in now.slots x) ≡ true
  waits_ended w = grind arith

  rests_not : (k : Kind C V) → held x past ≡ Some k → handed x past ≡ false → is_waiting x past ≡ false → is_some (cause_in now.slots x) ≡ false
  rests_not k is off w = ap (λ o. is_some o) (shown now past x k st is) ∙ cause_none (ending x past)
      (sym (ap (λ (o : Option (Kind C V)). is_some o && is_some (ending x past) && not (handed x past)) is ∙ ap (λ b. true && is_some (ending x past) && not b) off) ∙ w)

-- ---- as it is seen

module _ {C V : Type 0} (slots : Slots C V) where
  over_twig : (x : Id) (ts : List Twig) → list_any (λ t. same t.ctx x) ts ≡ true → is_some (cause_in slots x) ≡ true → list_any (λ b. is_some b.ended) (seen_branches slots ts) ≡ true
  over_twig x [] any over = absurd (cc)
  over_twig x (t ∷ ts) any over = grind (arith, over_twig x ts)

  over_row : (x : Id) (l : Life) → is_row x l ≡ true → is_some (cause_in slots x) ≡ true → is_over (seen_call slots l) ≡ true
  over_row x l row over = grind (arith, nat_tests, same_true, over_twig, or-true)

  -- the call of a context has ended where that of this row has
  over_found : (x y : Id) (l : Life) (ls : List Life) → life_at y ls ≡ Some l → is_row x l ≡ true → is_some (cause_in slots x) ≡ true → list_any (has_ended l.id) (map (seen_call slots) ls) ≡ true
  over_found x y l [] found row over = absurd (cc)
  over_found x y l (m ∷ ms) found row over = grind (arith, nat_tests, over_found x y l ms, same_Some, eq-eqb, over_row, or-true)

  none_over_of : (ts : List Twig) → All (λ t. is_some (cause_in slots t.ctx) ≡ false) ts → list_any (λ b. is_some b.ended) (seen_branches slots ts) ≡ false
  none_over_of ts all = any_map (λ b. is_some b.ended) (seen_branch slots) ts ∙ none_any (λ t. is_some (cause_in slots t.ctx)) ts all

-- ---- the loop

module _ {C V H : Type 0} {f : AfterFuncs H} (base : Id) (conns : List Id) (calls : List Life) {now : TreeValue C V} (s : IsSound now f base conns calls) where
  -- the context of no call and of no branch is passed over
  module _ (x : Id) (none : owner_in s.past x calls ≡ None) (new : TreeValue C V) (st : StandsFor new (HandsOut x ∷ s.past)) where
    others_unhanded : (ts : List Twig) → list_any (λ t. same t.ctx x) ts ≡ false → All (λ t. handed t.ctx s.past ≡ false) ts → All (λ t. handed t.ctx (HandsOut x ∷ s.past) ≡ false) ts
    others_unhanded [] far all = All-nil (λ t. handed t.ctx (HandsOut x ∷ s.past) ≡ false)
    others_unhanded (t ∷ ts) far all =
        let two = or_parts (same t.ctx x) (list_any (λ u. same u.ctx x) ts) far in
        All-cons (λ t. handed t.ctx (HandsOut x ∷ s.past) ≡ false) t ts
        (ap (λ b. b || handed t.ctx s.past) (same_turned x t.ctx ∙ two.0) ∙ All-head (λ t. handed t.ctx s.past ≡ false) t ts all)
        (others_unhanded ts two.1 (All-tail (λ t. handed t.ctx s.past ≡ false) t ts all))

    pub sound_passed : IsSound new f base conns calls
    sound_passed = sound_held s.laws s (HandsOut x ∷ s.past) (λ y. refl) f s.hooks_are new st
        (All-weaker (λ l. (is_row x l ≡ false) × IsUnhanded s.past l) (IsUnhanded (HandsOut x ∷ s.past))
        (λ l is.
        let two = or_parts (same l.ctx x) (list_any (λ t. same t.ctx x) l.twigs) is.0 in (
          ap (λ b. b || handed l.ctx s.past) (same_turned x l.ctx ∙ two.0) ∙ is.1.0,
          others_unhanded l.twigs two.1 is.1.1,
        )) calls (both_all (λ l. is_row x l ≡ false) (IsUnhanded s.past) calls (no_owner s x none) s.unhanded))

    pub seen_passed : seen new.slots base conns calls ≡ seen now.slots base conns calls
    seen_passed = seen_alike s.laws s (HandsOut x ∷ s.past) new st (record { held_is = λ y far. refl; ending_is = λ y kind far is. refl })

  -- it is that of a call or of a branch
  pub found_over : (x : Id) (id : CallId) → is_waiting x s.past ≡ true → owner_in s.past x calls ≡ Some id → list_any (has_ended id) (map (seen_call now.slots) calls) ≡ true
  found_over x id waits owner = grind (arith, nat_tests, waits_ended now s.past s.tree_is x waits, over_found now.slots x, branch_of s x, found_in x (IsLife s.past base), same_refl, or_left, or_right)

  -- where nothing waits, none is over
  pub none_waits : ((x : Id) → is_waiting x s.past ≡ false) → list_any is_over (map (seen_call now.slots) calls) ≡ false
  none_waits none = any_map is_over (seen_call now.slots) calls ∙ none_any (λ l. is_over (seen_call now.slots l)) calls
      (All-weaker (λ l. IsLife s.past base l × IsUnhanded s.past l) (λ l. is_over (seen_call now.slots l) ≡ false)
      (λ l is.
      let own = rests_not now s.past s.tree_is l.ctx (kind_of (unwrap_or l.holder l.conn) l.deadline) is.0.call_is is.1.0 (none l.ctx) in
      rw own (none_over_of now.slots l.twigs (All-weaker (λ t. IsTwig s.past l.ctx t × (handed t.ctx s.past ≡ false)) (λ t. is_some (cause_in now.slots t.ctx) ≡ false)
      (λ t t_is. rests_not now s.past s.tree_is t.ctx (Deadline l.ctx t.at None) t_is.0 t_is.1 (none t.ctx))
      l.twigs (both_all (IsTwig s.past l.ctx) (λ t. handed t.ctx s.past ≡ false) l.twigs is.0.twigs_are is.1.1))))
      calls (both_all (IsLife s.past base) (IsUnhanded s.past) calls s.calls_are s.unhanded))

-- what is handed out is what was seen to stand first
pub handed_out : {C V : Type 0} (t : TreeValue C V) (x : Id) (r : Option Id) (left : List Id) → (rest : List Id) × (t.done ≡ x ∷ rest) → t.done ≡ option_to_list r ++ left → IfNone r (t.done ≡ [])
    → r ≡ Some x
handed_out t x r left h4 h5 h6 = grind (arith, nat_tests)
