-- The least deadline is that of a call or a branch that has not ended.
use Rattle.call_contexts.proofs.Names.{◌≡◌, refl, sym, ap, ◌∙◌, arith, rules, ℕ, List, [], ◌∷◌, Option, Some, None, Bool, true, false, ⊎_elim, is_none, subst, is_some, ◌⊎◌, ◌&&◌, ◌||◌, ◌==◌, map, option_map, unwrap_or, All, list_any, option_map_or, and_from, cases_Bool, or_cases, or_left, or_right, All-head, All-tail, Kind, Background, Cancel, Deadline, Id, same, held, chain, deadline, least, sooner, has_cancel, ending, TreeValue, IsDeadline, IsLawful, is_among, AfterFuncs, Life, Twig, Branch, cause_in, has_deadline, seen_branch, seen_branches, seen_call, TreeLaws, IsLife, IsSound, IsTwig, all_ids, contexts, ids_in, ids_of, kind_of, twig_ids, nat_tests}
use Rattle.call_contexts.proofs.Trees.{base_chain, call_deadline, call_hit, conn_chain, parent_least, same_refl, same_true, shown, twig_deadline, twig_hit}
use Rattle.call_contexts.proofs.Lists.{any_map, picked}
use Rattle.call_contexts.proofs.Family.{among_parts}

of_two : (a first : ℕ) (o : Option ℕ) → sooner (Some a) o ≡ Some first → (a ≡ first) ⊎ (o ≡ Some first)
of_two a first o h3 = grind (arith, nat_tests)

itself : (a first : ℕ) → a ≡ first → (a == first) ≡ true
itself a first e = grind (arith, rules, e)

its : (first : ℕ) (d : Option ℕ) → d ≡ Some first → option_map_or (λ x. x == first) d false ≡ true
its first d e = ap (λ o. option_map_or (λ x. x == first) o false) e ∙ itself first first refl

-- a call of which that is one of the contexts; what it passes, one of these does
picked_life : (P : Life → Type 0) (x : Id) (ls : List Life) → All P ls → is_among x (ids_in ls) ≡ true → (l : Life) × P l × (is_among x (ids_of l) ≡ true) × ((q : Life → Bool) → q l ≡ true → list_any q ls ≡ true)
picked_life P x [] all is = cc
picked_life P x (l ∷ ls) all is = ⊎_elim
    (λ (y : is_among x (ids_of l) ≡ true). (l, All-head P l ls all, y, λ q here. or_left (q l) (list_any q ls) here))
    (λ (n : is_among x (ids_in ls) ≡ true).
    let rest = picked_life P x ls (All-tail P l ls all) n in
    (rest.0, rest.1, rest.2, λ q here. or_right (q l) (list_any q ls) (rest.3 q here)))
    (among_parts x (ids_of l) (ids_in ls) is)

module _ {C V H : Type 0} (laws : TreeLaws C V) {f : AfterFuncs H} {base : Id} {conns : List Id} {calls : List Life} {old : TreeValue C V} (s : IsSound old f base conns calls) where
  lawful : IsLawful s.past
  lawful = s.tree_is.contexts.lawful

  -- what goes on is seen to go on
  on_seen : (x : Id) (kind : Kind C V) → held x s.past ≡ Some kind → ending x s.past ≡ None → is_none (cause_in old.slots x) ≡ true
  on_seen x kind is on = ap (λ o. is_none o) (shown old s.past x kind s.tree_is is) ∙ ap (λ o. is_none (option_map (λ e. e.cause) o)) on

  deadline_of : (l : Life) → IsLife s.past base l → deadline l.ctx s.past ≡ l.deadline
  deadline_of l is = call_deadline laws s.past lawful s.root base s.root_is s.base_is l.conn is.conn_is l.ctx l.holder is.holder_is l.deadline is.call_is

  -- a branch goes on with its call
  call_on : (l : Life) → IsLife s.past base l → (t : Twig) → IsTwig s.past l.ctx t → ending t.ctx s.past ≡ None → ending l.ctx s.past ≡ None
  call_on l is t t_is on = by (ending l.ctx s.past) refl
    where
      reaches : has_cancel l.ctx (chain t.ctx s.past) ≡ true
      reaches = twig_hit laws s.past lawful l.ctx t t_is l.ctx ∙ or_right (same t.ctx l.ctx && true) (has_cancel l.ctx (chain l.ctx s.past))
          (call_hit laws s.past lawful s.root base s.root_is s.base_is l.conn is.conn_is l.ctx l.holder is.holder_is l.deadline is.call_is l.ctx
          ∙ or_left (same l.ctx l.ctx && true) (has_cancel l.ctx (chain l.conn s.past)) (rw (same_refl l.ctx) refl))

      by : (o : _) → ending l.ctx s.past ≡ o → o ≡ None
      by None e = refl
      by (Some e) is_e = let bad : is_some (ending t.ctx s.past) ≡ true = laws.ends_with s.past t.ctx l.ctx (Deadline l.ctx t.at None) lawful t_is reaches (ap (λ o. is_some o) is_e) in
          let worse : false ≡ true = sym (ap (λ o. is_some o) on) ∙ bad in cc

  -- the call's own
  by_call : (first : ℕ) (l : Life) → IsLife s.past base l → ending l.ctx s.past ≡ None → l.deadline ≡ Some first → has_deadline first (seen_call old.slots l) ≡ true
  by_call first l is on at = or_left (is_none (cause_in old.slots l.ctx) && option_map_or (λ d. d == first) l.deadline false) _
      (and_from (is_none (cause_in old.slots l.ctx)) (option_map_or (λ d. d == first) l.deadline false) (on_seen l.ctx (kind_of (unwrap_or l.holder l.conn) l.deadline) is.call_is on) (its first l.deadline at))

  -- a branch's, or its call's where that is no later
  by_branch : (first : ℕ) (l : Life) → IsLife s.past base l → (t : Twig) → IsTwig s.past l.ctx t → ((q : Twig → Bool) → q t ≡ true → list_any q l.twigs ≡ true)
      → ending t.ctx s.past ≡ None → deadline t.ctx s.past ≡ Some first → has_deadline first (seen_call old.slots l) ≡ true
  by_branch first l is t t_is among on at =
      let two : sooner (Some t.at) l.deadline ≡ Some first = ap (sooner (Some t.at)) (sym (deadline_of l is)) ∙ sym (twig_deadline laws s.past lawful l.ctx t t_is) ∙ at in
      ⊎_elim
      (λ (own : t.at ≡ first). or_right _ (list_any (λ (b : Branch C). is_none b.ended && (b.deadline == first)) (seen_branches old.slots l.twigs))
      (any_map (λ (b : Branch C). is_none b.ended && (b.deadline == first)) (seen_branch old.slots) l.twigs
      ∙ among (λ t. is_none (cause_in old.slots t.ctx) && (t.at == first))
      (and_from (is_none (cause_in old.slots t.ctx)) (t.at == first) (on_seen t.ctx (Deadline l.ctx t.at None) t_is on) (itself t.at first own))))
      (λ (its : l.deadline ≡ Some first). by_call first l is (call_on l is t t_is on) its)
      (of_two t.at first l.deadline two)

  -- a context of a call has its deadline, or none
  by_owned : (first : ℕ) (x : Id) → ending x s.past ≡ None → deadline x s.past ≡ Some first → (l : Life) → IsLife s.past base l → is_among x (ids_of l) ≡ true → has_deadline first (seen_call old.slots l) ≡ true
  by_owned first x on at l is own = ⊎_elim
      (λ y. by y l.holder refl)
      (λ (y : is_among x (twig_ids l.twigs) ≡ true).
      let t = picked (IsTwig s.past l.ctx) (λ t. same x t.ctx) l.twigs is.twigs_are (sym (any_map (same x) (λ (t : Twig). t.ctx) l.twigs) ∙ y) in
      let e : x ≡ t.0.ctx = same_true x t.0.ctx t.2 in
      by_branch first l is t.0 t.1 t.3 (subst (λ z. ending z s.past ≡ None) e on) (subst (λ z. deadline z s.past ≡ Some first) e at))
      (among_parts x (contexts l.ctx l.holder) (twig_ids l.twigs) own)
    where
      by_own : same x l.ctx ≡ true → has_deadline first (seen_call old.slots l) ≡ true
      by_own y =
          let e : x ≡ l.ctx = same_true x l.ctx y in
          by_call first l is (subst (λ z. ending z s.past ≡ None) e on) (sym (deadline_of l is) ∙ subst (λ z. deadline z s.past ≡ Some first) e at)

      by : is_among x (contexts l.ctx l.holder) ≡ true → (h : Option Id) → l.holder ≡ h → has_deadline first (seen_call old.slots l) ≡ true
      by own None h_is = ⊎_elim by_own (λ (n : false ≡ true). cc) (or_cases (same x l.ctx) false (subst (λ h. is_among x (contexts l.ctx h) ≡ true) h_is own))
      by own (Some h) h_is = ⊎_elim by_own
          (λ (n : (same x h || false) ≡ true). ⊎_elim
          (λ (y : same x h ≡ true).
          let none : deadline x s.past ≡ None = ap (λ z. deadline z s.past) (same_true x h y)
          ∙ subst (λ (k : Option Id). least (chain (unwrap_or k l.conn) s.past) ≡ None) h_is (parent_least laws s.past lawful s.root base s.root_is s.base_is l.conn is.conn_is l.holder is.holder_is) in
          let bad : None ≡ Some first = sym none ∙ at in cc)
          (λ (n : false ≡ true). cc)
          (or_cases (same x h) false n))
          (or_cases (same x l.ctx) (same x h || false) (subst (λ k. is_among x (contexts l.ctx k) ≡ true) h_is own))

  pub has_first : (first : ℕ) → IsDeadline first s.past → list_any (has_deadline first) (map (seen_call old.slots) calls) ≡ true
  has_first first d = any_map (has_deadline first) (seen_call old.slots) calls ∙ ⊎_elim
      (λ (y : same d.context s.root ≡ true). none_of (ap (λ z. deadline z s.past) (same_true d.context s.root y) ∙ ap least (laws.chain_goes_on s.past s.root Background lawful s.root_is)))
      (λ n. ⊎_elim
      (λ (y : same d.context base ≡ true). none_of (ap (λ z. deadline z s.past) (same_true d.context base y) ∙ ap least (base_chain laws s.past lawful s.root base s.root_is s.base_is)))
      (λ n. ⊎_elim
      (λ (y : is_among d.context conns ≡ true).
      let c = picked (λ c. held c s.past ≡ Some (Cancel base)) (same d.context) conns s.conns_are y in
      none_of (ap (λ z. deadline z s.past) (same_true d.context c.0 c.2) ∙ ap least (conn_chain laws s.past lawful s.root base s.root_is s.base_is c.0 c.1)))
      (λ (y : is_among d.context (ids_in calls) ≡ true).
      let l = picked_life (IsLife s.past base) d.context calls s.calls_are y in
      l.3 (λ l. has_deadline first (seen_call old.slots l)) (by_owned first d.context d.goes_on d.deadline_is l.0 l.1 l.2))
      (among_parts d.context conns (ids_in calls) n))
      (or_cases (same d.context base) _ n))
      (or_cases (same d.context s.root) _ kept)
    where
      Has : Type 0
      Has = list_any (λ l. has_deadline first (seen_call old.slots l)) calls ≡ true

      none_of : deadline d.context s.past ≡ None → Has
      none_of none = let bad : None ≡ Some first = sym none ∙ d.deadline_is in cc

      kept : is_among d.context (all_ids s.root base conns calls) ≡ true
      kept = ⊎_elim (λ (y : is_among d.context (all_ids s.root base conns calls) ≡ true). y)
          (λ (n : is_among d.context (all_ids s.root base conns calls) ≡ false). let bad : None ≡ Some d.kind = sym (s.none_else d.context n) ∙ d.is_held in cc)
          (cases_Bool (is_among d.context (all_ids s.root base conns calls)))
