-- The branch of the least deadline, and of equal ones the first.
use Rattle.call_contexts.proofs.Names.{◌≡◌, refl, sym, ap, ◌∙◌, ℕ, List, [], ◌∷◌, Option, Some, None, true, false, ⊎_elim, subst, is_some, arith, All, if◌then◌else◌, nat_le, map, option_map, option_and_then, cases_Bool, All-head, All-tail, same_Some, Deadline, Id, held, TreeValue, AfterFuncs, CallId, Life, Twig, Slots, branch_before, cause_in, ended_branch, seen_branch, seen_branches, seen_call, sooner_branch, first_branch, if_before, IsLife, IsSound, IsTwig, sooner_twig, soonest_of, life_for, why, nat_tests}
use Rattle.call_contexts.proofs.Seeing.{asked}
use Rattle.call_contexts.proofs.Trees.{shown}
use Rattle.call_contexts.proofs.Lists.{found_for}

-- the first of what was passed and of the rest
abbrev pub merged : Option Twig → Option Twig → Option Twig
merged None rest = rest
merged (Some t) rest = Some (sooner_twig t rest)

-- ---- what is seen

module _ {C V : Type 0} (slots : Slots C V) where
  sooner_seen : (t : Twig) (o : Option Twig) → seen_branch slots (sooner_twig t o) ≡ sooner_branch (seen_branch slots t) (option_map (seen_branch slots) o)
  sooner_seen t None = refl
  sooner_seen t (Some u) = ⊎_elim (λ (y : nat_le t.at u.at ≡ true). rw y refl) (λ (n : nat_le t.at u.at ≡ false). rw n refl) (cases_Bool (nat_le t.at u.at))

  soonest_seen : (ts : List Twig) → first_branch (seen_branches slots ts) ≡ option_map (seen_branch slots) (soonest_of ts)
  soonest_seen [] = refl
  soonest_seen (t ∷ ts) = ap (λ o. Some (sooner_branch (seen_branch slots t) o)) (soonest_seen ts) ∙ ap (λ b. Some b) (sym (sooner_seen t (soonest_of ts)))

  -- the same of what is kept, in whose place the tree tells what ended it
  abbrev pub kept_before : Option ℕ → Option Twig → Option ℕ
  kept_before call o = option_and_then (λ (t : Twig). if is_some (cause_in slots t.ctx) then if_before call t.at t.branch else None) o

  branch_kept : (d : Option ℕ) (ts : List Twig) → branch_before d (seen_branches slots ts) ≡ kept_before d (soonest_of ts)
  branch_kept d ts = grind (arith, nat_tests, soonest_seen)

  -- of the call of that id
  pub ended_found : (id : CallId) (ls : List Life) → ended_branch id (map (seen_call slots) ls) ≡ option_and_then (λ l. kept_before l.deadline (soonest_of l.twigs)) (life_for id ls)
  ended_found id ls = grind (arith, nat_tests, asked, branch_kept)

-- the soonest is one of them
pub soonest_all : (P : Twig → Type 0) (ts : List Twig) (t : Twig) → All P ts → soonest_of ts ≡ Some t → P t
soonest_all P [] t all is = cc
soonest_all P (u ∷ ts) t all is = by (soonest_of ts) refl (soonest_all P ts) is
  where
    by : (o : Option Twig) → soonest_of ts ≡ o → ((w : Twig) → All P ts → soonest_of ts ≡ Some w → P w) → Some (sooner_twig u o) ≡ Some t → P t
    by None o_is rest e = subst P (same_Some u t e) (All-head P u ts all)
    by (Some w) o_is rest e = ⊎_elim
        (λ (le : nat_le u.at w.at ≡ true). subst P (same_Some u t (rw le at e)) (All-head P u ts all))
        (λ (gt : nat_le u.at w.at ≡ false). subst P (same_Some w t (rw gt at e)) (rest w (All-tail P u ts all) o_is))
        (cases_Bool (nat_le u.at w.at))

-- ---- the tree tells what ended it

module _ {C V H : Type 0} {f : AfterFuncs H} {base : Id} {conns : List Id} {calls : List Life} {old : TreeValue C V} (s : IsSound old f base conns calls)
    (id : CallId) (l : Life) (at : life_for id calls ≡ Some l) (t : Twig) (found : soonest_of l.twigs ≡ Some t) where
  it_is : IsTwig s.past l.ctx t
  it_is = soonest_all (IsTwig s.past l.ctx) l.twigs t (found_for (IsLife s.past base) id l calls s.calls_are at).twigs_are found

  pub soonest_held : is_some (held t.ctx s.past) ≡ true
  soonest_held = ap is_some it_is

  pub soonest_told : why t.ctx s.past ≡ cause_in old.slots t.ctx
  soonest_told = sym (shown old s.past t.ctx (Deadline l.ctx t.at None) s.tree_is it_is)
