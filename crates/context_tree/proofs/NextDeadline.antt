-- The least deadline of those contexts that are not ended is the first timer's.
use Rattle.std.proofs.Common.{◌≡◌, refl, sym, ap, ◌∙◌, arith, ℕ, ◌+◌, ◌<◌, ◌≤◌, List, Option, Some, None, true, false, ⊎_elim}
use Rattle.std.specs.Prelude.{IfSome, is_none, is_some, min, nat_le}
use Rattle.std.proofs.lemmas.Bool.{cases_Bool, le-leb}
use Rattle.timer_heap.specs.Timers.{Timer, earliest, if_due, next_time, popped}
use Rattle.context_tree.specs.declared.node.Kind.{Kind}
use Rattle.context_tree.specs.Context.{Id, TreeOp, Ended, held, chain, follows, own_deadline, sooner, least, deadline, ending}
use Rattle.context_tree.specs.Timed.{deadline_above, has_entry}
use Rattle.context_tree.specs.Tree.{IsDeadline, IsFirstDeadline, IsLawful, IsNotAfter, StandsFor, TreeValue}
use Rattle.context_tree.proofs.Expiring.{IsFirst, PopLaws, first_popped, none_first, sooner_at}
use Rattle.context_tree.proofs.LawLemmas.{child_ends}
use Rattle.context_tree.proofs.Lineage.{born}
use Rattle.context_tree.proofs.Timing.{not_before}

-- the first timer is popped at its own time, and without one none ever is
popped_itself : (entries : List Timer) (e : Timer) → earliest entries ≡ Some e → popped e.at entries ≡ Some e
popped_itself entries e is = rw (is, le-leb e.at e.at (omega arith)) refl

popped_never : (now : ℕ) (entries : List Timer) → earliest entries ≡ None → popped now entries ≡ None
popped_never now entries none = rw none refl

none_of : {A : Type 0} (o : Option A) → is_none o ≡ true → o ≡ None
none_of None is = refl
none_of (Some a) is = cc

module _ {C V : Type 0} (laws : PopLaws) (t : TreeValue C V) where
  -- what a context that goes on follows goes on
  goes_up : (past : List (TreeOp C V)) → IsLawful past → (x p : Id) (k : Kind C V) → held x past ≡ Some k → follows k ≡ Some p → is_none (ending x past) ≡ true → is_none (ending p past) ≡ true
  goes_up past lawful x p k is up on = by (ending p past) refl
    where
      by : (o : Option (Ended C)) → ending p past ≡ o → is_none o ≡ true
      by None o_is = refl
      by (Some e) o_is = let bad : is_some (ending x past) ≡ true = child_ends past x p k lawful is up (rw o_is refl) in
          let none : ending x past ≡ None = none_of (ending x past) on in
          let clash : false ≡ true = sym (rw none refl) ∙ bad in cc

  pub next_first : (past : List (TreeOp C V)) → StandsFor t past → (next : Option ℕ) → next ≡ next_time t.timers.entries → IsFirstDeadline next past
  next_first past st next next_is = λ x kind at is on due. by x kind at is on due (earliest t.timers.entries) refl
    where
      from : (first : ℕ) → ((at slot : ℕ) → has_entry at slot t.timers.entries ≡ true → first ≤ at) → (x : Id) (kind : Kind C V) (at : ℕ) → held x past ≡ Some kind → ending x past ≡ None → deadline x past ≡ Some at → first ≤ at
      from first each x kind at is on due = not_before (λ x. is_none (ending x past)) t.timers past st.contexts.lawful st.timers (goes_up past st.contexts.lawful) first each (x.0 + 1) x kind at (omega arith) is (rw on refl) due

      by : (x : Id) (kind : Kind C V) (at : ℕ) → held x past ≡ Some kind → ending x past ≡ None → deadline x past ≡ Some at → (o : Option Timer) → earliest t.timers.entries ≡ o → IsNotAfter next at
      by x kind at is on due None o_is = let low = from (at + 1) (λ a slot waits. let later = none_first laws a t.timers.entries (popped_never a t.timers.entries o_is) a slot waits in absurd (omega (arith, later))) x kind at is on due in absurd (omega (arith, low))
      by x kind at is on due (Some e) o_is = rw (next_is, o_is) (from e.at (first_popped laws e.at t.timers.entries e (popped_itself t.timers.entries e o_is)).first x kind at is on due)

  pub next_its : (next : Option ℕ) → next ≡ next_time t.timers.entries → IfSome next (λ first. (past : List (TreeOp C V)) → StandsFor t past → IsDeadline first past)
  next_its next next_is = by (earliest t.timers.entries) refl
    where
      sooner_is : (own above : Option ℕ) (at : ℕ) → own ≡ Some at → ((m : ℕ) → above ≡ Some m → at < m) → sooner own above ≡ Some at
      sooner_is None above at is later = cc
      sooner_is (Some a) None at is later = is
      sooner_is (Some a) (Some m) at is later = let lt = later m refl in let e : a ≡ at = Rattle.std.proofs.lemmas.Option.same_Some a at is in ap (λ n. Some n) (omega (arith, e, lt))

      its : (e : Timer) → IsFirst e.at t.timers.entries e → (past : List (TreeOp C V)) → StandsFor t past → IsDeadline e.at past
      its e f past st =
          let it = st.timers.are_set e.at e.id f.waits in
          let b = born past st.contexts.lawful it.context it.kind it.is_held in
          let times = sooner_at (own_deadline it.kind) (deadline_above it.kind past) e.at it.ends_at in
          record {
            context = it.context;
            kind = it.kind;
            is_held = it.is_held;
            goes_on = none_of (ending it.context past) it.live;
            deadline_is = ap least b.chain_is ∙ sooner_is (own_deadline it.kind) (deadline_above it.kind past) e.at times.0 times.1;
          }

      by : (o : Option Timer) → earliest t.timers.entries ≡ o → IfSome next (λ first. (past : List (TreeOp C V)) → StandsFor t past → IsDeadline first past)
      by None o_is = rw (next_is, o_is) tt
      by (Some e) o_is = rw (next_is, o_is) (its e (first_popped laws e.at t.timers.entries e (popped_itself t.timers.entries e o_is)))
