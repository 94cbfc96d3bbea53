-- The contexts of a call's branches go, one after the other, the last first.
use Rattle.call_contexts.proofs.Names.{◌≡◌, refl, sym, ap, ◌∙◌, arith, ℕ, zero, suc, ◌<◌, List, [], ◌∷◌, length, subst, slice_set, slice_index_or, length-append, Id, Releases, TreeValue, StandsFor, AfterFuncs, Life, Twig, bare_call, seen, seen_branches, Op, BranchesGo, IsFree, IsPlaced, IsSound, IsWithout, Name, names_of, nat_tests}
use Rattle.call_contexts.proofs.Branches.{bare_turned}
use Rattle.call_contexts.proofs.Branching.{same_set, seen_same, seen_taken, sound_taken}
use Rattle.call_contexts.proofs.Order.{set_same}

-- how many branches the call at that place has
abbrev pub left_at : ℕ → List Life → ℕ
left_at i [] = 0
left_at zero (l ∷ ls) = length l.twigs
left_at (suc i) (l ∷ ls) = left_at i ls

pub left_is : (i : ℕ) (d : Life) (ls : List Life) → i < length ls → left_at i ls ≡ length (slice_index_or ls i d).twigs
left_is i d [] lt = absurd (omega (arith, lt))
left_is zero d (l ∷ ls) lt = refl
left_is (suc i) d (l ∷ ls) lt = left_is i d ls (omega (arith, lt))

pub left_set : (i : ℕ) (x : Life) (ls : List Life) → i < length ls → left_at i (slice_set ls i x) ≡ length x.twigs
left_set i x [] lt = absurd (omega (arith, lt))
left_set zero x (l ∷ ls) lt = refl
left_set (suc i) x (l ∷ ls) lt = left_set i x ls (omega (arith, lt))

pub fewer_left : (t : Twig) (old new : List Twig) → IsWithout t old new → length new < length old
fewer_left t old new w = grind (arith, nat_tests, length-append)

placed_set : (id : Id) (i : ℕ) (x : Life) (ls : List Life) → i < length ls → x.ctx ≡ id → IsPlaced id i (slice_set ls i x)
placed_set id i x [] lt own = absurd (omega (arith, lt))
placed_set id zero x (l ∷ ls) lt own = λ d. own
placed_set id (suc i) x (l ∷ ls) lt own = placed_set id i x ls (omega (arith, lt)) own

-- where the calls are the same but for their branches
pub placed_named : (id : Id) (i : ℕ) (ls ms : List Life) → names_of ms ≡ names_of ls → i < length ls → IsPlaced id i ls → IsPlaced id i ms
placed_named id i [] ms named lt own = absurd (omega (arith, lt))
placed_named id i (l ∷ ls) [] named lt own = cc
placed_named id zero (l ∷ ls) (m ∷ ms) named lt own = λ d. let e : (m.id, m.ctx) ≡ (l.id, l.ctx) = cc in ap (λ (n : Name). n.1) e ∙ own d
placed_named id (suc i) (l ∷ ls) (m ∷ ms) named lt own = placed_named id i ls ms (let e : names_of ms ≡ names_of ls = cc in e) (omega (arith, lt)) own

-- some of the call's branches are gone
pub record SomeGone {C V H : Type 0} (id : Id) (place : ℕ) (old now : TreeValue C V) (f : AfterFuncs H) (base : Id) (conns : List Id) (calls left : List Life) : Type 0 where
  pub sound : IsSound now f base conns left
  pub placed : IsPlaced id place left
  pub names_are : names_of left ≡ names_of calls
  pub bare_is : bare_call id (seen now.slots base conns left) ≡ bare_call id (seen old.slots base conns calls)

module _ {C V H : Type 0} (id : Id) (i : ℕ) {old now : TreeValue C V} {f : AfterFuncs H} (base : Id) (conns : List Id) (calls left : List Life) (x : Life) (ts : List Twig) (lt : i < length left)
    (x_is : x ≡ slice_index_or left i x) (g : SomeGone id i old now f base conns calls left) where
  names_set : names_of (slice_set left i (record x { twigs = ts })) ≡ names_of left
  names_set = sym (set_same (λ (k : Life). (k.id, k.ctx)) (λ m us. refl) i x ts left x_is)

  pub one_gone : (t : Twig) → IsWithout t x.twigs ts → (new : TreeValue C V) → ((past : List (Op C V)) → StandsFor now past → IsFree t.ctx past → StandsFor new (Releases t.ctx ∷ past))
      → SomeGone id i old new f base conns calls (slice_set left i (record x { twigs = ts }))
  one_gone t w new frees = record {
    sound = sound_taken g.sound id i x ts lt g.placed x_is new t w frees;
    placed = placed_set id i (record x { twigs = ts }) left lt (ap (λ (k : Life). k.ctx) x_is ∙ g.placed x);
    names_are = names_set ∙ g.names_are;
    bare_is = ap (bare_call id) (seen_taken g.sound id i x ts lt g.placed x_is new t w frees (λ c. seen_branches now.slots ts) refl)
        ∙ bare_turned id (λ c. seen_branches now.slots ts) (seen now.slots base conns left) ∙ g.bare_is;
  }

  pub all_gone : x.twigs ≡ [] → ts ≡ x.twigs → BranchesGo id old now f base conns calls (slice_set left i (record x { twigs = ts }))
  all_gone none ts_is =
      let set_is = same_set g.sound id i x ts lt g.placed x_is now ts_is in
      record {
        sound = subst (IsSound now f base conns) (sym set_is) g.sound;
        seen_is = ap (seen now.slots base conns) set_is ∙ seen_same g.sound id i x ts lt g.placed x_is now (λ c. []) (sym (ap (seen_branches now.slots) none)) ∙ g.bare_is;
        names_are = names_set ∙ g.names_are;
      }
