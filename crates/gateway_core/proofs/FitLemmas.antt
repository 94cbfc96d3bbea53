-- The connections stay tied to their contexts, and the branches that wait stay counted, after a step of one.
use Rattle.gateway_core.proofs.Names.{◌≡◌, ℕ, refl, List, [], ◌∷◌, Option, Some, None, true, false, subst, arith, ◌==◌, All, eqb-true, HeldConnection, KeptValue, waiting, contexts_value, HookedContexts, Over, linked_calls, IsTied, LeavesOthers, own_contexts, none_left, tied_left, AreNumbered, AreTied, Conns, TiedAt, held_at, nat_tests}
use Rattle.gateway_theory.specs.lemmas.Cases.{sym_eqb}
use Rattle.std.proofs.lemmas.List.Elements.{All-head, All-tail}

-- calls of which none can be decided have no contexts, and none of their branches waits
pub dead_linked : (over : Over) (ks : List KeptValue) → All (λ (c : KeptValue). c.call.live ≡ None) ks → linked_calls over ks ≡ []
dead_linked over [] dead = refl
dead_linked over (k ∷ ks) dead = rw (All-head (λ (c : KeptValue). c.call.live ≡ None) k ks dead) (dead_linked over ks (All-tail (λ (c : KeptValue). c.call.live ≡ None) k ks dead))

pub dead_waits : (ks : List KeptValue) → All (λ (c : KeptValue). c.call.live ≡ None) ks → waiting ks ≡ 0
dead_waits [] dead = refl
dead_waits (k ∷ ks) dead = rw (All-head (λ (c : KeptValue). c.call.live ≡ None) k ks dead) (dead_waits ks (All-tail (λ (c : KeptValue). c.call.live ≡ None) k ks dead))

module _ {H : Type 0} where
  -- one that is closed, and is not kept any more
  pub gone_tied : (over : Over) (k : HeldConnection) (x : HookedContexts H) → k.closed ≡ true → All (λ (c : KeptValue). c.call.live ≡ None) k.calls → IsTied over k x
      → own_contexts k.number x.standing ≡ contexts_value x.standing.drained [] []
  gone_tied over k x shut dead tied = grind (arith, nat_tests, dead_linked)

  -- of all but one connection the contexts are as they were
  pub tied_moved : (over : Over) (n : ℕ) (es fs : Conns) (x y : HookedContexts H) → AreNumbered es → LeavesOthers n x y → TiedAt over n (held_at n fs) y
      → ((d : ℕ) → (n == d) ≡ false → held_at d fs ≡ held_at d es) → AreTied over es x → AreTied over fs y
  tied_moved over n es fs x y numbered leaves here others tied = grind (arith, nat_tests, eqb-true, sym_eqb, none_left, tied_left)

  pub tied_at : (over : Over) (n : ℕ) (k : HeldConnection) (o : Option HeldConnection) (x : HookedContexts H) → o ≡ Some k → TiedAt over n o x → IsTied over k x
  tied_at over n k o x is tied = subst (λ p. TiedAt over n p x) is tied
