-- The least deadline of the contexts is the one by which they are due.
use Rattle.gateway_replies.proofs.Names.{◌≡◌, ℕ, refl, List, Option, Some, None, true, false, arith, IfSome, All, nat_le, list_any, option_map_or, AreNoSooner, IsNoSooner, has_deadline, is_due, CallContext, lives_of, nat_tests}
use Rattle.gateway_replies.specs.Least.{first_deadline}
use Rattle.gateway_replies.specs.lemmas.Due.{lives_due, same_due}
use Rattle.gateway_replies.proofs.ToldLemmas.{due_is}

due_as : (m : ℕ) (first : Option ℕ) → is_due m first ≡ option_map_or (λ at. nat_le at m) first false
due_as m None = refl
due_as m (Some at) = refl

module _ {V : Type 0} where
  pub first_is : (text : V → List ℕ) (cs : List (CallContext V)) (first : Option ℕ)
      → All (IsNoSooner first) cs → All (AreNoSooner first) cs → IfSome first (λ at. list_any (has_deadline at) cs ≡ true) → first ≡ first_deadline (lives_of text cs)
  first_is text cs first all branches its = grind (arith, nat_tests, same_due, due_as, due_is, lives_due)
