-- A moment has reached the least deadline of the contexts exactly if it has reached one of them.
use Rattle.std.proofs.Common.{◌≡◌, ℕ, refl, ap, List, [], ◌∷◌, Option, Some, None, false, arith, map}
use Rattle.std.proofs.lemmas.Bool.Decides.{nat_tests}
use Rattle.std.specs.List.{list_any}
use Rattle.std.specs.Prelude.{◌&&◌, is_none, nat_le, if◌then◌else◌}
use Rattle.gateway_model.specs.Past.{is_due, least_of}
use Rattle.gateway_replies.specs.Contexts.{Ended, LifeValue, TimedBranch, has_due}
use Rattle.gateway_replies.specs.Least.{branch_deadline, first_deadline, life_deadline}
use Rattle.gateway_theory.specs.lemmas.Deadlines.{due_smaller}

one_due : (m : ℕ) (ended : Ended) (d : Option ℕ) → is_due m (if is_none ended then d else None) ≡ (is_none ended && is_due m d)
one_due m None d = refl
one_due m (Some e) d = refl

branches_due : (m : ℕ) (bs : List TimedBranch) → is_due m (least_of (map branch_deadline bs)) ≡ list_any (λ (b : TimedBranch). is_none b.ended && nat_le b.deadline m) bs
branches_due m [] = refl
branches_due m (b ∷ bs) = grind (arith, branches_due m bs)

life_due : (m : ℕ) (l : LifeValue) → is_due m (life_deadline l) ≡ has_due m l
life_due m l = grind (arith, nat_tests, due_smaller, one_due, branches_due)

pub lives_due : (m : ℕ) (ls : List LifeValue) → is_due m (first_deadline ls) ≡ list_any (has_due m) ls
lives_due m [] = refl
lives_due m (l ∷ ls) = grind (arith, nat_tests, lives_due m ls, due_smaller, life_due)

-- two that each moment has reached alike are the same
pub same_due : (a b : Option ℕ) → ((m : ℕ) → is_due m a ≡ is_due m b) → a ≡ b
same_due None None alike = refl
same_due None (Some b) alike = absurd (let at : false ≡ nat_le b b = alike b in grind (arith, at))
same_due (Some a) None alike = absurd (let at : nat_le a a ≡ false = alike a in grind (arith, at))
same_due (Some a) (Some b) alike =
    let one : nat_le a a ≡ nat_le b a = alike a in
    let other : nat_le a b ≡ nat_le b b = alike b in
    ap (λ n. Some n) (grind (arith, one, other))
