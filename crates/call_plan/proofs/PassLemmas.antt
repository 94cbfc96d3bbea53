-- Names of fields, of which some two may be one.
use Rattle.std.proofs.Common.{◌≡◌, ℕ, suc, ◌+◌, ◌<◌, ◌≤◌, ◌||◌, List, length, drop, get_or, add-one, drop-cons, Bool, false, refl, sym, ap, ◌∙◌}
use Rattle.std.specs.List.{list_any}
use Rattle.std.proofs.lemmas.List.{drop_all}
use Rattle.http_pieces.specs.Names.{same_name}
use Rattle.call_plan.specs.Pass.{has_same_name}

-- the names from place i on
pub same_name-at : (names : List (List ℕ)) (i : ℕ) (x : List ℕ) → i < length names → x ≡ get_or names i x
    → has_same_name (drop i names) ≡ (list_any (same_name x) (drop (i + 1) names) || has_same_name (drop (i + 1) names))
same_name-at names i x h is =
    rw (add-one, drop-cons names i x h) (ap (λ (y : List ℕ). list_any (same_name y) (drop (suc i) names) || has_same_name (drop (suc i) names)) (sym is))

pub same_name-past : (names : List (List ℕ)) (i : ℕ) → length names ≤ i → has_same_name (drop i names) ≡ false
same_name-past names i h = rw (drop_all i names h) refl
