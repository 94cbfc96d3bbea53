-- Names of fields, byte by byte.
use Rattle.std.proofs.Common.{◌≡◌, ◌≢◌, ℕ, ◌+◌, ◌<◌, ◌≤◌, ◌&&◌, length, map, drop, get_or, add-one, drop-cons, Bool, true, false, nat_eq, List, refl, sym, ap, ◌∙◌}
use Rattle.std.proofs.lemmas.List.{drop_all, length-map}
use Rattle.std.specs.Cmp.Lexicographic.{pointwise}
use Rattle.http_pieces.specs.Names.{folded, same_name}
use Rattle.http_pieces.proofs.FieldLemmas.{pointwise_eq}

pub same_length : (a b : List ℕ) → length a ≢ length b → same_name a b ≡ false
unfolding same_name
same_length a b other = by_test (pointwise nat_eq (map folded a) (map folded b)) refl
  where
    by_test : (t : Bool) → pointwise nat_eq (map folded a) (map folded b) ≡ t → pointwise nat_eq (map folded a) (map folded b) ≡ false
    by_test true same =
        absurd (other (sym (length-map a folded) ∙ ap length (pointwise_eq (map folded a) (map folded b) same) ∙ length-map b folded))
    by_test false none = none

-- the names from place i on
pub same_at : (a b : List ℕ) (i d e : ℕ) → i < length a → i < length b
    → same_name (drop i a) (drop i b) ≡ (nat_eq (folded (get_or a i d)) (folded (get_or b i e)) && same_name (drop (i + 1) a) (drop (i + 1) b))
unfolding same_name
same_at a b i d e in_a in_b = rw (drop-cons a i d in_a, drop-cons b i e in_b, add-one i) refl

pub same_past : (a b : List ℕ) (i : ℕ) → length a ≤ i → length b ≤ i → same_name (drop i a) (drop i b) ≡ true
unfolding same_name
same_past a b i past_a past_b = rw (drop_all i a past_a, drop_all i b past_b) refl
