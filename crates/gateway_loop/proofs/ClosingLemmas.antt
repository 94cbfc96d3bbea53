-- Streams that are closed, or wait to be.
use Rattle.gateway_loop.proofs.Words.{◌≡◌, ℕ, zero, suc, ◌+◌, ◌<◌, Bool, length, slice_index_or, List, [], ◌∷◌, ◌++◌, refl, sym, ap, ◌∙◌, arith, count_by, ClosedValue, NetworkValue}
use Rattle.std.specs.Prelude.{remove}
use Rattle.gateway_loop.specs.Closing.{ClosesFrom}
use Rattle.gateway_loop.proofs.AccountLemmas.{count_append}

pub closes_none : (a : NetworkValue) (waiting : List ClosedValue) → ClosesFrom a a waiting waiting
closes_none a waiting = record { told = refl; made = refl; asked = refl; each = λ p. refl }

pub closes_then : (a b c : NetworkValue) (u v w : List ClosedValue) → ClosesFrom a b u v → ClosesFrom b c v w → ClosesFrom a c u w
closes_then a b c u v w p q = record {
  told = q.told ∙ p.told;
  made = q.made ∙ p.made;
  asked = q.asked ∙ p.asked;
  each = λ f. let first = p.each f in let second = q.each f in omega (arith, first, second);
}

count_remove : (p : ClosedValue → Bool) (xs : List ClosedValue) (index : ℕ) (x : ClosedValue) → index < length xs → x ≡ slice_index_or xs index x
    → count_by p xs ≡ count_by p (x ∷ []) + count_by p (remove xs index)
count_remove p [] index x lt its = absurd (omega (arith, lt))
count_remove p (y ∷ ys) zero x lt its = ap (λ (z : ClosedValue). count_by p (z ∷ ys)) (sym its) ∙ count_append p (x ∷ []) ys
count_remove p (y ∷ ys) (suc index) x lt its =
    let rest = count_remove p ys index x (omega (arith, lt)) its in
    let before = count_append p (y ∷ []) ys in
    let after = count_append p (y ∷ []) (remove ys index) in
    omega (arith, rest, before, after)

-- the first of them was closed
pub closes_first : (a b : NetworkValue) (x : ClosedValue) (waiting rest : List ClosedValue) → waiting ≡ x ∷ rest → b ≡ record a { closed = a.closed ++ x ∷ [] } → ClosesFrom a b waiting rest
closes_first a b x waiting rest is net = record {
  told = ap (λ (v : NetworkValue). v.told) net;
  made = ap (λ (v : NetworkValue). v.made) net;
  asked = ap (λ (v : NetworkValue). v.asked) net;
  each = λ p.
      let now = ap (λ (v : NetworkValue). count_by p v.closed) net ∙ count_append p a.closed (x ∷ []) in
      let before = ap (count_by p) is ∙ count_append p (x ∷ []) rest in
      omega (arith, now, before);
}

-- .. one of them
pub closes_one : (a b : NetworkValue) (x : ClosedValue) (waiting rest : List ClosedValue) (index : ℕ) → index < length waiting → x ≡ slice_index_or waiting index x → rest ≡ remove waiting index
    → b ≡ record a { closed = a.closed ++ x ∷ [] } → ClosesFrom a b waiting rest
closes_one a b x waiting rest index lt its is net = record {
  told = ap (λ (v : NetworkValue). v.told) net;
  made = ap (λ (v : NetworkValue). v.made) net;
  asked = ap (λ (v : NetworkValue). v.asked) net;
  each = λ p.
      let now = ap (λ (v : NetworkValue). count_by p v.closed) net ∙ count_append p a.closed (x ∷ []) in
      let before = count_remove p waiting index x lt its in
      let left = ap (count_by p) is in
      omega (arith, now, before, left);
}

-- it waits too
pub closes_later : (a : NetworkValue) (x : ClosedValue) (waiting later : List ClosedValue) → later ≡ waiting ++ x ∷ [] → ClosesFrom a a (x ∷ waiting) later
closes_later a x waiting later is = record {
  told = refl;
  made = refl;
  asked = refl;
  each = λ p.
      let now = ap (count_by p) is ∙ count_append p waiting (x ∷ []) in
      let before = count_append p (x ∷ []) waiting in
      omega (arith, now, before);
}

-- what is closed of some is closed of more
pub closes_beside : (a b : NetworkValue) (x : ClosedValue) (v w : List ClosedValue) → ClosesFrom a b v w → ClosesFrom a b (x ∷ v) (x ∷ w)
closes_beside a b x v w c = record {
  told = c.told;
  made = c.made;
  asked = c.asked;
  each = λ p.
      let its = c.each p in
      let before = count_append p (x ∷ []) v in
      let after = count_append p (x ∷ []) w in
      omega (arith, its, before, after);
}
