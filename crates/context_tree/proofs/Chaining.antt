-- The places of a queue: one comes in behind the last, and any goes.
use Rattle.std.proofs.Common.{◌≡◌, refl, sym, ap, subst, ◌∙◌, arith, ℕ, zero, suc, ◌≤◌, List, [], ◌∷◌, ◌++◌, length, Option, Some, None, true, false, ⊎_elim}
use Rattle.std.specs.Prelude.{◌||◌, ◌==◌, not, filter, is_some, is_none, if◌then◌else◌}
use Rattle.std.proofs.lemmas.Bool.{cases_Bool, eqb-true, eq-eqb, or_parts, or_from}
use Rattle.std.proofs.Math.Bool.{or-false}
use Rattle.std.proofs.lemmas.Option.{same_Some}
use Rattle.context_tree.specs.declared.queue.Place.{Place}
use Rattle.context_tree.specs.Context.{Id, same}
use Rattle.context_tree.specs.Links.{put}
use Rattle.context_tree.specs.Walks.{is_in, first_key, AreApart, keys_of}
use Rattle.context_tree.specs.Queue.{empty_place, joined, ids_from, IsChain, IsQueue}
use Rattle.context_tree.proofs.Keys.{apart_push, in_append, in_left, in_right, swapped}
use Rattle.context_tree.proofs.Linking.{put_other, put_same}
use Rattle.context_tree.proofs.Lineage.{same_true}
use Rattle.context_tree.proofs.Tests.{not_both}

abbrev pub place : Option ℕ → Option ℕ → Option ℕ → Place
place number before after = record { number = number; before = before; after = after }

-- the place of a slot, once this one was put there
abbrev pub written : (ℕ → Place) → ℕ → Place → ℕ → Place
written at key p k = if k == key then p else at k

-- the last slot of these, or the one before them
abbrev pub last_slot : Option ℕ → List Id → Option ℕ
last_slot before [] = before
last_slot before (x ∷ xs) = last_slot (Some x.1) xs

-- ---- keys

pub keys_both : (xs ys : List Id) → keys_of (xs ++ ys) ≡ keys_of xs ++ keys_of ys
keys_both [] ys = refl
keys_both (x ∷ xs) ys = ap (λ l. x.1 ∷ l) (keys_both xs ys)

pub keys_long : (xs : List Id) → length (keys_of xs) ≡ length xs
keys_long [] = refl
keys_long (x ∷ xs) = let rest : length (keys_of xs) ≡ length xs = keys_long xs in omega (arith, rest)

pub in_here : (k : ℕ) (ks : List ℕ) → is_in k (k ∷ ks) ≡ true
in_here k ks = rw (eq-eqb k k refl) refl

pub in_later : (k j : ℕ) (ks : List ℕ) → is_in k ks ≡ true → is_in k (j ∷ ks) ≡ true
in_later k j ks is = in_right k (j ∷ []) ks is

not_same : (a b : ℕ) → (a == b) ≡ false → a ≡ b → ⊥
not_same a b other e = not_both (a == b) (eq-eqb a b e) other

not_some : (a b : ℕ) → (a == b) ≡ false → Some a ≡ Some b → ⊥
not_some a b other e = not_same a b other (same_Some a b e)

-- a key that is among some is none that is not
out_other : (k j : ℕ) (ks : List ℕ) → is_in k ks ≡ false → is_in j ks ≡ true → (j == k) ≡ false
out_other k j ks out here = ⊎_elim
    (λ (yes' : (j == k) ≡ true). absurd (not_both (is_in k ks) (subst (λ z. is_in z ks ≡ true) (eqb-true j k yes') here) out))
    (λ (no' : (j == k) ≡ false). no')
    (cases_Bool (j == k))

pub first_in : (xs : List Id) (k : ℕ) → first_key (keys_of xs) ≡ Some k → is_in k (keys_of xs) ≡ true
first_in [] k is = cc
first_in (x ∷ xs) k is = rw (eq-eqb k x.1 (sym (same_Some x.1 k is))) refl

pub last_in : (before : Option ℕ) (x : Id) (xs : List Id) (k : ℕ) → last_slot before (x ∷ xs) ≡ Some k → is_in k (keys_of (x ∷ xs)) ≡ true
last_in before x [] k is = rw (eq-eqb k x.1 (sym (same_Some x.1 k is))) refl
last_in before x (y ∷ ys) k is = in_later k x.1 (keys_of (y ∷ ys)) (last_in (Some x.1) y ys k is)

last_some : (k : ℕ) (xs : List Id) → is_none (last_slot (Some k) xs) ≡ false
last_some k [] = refl
last_some k (x ∷ xs) = last_some x.1 xs

other_slot : (x y : Id) → (x.1 == y.1) ≡ false → same x y ≡ false
other_slot x y other = ⊎_elim (λ (a : (x.0 == y.0) ≡ true). rw (a, other) refl) (λ (a : (x.0 == y.0) ≡ false). rw a refl) (cases_Bool (x.0 == y.0))

-- ---- what a chain says

module _ (at : ℕ → Place) where
  pub from_is : (before from last : Option ℕ) (xs : List Id) → IsChain at before from xs last → from ≡ first_key (keys_of xs)
  from_is before from last [] c = c.0
  from_is before from last (x ∷ xs) c = c.0

  pub last_is : (before from last : Option ℕ) (xs : List Id) → IsChain at before from xs last → last ≡ last_slot before xs
  last_is before from last [] c = c.1
  last_is before from last (x ∷ xs) c = last_is (Some x.1) c.1 last xs c.3

  pub number_is : (front back : List Id) (x : Id) (before from last : Option ℕ) → IsChain at before from (front ++ x ∷ back) last → (at x.1).number ≡ Some x.0
  number_is [] back x before from last c = ap (λ (p : Place). p.number) c.2
  number_is (y ∷ front) back x before from last c = number_is front back x (Some y.1) c.1 last c.3

  pub before_is : (front back : List Id) (x : Id) (before from last : Option ℕ) → IsChain at before from (front ++ x ∷ back) last → (at x.1).before ≡ last_slot before front
  before_is [] back x before from last c = ap (λ (p : Place). p.before) c.2
  before_is (y ∷ front) back x before from last c = before_is front back x (Some y.1) c.1 last c.3

  pub after_is : (front back : List Id) (x : Id) (before from last : Option ℕ) → IsChain at before from (front ++ x ∷ back) last → (at x.1).after ≡ first_key (keys_of back)
  after_is [] back x before from last c = ap (λ (p : Place). p.after) c.2 ∙ from_is (Some x.1) c.1 last back c.3
  after_is (y ∷ front) back x before from last c = after_is front back x (Some y.1) c.1 last c.3

  -- the ids that are reached are those of the chain
  pub ids_are : (n : ℕ) (before from last : Option ℕ) (xs : List Id) → IsChain at before from xs last → length xs ≤ n → ids_from n at from ≡ xs
  ids_are zero before from last [] c le = refl
  ids_are zero before from last (x ∷ xs) c le = absurd (omega (arith, le))
  ids_are (suc n) before from last [] c le = rw c.0 refl
  ids_are (suc n) before from last (x ∷ xs) c le =
      let after : (at x.1).after ≡ c.1 = ap (λ (p : Place). p.after) c.2 in
      let rest : ids_from n at (at x.1).after ≡ xs = ap (ids_from n at) after ∙ ids_are n (Some x.1) c.1 last xs c.3 (omega (arith, le)) in
      rw (c.0, c.2) (rw (← after) (ap (λ l. x ∷ l) rest))

-- places that say the same of the slots of a chain
pub chain_same : (at at2 : ℕ → Place) (before from last : Option ℕ) (xs : List Id) → IsChain at before from xs last → ((k : ℕ) → is_in k (keys_of xs) ≡ true → at2 k ≡ at k) → IsChain at2 before from xs last
chain_same at at2 before from last [] c same = c
chain_same at at2 before from last (x ∷ xs) c same =
    (c.0, c.1, same x.1 (in_here x.1 (keys_of xs)) ∙ c.2, chain_same at at2 (Some x.1) c.1 last xs c.3 (λ k is. same k (in_later k x.1 (keys_of xs) is)))

place_same : (n b b2 a a2 : Option ℕ) → b ≡ b2 → a ≡ a2 → place n b a ≡ place n b2 a2
place_same n b b2 a a2 b_is a_is = ap (λ z. place n z a) b_is ∙ ap (λ z. place n b2 z) a_is

-- ---- one comes in behind the last

module _ (at at2 : ℕ → Place) (id : Id) (last : Option ℕ) (is : (k : ℕ) → at2 k ≡ joined last (Some id.1) k (written at id.1 (place (Some id.0) last None) k)) where
  new_place : (last ≡ Some id.1 → ⊥) → at2 id.1 ≡ place (Some id.0) last None
  new_place other =
      let here : written at id.1 (place (Some id.0) last None) id.1 ≡ place (Some id.0) last None = rw (eq-eqb id.1 id.1 refl) refl in
      is id.1 ∙ ap (joined last (Some id.1) id.1) here ∙ place_same (Some id.0) _ last _ None (put_same (Some id.1) last id.1 last refl) (put_other last (Some id.1) id.1 None other)

  other_place : (k : ℕ) → (k == id.1) ≡ false → (n b a : Option ℕ) → at k ≡ place n b a → at2 k ≡ place n b (put last (Some id.1) k a)
  other_place k other n b a at_is =
      let here : written at id.1 (place (Some id.0) last None) k ≡ at k = rw other refl in
      is k ∙ ap (joined last (Some id.1) k) (here ∙ at_is) ∙ place_same n _ b _ (put last (Some id.1) k a) (put_other (Some id.1) last k b (not_some id.1 k (swapped id.1 k other))) refl

  next_after : (y : Id) (after : Option ℕ) (ys : List Id) → IsChain at (Some y.1) after ys last → is_in y.1 (keys_of ys) ≡ false → put last (Some id.1) y.1 after ≡ (if is_none after then Some id.1 else after)
  next_after y after [] c out = put_same last (Some id.1) y.1 after c.1 ∙ sym (rw c.0 refl)
  next_after y after (z ∷ zs) c out =
      put_other last (Some id.1) y.1 after (λ e. not_both (is_in y.1 (keys_of (z ∷ zs))) (last_in (Some y.1) z zs y.1 (sym (last_is at (Some y.1) after last (z ∷ zs) c) ∙ e)) out) ∙ rw c.0 refl

  push_chain : (before from : Option ℕ) (xs : List Id) → IsChain at before from xs last → AreApart (keys_of xs) → is_in id.1 (keys_of xs) ≡ false → (before ≡ Some id.1 → ⊥)
      → IsChain at2 before (if is_none from then Some id.1 else from) (xs ++ id ∷ []) (Some id.1)
  push_chain before from [] c own out other =
      (rw c.0 refl, None, new_place (λ e. other (sym c.1 ∙ e)) ∙ ap (λ b. place (Some id.0) b None) c.1, (refl, refl))
  push_chain before from (y ∷ ys) c own out other =
      let n = or_parts (id.1 == y.1) (is_in id.1 (keys_of ys)) out in (
        rw c.0 refl,
        (if is_none c.1 then Some id.1 else c.1),
        other_place y.1 (swapped y.1 id.1 n.0) (Some y.0) before c.1 c.2 ∙ ap (place (Some y.0) before) (next_after y c.1 ys c.3 own.0),
        push_chain (Some y.1) c.1 ys c.3 own.1 n.1 (not_some y.1 id.1 (swapped y.1 id.1 n.0)),
      )

  pub pushed : (first : Option ℕ) (items : List Id) → IsQueue at first last items → is_in id.1 (keys_of items) ≡ false → IsQueue at2 (if is_none last then Some id.1 else first) (Some id.1) (items ++ id ∷ [])
  pushed first items q out = record {
    chain = rw (ends items q.chain) (push_chain None first items q.chain q.apart out (λ e. cc));
    apart = rw (keys_both items (id ∷ [])) (apart_push (keys_of items) id.1 q.apart out);
    only = λ k. rw (keys_both items (id ∷ [])) (⊎_elim (here k) (there k) (cases_Bool (k == id.1)));
  }
    where
      ends : (xs : List Id) → IsChain at None first xs last → is_none last ≡ is_none first
      ends [] c = rw (c.0, c.1) refl
      ends (x ∷ xs) c = ap is_none (last_is at None first last (x ∷ xs) c) ∙ last_some x.1 xs ∙ sym (ap is_none c.0)

      not_last : last ≡ Some id.1 → ⊥
      not_last e = by_items items q.chain out
        where
          by_items : (xs : List Id) → IsChain at None first xs last → is_in id.1 (keys_of xs) ≡ false → ⊥
          by_items [] c o = let bad : None ≡ Some id.1 = sym c.1 ∙ e in cc
          by_items (x ∷ xs) c o = not_both (is_in id.1 (keys_of (x ∷ xs))) (last_in None x xs id.1 (sym (last_is at None first last (x ∷ xs) c) ∙ e)) o

      here : (k : ℕ) → (k == id.1) ≡ true → is_some (at2 k).number ≡ is_in k (keys_of items ++ id.1 ∷ [])
      here k same =
          let e : k ≡ id.1 = eqb-true k id.1 same in
          ap (λ z. is_some (at2 z).number) e ∙ ap (λ (p : Place). is_some p.number) (new_place not_last) ∙ sym (in_right k (keys_of items) (id.1 ∷ []) (rw same refl))

      there : (k : ℕ) → (k == id.1) ≡ false → is_some (at2 k).number ≡ is_in k (keys_of items ++ id.1 ∷ [])
      there k other =
          ap (λ (p : Place). is_some p.number) (other_place k other (at k).number (at k).before (at k).after refl) ∙ q.only k
          ∙ sym (in_append k (keys_of items) (id.1 ∷ []) ∙ ap (λ b. is_in k (keys_of items) || (b || false)) other ∙ or-false (is_in k (keys_of items)))

-- ---- one goes

-- the slot that a chain begins with, once the one behind these has gone
abbrev from_past : List Id → Option ℕ → Option ℕ → Option ℕ
from_past [] after from = after
from_past (y ∷ ys) after from = from

module _ (at at2 : ℕ → Place) (x : Id) (b a last : Option ℕ) (is : (k : ℕ) → at2 k ≡ joined b a k (written at x.1 empty_place k)) where
  kept_place : (k : ℕ) → (k == x.1) ≡ false → (n p q : Option ℕ) → at k ≡ place n p q → at2 k ≡ place n (put a b k p) (put b a k q)
  kept_place k other n p q at_is =
      let here : written at x.1 empty_place k ≡ at k = rw other refl in
      is k ∙ ap (joined b a k) (here ∙ at_is)

  head_gone : (back : List Id) (before from : Option ℕ) → IsChain at before from (x ∷ back) last → AreApart (keys_of (x ∷ back)) → ((k : ℕ) → before ≡ Some k → is_in k (keys_of (x ∷ back)) ≡ false)
      → b ≡ before → a ≡ first_key (keys_of back) → IsChain at2 before a back (if is_none a then b else last)
  head_gone [] before from c own out b_is a_is = (a_is, rw a_is b_is)
  head_gone (z ∷ zs) before from c own out b_is a_is =
      let r = c.3 in
      let n = or_parts (x.1 == z.1) (is_in x.1 (keys_of zs)) own.0 in
      let not_b : b ≡ Some z.1 → ⊥ = λ e. not_both (is_in z.1 (keys_of (x ∷ z ∷ zs))) (in_later z.1 x.1 (keys_of (z ∷ zs)) (in_here z.1 (keys_of zs))) (out z.1 (sym b_is ∙ e)) in (
        a_is,
        r.1,
        kept_place z.1 (swapped z.1 x.1 n.0) (Some z.0) (Some x.1) r.1 r.2
            ∙ place_same (Some z.0) _ before _ r.1 (put_same a b z.1 (Some x.1) a_is ∙ b_is) (put_other b a z.1 r.1 not_b),
        rw a_is (chain_same at at2 (Some z.1) r.1 last zs r.3 (λ k here.
            kept_place k (out_other x.1 k (keys_of zs) n.1 here) (at k).number (at k).before (at k).after refl
            ∙ place_same (at k).number _ (at k).before _ (at k).after
            (put_other a b k (at k).before (λ e. not_some z.1 k (swapped z.1 k (out_other z.1 k (keys_of zs) own.1.0 here)) (sym a_is ∙ e)))
            (put_other b a k (at k).after (λ e. not_both (is_in k (keys_of (x ∷ z ∷ zs))) (in_later k x.1 (keys_of (z ∷ zs)) (in_later k z.1 (keys_of zs) here)) (out k (sym b_is ∙ e)))))),
      )

  take_chain : (front back : List Id) (before from : Option ℕ) → IsChain at before from (front ++ x ∷ back) last → AreApart (keys_of (front ++ x ∷ back)) → ((k : ℕ) → before ≡ Some k → is_in k (keys_of (front ++ x ∷ back)) ≡ false)
      → b ≡ last_slot before front → a ≡ first_key (keys_of back) → IsChain at2 before (from_past front a from) (front ++ back) (if is_none a then b else last)
  take_chain [] back before from c own out b_is a_is = head_gone back before from c own out b_is a_is
  take_chain (y ∷ ys) back before from c own out b_is a_is = (
    c.0,
    from_past ys a c.1,
    kept_place y.1 (swapped y.1 x.1 (out_other y.1 x.1 (keys_of (ys ++ x ∷ back)) own.0 here)) (Some y.0) before c.1 c.2
        ∙ place_same (Some y.0) _ before _ (from_past ys a c.1) (put_other a b y.1 before not_a) (next_past ys b_is own.0),
    take_chain ys back (Some y.1) c.1 c.3 own.1 (λ k e. subst (λ z. is_in z (keys_of (ys ++ x ∷ back)) ≡ false) (same_Some y.1 k e) own.0) b_is a_is,
  )
    where
      here : is_in x.1 (keys_of (ys ++ x ∷ back)) ≡ true
      here = rw (keys_both ys (x ∷ back)) (in_right x.1 (keys_of ys) (keys_of (x ∷ back)) (in_here x.1 (keys_of back)))

      not_a : a ≡ Some y.1 → ⊥
      not_a e = not_both (is_in y.1 (keys_of (ys ++ x ∷ back)))
          (rw (keys_both ys (x ∷ back)) (in_right y.1 (keys_of ys) (keys_of (x ∷ back)) (in_later y.1 x.1 (keys_of back) (first_in back y.1 (sym a_is ∙ e)))))
          own.0

      next_past : (zs : List Id) → b ≡ last_slot (Some y.1) zs → is_in y.1 (keys_of (zs ++ x ∷ back)) ≡ false → put b a y.1 c.1 ≡ from_past zs a c.1
      next_past [] is' o = put_same b a y.1 c.1 is'
      next_past (z ∷ zs) is' o = put_other b a y.1 c.1 (λ e. not_both (is_in y.1 (keys_of (z ∷ zs ++ x ∷ back)))
          (ap (is_in y.1) (keys_both (z ∷ zs) (x ∷ back)) ∙ in_left y.1 (keys_of (z ∷ zs)) (keys_of (x ∷ back)) (last_in (Some y.1) z zs y.1 (sym is' ∙ e)))
          o)

-- of keys of which none stands twice, one less
apart_without : (xs : List ℕ) (k : ℕ) (ys : List ℕ) → AreApart (xs ++ k ∷ ys) → AreApart (xs ++ ys)
apart_without [] k ys own = own.1
apart_without (x ∷ xs) k ys own =
    let n = or_parts (is_in x xs) (is_in x (k ∷ ys)) (sym (in_append x xs (k ∷ ys)) ∙ own.0) in
    let m = or_parts (x == k) (is_in x ys) n.1 in
    (in_append x xs ys ∙ or_from (is_in x xs) (is_in x ys) n.0 m.1, apart_without xs k ys own.1)

apart_both : (xs : List ℕ) (k : ℕ) (ys : List ℕ) → AreApart (xs ++ k ∷ ys) → is_in k (xs ++ ys) ≡ false
apart_both [] k ys own = own.0
apart_both (x ∷ xs) k ys own =
    let n = or_parts (is_in x xs) (is_in x (k ∷ ys)) (sym (in_append x xs (k ∷ ys)) ∙ own.0) in
    let m = or_parts (x == k) (is_in x ys) n.1 in
    or_from (k == x) (is_in k (xs ++ ys)) (swapped k x m.0) (apart_both xs k ys own.1)

in_without : (xs : List ℕ) (k j : ℕ) (ys : List ℕ) → (j == k) ≡ false → is_in j (xs ++ k ∷ ys) ≡ is_in j (xs ++ ys)
in_without [] k j ys other = rw other refl
in_without (x ∷ xs) k j ys other = ap (λ r. (j == x) || r) (in_without xs k j ys other)

pub taken : (at at2 : ℕ → Place) (front back : List Id) (x : Id) (first last : Option ℕ) → IsQueue at first last (front ++ x ∷ back)
    → ((k : ℕ) → at2 k ≡ joined (at x.1).before (at x.1).after k (written at x.1 empty_place k))
    → IsQueue at2 (if is_none (at x.1).before then (at x.1).after else first) (if is_none (at x.1).after then (at x.1).before else last) (front ++ back)
taken at at2 front back x first last q is = record {
  chain = rw (← first_past front b_is) (take_chain at at2 x b a last is front back None first q.chain q.apart (λ k e. cc) b_is a_is);
  apart = rw (keys_both front back) (apart_without (keys_of front) x.1 (keys_of back) apart_keys);
  only = λ k. rw (keys_both front back) (⊎_elim (here k) (there k) (cases_Bool (k == x.1)));
}
  where
    b : Option ℕ
    b = (at x.1).before

    a : Option ℕ
    a = (at x.1).after

    b_is : b ≡ last_slot None front
    b_is = before_is at front back x None first last q.chain

    a_is : a ≡ first_key (keys_of back)
    a_is = after_is at front back x None first last q.chain

    apart_keys : AreApart (keys_of front ++ x.1 ∷ keys_of back)
    apart_keys = rw (← keys_both front (x ∷ back)) q.apart

    first_past : (xs : List Id) → b ≡ last_slot None xs → from_past xs a first ≡ (if is_none b then a else first)
    first_past [] e = rw e refl
    first_past (y ∷ ys) e = rw (ap is_none e ∙ last_some y.1 ys) refl

    here : (k : ℕ) → (k == x.1) ≡ true → is_some (at2 k).number ≡ is_in k (keys_of front ++ keys_of back)
    here k same =
        let e : k ≡ x.1 = eqb-true k x.1 same in
        let gone : written at x.1 empty_place k ≡ empty_place = rw same refl in
        ap (λ (p : Place). is_some p.number) (is k ∙ ap (joined b a k) gone) ∙ sym (ap (λ z. is_in z (keys_of front ++ keys_of back)) e ∙ apart_both (keys_of front) x.1 (keys_of back) apart_keys)

    there : (k : ℕ) → (k == x.1) ≡ false → is_some (at2 k).number ≡ is_in k (keys_of front ++ keys_of back)
    there k other =
        let kept : written at x.1 empty_place k ≡ at k = rw other refl in
        ap (λ (p : Place). is_some p.number) (is k ∙ ap (joined b a k) kept) ∙ q.only k ∙ ap (is_in k) (keys_both front (x ∷ back)) ∙ in_without (keys_of front) x.1 k (keys_of back) other

-- ---- what is left of the ids

filter_out : (id : Id) (xs : List Id) → is_in id.1 (keys_of xs) ≡ false → filter (λ x. not (same x id)) xs ≡ xs
filter_out id [] out = refl
filter_out id (x ∷ xs) out =
    let n = or_parts (id.1 == x.1) (is_in id.1 (keys_of xs)) out in
    let other : same x id ≡ false = other_slot x id (swapped x.1 id.1 n.0) in
    rw other (ap (λ l. x ∷ l) (filter_out id xs n.1))

pub filter_one : (front back : List Id) (x id : Id) → AreApart (keys_of (front ++ x ∷ back)) → x.0 ≡ id.0 → x.1 ≡ id.1 → filter (λ y. not (same y id)) (front ++ x ∷ back) ≡ front ++ back
filter_one [] back x id own number key =
    let here : same x id ≡ true = rw (eq-eqb x.0 id.0 number, eq-eqb x.1 id.1 key) refl in
    rw here (filter_out id back (subst (λ z. is_in z (keys_of back) ≡ false) key own.0))
filter_one (y ∷ ys) back x id own number key =
    let later : is_in id.1 (keys_of (ys ++ x ∷ back)) ≡ true = ap (is_in id.1) (keys_both ys (x ∷ back)) ∙ in_right id.1 (keys_of ys) (keys_of (x ∷ back)) (subst (λ z. is_in z (keys_of (x ∷ back)) ≡ true) key (in_here x.1 (keys_of back))) in
    let other : same y id ≡ false = other_slot y id (swapped y.1 id.1 (out_other y.1 id.1 (keys_of (ys ++ x ∷ back)) own.0 later)) in
    rw other (ap (λ l. y ∷ l) (filter_one ys back x id own.1 number key))

pub filter_none : (at : ℕ → Place) (id : Id) (before from last : Option ℕ) (xs : List Id) → IsChain at before from xs last → ((at id.1).number ≡ Some id.0 → ⊥) → filter (λ x. not (same x id)) xs ≡ xs
filter_none at id before from last [] c other = refl
filter_none at id before from last (x ∷ xs) c other = ⊎_elim
    (λ (yes' : same x id ≡ true). absurd (other (subst (λ (z : Id). (at z.1).number ≡ Some z.0) (same_true x id yes') (ap (λ (p : Place). p.number) c.2))))
    (λ (no' : same x id ≡ false). rw no' (ap (λ l. x ∷ l) (filter_none at id (Some x.1) c.1 last xs c.3 other)))
    (cases_Bool (same x id))
