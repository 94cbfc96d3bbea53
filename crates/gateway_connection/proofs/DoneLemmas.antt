-- A list of calls, of which the first so many were changed.
use Rattle.gateway_connection.specs.lemmas.Names.{◌≡◌, ℕ, zero, suc, ◌+◌, ◌≤◌, ◌<◌, List, [], ◌∷◌, length, map, refl, ap, ◌∙◌, arith, Option, Some, true, slice_set, is_some, get_or-le-sum_by, sum_by-set, set-get_or, CallEvent, KeptValue, HeldConnection, kept_at, no_call, waiting, waiting_in, given_up, stepped_kept, ends_with, nat_tests}

abbrev pub done_to : (KeptValue → KeptValue) → ℕ → List KeptValue → List KeptValue
done_to f zero ks = ks
done_to f (suc n) [] = []
done_to f (suc n) (k ∷ ks) = f k ∷ done_to f n ks

module _ (f : KeptValue → KeptValue) where
  pub done_size : (n : ℕ) (ks : List KeptValue) → length (done_to f n ks) ≡ length ks
  done_size zero ks = refl
  done_size (suc n) [] = refl
  done_size (suc n) (k ∷ ks) = ap suc (done_size n ks)

  pub done_at : (n : ℕ) (ks : List KeptValue) → kept_at n (done_to f n ks) ≡ kept_at n ks
  done_at zero ks = refl
  done_at (suc n) [] = refl
  done_at (suc n) (k ∷ ks) = done_at n ks

  pub done_set : (n : ℕ) (ks : List KeptValue) (new : KeptValue) → n < length ks → new ≡ f (kept_at n ks) → slice_set (done_to f n ks) n new ≡ done_to f (suc n) ks
  done_set n [] new lt is = absurd (omega (arith, lt))
  done_set zero (k ∷ ks) new lt is = ap (λ x. x ∷ ks) is
  done_set (suc n) (k ∷ ks) new lt is = ap (λ xs. f k ∷ xs) (done_set n ks new (omega (arith, lt)) is)

  pub done_next : (n : ℕ) (ks now : List KeptValue) (new : KeptValue) → n < length ks → now ≡ done_to f n ks → new ≡ f (kept_at n ks) → slice_set now n new ≡ done_to f (n + 1) ks
  done_next n ks now new lt now_is is = let more : suc n ≡ n + 1 = omega arith in ap (λ xs. slice_set xs n new) now_is ∙ done_set n ks new lt is ∙ ap (λ m. done_to f m ks) more

  pub done_all : (n : ℕ) (ks : List KeptValue) → length ks ≤ n → done_to f n ks ≡ map f ks
  done_all zero [] le = refl
  done_all zero (k ∷ ks) le = absurd (omega (arith, le))
  done_all (suc n) [] le = refl
  done_all (suc n) (k ∷ ks) le = ap (λ xs. f k ∷ xs) (done_all n ks (omega (arith, le)))

-- the branches that wait, where one call is another
pub set_waits : (ks : List KeptValue) (i : ℕ) (new : KeptValue) → i < length ks → waiting (slice_set ks i new) + waiting_in (kept_at i ks) ≡ waiting ks + waiting_in new
set_waits ks i new lt = sum_by-set waiting_in ks i new no_call lt

pub part_waits : (ks : List KeptValue) (i : ℕ) → i < length ks → waiting_in (kept_at i ks) ≤ waiting ks
part_waits ks i lt = get_or-le-sum_by waiting_in ks i no_call lt

-- ---- one of them

-- the event ends it
pub some_ends : (e : CallEvent) (o : Option CallEvent) (x : KeptValue) → o ≡ Some e → is_some x.call.live ≡ true → (stepped_kept (ends_with o x.call.out x.call.live) x ≡ given_up x) × (is_some (ends_with o x.call.out x.call.live).reply ≡ true)
some_ends e o x some live = grind arith

-- a call in its own place
pub set_same : (k : HeldConnection) (i : ℕ) (y : KeptValue) → y ≡ kept_at i k.calls → record k { calls = slice_set k.calls i y } ≡ k
set_same k i y same = ap (λ ks. record k { calls = ks }) (ap (slice_set k.calls i) same ∙ set-get_or k.calls i no_call)

-- one call was given up before all were
pub given_first : (ks : List KeptValue) (i : ℕ) (y : KeptValue) → y ≡ given_up (kept_at i ks) → map given_up (slice_set ks i y) ≡ map given_up ks
given_first [] i y is = refl
given_first (k ∷ ks) zero y is = ap (λ z. given_up z ∷ map given_up ks) is
given_first (k ∷ ks) (suc i) y is = ap (λ xs. given_up k ∷ xs) (given_first ks i y is)

-- none of its branches waits any more
pub given_waits : (ks : List KeptValue) (i : ℕ) (y : KeptValue) → i < length ks → y ≡ given_up (kept_at i ks) → waiting (slice_set ks i y) + waiting_in (kept_at i ks) ≡ waiting ks
given_waits ks i y lt is = grind (arith, nat_tests, set_waits)
