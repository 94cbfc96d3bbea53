-- What a step leaves of what it was lent, and the connection's tie, over several parts of a step.
use Rattle.gateway_connection.specs.lemmas.Names.{◌≡◌, ℕ, zero, suc, ◌<◌, refl, sym, ap, ◌∙◌, List, [], ◌∷◌, ◌++◌, Some, None, Bool, true, false, map, length, append-nil, append_assoc, subst, arith, ◌||◌, filter, if◌then◌else◌, not, slice_set, All, list_any, remove, length-map, sum_by-cons, CallId, is_call, contexts_value, ends_of, peer, closed, HookedContexts, AreApart, KeptValue, CallState, call_at, HeldConnection, is_spent, IsFound, given_up, kept_at, waiting, waiting_in, all_stay, same_call, Forgets, back_held, broken_held, forgotten, lost_held, stays, call_apart, call_found, call_itself, LeavesRest, none_over, IsTied, LeavesOthers, Shared, nat_tests}
use Rattle.gateway_model.specs.Job.{JobValue}
use Rattle.gateway_connection.specs.lemmas.OwnContexts.{others_none, others_then, closed_own}
use Rattle.gateway_connection.proofs.DoneLemmas.{set_waits}
use Rattle.gateway_connection.proofs.LinkedLemmas.{dead_life, forgot_linked, set_alike, dead_calls}
use Rattle.gateway_connection.proofs.SettleLemmas.{tied_calls}

module _ {H : Type 0} where
  pub rest_then : (jobs more : List JobValue) (k l m : HeldConnection) (s t u : Shared H) → l.number ≡ k.number → LeavesRest jobs k l s t → LeavesRest more l m t u → LeavesRest (jobs ++ more) k m s u
  rest_then jobs more k l m s t u number a b = record {
    plans_are = b.plans_are ∙ a.plans_are;
    moment_is = b.moment_is ∙ a.moment_is;
    jobs_are = b.jobs_are ∙ ap (λ js. js ++ more) a.jobs_are ∙ append_assoc s.jobs.jobs jobs more;
    waits = let first = a.waits in let last = b.waits in omega (arith, first, last);
    others = others_then k.number s.contexts t.contexts u.contexts a.others (subst (λ n. LeavesOthers n t.contexts u.contexts) number b.others);
  }

  -- nothing was done
  pub rest_none : (k : HeldConnection) (s : Shared H) → LeavesRest [] k k s s
  rest_none k s = record { plans_are = refl; moment_is = refl; jobs_are = sym (append-nil s.jobs.jobs); waits = refl; others = others_none k.number s.contexts }

  -- the connection alone changed, and as many of its branches wait
  pub rest_conn : (jobs : List JobValue) (k l m : HeldConnection) (s t : Shared H) → waiting m.calls ≡ waiting l.calls → LeavesRest jobs k l s t → LeavesRest jobs k m s t
  rest_conn jobs k l m s t same a = record { plans_are = a.plans_are; moment_is = a.moment_is; jobs_are = a.jobs_are; waits = let was = a.waits in omega (arith, was, same); others = a.others }

-- ---- a branch that comes back, of a call that can't be decided any more

waits_dead : (k : KeptValue) → k.call.live ≡ None → waiting_in k ≡ 0
waits_dead k e = rw e refl

pub back_waits : (k : HeldConnection) (i branch : ℕ) → i < length k.calls → (kept_at i k.calls).call.live ≡ None → waiting (back_held i branch k).calls ≡ waiting k.calls
back_waits k i branch lt dead = grind (arith, nat_tests, set_waits, waits_dead)

pub tied_back : {H : Type 0} (k : HeldConnection) (i branch : ℕ) (c : HookedContexts H) → i < length k.calls → (kept_at i k.calls).call.live ≡ None → IsTied none_over k c → IsTied none_over (back_held i branch k) c
tied_back k i branch c lt dead tied = grind (arith, nat_tests, tied_calls, set_alike, dead_life)

-- of one that broke
given_set : (ks : List KeptValue) (i : ℕ) (new : KeptValue) → i < length ks → map given_up (slice_set ks i new) ≡ slice_set (map given_up ks) i (given_up new)
given_set [] i new lt = absurd (omega (arith, lt))
given_set (k ∷ ks) zero new lt = refl
given_set (k ∷ ks) (suc i) new lt = ap (λ xs. given_up k ∷ xs) (given_set ks i new (omega (arith, lt)))

set_twice : (ks : List KeptValue) (i : ℕ) (x y : KeptValue) → slice_set (slice_set ks i x) i y ≡ slice_set ks i y
set_twice [] i x y = refl
set_twice (k ∷ ks) zero x y = refl
set_twice (k ∷ ks) (suc i) x y = ap (λ xs. k ∷ xs) (set_twice ks i x y)

set_there : (ks : List KeptValue) (i : ℕ) (x : KeptValue) → i < length ks → kept_at i (slice_set ks i x) ≡ x
set_there [] i x lt = absurd (omega (arith, lt))
set_there (k ∷ ks) zero x lt = refl
set_there (k ∷ ks) (suc i) x lt = set_there ks i x (omega (arith, lt))

given_there : (ks : List KeptValue) (i : ℕ) → i < length ks → kept_at i (map given_up ks) ≡ given_up (kept_at i ks)
given_there [] i lt = absurd (omega (arith, lt))
given_there (k ∷ ks) zero lt = refl
given_there (k ∷ ks) (suc i) lt = given_there ks i (omega (arith, lt))

bool_set : (out : List Bool) (i : ℕ) → slice_set (slice_set out i false) i false ≡ slice_set out i false
bool_set [] i = refl
bool_set (b ∷ out) zero = refl
bool_set (b ∷ out) (suc i) = ap (λ xs. b ∷ xs) (bool_set out i)

-- where the branch had come back before it broke, it is as if it comes back after
pub back_twice : (k : HeldConnection) (i branch : ℕ) → i < length k.calls → back_held i branch (broken_held (back_held i branch k)) ≡ lost_held i branch k
back_twice k i branch lt = grind (arith, nat_tests, given_set, length-map, set_there, set_twice, bool_set, given_there)

-- of one that breaks no call can be decided
pub broken_dead : (k : HeldConnection) (i : ℕ) → i < length k.calls → (kept_at i (broken_held k).calls).call.live ≡ None
broken_dead k i lt = ap (λ (x : KeptValue). x.call.live) (given_there k.calls i lt)

pub broken_size : (k : HeldConnection) → length (broken_held k).calls ≡ length k.calls
broken_size k = length-map k.calls given_up

-- ---- a call that is forgotten

pub spent_dead : (c : CallState) → is_spent c ≡ true → c.live ≡ None
spent_dead c spent = grind arith

pub without_is : (id : CallId) (ks : List KeptValue) (i : ℕ) → IsFound id ks (Some i) → AreApart ks → filter (λ (k : KeptValue). not (is_call k.id id)) ks ≡ remove ks i
without_is id [] i f apart = absurd (let lt = f.0 in omega (arith, lt))
without_is id (k ∷ ks) zero f apart = rw f.1 (all_stay (λ (m : KeptValue). is_call m.id id) ks (none ks (λ j lt. far j lt)))
  where
    far : (j : ℕ) → j < length ks → is_call (kept_at j ks).id id ≡ false
    far j lt = ap (λ d. is_call (kept_at j ks).id d) (sym (same_call k.id id f.1)) ∙ call_apart k.id (kept_at j ks).id (apart 0 (suc j) (omega arith) (omega (arith, lt)))

    none : (ms : List KeptValue) → ((j : ℕ) → j < length ms → is_call (kept_at j ms).id id ≡ false) → list_any (λ (m : KeptValue). is_call m.id id) ms ≡ false
    none [] far = refl
    none (m ∷ ms) far = rw (far 0 (omega arith)) (none ms (λ j lt. far (suc j) (omega (arith, lt))))
without_is id (k ∷ ks) (suc i) f apart =
    rw (f.2 0 (omega arith)) (ap (λ ms. k ∷ ms) (without_is id ks i (let lt = f.0 in omega (arith, lt), f.1, λ j l. f.2 (suc j) (omega (arith, l)))
    (λ a b l m. apart (suc a) (suc b) (omega (arith, l)) (omega (arith, m)))))

-- a call stands where it is found by its own id
pub itself_found : (ks : List KeptValue) (i : ℕ) → i < length ks → AreApart ks → IsFound (kept_at i ks).id ks (Some i)
itself_found ks i lt apart = (lt, call_itself (kept_at i ks).id, λ j less. apart j i less lt)

pub itself_at : (ks : List KeptValue) (i : ℕ) → i < length ks → AreApart ks → call_at (kept_at i ks).id ks ≡ (kept_at i ks).call
itself_at ks i lt apart = call_found (kept_at i ks).id ks i (itself_found ks i lt apart)

waits_removed : (ks : List KeptValue) (i : ℕ) → i < length ks → waiting_in (kept_at i ks) ≡ 0 → waiting (remove ks i) ≡ waiting ks
waits_removed [] i lt none = absurd (omega (arith, lt))
waits_removed (k ∷ ks) zero lt none = omega (arith, sum_by-cons waiting_in k ks, none)
waits_removed (k ∷ ks) (suc i) lt none = omega (arith, sum_by-cons waiting_in k ks, sum_by-cons waiting_in k (remove ks i), waits_removed ks i (omega (arith, lt)) none)

module _ (k l : HeldConnection) (i : ℕ) (lt : i < length k.calls) (apart : AreApart k.calls) where
  -- as many wait
  pub forgets_waits : Forgets (kept_at i k.calls).id k l → waiting l.calls ≡ waiting k.calls
  forgets_waits (stays kept l_is) = ap (λ (x : HeldConnection). waiting x.calls) l_is
  forgets_waits (forgotten spent l_is) =
      ap (λ (x : HeldConnection). waiting x.calls) l_is ∙ ap waiting (without_is (kept_at i k.calls).id k.calls i (itself_found k.calls i lt apart) apart)
      ∙ waits_removed k.calls i lt (waits_dead (kept_at i k.calls) (spent_dead (kept_at i k.calls).call (ap is_spent (sym (itself_at k.calls i lt apart)) ∙ spent)))

  -- and the contexts are its own still
  pub forgets_tied : {H : Type 0} (c : HookedContexts H) → Forgets (kept_at i k.calls).id k l → IsTied none_over k c → IsTied none_over l c
  forgets_tied c (stays kept l_is) tied = subst (λ x. IsTied none_over x c) (sym l_is) tied
  forgets_tied c (forgotten spent l_is) tied =
      let dead = spent_dead (kept_at i k.calls).call (ap is_spent (sym (itself_at k.calls i lt apart)) ∙ spent) in
      subst (λ x. IsTied none_over x c) (sym l_is) (tied_calls none_over k (record k { calls = filter (λ (x : KeptValue). not (is_call x.id (kept_at i k.calls).id)) k.calls }) c c refl refl refl refl (omega arith) refl refl refl
      (tied.are ∙ ap (λ ls. contexts_value c.standing.drained (if k.closed || k.broken then [] else peer k.number (ends_of c.standing k.number) ∷ []) ls)
      (sym (forgot_linked none_over (kept_at i k.calls).id k.calls i (itself_found k.calls i lt apart) apart dead))) tied)

-- ---- one that is closed or broken

both : (a b : Bool) → a ≡ false → b ≡ false → (a || b) ≡ true → ⊥
both a b h2 h3 h4 = grind (arith, nat_tests)

module _ {H : Type 0} where
  -- one that is closed or broken has none
  pub tied_shut : (l : HeldConnection) (v w : HookedContexts H) → w.standing ≡ closed l.number v.standing → (l.closed || l.broken) ≡ true → All (λ (c : KeptValue). c.call.live ≡ None) l.calls
      → IsTied none_over l w
  tied_shut l v w w_is shut dead = grind (arith, nat_tests, closed_own, dead_calls, both)
