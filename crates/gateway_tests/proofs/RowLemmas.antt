-- Requests that are no calls are answered at once, in their order.
use Rattle.std.proofs.Common.{◌≡◌, ◌==◌, ⊎_elim, true, false, ℕ, zero, suc, ◌+◌, ◌≤◌, [], ◌∷◌, ◌++◌, Option, None, Some, map, length, refl, sym, ap, ◌∙◌, arith, add-zero}
use Rattle.std.specs.List.{range_with_len}
use Rattle.std.proofs.lemmas.Bool.{cases_Bool, eq-eqb, ne_eqb}
use Rattle.std.proofs.lemmas.List.FromFn.{map-range_with_len_more, length-map-range_with_len}
use Rattle.http_pieces.specs.Request.{closes}
use Rattle.connect_codec.specs.declared.verdict.Verdict.TheVariants.{Bare}
use Rattle.gateway_model.specs.Past.{Mark, Past, call_id, arrivals, is_broken, mark_of, marked}
use Rattle.gateway_model.specs.declared.entry.ReplyEntry.{ReplyEntry}
use Rattle.gateway_model.specs.declared.id.CallId.{CallId}
use Rattle.gateway_model.specs.declared.entry.ReplyEntry.TheVariants.{Judged as Judging}
use Rattle.gateway_model.specs.Queue.{answer_of, came, entry, front, queued_entries}
use Rattle.gateway_theory.specs.Replies.{replies}
use Rattle.gateway_tests.specs.Rows.{get_request, gets, after_gets}

-- one more that is there, where all before are there and stay
front_more : {A : Type 0} (f g : ℕ → Option A) → ((k : ℕ) (x : A) → f k ≡ Some x → g k ≡ Some x) → (k n : ℕ) (a : A)
    → length (front (map f (range_with_len k n))) ≡ n → g (k + n) ≡ Some a → front (map g (range_with_len k (suc n))) ≡ front (map f (range_with_len k n)) ++ a ∷ []
front_more f g stays k zero a all here =
    let first : g k ≡ Some a = ap g (sym (add-zero k)) ∙ here in
    ap (λ o. front (o ∷ [])) first
front_more f g stays k (suc n) a all here =
    let next : k + 1 + n ≡ k + suc n = omega arith in
    by_first (f k) refl all (λ more. front_more f g stays (k + 1) n a more (ap g next ∙ here))
  where
    by_first : (o : Option _) → f k ≡ o → length (front (o ∷ map f (range_with_len (k + 1) n))) ≡ suc n
        → (length (front (map f (range_with_len (k + 1) n))) ≡ n
        → front (map g (range_with_len (k + 1) (suc n))) ≡ front (map f (range_with_len (k + 1) n)) ++ a ∷ [])
        → front (g k ∷ map g (range_with_len (k + 1) (suc n))) ≡ front (o ∷ map f (range_with_len (k + 1) n)) ++ a ∷ []
    by_first None o_is full rest = absurd (cc)
    by_first (Some x) o_is full rest =
        ap (λ o. front (o ∷ map g (range_with_len (k + 1) (suc n)))) (stays k x o_is) ∙ ap (λ xs. x ∷ xs) (rest (omega (arith, full)))

gets_whole : (n : ℕ) → is_broken 0 (marked (after_gets n)) ≡ false
unfolding after_gets
gets_whole zero = refl
gets_whole (suc n) = gets_whole n

gets_arrivals : (n : ℕ) → arrivals 0 (marked (after_gets n)) ≡ n
unfolding after_gets
gets_arrivals zero = refl
gets_arrivals (suc n) = rw (gets_whole n) (ap suc (gets_arrivals n))

-- the next one has not come
not_come : (n k : ℕ) → n ≤ k → came (call_id 0 k) (marked (after_gets n)) ≡ None
unfolding after_gets
not_come zero k le = ⊎_elim (λ (first : (0 == k) ≡ true). rw first refl) (λ (later : (0 == k) ≡ false). rw later refl) (cases_Bool (0 == k))
not_come (suc n) k le = rw (not_come n k (omega (arith, le)), ne_eqb (arrivals 0 (marked (after_gets n))) k (λ same. omega (arith, le, same, gets_arrivals n))) refl

-- what a request is answered by stays
abbrev pub EntryStays : Type 0
EntryStays = (id : CallId) (m : Mark) (past : Past) (x : ReplyEntry) → entry id past ≡ Some x → entry id (m ∷ past) ≡ Some x

gets_queued : EntryStays → (n : ℕ) → queued_entries 0 (marked (after_gets n)) ≡ map (λ k. Judging (Bare 405) (closes (get_request k))) (range_with_len 0 n)
unfolding after_gets
gets_queued stays zero = refl
gets_queued stays (suc n) =
    let past : Past = marked (after_gets n) in
    let m : Mark = mark_of past (gets n) in
    let e : ReplyEntry = Judging (Bare 405) (closes (get_request n)) in
    let f : ℕ → Option ReplyEntry = λ k. entry (call_id 0 k) past in
    let g : ℕ → Option ReplyEntry = λ k. entry (call_id 0 k) (m ∷ past) in
    let count : arrivals 0 past ≡ n = gets_arrivals n in
    let none : came (call_id 0 n) past ≡ None = not_come n n (omega arith) in
    let here : g n ≡ Some e = rw (none, eq-eqb (arrivals 0 past) n count, gets_whole n) refl in
    let before : front (map f (range_with_len 0 n)) ≡ map (λ k. Judging (Bare 405) (closes (get_request k))) (range_with_len 0 n) =
    ap (λ c. front (map f (range_with_len 0 c))) (sym count) ∙ gets_queued stays n in
    let full : length (front (map f (range_with_len 0 n))) ≡ n = ap length before ∙ length-map-range_with_len (λ k. Judging (Bare 405) (closes (get_request k))) 0 n in
    let at : 0 + n ≡ n = omega arith in
    ap (λ c. front (map g (range_with_len 0 c))) (gets_arrivals (suc n))
    ∙ front_more f g (λ k x. stays (call_id 0 k) m past x) 0 n e full (ap g at ∙ here)
    ∙ ap (λ es. es ++ e ∷ []) before ∙ sym (more n)
  where
    more : (n : ℕ) → map (λ k. Judging (Bare 405) (closes (get_request k))) (range_with_len 0 (suc n)) ≡ map (λ k. Judging (Bare 405) (closes (get_request k))) (range_with_len 0 n) ++ Judging (Bare 405) (closes (get_request n)) ∷ []
    more n =
        let one : suc n ≡ n + 1 = omega arith in
        ap (λ c. map (λ k. Judging (Bare 405) (closes (get_request k))) (range_with_len 0 c)) one
        ∙ map-range_with_len_more (λ k. Judging (Bare 405) (closes (get_request k))) 0 n n (omega arith)

-- so many requests that are no calls
pub gets_answered : EntryStays → (n : ℕ) → replies 0 (marked (after_gets n)) ≡ map answer_of (map (λ k. Judging (Bare 405) (closes (get_request k))) (range_with_len 0 n))
gets_answered stays n = ap (map answer_of) (gets_queued stays n)
