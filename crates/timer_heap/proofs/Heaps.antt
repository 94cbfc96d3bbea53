-- What an exchange, a rise and a fall of one entry leave of a heap.
use Rattle.std.proofs.Common.{◌≡◌, ◌≢◌, refl, ap, ◌∙◌, arith, ℕ, zero, suc, ◌+◌, ◌-◌, ◌/◌, ◌≤◌, ◌<◌, List, [], ◌∷◌, ◌++◌, length, ⊎_elim}
use Rattle.std.proofs.Math.ListN.{get_or-append}
use Rattle.std.specs.Prelude.{All}
use Rattle.std.specs.List.{swap}
use Rattle.std.proofs.lemmas.Bool.{cases_eq}
use Rattle.std.proofs.lemmas.List.Elements.{All-from_get_or}
use Rattle.std.proofs.lemmas.List.Edits.{Swapped, swapped_from_swap}
use Rattle.timer_heap.specs.declared.heap.Entry.{Entry}
use Rattle.timer_heap.specs.Heap.{entry_at, Leads, IsHeap, IsHeapBut, LeadsBelow, IsLed, IsToRise, IsToSink}

-- ---- the order of entries

pub leads_on : (a b c : Entry) → Leads a b → Leads b c → Leads a c
leads_on a b c first then' = record { no_later = omega arith; in_turn = λ same. omega arith }

pub leads_itself : (a : Entry) → Leads a a
leads_itself a = record { no_later = omega arith; in_turn = λ same. omega arith }

at_these : (a b x y : Entry) → a ≡ x → b ≡ y → Leads x y → Leads a b
at_these a b x y p q leads = rw (p, q) leads

-- ---- an exchange

pub swapped_at : (xs ys : List Entry) (one other : ℕ) → one < length xs → other < length xs → ys ≡ swap xs one other → Swapped (entry_at xs) (entry_at ys) one other
swapped_at xs ys one other one_in other_in is = swapped_from_swap xs ys one other (record { at = 0; id = 0; number = 0 }) one_in other_in is

-- the entry at a place and the one above it change places, where it leads that one
pub rise_but : (xs ys : List Entry) (place above : ℕ) → place < length xs → length ys ≡ length xs → ys ≡ swap xs place above → IsHeapBut place xs → IsToRise place above xs → IsHeapBut above ys
rise_but xs ys place above within long is but rises =
    let s = swapped_at xs ys place above within (omega (arith, rises.under)) is in
    let u = rises.under in
    record {
      others = λ p k under k_in p_not k_not. ⊎_elim
          (λ (e : p ≡ place). at_these _ _ _ _ (ap (entry_at ys) e ∙ s.0) (s.2 k (omega arith) k_not) (but.across above k u (rw (← e) under) (omega arith)))
          (λ (p_other : p ≡ place → ⊥). at_these _ _ _ _ (s.2 p p_other p_not) (s.2 k (omega arith) k_not) (but.others p k under (omega arith) p_other (omega arith)))
          (cases_eq p place);
      across = λ p k over under k_in.
          let far = but.others p above over (omega arith) (omega arith) (omega arith) in
          ⊎_elim
          (λ (e : k ≡ place). at_these _ _ _ _ (s.2 p (omega arith) (omega arith)) (ap (entry_at ys) e ∙ s.0) far)
          (λ (k_other : k ≡ place → ⊥). at_these _ _ _ _ (s.2 p (omega arith) (omega arith)) (s.2 k k_other (omega arith)) (leads_on _ _ _ far (but.others above k under (omega arith) (omega arith) k_other)))
          (cases_eq k place);
    }

pub rise_leads : (xs ys : List Entry) (place above : ℕ) → place < length xs → length ys ≡ length xs → ys ≡ swap xs place above → IsHeapBut place xs → IsToRise place above xs → LeadsBelow above ys
rise_leads xs ys place above within long is but rises =
    let s = swapped_at xs ys place above within (omega (arith, rises.under)) is in
    let u = rises.under in
    record {
      leads = λ k under k_in. ⊎_elim
          (λ (e : k ≡ place). at_these _ _ _ _ s.1 (ap (entry_at ys) e ∙ s.0) rises.comes_first)
          (λ (k_other : k ≡ place → ⊥). at_these _ _ _ _ s.1 (s.2 k k_other (omega arith)) (leads_on _ _ _ rises.comes_first (but.others above k under (omega arith) (omega arith) k_other)))
          (cases_eq k place);
    }

-- the entry at a place and the one below it change places, where that one leads it and the other one below it
pub sink_but : (xs ys : List Entry) (place below : ℕ) → place < length xs → length ys ≡ length xs → ys ≡ swap xs place below → IsHeapBut place xs → IsToSink place below xs → IsHeapBut below ys
sink_but xs ys place below within long is but sinks =
    let s = swapped_at xs ys place below within sinks.within is in
    let u = sinks.under in
    record {
      others = λ p k under k_in p_not k_not. ⊎_elim
          (λ (e : p ≡ place). at_these _ _ _ _ (ap (entry_at ys) e ∙ s.0) (s.2 k (omega arith) k_not) (sinks.leads k (rw (← e) under) (omega arith)))
          (λ (p_other : p ≡ place → ⊥). ⊎_elim
          (λ (e : k ≡ place). at_these _ _ _ _ (s.2 p p_other p_not) (ap (entry_at ys) e ∙ s.0) (but.across p below (rw (← e) under) u sinks.within))
          (λ (k_other : k ≡ place → ⊥). at_these _ _ _ _ (s.2 p p_other p_not) (s.2 k k_other k_not) (but.others p k under (omega arith) p_other k_other))
          (cases_eq k place))
          (cases_eq p place);
      across = λ p k over under k_in.
          let e : p ≡ place = omega arith in
          at_these _ _ _ _ (ap (entry_at ys) e ∙ s.0) (s.2 k (omega arith) (omega arith)) (but.others below k under (omega arith) (omega arith) (omega arith));
    }

pub sink_led : (xs ys : List Entry) (place below : ℕ) → place < length xs → length ys ≡ length xs → ys ≡ swap xs place below → IsToSink place below xs → IsLed below ys
sink_led xs ys place below within long is sinks =
    let s = swapped_at xs ys place below within sinks.within is in
    let u = sinks.under in
    record {
      leads = λ p over.
          let e : p ≡ place = omega arith in
          at_these _ _ _ _ (ap (entry_at ys) e ∙ s.0) s.1 sinks.comes_first;
    }

-- no entry is out of order
pub whole : (xs : List Entry) (place : ℕ) → IsHeapBut place xs → LeadsBelow place xs → IsLed place xs → IsHeap xs
whole xs place but leads led = record {
  leads = λ p k under k_in. ⊎_elim
      (λ (e : p ≡ place). at_these _ _ _ _ (ap (entry_at xs) e) refl (leads.leads k (rw (← e) under) k_in))
      (λ (p_other : p ≡ place → ⊥). ⊎_elim
      (λ (e : k ≡ place). at_these _ _ _ _ refl (ap (entry_at xs) e) (led.leads p (rw (← e) under)))
      (λ (k_other : k ≡ place → ⊥). but.others p k under k_in p_other k_other)
      (cases_eq k place))
      (cases_eq p place);
}

-- ---- an entry at the end, and an entry in the place of one that was taken out

pub pushed_at : (xs : List Entry) (e : Entry) (place : ℕ) → place < length xs → entry_at (xs ++ e ∷ []) place ≡ entry_at xs place
pushed_at xs e place within = get_or-append xs (e ∷ []) (record { at = 0; id = 0; number = 0 }) place within

pub last_at : (xs : List Entry) (e : Entry) → entry_at (xs ++ e ∷ []) (length xs) ≡ e
last_at [] e = refl
last_at (x ∷ xs) e = last_at xs e

-- ys is xs without its last place, with another entry at one place
pub record Filled (place : ℕ) (xs ys : List Entry) : Type 0 where
  pub shorter : length ys + 1 ≡ length xs
  pub others : (k : ℕ) → k ≢ place → k < length ys → entry_at ys k ≡ entry_at xs k

-- where the last one is taken out
pub fill_heap : (xs ys : List Entry) (place : ℕ) → Filled place xs ys → place ≡ length ys → IsHeap xs → IsHeap ys
fill_heap xs ys place filled last heap = record {
  leads = λ p k under k_in. at_these _ _ _ _ (filled.others p (omega arith) (omega arith)) (filled.others k (omega arith) k_in) (heap.leads p k under (omega arith));
}

-- ---- the first leads all

leads_from_root : (xs : List Entry) → IsHeap xs → (fuel k : ℕ) → k ≤ fuel → k < length xs → Leads (entry_at xs 0) (entry_at xs k)
leads_from_root xs heap zero k low k_in = at_these _ _ _ _ refl (ap (entry_at xs) (let e : k ≡ 0 = omega arith in e)) (leads_itself (entry_at xs 0))
leads_from_root xs heap (suc fuel) k low k_in = ⊎_elim
    (λ (e : k ≡ 0). at_these _ _ _ _ refl (ap (entry_at xs) e) (leads_itself (entry_at xs 0)))
    (λ (further : k ≡ 0 → ⊥).
    let above = (k - 1) / 2 in
    leads_on _ _ _ (leads_from_root xs heap fuel ((k - 1) / 2) (omega arith) (omega arith)) (heap.leads ((k - 1) / 2) k (record { from = omega arith; to = omega arith }) k_in))
    (cases_eq k 0)

pub root_leads : (xs : List Entry) → IsHeap xs → All (λ e. Leads (entry_at xs 0) e) xs
root_leads xs heap = All-from_get_or (λ e. Leads (entry_at xs 0) e) xs (record { at = 0; id = 0; number = 0 }) (λ k k_in. leads_from_root xs heap k k (omega arith) k_in)
