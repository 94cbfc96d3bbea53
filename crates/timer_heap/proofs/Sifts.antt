-- What holds while an entry rises, and while it sinks.
use Rattle.std.proofs.Common.{◌≡◌, refl, sym, ap, ◌∙◌, subst, arith, ℕ, ◌+◌, ◌*◌, ◌^◌, ◌≤◌, ◌<◌, List, [], ◌∷◌, length, Option, add-one}
use Rattle.std.specs.List.{swap}
use Rattle.std.specs.List.Sorted.{IsPermutation, apply_swaps}
use Rattle.std.proofs.lemmas.List.Edits.{length-swap}
use Rattle.std.proofs.lemmas.List.Sorted.{length_permutation}
use Rattle.timer_heap.specs.declared.heap.Entry.{Entry}
use Rattle.timer_heap.specs.Heap.{IsHeapBut, LeadsBelow, IsLed, IsToRise, IsToSink, ArePlaced, Exchanged, Rises, Settles}
use Rattle.timer_heap.proofs.Counting.{none_few, rise_few, sink_few, all_few}
use Rattle.timer_heap.proofs.Heaps.{rise_but, rise_leads, sink_but, sink_led, whole}

abbrev unmoved : (xs : List Entry) → IsPermutation xs xs
unmoved xs = record { moves = []; below = tt; is = refl }

-- an exchange more
abbrev moved : (old xs ys : List Entry) (one other : ℕ) → IsPermutation old xs → one < length xs → other < length xs → ys ≡ swap xs one other → IsPermutation old ys
moved old xs ys one other same one_in other_in is =
    let long : length xs ≡ length old = length_permutation old xs same in
    record { moves = (one, other) ∷ same.moves; below = (omega arith, omega arith, same.below); is = is ∙ ap (λ l. swap l one other) same.is }

-- the entry that stood at a place stands at another one, after this many exchanges
pub record Rising (place : ℕ) (old heap : List Entry) (place_of : ℕ → Option ℕ) (at moves : ℕ) : Type 0 where
  pub same : IsPermutation old heap
  pub counted : moves ≡ length same.moves
  pub placed : ArePlaced heap place_of
  pub within : at < length heap
  pub few : 2 ^ moves * (at + 1) ≤ place + 1
  pub but : IsHeapBut at heap
  pub leads : 0 < moves → LeadsBelow at heap
  pub still : moves ≡ 0 → at ≡ place

pub rising_start : (place : ℕ) (heap : List Entry) (f : ℕ → Option ℕ) → IsHeapBut place heap → ArePlaced heap f → place < length heap → Rising place heap heap f place 0
rising_start place heap f but placed within = record {
  same = unmoved heap;
  counted = refl;
  placed = placed;
  within = within;
  few = none_few (place + 1);
  but = but;
  leads = λ some. absurd (omega arith);
  still = λ none. refl;
}

pub rising_more : (place : ℕ) (old xs ys : List Entry) (f g : ℕ → Option ℕ) (at above moves : ℕ) → Rising place old xs f at moves → IsToRise at above xs → Exchanged at above xs ys g → Rising place old ys g above (moves + 1)
rising_more place old xs ys f g at above moves rising rises exchanged =
    let long : length ys ≡ length xs = ap length exchanged.swapped ∙ length-swap xs at above in
    let u = rises.under in
    let above_in : above < length xs = omega (arith, rising.within) in
    record {
      same = moved old xs ys at above rising.same rising.within above_in exchanged.swapped;
      counted = rw (← rising.counted) (add-one moves);
      placed = exchanged.placed;
      within = omega arith;
      few = rise_few moves place at above u rising.few;
      but = rise_but xs ys at above rising.within long exchanged.swapped rising.but rises;
      leads = λ some. rise_leads xs ys at above rising.within long exchanged.swapped rising.but rises;
      still = λ none. absurd (omega arith);
    }

pub rising_end : (place : ℕ) (old xs : List Entry) (f : ℕ → Option ℕ) (at moves : ℕ) → Rising place old xs f at moves → IsLed at xs → Rises place old xs f moves
rising_end place old xs f at moves rising led = record {
  same = rising.same;
  counted = rising.counted;
  placed = rising.placed;
  few = all_few moves at (place + 1) rising.few;
  still = λ none. (subst (λ n. IsHeapBut n xs) (rising.still none) rising.but, subst (λ n. IsLed n xs) (rising.still none) led);
  ordered = λ some. whole xs at rising.but (rising.leads some) led;
}

pub record Sinking (place : ℕ) (old heap : List Entry) (place_of : ℕ → Option ℕ) (at moves : ℕ) : Type 0 where
  pub same : IsPermutation old heap
  pub counted : moves ≡ length same.moves
  pub placed : ArePlaced heap place_of
  pub within : at < length heap
  pub few : 2 ^ moves * (place + 1) ≤ at + 1
  pub but : IsHeapBut at heap
  pub led : IsLed at heap

pub sinking_start : (place : ℕ) (heap : List Entry) (f : ℕ → Option ℕ) → IsHeapBut place heap → IsLed place heap → ArePlaced heap f → place < length heap → Sinking place heap heap f place 0
sinking_start place heap f but led placed within = record {
  same = unmoved heap;
  counted = refl;
  placed = placed;
  within = within;
  few = none_few (place + 1);
  but = but;
  led = led;
}

pub sinking_more : (place : ℕ) (old xs ys : List Entry) (f g : ℕ → Option ℕ) (at below moves : ℕ) → Sinking place old xs f at moves → IsToSink at below xs → Exchanged at below xs ys g → Sinking place old ys g below (moves + 1)
sinking_more place old xs ys f g at below moves sinking sinks exchanged =
    let long : length ys ≡ length xs = ap length exchanged.swapped ∙ length-swap xs at below in
    let u = sinks.under in
    record {
      same = moved old xs ys at below sinking.same sinking.within sinks.within exchanged.swapped;
      counted = rw (← sinking.counted) (add-one moves);
      placed = exchanged.placed;
      within = omega (arith, sinks.within);
      few = sink_few moves place at below u sinking.few;
      but = sink_but xs ys at below sinking.within long exchanged.swapped sinking.but sinks;
      led = sink_led xs ys at below sinking.within long exchanged.swapped sinks;
    }

pub sinking_end : (place : ℕ) (old xs : List Entry) (f : ℕ → Option ℕ) (at moves : ℕ) → Sinking place old xs f at moves → LeadsBelow at xs → Settles old xs f moves
sinking_end place old xs f at moves sinking leads =
    let long : length xs ≡ length old = length_permutation old xs sinking.same in
    let few = all_few moves place (at + 1) sinking.few in
    let w = sinking.within in
    record {
      same = sinking.same;
      counted = sinking.counted;
      placed = sinking.placed;
      few = omega arith;
      ordered = whole xs at sinking.but leads sinking.led;
    }

-- up, and where that changed nothing, down
pub risen_settled : (place : ℕ) (old xs : List Entry) (f : ℕ → Option ℕ) (moves : ℕ) → place < length old → Rises place old xs f moves → 0 < moves → Settles old xs f moves
risen_settled place old xs f moves within rises some = record {
  same = rises.same;
  counted = rises.counted;
  placed = rises.placed;
  few = let few = rises.few in omega arith;
  ordered = rises.ordered some;
}

no_moves : (xs ys : List Entry) (same : IsPermutation xs ys) → 0 ≡ length same.moves → ys ≡ xs
no_moves xs ys same none = same.is ∙ ap (apply_swaps xs) (nothing_there same.moves none)
  where
    nothing_there : (ps : List (ℕ × ℕ)) → 0 ≡ length ps → ps ≡ []
    nothing_there [] none = refl
    nothing_there (p ∷ ps) none = absurd (omega arith)

pub sunk_settled : (place : ℕ) (old xs ys : List Entry) (f g : ℕ → Option ℕ) (none moves : ℕ) → none ≡ 0 → Rises place old xs f none → Settles xs ys g moves → Settles old ys g moves
sunk_settled place old xs ys f g none moves is rises settles = subst (λ l. Settles l ys g moves) (no_moves old xs rises.same (sym is ∙ rises.counted)) settles
