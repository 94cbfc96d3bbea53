-- How a loop over the entries of a script reads them one by one.
use Rattle.gateway_run.proofs.Names.{◌≡◌, ℕ, suc, ◌+◌, ◌<◌, List, [], ◌∷◌, ◌++◌, length, get_or, drop, Some, Result, Ok, Err, refl, sym, ◌∙◌, ap, append_assoc, add-one, drop-cons, option_map_or, view, items_view, Event, event_of, events_from, then_events}
use Rattle.serde_json.specs.declared.value.Value.{Value}
use Rattle.gateway_run.specs.declared.fault.ScriptError.{ScriptError}
use Rattle.gateway_run.specs.declared.fault.ScriptError.TheVariants.{BadEvent}

-- what was read so far, and what the rest gives
abbrev pub before : List Event → Result (List Event) ScriptError → Result (List Event) ScriptError
before found (Ok rest) = Ok (found ++ rest)
before found (Err fault) = Err fault

abbrev pub with_rest : List Event → List Value → ℕ → Result (List Event) ScriptError
with_rest found entries i = before found (events_from (length found) (items_view (drop i entries)))

onward : (found : List Event) (x : Event) (r : Result (List Event) ScriptError) → before found (then_events x r) ≡ before (found ++ x ∷ []) r
onward found x (Ok xs) = ap Ok (sym (append_assoc found (x ∷ []) xs))
onward found x (Err fault) = refl

length-more : (found : List Event) (x : Event) → suc (length found) ≡ length (found ++ x ∷ [])
length-more [] x = refl
length-more (y ∷ found) x = ap suc (length-more found x)

at_place : (found : List Event) (entries : List Value) (i : ℕ) (v : Value) → i < length entries → v ≡ get_or entries i v
    → with_rest found entries i ≡ before found (option_map_or (λ e. then_events e (events_from (suc (length found)) (items_view (drop (i + 1) entries)))) (event_of (view v)) (Err (BadEvent (length found))))
at_place found entries i v h is = rw (drop-cons entries i v h, ← is, add-one i)

-- one more entry was read
pub with_rest-more : (found : List Event) (entries : List Value) (i : ℕ) (v : Value) (x : Event) → i < length entries → v ≡ get_or entries i v
    → Some x ≡ event_of (view v) → with_rest found entries i ≡ with_rest (found ++ x ∷ []) entries (i + 1)
with_rest-more found entries i v x h is gives = at_place found entries i v h is ∙ rw (← gives, length-more found x) (onward found x _)
