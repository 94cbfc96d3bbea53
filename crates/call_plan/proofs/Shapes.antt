-- How a loop over the entries of an array reads them one by one.
use Rattle.std.proofs.Common.{◌≡◌, ℕ, ◌+◌, ◌<◌, ◌≤◌, List, [], ◌∷◌, ◌++◌, length, get_or, drop, Option, Some, None, option_map, ok_or, Ok, Err, refl, sym, ◌∙◌, ap, append_assoc, add-one, drop-cons, append-nil}
use Rattle.std.specs.Option.{option_and_then}
use Rattle.std.proofs.lemmas.List.{drop_all}
use Rattle.serde_json.specs.Data.{Data}
use Rattle.serde_json.specs.declared.value.Value.{Value}
use Rattle.serde_json.specs.View.{view, items_view}
use Rattle.call_plan.specs.PlanFile.{each_of}

pub none-from_err : {A E : Type 0} (o : Option A) (e d : E) → ok_or o e ≡ Err d → (d ≡ e) × (o ≡ None)
none-from_err None e d is = (cc, refl)
none-from_err (Some x) e d is = cc

pub some-from_ok : {A E : Type 0} (o : Option A) (e : E) (x : A) → ok_or o e ≡ Ok x → o ≡ Some x
some-from_ok None e x is = cc
some-from_ok (Some y) e x is = cc

-- what was read so far, and what the rest gives
abbrev pub with_rest : {A : Type 0} → (Data → Option A) → List A → List Value → ℕ → Option (List A)
with_rest f found entries i = option_map (λ rest. found ++ rest) (each_of f (items_view (drop i entries)))

unchanged : {A : Type 0} (o : Option (List A)) → o ≡ option_map (λ rest. [] ++ rest) o
unchanged None = refl
unchanged (Some x) = refl

pub with_rest-start : {A : Type 0} (f : Data → Option A) (entries : List Value) → each_of f (items_view entries) ≡ with_rest f [] entries 0
with_rest-start f entries = unchanged (each_of f (items_view entries))

onward : {A : Type 0} (found : List A) (x : A) (o : Option (List A)) → option_map (λ rest. found ++ rest) (option_map (λ xs. x ∷ xs) o) ≡ option_map (λ rest. (found ++ x ∷ []) ++ rest) o
onward found x None = refl
onward found x (Some xs) = ap Some (sym (append_assoc found (x ∷ []) xs))

at_place : {A : Type 0} (f : Data → Option A) (found : List A) (entries : List Value) (i : ℕ) (v : Value) → i < length entries → v ≡ get_or entries i v
    → with_rest f found entries i ≡ option_map (λ rest. found ++ rest) (option_and_then (λ x. option_map (λ xs. x ∷ xs) (each_of f (items_view (drop (i + 1) entries)))) (f (view v)))
at_place f found entries i v h is = rw (drop-cons entries i v h, ← is, add-one i)

-- one more entry was read
pub with_rest-more : {A : Type 0} (f : Data → Option A) (found : List A) (entries : List Value) (i : ℕ) (v : Value) (x : A) → i < length entries → v ≡ get_or entries i v
    → f (view v) ≡ Some x → with_rest f found entries i ≡ with_rest f (found ++ x ∷ []) entries (i + 1)
with_rest-more f found entries i v x h is gives = at_place f found entries i v h is ∙ rw gives (onward found x _)

-- an entry is nothing of the kind
pub with_rest-bad : {A : Type 0} (f : Data → Option A) (found : List A) (entries : List Value) (i : ℕ) (v : Value) → i < length entries → v ≡ get_or entries i v
    → f (view v) ≡ None → with_rest f found entries i ≡ None
with_rest-bad f found entries i v h is gives = at_place f found entries i v h is ∙ rw gives refl

pub with_rest-end : {A : Type 0} (f : Data → Option A) (found : List A) (entries : List Value) (i : ℕ) → length entries ≤ i → with_rest f found entries i ≡ Some found
with_rest-end f found entries i h = rw (drop_all i entries h) (ap Some (append-nil found))
