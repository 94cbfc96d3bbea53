-- The order of hooks.
use Rattle.std.proofs.Common.{◌≡◌, ℕ, ◌+◌, ◌<◌, true, false, List, [], ◌∷◌, ◌++◌, take, drop, refl, sym, ap, ◌∙◌, append_assoc, append-nil, arith}
use Rattle.std.specs.List.{All, AllPairs, filter}
use Rattle.std.proofs.lemmas.List.{take-append-drop}
use Rattle.std.proofs.lemmas.List.Elements.{All-filter, All-push}
use Rattle.std.proofs.lemmas.List.Kept.{AllPairs-filter}
use Rattle.std.proofs.lemmas.List.Quantifiers.{all_pairs_push}
use Rattle.after_funcs.specs.declared.registration.Registration.{Registration}
use Rattle.after_funcs.specs.Hooks.{Operation, AfterFunc, Fire, RunNext, Stop, registered, next, is_on, waiting, due}
use Rattle.after_funcs.specs.Whole.{called, became_due}

pub called_then_due : {H : Type 0} (past : List (Operation H)) → called past ++ due past ≡ became_due past
called_then_due [] = refl
called_then_due (AfterFunc ctx true hook ∷ past) =
    sym (append_assoc (called past) (due past) (next ctx hook past)) ∙ ap (λ rs. rs ++ next ctx hook past) (called_then_due past)
called_then_due (AfterFunc ctx false hook ∷ past) = called_then_due past ∙ sym (append-nil (became_due past))
called_then_due (Fire ctx ∷ past) =
    sym (append_assoc (called past) (due past) (filter (is_on ctx) (waiting past))) ∙ ap (λ rs. rs ++ filter (is_on ctx) (waiting past)) (called_then_due past)
called_then_due (RunNext ∷ past) =
    append_assoc (called past) (take 1 (due past)) (drop 1 (due past)) ∙ (ap (λ rs. called past ++ rs) (take-append-drop 1 (due past)) ∙ called_then_due past)
called_then_due (Stop id ∷ past) = called_then_due past

-- the hook has a number below n
abbrev IsBelow : {H : Type 0} → ℕ → Registration H → Type 0
IsBelow n r = r.id < n

IsBelow-more : {H : Type 0} (n : ℕ) (rs : List (Registration H)) → All (IsBelow n) rs → All (IsBelow (n + 1)) rs
IsBelow-more n rs all k d short = omega (arith, all k d short)

waiting_below : {H : Type 0} (past : List (Operation H)) → All (IsBelow (registered past)) (waiting past)
waiting_below [] = λ k d short. omega (arith, short)
waiting_below (AfterFunc ctx true hook ∷ past) = IsBelow-more (registered past) (waiting past) (waiting_below past)
waiting_below (AfterFunc ctx false hook ∷ past) =
    All-push (IsBelow (registered past + 1)) (waiting past) _ (IsBelow-more (registered past) (waiting past) (waiting_below past)) (omega arith)
waiting_below (Fire ctx ∷ past) = All-filter _ (IsBelow (registered past)) (waiting past) (waiting_below past)
waiting_below (RunNext ∷ past) = waiting_below past
waiting_below (Stop id ∷ past) = All-filter _ (IsBelow (registered past)) (waiting past) (waiting_below past)

pub waiting_in_order : {H : Type 0} (past : List (Operation H)) → AllPairs (λ r s. r.id < s.id) (waiting past)
waiting_in_order [] = λ i j d before short. omega (arith, short)
waiting_in_order (AfterFunc ctx true hook ∷ past) = waiting_in_order past
waiting_in_order (AfterFunc ctx false hook ∷ past) =
    all_pairs_push (λ r s. r.id < s.id) (waiting past) _ (waiting_in_order past) (waiting_below past)
waiting_in_order (Fire ctx ∷ past) = AllPairs-filter (λ r s. r.id < s.id) _ (waiting past) (waiting_in_order past)
waiting_in_order (RunNext ∷ past) = waiting_in_order past
waiting_in_order (Stop id ∷ past) = AllPairs-filter (λ r s. r.id < s.id) _ (waiting past) (waiting_in_order past)
