-- The reply to a decided call, by its last event and as the code makes it.
use Rattle.std.specs.Prelude.{◌≡◌, ◌∷◌, ◌++◌, ◌+◌, ◌<◌, ◌-◌}
use Rattle.gateway_theory.specs.lemmas.Names.{ℕ, List, [], length, take, get_or, sym, ap, ◌∙◌, arith, nat_tests, take_more, length-map, length-range_with_len, map-range_with_len_more, range_with_len, unwrap_or, CallEvent, answer_in, answer_of_branch, answers_in, suc, Option, Some, Ok, Err, refl, IfOk, option_and_then, option_map, slice_get, PlanRecord, CallRecord, last_event}
use Rattle.gateway_theory.specs.lemmas.StandsLemmas.{answer_after}
use Rattle.std.proofs.Common.{Result}
use Rattle.gateway_model.specs.declared.ending.EndCause.{EndCause}
use Rattle.gateway_model.specs.Errors.{cause_of}
use Rattle.gateway_theory.specs.Endings.{ending_with}

-- of two answers of one branch the later one counts
pub later_answer : (i : ℕ) (es : List CallEvent) (e : CallEvent)
    → unwrap_or (answer_of_branch i (es ++ e ∷ [])) [] ≡ unwrap_or (answer_in i e) (unwrap_or (answer_of_branch i es) [])
later_answer i es e = grind (arith, nat_tests, answer_after)

-- the answers of the events so far, by one event more
pub later_step : (i : ℕ) (es : List CallEvent) (k : ℕ) (e : CallEvent) (old new : List ℕ) → k < length es → e ≡ get_or es k e
    → old ≡ unwrap_or (answer_of_branch i (take k es)) [] → new ≡ unwrap_or (answer_in i e) old
    → new ≡ unwrap_or (answer_of_branch i (take (k + 1) es)) []
later_step i es k e old new below at is_old is_new =
    let longer : take (k + 1) es ≡ take k es ++ e ∷ [] = take_more es k e below ∙ ap (λ x. take k es ++ x ∷ []) (sym at) in
    is_new ∙ ap (λ x. unwrap_or (answer_in i e) x) is_old ∙ sym (later_answer i (take k es) e)
    ∙ ap (λ xs. unwrap_or (answer_of_branch i xs) []) (sym longer)

-- the answers of one branch more
pub more_answers : (n : ℕ) (es : List CallEvent) (old new : List (List ℕ)) (answer : List ℕ) → new ≡ old ++ answer ∷ [] → old ≡ answers_in n es
    → answer ≡ unwrap_or (answer_of_branch n es) [] → new ≡ answers_in (n + 1) es
more_answers n es old new answer is_new is_old is_answer =
    is_new ∙ ap (λ xs. xs ++ answer ∷ []) is_old ∙ ap (λ x. answers_in n es ++ x ∷ []) is_answer
    ∙ sym (map-range_with_len_more (λ i. unwrap_or (answer_of_branch i es) []) 0 n n (omega arith))

-- there is one answer for each branch
pub length_answers : (n : ℕ) (es : List CallEvent) → length (answers_in n es) ≡ n
length_answers n es = length-map (range_with_len 0 n) (λ i. unwrap_or (answer_of_branch i es) []) ∙ length-range_with_len 0 n

pub last_is : (events : List CallEvent) → last_event events ≡ slice_get events (length events - 1)
last_is [] = refl
last_is (e ∷ []) = refl
last_is (e ∷ f ∷ events) =
    let n : length (e ∷ f ∷ events) - 1 ≡ suc (length (f ∷ events) - 1) = omega arith in
    last_is (f ∷ events) ∙ sym (ap (λ i. slice_get (e ∷ f ∷ events) i) n)

-- how the last event ends the call
abbrev pub cause_in : CallRecord → Option EndCause
cause_in r = option_and_then (cause_of r.plan) (last_event r.events)

-- the same, as the code reads it off the record
pub ending_in : (v r : CallRecord) (e : CallEvent) (events : List CallEvent) (plan : PlanRecord) → v ≡ r → events ≡ v.events → Some e ≡ slice_get events (length events - 1) → plan ≡ v.plan
    → option_map (λ cause. ending_with cause v.last) (cause_of plan e) ≡ option_map (λ cause. ending_with cause r.last) (cause_in r)
ending_in v r e events plan same events_are e_is plan_is =
    let last : last_event v.events ≡ Some e = ap last_event (sym events_are) ∙ last_is events ∙ sym e_is in
    ap (λ p. option_map (λ cause. ending_with cause v.last) (cause_of p e)) plan_is
    ∙ ap (λ o. option_map (λ cause. ending_with cause v.last) (option_and_then (cause_of v.plan) o)) (sym last)
    ∙ ap (λ (x : CallRecord). option_map (λ cause. ending_with cause x.last) (cause_in x)) same

pub if_ok : {T E : Type 0} (r : Result T E) (P Q : T → Type 0) → ((t : T) → P t → Q t) → IfOk r P → IfOk r Q
if_ok (Ok t) P Q f h = f t h
if_ok (Err e) P Q f h = h
