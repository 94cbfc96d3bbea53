-- An occurrence at which the request of a call does not come: what of the call's words stays.
use Rattle.std.specs.Prelude.{◌≡◌, ◌-◌, ◌∷◌, ◌&&◌, ◌||◌}
use Rattle.gateway_theory.specs.lemmas.Names.{ℕ, Bool, false, [], None, refl, ◌∙◌, arith, nat_tests, not, nat_lt, option_map_or, ltb-false, append-nil, CallId, Occurrence, Mark, Past, call, coming_now, asked_now, began, answers, started, is_out, is_result_of, is_answer_to, is_broken, is_shut, breaks, shuts, event_by, own_event, decided, came, own_events, entry, jobs_started}
use Rattle.gateway_theory.specs.lemmas.LimitLemmas.{out_started}
use Rattle.gateway_theory.specs.lemmas.Cases.{or_false, and_true, or_none}

-- the request of that call does not come at this occurrence
abbrev pub Past_it : CallId → Mark → Past → Type 0
Past_it id m past = coming_now id m past ≡ None

pub unasked : (id : CallId) (m : Mark) (past : Past) → Past_it id m past → asked_now id m past ≡ None
unasked id m past none = grind arith

pub call_same : (id : CallId) (m : Mark) (past : Past) → Past_it id m past → call id (m ∷ past) ≡ call id past
call_same id m past none = rw (unasked id m past none) (or_none (call id past))

pub began_same : (id : CallId) (m : Mark) (past : Past) → Past_it id m past → began id (m ∷ past) ≡ began id past
began_same id m past none = rw (unasked id m past none) (or_false (began id past))

pub came_same : (id : CallId) (m : Mark) (past : Past) → Past_it id m past → came id (m ∷ past) ≡ came id past
came_same id m past none = rw none (or_none (came id past))

pub answers_same : (id : CallId) (m : Mark) (past : Past) → (m.counted && is_answer_to id m.what) ≡ false → answers id (m ∷ past) ≡ answers id past
answers_same id m past not_so = rw not_so refl

pub started_same : (id : CallId) (m : Mark) (past : Past) → Past_it id m past → (m.counted && is_answer_to id m.what) ≡ false
    → started id (m ∷ past) ≡ started id past
started_same id m past none not_so = rw (began_same id m past none, call_same id m past none, answers_same id m past not_so) refl

pub decided_same : (id : CallId) (m : Mark) (past : Past) → own_event id m past ≡ None → decided id (m ∷ past) ≡ decided id past
decided_same id m past none = rw none (or_none (decided id past))

pub own_same : (id : CallId) (m : Mark) (past : Past) → own_event id m past ≡ None → own_events id (m ∷ past) ≡ own_events id past
own_same id m past none = grind (arith, nat_tests, append-nil)

-- the own event of a call that came before
pub own_before : (id : CallId) (m : Mark) (past : Past) → Past_it id m past → is_shut id.conn past ≡ false
    → own_event id m past ≡ option_map_or (λ c. event_by id c m.what m.counted past) (call id past) None
own_before id m past none unshut = rw (unshut, unasked id m past none) refl

-- ---- which branches are out

pub not_started : (id : CallId) (k : ℕ) (past : Past) → nat_lt k (started id past) ≡ false → is_out id k past ≡ false
not_started id k past ge = grind (arith, nat_tests, out_started, ltb-false)

pub out_after : (id : CallId) (k : ℕ) (m : Mark) (past : Past) → started id (m ∷ past) ≡ started id past
    → is_out id k (m ∷ past) ≡ (is_out id k past && not (is_result_of id k m.what))
out_after id k m past same = grind (arith, nat_tests, not_started)

pub out_same : (id : CallId) (k : ℕ) (m : Mark) (past : Past) → started id (m ∷ past) ≡ started id past → is_result_of id k m.what ≡ false
    → is_out id k (m ∷ past) ≡ is_out id k past
out_same id k m past same not_so = out_after id k m past same ∙ rw not_so (and_true (is_out id k past))

-- where no more branches have started, no job starts
pub none_start : (id : CallId) (m : Mark) (past : Past) → started id (m ∷ past) ≡ started id past → jobs_started id m past ≡ []
none_start id m past same = search arith

-- ---- the entry of a request

-- the entry stays where the call is decided as it was
pub entry_same : (id : CallId) (m : Mark) (past : Past) → Past_it id m past → decided id (m ∷ past) ≡ decided id past
    → entry id (m ∷ past) ≡ entry id past
entry_same id m past none same = grind arith

-- ---- breaks

-- what is not shut is not broken
pub unbroken : (conn : ℕ) (past : Past) → is_shut conn past ≡ false → is_broken conn past ≡ false
unbroken conn [] e = refl
unbroken conn (m ∷ past) e = let parts = neither (shuts conn m.what) (is_shut conn past) e in rw (not_now m.what parts.0, unbroken conn past parts.1) refl
  where
    neither : (a b : Bool) → (a || b) ≡ false → (a ≡ false) × (b ≡ false)
    neither a b is = grind (arith, nat_tests)

    not_now : (o : Occurrence) → shuts conn o ≡ false → breaks conn o ≡ false
    not_now o is = grind (arith, nat_tests)
