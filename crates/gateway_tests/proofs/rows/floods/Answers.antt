use Rattle.std.proofs.Common.{◌≡◌, ℕ, List, ◌++◌, replicate, codes, refl, ◌∙◌}
use Rattle.connect_codec.specs.declared.answer.Outcome.{Outcome}
use Rattle.connect_codec.specs.declared.answer.Outcome.TheVariants.{Answer}
use Rattle.gateway_model.specs.declared.seen.Seen.TheVariants.{Unknown}
use Rattle.gateway_model.specs.declared.id.CallId.{CallId}
use Rattle.gateway_model.specs.Occurrence.{Occurrence, Result}
use Rattle.gateway_model.specs.Past.{call_id, how_seen, marked}
use Rattle.gateway_tests.specs.Rows.{answers, flooded, hotel_answered}
use Rattle.gateway_tests.proofs.rows.floods.Goals as goal

-- results of a branch that is not out leave all others as they were
abbrev JudgedStays : Type 0
JudgedStays = (id : CallId) (branch : ℕ) (outcome : Outcome) (occurred : List Occurrence) → how_seen id branch (marked occurred) ≡ Unknown
    → (n : ℕ) (other : CallId) (i : ℕ) → how_seen other i (marked (replicate n (Result id branch outcome) ++ occurred)) ≡ how_seen other i (marked occurred)

-- before the flood
repeated : how_seen (call_id 0 0) 1 (marked hotel_answered) ≡ Unknown
repeated = refl

strange_first : how_seen (call_id 7 0) 0 (marked hotel_answered) ≡ Unknown
strange_first = refl

-- after the repeated results
strange_then : JudgedStays → (n : ℕ) → how_seen (call_id 7 0) 0 (marked (replicate n (answers 0 1 (codes "9")) ++ hotel_answered)) ≡ Unknown
strange_then law n = law (call_id 0 0) 1 (Answer (codes "9")) hotel_answered repeated n (call_id 7 0) 0 ∙ strange_first

stays : JudgedStays → (m n : ℕ) (id : CallId) (i : ℕ) → how_seen id i (marked (flooded m n)) ≡ how_seen id i (marked hotel_answered)
stays law m n id i =
    law (call_id 7 0) 0 (Answer (codes "9")) (replicate n (answers 0 1 (codes "9")) ++ hotel_answered) (strange_then law n) m id i
    ∙ law (call_id 0 0) 1 (Answer (codes "9")) hotel_answered repeated n id i

pub returns-clause-again : goal.returns-clause-again
returns-clause-again c = λ m n. stays c.unknown_law.ensures.seen_stays m n (call_id 0 0) 1 ∙ repeated

pub returns-clause-strange : goal.returns-clause-strange
returns-clause-strange c = λ m n. stays c.unknown_law.ensures.seen_stays m n (call_id 7 0) 0 ∙ strange_first

pub returns-clause-goes_on : goal.returns-clause-goes_on
returns-clause-goes_on c = λ m n. stays c.unknown_law.ensures.seen_stays m n (call_id 0 0) 0 ∙ refl

pub returns-clause-replies : goal.returns-clause-replies
returns-clause-replies c = λ m n.
    c.unknown_law.ensures.replies_stay (call_id 7 0) 0 (Answer (codes "9")) (replicate n (answers 0 1 (codes "9")) ++ hotel_answered) (strange_then c.unknown_law.ensures.seen_stays n) m 0
    ∙ c.unknown_law.ensures.replies_stay (call_id 0 0) 1 (Answer (codes "9")) hotel_answered repeated n 0 ∙ refl
