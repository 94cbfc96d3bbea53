-- Events come to one list of occurrences, in which no connection breaks; and a request whose path names no plan is no call.
use Rattle.std.specs.Prelude.{◌≡◌, ◌∷◌, ◌++◌, ◌||◌, ◌≤◌}
use Rattle.gateway_theory.specs.lemmas.Names.{ℕ, Bool, true, false, List, [], map, refl, sym, ap, ◌∙◌, arith, nat_tests, MatchBool, append_cancel_left, PlanRecord, Occurrence, Coming, Comes, Placed, RequestLaws, Event, Piece, BranchResult, Before, Gains, OccursAt, onto, listens, stream, length, list_any, breaks, is_broken, marked, occurrences, Occurs, is_open, once, succeeds, Option, None, Some, IfSome, not, codes, bytes_eq, cond_both, HttpRequest}
use Rattle.gateway_model.specs.declared.event.Event.TheVariants.{Opening, HangUp, Moment, Drain, Closing}
use Rattle.http_pieces.specs.declared.largest.TheConstants.{MAX_DECIMAL}
use Rattle.connect_codec.specs.Verdict.{verdict_of}
use Rattle.connect_codec.specs.declared.verdict.Verdict.{Verdict}
use Rattle.connect_codec.specs.declared.verdict.Verdict.TheVariants.{Ask, Bare}
use Rattle.gateway_model.specs.Occurrence as occurs

pub gains_unique : RequestLaws → (plans : List PlanRecord) (text longer : List ℕ) (a b : List Coming) → Gains plans text longer a → Gains plans text longer b → a ≡ b
gains_unique laws plans text longer a b g h = grind (arith, nat_tests, append_cancel_left)

pub both_ways : (b : Bool) (P Q : List Occurrence → Type 0) (x y : List Occurrence)
    → (P x → P y → x ≡ y) → (Q x → Q y → x ≡ y) → MatchBool b (P x) (Q x) → MatchBool b (P y) (Q y) → x ≡ y
both_ways true P Q x y p q h g = p h g
both_ways false P Q x y p q h g = q h g

pub at_unique : RequestLaws → (plans : List PlanRecord) (opened : List ℕ) (e : Event) (before : Before) (x y : List Occurrence)
    → OccursAt plans opened e before x → OccursAt plans opened e before y → x ≡ y
at_unique laws plans opened Opening before x y h g = h ∙ sym g
at_unique laws plans opened (Piece conn bytes) before x y h g =
    let P : List Occurrence → Type 0 = λ os.
    (gained : List Coming) × Gains plans (stream opened conn before) (stream opened conn before ++ bytes) gained × (os ≡ map (Comes conn) gained) in
    both_ways (listens opened conn before) P (λ os. os ≡ []) x y
    (λ a b. a.2 ∙ ap (λ es. map (Comes conn) es) (gains_unique laws plans (stream opened conn before) (stream opened conn before ++ bytes) a.0 b.0 a.1 b.1) ∙ sym b.2)
    (λ a b. a ∙ sym b) h g
at_unique laws plans opened (HangUp conn) before x y h g = h ∙ sym g
at_unique laws plans opened (Moment m) before x y h g = h ∙ sym g
at_unique laws plans opened (BranchResult conn request branch outcome) before x y h g = h ∙ sym g
at_unique laws plans opened Drain before x y h g = h ∙ sym g
at_unique laws plans opened (Closing conn) before x y h g = h ∙ sym g

pub onto_front : (place : ℕ) (os : List Occurrence) (more past : List Placed) → onto place os (more ++ past) ≡ onto place os more ++ past
onto_front place [] more past = refl
onto_front place (o ∷ os) more past = onto_front place os ((place, o) ∷ more) past

once_whole : (c : ℕ) (b : Bool) (o : Occurrence) → breaks c o ≡ false → list_any (breaks c) (once b o) ≡ false
once_whole c true o e = ap (λ x. x || false) e
once_whole c false o e = refl

comings_whole : (c d : ℕ) (xs : List Coming) → list_any (breaks c) (map (Comes d) xs) ≡ false
comings_whole c d [] = refl
comings_whole c d (x ∷ xs) = comings_whole c d xs

at_whole : (c : ℕ) (plans : List PlanRecord) (opened : List ℕ) (e : Event) (before : Before) (os : List Occurrence) → OccursAt plans opened e before os
    → list_any (breaks c) os ≡ false
at_whole c plans opened Opening before os at = ap (list_any (breaks c)) at ∙ once_whole c (succeeds opened (length before)) occurs.Opening refl
at_whole c plans opened (Piece d bytes) before os at = by_listens (listens opened d before) at
  where
    by_listens : (b : Bool) → MatchBool b ((gained : List Coming) × Gains plans (stream opened d before) (stream opened d before ++ bytes) gained × (os ≡ map (Comes d) gained)) (os ≡ [])
        → list_any (breaks c) os ≡ false
    by_listens true (gained, gains, is) = ap (list_any (breaks c)) is ∙ comings_whole c d gained
    by_listens false is = ap (list_any (breaks c)) is
at_whole c plans opened (HangUp d) before os at = ap (list_any (breaks c)) at ∙ once_whole c (listens opened d before) (occurs.HangUp d) refl
at_whole c plans opened (Moment m) before os at = ap (list_any (breaks c)) at
at_whole c plans opened (BranchResult d k i r) before os at = ap (list_any (breaks c)) at
at_whole c plans opened Drain before os at = ap (list_any (breaks c)) at
at_whole c plans opened (Closing d) before os at = ap (list_any (breaks c)) at ∙ once_whole c (is_open opened d before) (occurs.Closing d) refl

broken_onto : (c place : ℕ) (os : List Occurrence) (past : List Placed) → list_any (breaks c) os ≡ false → is_broken c (marked (occurrences past)) ≡ false
    → is_broken c (marked (occurrences (onto place os past))) ≡ false
broken_onto c place [] past none before = before
broken_onto c place (o ∷ os) past none before = grind (arith, broken_onto c place os)

pub none_breaks : (plans : List PlanRecord) (opened : List ℕ) (es : Before) (occurred : List Placed) → Occurs plans opened es occurred
    → (c : ℕ) → is_broken c (marked (occurrences occurred)) ≡ false
none_breaks plans opened [] occurred none c = ap (λ placed. is_broken c (marked (occurrences placed))) none
none_breaks plans opened (e ∷ es) occurred (past, before, (os, at, is)) c =
    ap (λ placed. is_broken c (marked (occurrences placed))) is
    ∙ broken_onto c (length es) os past (at_whole c plans opened e es os at) (none_breaks plans opened es past before c)

unknown_no_call : (q : HttpRequest) (timeout : Option ℕ) (id : Option (List ℕ)) → verdict_of q false ≡ Ask timeout id → ⊥
unfolding verdict_of
unknown_no_call q timeout id e =
    cond_both (not (bytes_eq q.method (codes "POST"))) (Bare 405) (Bare 404) (λ v. v ≡ Ask timeout id → ⊥)
    (λ _ same. absurd (cc)) (λ _ same. absurd (cc)) e

pub no_call : (q : HttpRequest) (known : Bool) (v : Verdict) (timeout : Option ℕ) (id : Option (List ℕ))
    → v ≡ verdict_of q known → v ≡ Ask timeout id → known ≡ false → ⊥
no_call q known v timeout id judged ask unknown =
    unknown_no_call q timeout id (rw (← unknown, ← judged) ask)

-- a call's own timeout is in its range, by the law of verdicts
pub timely : ((q : HttpRequest) (known : Bool) (timeout : ℕ) (id : Option (List ℕ)) → verdict_of q known ≡ Ask (Some timeout) id → timeout ≤ MAX_DECIMAL)
    → (q : HttpRequest) (known : Bool) (v : Verdict) (timeout : Option ℕ) (id : Option (List ℕ)) → v ≡ verdict_of q known → v ≡ Ask timeout id → IfSome timeout (λ t. t ≤ MAX_DECIMAL)
timely law q known v None id judged ask = tt
timely law q known v (Some t) id judged ask = law q known t id (sym judged ∙ ask)
