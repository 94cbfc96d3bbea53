-- Events come to one list of occurrences, and later ones only add to it.
use Rattle.gateway_run.proofs.Names.{◌≡◌, ℕ, true, List, [], ◌∷◌, ◌++◌, map, refl, sym, ap, ◌∙◌, subst, arith, append_cancel_left, map-append, HttpRequest, StreamEnd, Requests, PlanRecord, Occurrence, Coming, Comes, Past, mark_of, marked, Placed, occurrences, queued, IsPrefixOf, Event, Opening, Piece, HangUp, Moment, BranchResult, Drain, Closing, Before, Gains, OccursAt, Occurs, has_no_effect, listens, stream, nat_tests}
use Rattle.gateway_theory.specs.lemmas.EventLemmas.{both_ways, onto_front}

-- what is known of requests: a text has one list of them
abbrev pub HasOneList : Type 0
HasOneList = (k : ℕ) (text : List ℕ) (given other : List HttpRequest) (a b : StreamEnd) → Requests k text given a → Requests k text other b → (given ≡ other) × (a ≡ b)

gains_unique : HasOneList → (plans : List PlanRecord) (text longer : List ℕ) (a b : List Coming) → Gains plans text longer a → Gains plans text longer b → a ≡ b
gains_unique one plans text longer a b g h = grind (arith, nat_tests, append_cancel_left)

at_unique : HasOneList → (plans : List PlanRecord) (opened : List ℕ) (e : Event) (before : Before) (x y : List Occurrence)
    → OccursAt plans opened e before x → OccursAt plans opened e before y → x ≡ y
at_unique one plans opened Opening before x y h g = h ∙ sym g
at_unique one plans opened (Piece conn bytes) before x y h g =
    let P : List Occurrence → Type 0 = λ os.
    (gained : List Coming) × Gains plans (stream opened conn before) (stream opened conn before ++ bytes) gained × (os ≡ map (Comes conn) gained) in
    both_ways (listens opened conn before) P (λ os. os ≡ []) x y
    (λ a b. a.2 ∙ ap (λ es. map (Comes conn) es) (gains_unique one plans (stream opened conn before) (stream opened conn before ++ bytes) a.0 b.0 a.1 b.1) ∙ sym b.2)
    (λ a b. a ∙ sym b) h g
at_unique one plans opened (HangUp conn) before x y h g = h ∙ sym g
at_unique one plans opened (Moment m) before x y h g = h ∙ sym g
at_unique one plans opened (BranchResult conn request branch outcome) before x y h g = h ∙ sym g
at_unique one plans opened Drain before x y h g = h ∙ sym g
at_unique one plans opened (Closing conn) before x y h g = h ∙ sym g

-- events come to one list of occurrences
pub occurs_unique : HasOneList → (plans : List PlanRecord) (opened : List ℕ) (events : Before) (a b : List Placed)
    → Occurs plans opened events a → Occurs plans opened events b → a ≡ b
occurs_unique one plans opened [] a b h g = h ∙ sym g
occurs_unique one plans opened (e ∷ before) a b h g = grind (arith, nat_tests, occurs_unique one plans opened before h.0 g.0 h.1 g.1, at_unique)

-- ---- later events only add occurrences

later_adds : (plans : List PlanRecord) (opened : List ℕ) (later events : Before) (b : List Placed) → Occurs plans opened (later ++ events) b
    → (past : List Placed) × Occurs plans opened events past × ((new : List Placed) × (b ≡ new ++ past))
later_adds plans opened [] events b h = (b, h, ([], refl))
later_adds plans opened (e ∷ later) events b h = grind (arith, nat_tests, later_adds plans opened later events h.0 h.1, onto_front)

marks_before : (new past : List Occurrence) → (ms : Past) × (marked (new ++ past) ≡ ms ++ marked past)
marks_before [] past = ([], refl)
marks_before (o ∷ new) past =
    let r = marks_before new past in
    let before : Past = marked (new ++ past) in
    (mark_of before o ∷ r.0, ap (λ p. mark_of before o ∷ p) r.1)

-- what was queued is the beginning of what is queued later
pub queued_later : HasOneList → ((conn : ℕ) (later past : Past) → IsPrefixOf (queued conn past) (queued conn (later ++ past)))
    → (plans : List PlanRecord) (opened : List ℕ) (later events : Before) (a b : List Placed) (conn : ℕ)
    → Occurs plans opened events a → Occurs plans opened (later ++ events) b → IsPrefixOf (queued conn (marked (occurrences a))) (queued conn (marked (occurrences b)))
queued_later one nothing_later plans opened later events a b conn h g =
    let r = later_adds plans opened later events b g in
    let same : a ≡ r.0 = occurs_unique one plans opened events a r.0 h r.1 in
    let ms = marks_before (occurrences r.2.0) (occurrences r.0) in
    let b_is : marked (occurrences b) ≡ ms.0 ++ marked (occurrences r.0) =
    ap (λ x. marked (occurrences x)) r.2.1 ∙ ap marked (map-append (λ (o : Placed). o.1) r.2.0 r.0) ∙ ms.1 in
    subst (λ p. IsPrefixOf (queued conn (marked (occurrences a))) (queued conn p)) (sym b_is)
    (subst (λ x. IsPrefixOf (queued conn (marked (occurrences x))) (queued conn (ms.0 ++ marked (occurrences r.0)))) (sym same) (nothing_later conn ms.0 (marked (occurrences r.0))))

-- ---- events of no effect

nothing_at : (plans : List PlanRecord) (opened : List ℕ) (e : Event) (before : Before) (os : List Occurrence) → has_no_effect opened e before ≡ true
    → OccursAt plans opened e before os → os ≡ []
nothing_at plans opened e before os h5 h6 = grind (arith, nat_tests)

pub nothing_occurs : HasOneList → (plans : List PlanRecord) (opened : List ℕ) (e : Event) (before : Before) (a b : List Placed) → has_no_effect opened e before ≡ true
    → Occurs plans opened before a → Occurs plans opened (e ∷ before) b → b ≡ a
nothing_occurs one plans opened e before a b none h g = grind (arith, nat_tests, nothing_at, occurs_unique)
