-- However the input is cut: a piece may come as two.
use Rattle.std.specs.Prelude.{◌≡◌, ◌<◌, ◌≤◌, ◌∷◌, ◌++◌, ◌==◌, if◌then◌else◌}
use Rattle.gateway_theory.specs.lemmas.Names.{ℕ, suc, Bool, true, false, List, [], map, length, refl, sym, ap, ◌∙◌, arith, append_assoc, ⊎_elim, nat_tests, ⊤, MatchBool, cases_Bool, ltb-false, eq-eqb, append_cancel_left, append-nil, map-append, HttpRequest, StreamEnd, Open, RefusedBy, Closed, Requests, PlanRecord, Occurrence, Coming, Comes, JobValue, Placed, occurrences, jobs_by, jobs, starts, Past, mark_of, marked, Event, Piece, Before, succeeds, connections, is_open, hung_up, listens, stream, piece_of, Gains, requests_gained, refusal_gained, OccursAt, Occurs, onto, IsShifted, RequestLaws}
use Rattle.gateway_theory.specs.lemmas.EventLemmas.{at_unique}
use Rattle.gateway_theory.specs.Starting.{start, job_started}
use Rattle.gateway_theory.specs.lemmas.Cases.{or_false, and_true, and_false}

-- ---- connections

pub connections_grow : (opened : List ℕ) (e : Event) (es : Before) → connections opened es ≤ connections opened (e ∷ es)
connections_grow opened e es = grind (arith, nat_tests)

pub open_known : (opened : List ℕ) (c : ℕ) (es : Before) → is_open opened c es ≡ true → c < connections opened es
open_known opened c [] e = absurd (cc)
open_known opened c (x ∷ es) e = grind arith

-- a piece opens, closes and hangs up nothing
open_piece : (opened : List ℕ) (c conn : ℕ) (bytes : List ℕ) (es : Before) → is_open opened c (Piece conn bytes ∷ es) ≡ is_open opened c es
open_piece opened c conn bytes es = grind (arith, nat_tests, and_true, open_known, ltb-false)

hung_piece : (opened : List ℕ) (c conn : ℕ) (bytes : List ℕ) (es : Before) → hung_up opened c (Piece conn bytes ∷ es) ≡ hung_up opened c es
hung_piece opened c conn bytes es = rw (and_false (is_open opened c es)) (or_false (hung_up opened c es))

pub listens_piece : (opened : List ℕ) (c conn : ℕ) (bytes : List ℕ) (es : Before) → listens opened c (Piece conn bytes ∷ es) ≡ listens opened c es
listens_piece opened c conn bytes es = rw (open_piece opened c conn bytes es, hung_piece opened c conn bytes es) refl

-- ---- two lists of events that come to the same connections

pub record IsSame (opened shifted : List ℕ) (es fs : Before) : Type 0 where
  pub connections_are : connections shifted fs ≡ connections opened es
  pub open_is : (c : ℕ) → is_open shifted c fs ≡ is_open opened c es
  pub hung_is : (c : ℕ) → hung_up shifted c fs ≡ hung_up opened c es
  pub stream_is : (c : ℕ) → stream shifted c fs ≡ stream opened c es

pub listens_same : (opened shifted : List ℕ) (es fs : Before) (c : ℕ) → IsSame opened shifted es fs → listens shifted c fs ≡ listens opened c es
listens_same opened shifted es fs c h = rw (h.open_is c, h.hung_is c) refl

-- one more event, the same for both
pub same_next : (opened shifted : List ℕ) (e : Event) (es fs : Before) → IsSame opened shifted es fs
    → succeeds shifted (length fs) ≡ succeeds opened (length es) → IsSame opened shifted (e ∷ es) (e ∷ fs)
same_next opened shifted e es fs h s = grind arith

-- the events before the piece
pub same_before : (opened shifted : List ℕ) (n : ℕ) (es : Before) → length es ≤ n → IsShifted n opened shifted → IsSame opened shifted es es
same_before opened shifted n [] le h = record { connections_are = refl; open_is = λ c. refl; hung_is = λ c. refl; stream_is = λ c. refl }
same_before opened shifted n (e ∷ es) le h =
    same_next opened shifted e es es (same_before opened shifted n es (omega (arith, le)) h) (h.before (length es) (omega (arith, le)))

if_both : (b : Bool) (s t u : List ℕ) → (if b then (if b then s ++ t else s) ++ u else (if b then s ++ t else s)) ≡ (if b then s ++ (t ++ u) else s)
if_both true s t u = append_assoc s t u
if_both false s t u = refl

piece_both : (c conn : ℕ) (p q : List ℕ) → piece_of c (Piece conn p) ++ piece_of c (Piece conn q) ≡ piece_of c (Piece conn (p ++ q))
piece_both c conn p q = ⊎_elim (λ (here : (conn == c) ≡ true). rw here refl) (λ (other : (conn == c) ≡ false). rw other refl) (cases_Bool (conn == c))

-- the piece, and the two that join to it
pub same_piece : (opened shifted : List ℕ) (conn : ℕ) (p q : List ℕ) (before : Before) → IsSame opened shifted before before
    → IsSame opened shifted (Piece conn (p ++ q) ∷ before) (Piece conn q ∷ Piece conn p ∷ before)
same_piece opened shifted conn p q before h = record {
  connections_are = h.connections_are;
  open_is = λ c. open_piece shifted c conn q (Piece conn p ∷ before) ∙ open_piece shifted c conn p before ∙ h.open_is c ∙ sym (open_piece opened c conn (p ++ q) before);
  hung_is = λ c. hung_piece shifted c conn q (Piece conn p ∷ before) ∙ hung_piece shifted c conn p before ∙ h.hung_is c ∙ sym (hung_piece opened c conn (p ++ q) before);
  stream_is = λ c.
      rw (listens_piece shifted c conn p before, listens_same opened shifted before before c h, h.stream_is c, ← piece_both c conn p q)
      (if_both (listens opened c before) (stream opened c before) (piece_of c (Piece conn p)) (piece_of c (Piece conn q)));
}

length_split : (later before : Before) (conn : ℕ) (p q : List ℕ) → length (later ++ Piece conn q ∷ Piece conn p ∷ before) ≡ suc (length (later ++ Piece conn (p ++ q) ∷ before))
length_split [] before conn p q = refl
length_split (e ∷ later) before conn p q = ap suc (length_split later before conn p q)

length_more : (later before : Before) (e : Event) → length before < length (later ++ e ∷ before)
length_more [] before e = omega arith
length_more (x ∷ later) before e = omega (arith, length_more later before e)

same_later : (opened shifted : List ℕ) (later before : Before) (conn : ℕ) (p q : List ℕ) → IsShifted (length before) opened shifted
    → IsSame opened shifted (later ++ Piece conn (p ++ q) ∷ before) (later ++ Piece conn q ∷ Piece conn p ∷ before)
same_later opened shifted [] before conn p q h = same_piece opened shifted conn p q before (same_before opened shifted (length before) before (omega arith) h)
same_later opened shifted (e ∷ later) before conn p q h = grind (arith, same_later opened shifted later before conn p q h, length_split, length_more)

-- ---- what the two pieces bring is what the one brings

-- the stream was refused, or its last request closes
abbrev IsFinal : StreamEnd → Type 0
IsFinal (Open left) = ⊥
IsFinal (RefusedBy r) = ⊤
IsFinal Closed = ⊤

-- what was refused or closed stays so
requests_stay : RequestLaws → (k : ℕ) (s more : List ℕ) (given : List HttpRequest) (ending : StreamEnd) → IsFinal ending → Requests k s given ending → Requests k (s ++ more) given ending
requests_stay fact k s more given ending further final = grind (arith, nat_tests)

refusal_open : (k l : List ℕ) (e : StreamEnd) → refusal_gained (Open k) e ≡ refusal_gained (Open l) e
refusal_open k l e = grind (arith, nat_tests)

join_gains : (plans : List PlanRecord) (e0 e1 e2 : StreamEnd) (m1 m2 : List HttpRequest)
    → (IsFinal e0 → e1 ≡ e0) → (IsFinal e1 → (m2 ≡ []) × (e2 ≡ e1))
    → requests_gained plans (m1 ++ m2) ++ refusal_gained e0 e2
    ≡ (requests_gained plans m1 ++ refusal_gained e0 e1) ++ (requests_gained plans m2 ++ refusal_gained e1 e2)
join_gains plans e0 e1 e2 m1 m2 each every = grind (arith, nat_tests, map-append, append-nil, refusal_open, append_assoc)

-- a stream that has ended brings nothing more
after_final : RequestLaws → (s more : List ℕ) (given later : List HttpRequest) (e f : StreamEnd) → Requests 0 s given e → Requests 0 (s ++ more) (given ++ later) f
    → IsFinal e → (later ≡ []) × (f ≡ e)
after_final laws s more given later e f h g final =
    let u = laws.unique 0 (s ++ more) (given ++ later) given f e g (requests_stay laws 0 s more given e final h) in
    (append_cancel_left given later [] (u.0 ∙ sym (append-nil given)), u.1)

pub gains_both : RequestLaws → (plans : List PlanRecord) (s p q : List ℕ) (x y z : List Coming)
    → Gains plans s (s ++ p) x → Gains plans (s ++ p) ((s ++ p) ++ q) y → Gains plans s (s ++ (p ++ q)) z → z ≡ x ++ y
gains_both laws plans s p q x y z g h w = search (arith, append_assoc, append_cancel_left, after_final, join_gains)

-- ---- occurrences

-- occurrences in their order, onto those before, newest first
abbrev pub back : List Occurrence → List Occurrence → List Occurrence
back [] past = past
back (o ∷ os) past = back os (o ∷ past)

back-append : (xs ys past : List Occurrence) → back (xs ++ ys) past ≡ back ys (back xs past)
back-append [] ys past = refl
back-append (x ∷ xs) ys past = back-append xs ys (x ∷ past)

pub occurrences_onto : (place : ℕ) (os : List Occurrence) (past : List Placed) → occurrences (onto place os past) ≡ back os (occurrences past)
occurrences_onto place [] past = refl
occurrences_onto place (o ∷ os) past = occurrences_onto place os ((place, o) ∷ past)

-- an event brings the same after lists that come to the same
pub at_same : (plans : List PlanRecord) (opened shifted : List ℕ) (e : Event) (es fs : Before) (os : List Occurrence) → IsSame opened shifted es fs
    → succeeds shifted (length fs) ≡ succeeds opened (length es) → OccursAt plans shifted e fs os → OccursAt plans opened e es os
at_same plans opened shifted e es fs os fact is further = grind (arith, nat_tests)

step_same : RequestLaws → (plans : List PlanRecord) (opened shifted : List ℕ) (e : Event) (es fs : Before) (m n : ℕ) (a b : List Placed) (os us : List Occurrence)
    → IsSame opened shifted es fs → succeeds shifted (length fs) ≡ succeeds opened (length es) → occurrences a ≡ occurrences b
    → OccursAt plans opened e es os → OccursAt plans shifted e fs us → occurrences (onto m os a) ≡ occurrences (onto n us b)
step_same laws plans opened shifted e es fs m n a b os us same s past h g = grind (arith, nat_tests, at_unique, at_same, occurrences_onto)

before_same : RequestLaws → (plans : List PlanRecord) (opened shifted : List ℕ) (n : ℕ) (es : Before) (a b : List Placed) → length es ≤ n → IsShifted n opened shifted
    → Occurs plans opened es a → Occurs plans shifted es b → occurrences a ≡ occurrences b
before_same laws plans opened shifted n [] a b le h x y = rw (x, y) refl
before_same laws plans opened shifted n (e ∷ es) a b le h x y =
    let step = step_same laws plans opened shifted e es es (length es) (length es) x.0 y.0 x.2.0 y.2.0
    (same_before opened shifted n es (omega (arith, le)) h) (h.before (length es) (omega (arith, le)))
    (before_same laws plans opened shifted n es x.0 y.0 (omega (arith, le)) h x.1 y.1) x.2.1 y.2.1 in
    ap occurrences x.2.2 ∙ step ∙ sym (ap occurrences y.2.2)

abbrev Brings : List PlanRecord → List ℕ → List ℕ → ℕ → List Occurrence → Type 0
Brings plans text longer conn os = (gained : List Coming) × Gains plans text longer gained × (os ≡ map (Comes conn) gained)

pieces_join : RequestLaws → (plans : List PlanRecord) (b : Bool) (s p q : List ℕ) (conn : ℕ) (x y z : List Occurrence)
    → MatchBool b (Brings plans s (s ++ p) conn x) (x ≡ [])
    → MatchBool b (Brings plans (if b then s ++ p else s) ((if b then s ++ p else s) ++ q) conn y) (y ≡ [])
    → MatchBool b (Brings plans s (s ++ (p ++ q)) conn z) (z ≡ []) → z ≡ x ++ y
pieces_join laws plans true s p q conn x y z g h w =
    let all : w.0 ≡ g.0 ++ h.0 = gains_both laws plans s p q g.0 h.0 w.0 g.1 h.1 w.1 in
    w.2 ∙ ap (map (Comes conn)) all ∙ map-append (Comes conn) g.0 h.0 ∙ rw (g.2, h.2) refl
pieces_join laws plans false s p q conn x y z g h w = rw (g, h, w) refl

pub stream_piece : (shifted : List ℕ) (conn : ℕ) (p : List ℕ) (before : Before)
    → stream shifted conn (Piece conn p ∷ before) ≡ (if listens shifted conn before then stream shifted conn before ++ p else stream shifted conn before)
stream_piece shifted conn p before = rw (eq-eqb conn conn refl) refl

piece_same : RequestLaws → (plans : List PlanRecord) (opened shifted : List ℕ) (conn : ℕ) (p q : List ℕ) (before : Before) (a b : List Placed) → IsShifted (length before) opened shifted
    → Occurs plans opened (Piece conn (p ++ q) ∷ before) a → Occurs plans shifted (Piece conn q ∷ Piece conn p ∷ before) b → occurrences a ≡ occurrences b
piece_same laws plans opened shifted conn p q before a b h x y =
    let same = same_before opened shifted (length before) before (omega arith) h in
    let first = y.1 in
    let past : occurrences x.0 ≡ occurrences first.0 = before_same laws plans opened shifted (length before) before x.0 first.0 (omega arith) h x.1 first.1 in
    let second : MatchBool (listens shifted conn before)
    (Brings plans (if listens shifted conn before then stream shifted conn before ++ p else stream shifted conn before)
    ((if listens shifted conn before then stream shifted conn before ++ p else stream shifted conn before) ++ q) conn y.2.0)
    (y.2.0 ≡ []) = rw (listens_piece shifted conn conn p before, stream_piece shifted conn p before) at y.2.1 in
    let whole : MatchBool (listens shifted conn before) (Brings plans (stream shifted conn before) (stream shifted conn before ++ (p ++ q)) conn x.2.0) (x.2.0 ≡ []) =
    rw (listens_same opened shifted before before conn same, same.stream_is conn) x.2.1 in
    let joined : x.2.0 ≡ first.2.0 ++ y.2.0 =
    pieces_join laws plans (listens shifted conn before) (stream shifted conn before) p q conn first.2.0 y.2.0 x.2.0 first.2.1 second whole in
    let left : occurrences a ≡ back y.2.0 (back first.2.0 (occurrences first.0)) =
    ap occurrences x.2.2 ∙ occurrences_onto (length before) x.2.0 x.0 ∙ rw (joined, past) (back-append first.2.0 y.2.0 (occurrences first.0)) in
    let right : occurrences b ≡ back y.2.0 (back first.2.0 (occurrences first.0)) =
    ap occurrences y.2.2 ∙ occurrences_onto (suc (length before)) y.2.0 y.0
    ∙ ap (back y.2.0) (ap occurrences first.2.2 ∙ occurrences_onto (length before) first.2.0 first.0) in
    left ∙ sym right

-- however the input is cut, the same occurs
pub any_cut : RequestLaws → (plans : List PlanRecord) (opened shifted : List ℕ) (later before : Before) (conn : ℕ) (p q : List ℕ) (a b : List Placed)
    → IsShifted (length before) opened shifted → Occurs plans opened (later ++ Piece conn (p ++ q) ∷ before) a
    → Occurs plans shifted (later ++ Piece conn q ∷ Piece conn p ∷ before) b → occurrences a ≡ occurrences b
any_cut laws plans opened shifted [] before conn p q a b h x y = piece_same laws plans opened shifted conn p q before a b h x y
any_cut laws plans opened shifted (e ∷ later) before conn p q a b h x y =
    let es : Before = later ++ Piece conn (p ++ q) ∷ before in
    let fs : Before = later ++ Piece conn q ∷ Piece conn p ∷ before in
    let step = step_same laws plans opened shifted e es fs (length es) (length fs) x.0 y.0 x.2.0 y.2.0
    (same_later opened shifted later before conn p q h)
    (ap (succeeds shifted) (length_split later before conn p q) ∙ h.after (length es) (length_more later before (Piece conn (p ++ q))))
    (any_cut laws plans opened shifted later before conn p q x.0 y.0 h x.1 y.1) x.2.1 y.2.1 in
    ap occurrences x.2.2 ∙ step ∙ sym (ap occurrences y.2.2)

-- ---- and the same starts, but for places

-- the jobs of the starts are those of what occurred
pub jobs_of_starts : (placed : List Placed) → map job_started (starts placed) ≡ jobs (marked (occurrences placed))
jobs_of_starts [] = refl
jobs_of_starts (o ∷ placed) =
    let past : Past = marked (occurrences placed) in
    let new : List JobValue = jobs_by o.1 (mark_of past o.1) past in
    map-append job_started (starts placed) (map (start o.0) new) ∙ rw (jobs_of_starts placed) (ap (λ js. jobs past ++ js) (without_place o.0 new))
  where
    without_place : (place : ℕ) (js : List JobValue) → map job_started (map (start place) js) ≡ js
    without_place place [] = refl
    without_place place (j ∷ js) = ap (λ rest. j ∷ rest) (without_place place js)
