-- A piece that is fed in parts is as one piece.
use Rattle.std.specs.Prelude.{◌≡◌, ◌+◌, ◌∷◌, ◌++◌, ◌≤◌, if◌then◌else◌}
use Rattle.gateway_theory.specs.lemmas.Names.{ℕ, suc, Bool, true, false, List, [], map, length, refl, sym, ap, ◌∙◌, subst, arith, append_assoc, nat_tests, MatchBool, reverse, length-append, map-append, reverse-append, PlanRecord, HttpRequest, closes, StreamEnd, EndsAt, Requests, unfinished, broken, BreakAsTheyMay, CanBreakAt, MayOccur, Before, Gains, OccursAt, listens, refusal_gained, requests_gained, stream, Event, Piece, Coming, Comes, Occurrence, marked, RequestLaws, at_place, Adds, CoreValue, FedUpTo, HasConns, Lives, Placed, occurrences, History, after_event, without_breaks, calls_arrived}
use Rattle.http_pieces.specs.Cut.{Complete, Cut}
use Rattle.http_pieces.specs.declared.refusal.Refusal.{Refusal}
use Rattle.gateway_theory.specs.Core.{IsKnown}
use Rattle.gateway_theory.specs.lemmas.Adding.{AreBreaks, BreakSo, MayBreak, occurrences_at, Newer, breaks_join, breaks_later, can_later, without_both, StandsNow, adds_counted}
use Rattle.gateway_theory.specs.lemmas.CutLemmas.{IsSame, gains_both, listens_piece, same_piece, stream_piece}
use Rattle.gateway_theory.specs.lemmas.ServedLemmas.{stays_itself, stream_stays}

-- ---- a longer text has the requests of the shorter, and may have more

abbrev cut_of : HttpRequest → List ℕ → Cut Refusal HttpRequest
cut_of q rest = Complete q rest

same_cut : (q r : HttpRequest) (a b : List ℕ) → cut_of q a ≡ cut_of r b → (q ≡ r) × (a ≡ b)
same_cut q r a b e = (cc, cc)

requests_front : RequestLaws → (k : ℕ) (s more : List ℕ) (given whole : List HttpRequest) (e f : StreamEnd) → Requests k s given e → Requests k (s ++ more) whole f → (rest : List HttpRequest) × (whole ≡ given ++ rest)
requests_front laws k s more [] whole e f h g = (whole, refl)
requests_front laws k s more (q ∷ given) [] e f h g = absurd (by_end g)
  where
    by_end : EndsAt k (s ++ more) f → ⊥
    by_end (unfinished cut is) = let x = laws.cut_unique k (s ++ more) _ _ cut (laws.cut_stays k s more q h.0 h.1) in absurd (cc)
    by_end (broken r cut is) = let x = laws.cut_unique k (s ++ more) _ _ cut (laws.cut_stays k s more q h.0 h.1) in absurd (cc)
requests_front laws k s more (q ∷ given) (r ∷ whole) e f h g =
    let same = same_cut q r (h.0 ++ more) g.0 (laws.cut_unique k (s ++ more) _ _ (laws.cut_stays k s more q h.0 h.1) g.1) in
    by_close (closes q) refl same (λ x y. requests_front laws (suc k) h.0 more given whole e f x y)
  where
    by_close : (b : Bool) → closes q ≡ b → (q ≡ r) × (h.0 ++ more ≡ g.0)
        → (Requests (suc k) h.0 given e → Requests (suc k) (h.0 ++ more) whole f → (rest : List HttpRequest) × (whole ≡ given ++ rest))
        → (rest : List HttpRequest) × (r ∷ whole ≡ (q ∷ given) ++ rest)
    by_close true c same next = grind (arith, nat_tests)
    by_close false c same next = grind (arith, nat_tests)

-- what the shorter text gains, and then the longer
gains_parts : RequestLaws → (plans : List PlanRecord) (s t : List ℕ) (given whole : List HttpRequest) (e f : StreamEnd) (more : List ℕ) → t ≡ s ++ more → Requests 0 s given e → Requests 0 t whole f
    → (gained : List Coming) × Gains plans s t gained
gains_parts laws plans s t given whole e f more t_is h g =
    let rest = requests_front laws 0 s more given whole e f h (subst (λ x. Requests 0 x whole f) t_is g) in (
      requests_gained plans rest.0 ++ refusal_gained e f,
      record {
        given = given;
        more = rest.0;
        ending = e;
        later = f;
        text_is = h;
        longer_is = subst (λ xs. Requests 0 t xs f) rest.1 g;
        gained_is = refl;
      },
    )

-- ---- which event stands at a place

pub last_event : (e : Event) (es later : Before) (event : Event) (before : Before) → e ∷ es ≡ later ++ event ∷ before → length before ≡ length es → (event ≡ e) × (before ≡ es)
last_event e es [] event before is place = (cc, cc)
last_event e es (x ∷ later) event before is place = grind (arith, nat_tests, length-append)

-- the breaks among the newest, by what may break at their place
so_broke : (P : ℕ → List Occurrence → Type 0) (opened : List ℕ) (es : Before) (m : ℕ) → ((c : ℕ) (us : List Occurrence) → CanBreakAt c m opened es (marked us) → P c us)
    → (o : Occurrence) (us : List Occurrence) → MayOccur opened es m o (marked us) → BreakSo P o us
so_broke P opened es m each o us fact = grind (arith, nat_tests)

pub breaks_back : (P : ℕ → List Occurrence → Type 0) (opened : List ℕ) (es : Before) (m : ℕ) → ((c : ℕ) (us : List Occurrence) → CanBreakAt c m opened es (marked us) → P c us)
    → (newer : List Occurrence) (lived : List Placed) → BreakAsTheyMay opened es (at_place m newer ++ lived) → AreBreaks P newer (occurrences lived)
breaks_back P opened es m f [] lived b = tt
breaks_back P opened es m f (o ∷ newer) lived b =
    (so_broke P opened es m f o (newer ++ occurrences lived) (subst (λ us. MayOccur opened es m o (marked us)) (occurrences_at m newer lived) b.0), breaks_back P opened es m f newer lived b.1)

pub breaks_behind : (opened : List ℕ) (es : Before) (m : ℕ) (newer : List Occurrence) (lived : List Placed) → BreakAsTheyMay opened es (at_place m newer ++ lived) → BreakAsTheyMay opened es lived
breaks_behind opened es m [] lived b = b
breaks_behind opened es m (o ∷ newer) lived b = breaks_behind opened es m newer lived b.1

-- ---- two pieces

module _ (n : ℕ) (p q : List ℕ) (history : History) where
  same_itself : IsSame history.opened history.opened history.events history.events
  same_itself = record { connections_are = refl; open_is = λ c. refl; hung_is = λ c. refl; stream_is = λ c. refl }

  pub joined : IsSame history.opened history.opened (Piece n (p ++ q) ∷ history.events) (Piece n q ∷ Piece n p ∷ history.events)
  joined = same_piece history.opened history.opened n p q history.events same_itself

  -- what may break by the one piece
  abbrev pub MayNow : ℕ → List Occurrence → Type 0
  MayNow = MayBreak history.opened (Piece n (p ++ q)) history.events

  pub by_second : (c : ℕ) (us : List Occurrence) → CanBreakAt c (length (Piece n p ∷ history.events)) history.opened (Piece n q ∷ Piece n p ∷ history.events) (marked us) → MayNow c us
  by_second c us b = search (arith, last_event)

  pub by_first : (c : ℕ) (us : List Occurrence) → CanBreakAt c (length history.events) history.opened (Piece n q ∷ Piece n p ∷ history.events) (marked us) → MayNow c us
  by_first c us b = by_later b.later b.events_are
    where
      by_later : (later : Before) → Piece n q ∷ Piece n p ∷ history.events ≡ later ++ b.event ∷ b.before → MayNow c us
      by_later [] is = absurd (let size : length (Piece n q ∷ Piece n p ∷ history.events) ≡ length (b.event ∷ b.before) = ap (λ (xs : Before). length xs) is in
          let place = b.place_is in omega (arith, size, place))
      by_later (x ∷ later) is = search (arith, last_event)

-- what the one brings is what the two bring
module _ (laws : RequestLaws) (n : ℕ) (p q : List ℕ) (plans : List PlanRecord) (history : History)
    (middle : (gained : List Coming) → Gains plans (stream history.opened n history.events) (stream history.opened n history.events ++ (p ++ q)) gained → (given : List HttpRequest) × (ending : StreamEnd) × Requests 0 (stream history.opened n history.events ++ p) given ending) where
  pub parts : (b : Bool) → listens history.opened n history.events ≡ b → (os : List Occurrence) → OccursAt plans history.opened (Piece n (p ++ q)) history.events os
      → (xs : List Occurrence) × (ys : List Occurrence) × OccursAt plans history.opened (Piece n p) history.events xs × OccursAt plans history.opened (Piece n q) (Piece n p ∷ history.events) ys × (xs ++ ys ≡ os)
  parts false x os at = grind arith
  parts true x os at = by_gains (subst (λ b. Both b (stream history.opened n history.events) (stream history.opened n history.events ++ (p ++ q)) os) x at)
    where
      Both : Bool → List ℕ → List ℕ → List Occurrence → Type 0
      Both b s t os = MatchBool b ((gained : List Coming) × Gains plans s t gained × (os ≡ map (Comes n) gained)) (os ≡ [])

      text_is : stream history.opened n (Piece n p ∷ history.events) ≡ stream history.opened n history.events ++ p
      text_is = stream_piece history.opened n p history.events ∙ ap (λ b. if b then stream history.opened n history.events ++ p else stream history.opened n history.events) x

      by_gains : ((gained : List Coming) × Gains plans (stream history.opened n history.events) (stream history.opened n history.events ++ (p ++ q)) gained × (os ≡ map (Comes n) gained))
          → (xs : List Occurrence) × (ys : List Occurrence) × OccursAt plans history.opened (Piece n p) history.events xs × OccursAt plans history.opened (Piece n q) (Piece n p ∷ history.events) ys × (xs ++ ys ≡ os)
      by_gains (gained, gains, os_are) =
          let m = middle gained gains in
          let first = gains_parts laws plans (stream history.opened n history.events) (stream history.opened n history.events ++ p) gains.given m.0 gains.ending m.1 p refl gains.text_is m.2 in
          let second = gains_parts laws plans (stream history.opened n history.events ++ p) ((stream history.opened n history.events ++ p) ++ q) m.0 (gains.given ++ gains.more) m.1 gains.later q refl m.2
          (subst (λ t. Requests 0 t (gains.given ++ gains.more) gains.later) (sym (append_assoc (stream history.opened n history.events) p q)) gains.longer_is) in (
            map (Comes n) first.0,
            map (Comes n) second.0,
            subst (λ b. Both b (stream history.opened n history.events) (stream history.opened n history.events ++ p) (map (Comes n) first.0)) (sym x) (first.0, first.1, refl),
            subst (λ b. Both b (stream history.opened n (Piece n p ∷ history.events)) (stream history.opened n (Piece n p ∷ history.events) ++ q) (map (Comes n) second.0)) (sym (listens_piece history.opened n n p history.events ∙ x))
                (second.0, subst (λ t. Gains plans t (t ++ q) second.0) (sym text_is) second.1, refl),
            sym (map-append (Comes n) first.0 second.0) ∙ ap (map (Comes n)) (sym (gains_both laws plans (stream history.opened n history.events) p q first.0 second.0 gained first.1 second.1 gains)) ∙ sym os_are,
          )

module _ (laws : RequestLaws) (n : ℕ) (p q : List ℕ) (u v w : CoreValue) (h : History)
    (middle : (gained : List Coming) → Gains u.plans (stream h.opened n h.events) (stream h.opened n h.events ++ (p ++ q)) gained → (given : List HttpRequest) × (ending : StreamEnd) × Requests 0 (stream h.opened n h.events ++ p) given ending)
    (first : Adds h.opened (Piece n p) h u v) (second : Adds h.opened (Piece n q) (after_event (Piece n p) h) v w) where
  conns_joined : HasConns u h.opened h.events → HasConns w h.opened (Piece n q ∷ Piece n p ∷ h.events) → HasConns w h.opened (Piece n (p ++ q) ∷ h.events)
  conns_joined before c = record {
    below = λ place its. let lt = before.below place its in omega (arith, lt);
    count_is = sym (joined n p q h).connections_are ∙ c.count_is;
    each = λ d. stream_stays h.opened h.opened (Piece n q ∷ Piece n p ∷ h.events) (Piece n (p ++ q) ∷ h.events) w.opened w.opened d (w.conns d) (w.conns d) (w.streams d) (stays_itself (w.conns d)) (c.each d) refl
        (sym ((joined n p q h).open_is d)) (sym ((joined n p q h).hung_is d)) (sym ((joined n p q h).stream_is d));
  }

  newer_joined : HasConns u h.opened h.events → (lived : List Placed) → Lives u h lived → (os : List Occurrence) → OccursAt u.plans h.opened (Piece n (p ++ q)) h.events os
      → Newer (MayNow n p q h) (StandsNow h w) os (occurrences lived)
  newer_joined c lived l os at =
      let ps = parts laws n p q u.plans h middle (listens h.opened n h.events) refl os at in
      let x = first.lives lived l ps.0 ps.2 in
      let y = second.lives (at_place (length h.events) x.0 ++ lived) x.2 ps.1
      (subst (λ plans. OccursAt plans h.opened (Piece n q) (Piece n p ∷ h.events) ps.1) (sym first.plans_are) ps.3) in
      record {
        newer = y.0 ++ x.0;
        same = without_both y.0 x.0 ∙ ap (λ us. us ++ without_breaks x.0) y.1 ∙ ap (λ us. reverse ps.1 ++ us) x.1 ∙ sym (reverse-append ps.0 ps.1) ∙ ap (λ us. reverse us) ps.4;
        may = breaks_join (MayNow n p q h) y.0 x.0 (occurrences lived)
            (subst (λ us. AreBreaks (MayNow n p q h) y.0 us) (occurrences_at (length h.events) x.0 lived)
            (breaks_back (MayNow n p q h) h.opened (Piece n q ∷ Piece n p ∷ h.events) (length (Piece n p ∷ h.events)) (by_second n p q h) y.0 (at_place (length h.events) x.0 ++ lived) y.2.breaks))
            (breaks_back (MayNow n p q h) h.opened (Piece n q ∷ Piece n p ∷ h.events) (length h.events) (by_first n p q h) x.0 lived
            (breaks_behind h.opened (Piece n q ∷ Piece n p ∷ h.events) (length (Piece n p ∷ h.events)) y.0 (at_place (length h.events) x.0 ++ lived) y.2.breaks));
        stands = grind (arith, nat_tests, StandsNow, occurrences_at, append_assoc);
      }

  few_joined : (c : HasConns u h.opened h.events) (lived : List Placed) (l : Lives u h lived) (os : List Occurrence) (at : OccursAt u.plans h.opened (Piece n (p ++ q)) h.events os)
      → w.begun ≤ calls_arrived ((newer_joined c lived l os at).newer ++ occurrences lived)
  unfolding newer_joined
  few_joined c lived l os at = grind (arith, occurrences_at, append_assoc)

  pub adds_joined : Adds h.opened (Piece n (p ++ q)) h u w
  adds_joined = adds_counted h.opened (Piece n (p ++ q)) h u w (second.plans_are ∙ first.plans_are) (λ c. conns_joined c (second.conns (first.conns c)))
      (λ c lived l. (l.occurs, breaks_later h.opened h.opened (Piece n (p ++ q)) h.events (can_later h.opened (Piece n (p ++ q)) h.events) lived l.breaks)) newer_joined few_joined

-- more bytes of it
pub fed_more : RequestLaws → (n : ℕ) (p q : List ℕ) (u v w : CoreValue) (h : History) → FedUpTo n p h u v → Adds h.opened (Piece n q) (after_event (Piece n p) h) v w
    → IsKnown (stream h.opened n h.events ++ (p ++ q)) → FedUpTo n (p ++ q) h u w
fed_more laws n p q u v w h f more known = record {
  before = f.before;
  adds = adds_joined laws n p q u v w h (λ gained gains. f.known q gained gains) f.adds more;
  known = λ rest gained gains. known;
}
