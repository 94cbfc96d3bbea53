-- Where the parts of a body in chunks end, and what more bytes make of it.
use Rattle.std.proofs.Common.{◌≡◌, ℕ, zero, suc, ◌+◌, ◌-◌, ◌<◌, ◌≤◌, ◌==◌, Bool, true, false, nat_lt, List, [], ◌∷◌, ◌++◌, length, take, drop, refl, sym, ap, subst, ◌∙◌, arith, append_assoc, length-append, length-take, Option, Some, None}
use Rattle.std.specs.Prelude.{if◌then◌else◌, option_map}
use Rattle.std.proofs.lemmas.Bool.Decides.{nat_tests}
use Rattle.std.proofs.lemmas.List.{length-drop, take_all, take-append-le, drop-append-le}
use Rattle.std.proofs.Math.Seq.{take-append_seam, drop-append_seam, take-append-add}
use Rattle.http_pieces.specs.declared.chunk_parts.ChunkFault.{ChunkFault}
use Rattle.http_pieces.specs.declared.chunk_parts.ChunkFault.TheVariants as fault
use Rattle.http_pieces.specs.declared.chunk_parts.Part.{Part}
use Rattle.http_pieces.specs.declared.chunk_parts.Part.TheVariants as part
use Rattle.http_pieces.specs.declared.chunk_parts.Place.{Place}
use Rattle.http_pieces.specs.declared.chunk_parts.Next.{Next}
use Rattle.http_pieces.specs.declared.chunk_parts.Next.TheVariants as next
use Rattle.http_pieces.specs.Cut.{Cut, Incomplete, Refused, Complete}
use Rattle.http_pieces.specs.Chunks.{line_end, most_of, part_end, next_of, onto, cut_next, cut_part, cut_parts, cut_at, IsOpen}

abbrev pub is_feed : ℕ → Bool
is_feed b = b == 10

-- ---- lines

pub line_bound : (xs : List ℕ) (n : ℕ) → line_end xs ≡ Some n → (0 < n) × (n ≤ length xs)
line_bound [] n e = absurd (cc)
line_bound (b ∷ xs) n e = by_test (line_bound xs) (is_feed b) refl
  where
    later : ((m : ℕ) → line_end xs ≡ Some m → (0 < m) × (m ≤ length xs)) → (o : Option ℕ) → line_end xs ≡ o → option_map suc o ≡ Some n
        → (0 < n) × (n ≤ length (b ∷ xs))
    later bound None is f = absurd (cc)
    later bound (Some m) is f =
        let same : suc m ≡ n = cc in
        let fits = (bound m is).1 in
        (omega arith, omega arith)

    by_test : ((m : ℕ) → line_end xs ≡ Some m → (0 < m) × (m ≤ length xs)) → (t : Bool) → is_feed b ≡ t → (0 < n) × (n ≤ length (b ∷ xs))
    by_test bound true feed = let same : Some 1 ≡ Some n = rw feed at e in let one : 1 ≡ n = cc in (omega arith, omega arith)
    by_test bound false other = later bound (line_end xs) refl (rw other at e)

pub line_append : (xs ys : List ℕ) (n : ℕ) → line_end xs ≡ Some n → line_end (xs ++ ys) ≡ Some n
line_append [] ys n e = absurd (cc)
line_append (b ∷ xs) ys n e = by_test (line_append xs ys) (is_feed b) refl
  where
    later : ((m : ℕ) → line_end xs ≡ Some m → line_end (xs ++ ys) ≡ Some m) → (o : Option ℕ) → line_end xs ≡ o → option_map suc o ≡ Some n
        → option_map suc (line_end (xs ++ ys)) ≡ Some n
    later append None is f = absurd (cc)
    later append (Some m) is f = ap (option_map suc) (append m is) ∙ f

    by_test : ((m : ℕ) → line_end xs ≡ Some m → line_end (xs ++ ys) ≡ Some m) → (t : Bool) → is_feed b ≡ t → line_end (b ∷ xs ++ ys) ≡ Some n
    by_test append true feed = rw feed (rw feed at e)
    by_test append false other = rw other (later append (line_end xs) refl (rw other at e))

-- the first lines end behind the others' bytes
pub line_on : (xs ys : List ℕ) → line_end xs ≡ None → line_end (xs ++ ys) ≡ option_map (λ k. length xs + k) (line_end ys)
line_on [] ys e = by_end (line_end ys)
  where
    by_end : (o : Option ℕ) → o ≡ option_map (λ k. 0 + k) o
    by_end None = refl
    by_end (Some n) = ap Some (omega arith)
line_on (b ∷ xs) ys e = by_test (line_on xs ys) (is_feed b) refl
  where
    none : (o : Option ℕ) → option_map suc o ≡ None → o ≡ None
    none None f = refl
    none (Some m) f = absurd (cc)

    on : (o : Option ℕ) → option_map suc (option_map (λ k. length xs + k) o) ≡ option_map (λ k. length (b ∷ xs) + k) o
    on None = refl
    on (Some k) = ap Some (omega arith)

    by_test : (line_end xs ≡ None → line_end (xs ++ ys) ≡ option_map (λ k. length xs + k) (line_end ys)) → (t : Bool) → is_feed b ≡ t
        → line_end (b ∷ xs ++ ys) ≡ option_map (λ k. length (b ∷ xs) + k) (line_end ys)
    by_test later true feed = absurd (let wrong : Some 1 ≡ None = rw feed at e in cc)
    by_test later false other = rw other (ap (option_map suc) (later (none (line_end xs) (rw other at e))) ∙ on (line_end ys))

pub line_trim : (xs : List ℕ) (n : ℕ) → line_end xs ≡ Some n → line_end (take n xs) ≡ Some n
line_trim [] n e = absurd (cc)
line_trim (b ∷ xs) n e = by_test (line_trim xs) (is_feed b) refl
  where
    later : ((m : ℕ) → line_end xs ≡ Some m → line_end (take m xs) ≡ Some m) → is_feed b ≡ false → (o : Option ℕ) → line_end xs ≡ o → option_map suc o ≡ Some n
        → line_end (take n (b ∷ xs)) ≡ Some n
    later trim other None is f = absurd (cc)
    later trim other (Some m) is f =
        let same : suc m ≡ n = cc in
        subst (λ k. line_end (take k (b ∷ xs)) ≡ Some k) same (rw other (ap (option_map suc) (trim m is)))

    by_test : ((m : ℕ) → line_end xs ≡ Some m → line_end (take m xs) ≡ Some m) → (t : Bool) → is_feed b ≡ t → line_end (take n (b ∷ xs)) ≡ Some n
    by_test trim true feed =
        let same : Some 1 ≡ Some n = rw feed at e in
        let one : suc 0 ≡ n = cc in
        subst (λ k. line_end (take k (b ∷ xs)) ≡ Some k) one (rw feed refl)
    by_test trim false other = later trim other (line_end xs) refl (rw other at e)

-- ---- parts

-- of a text no longer than n, and of a longer one
pub take_short : (n : ℕ) (xs ys : List ℕ) → length xs ≤ n → take n (xs ++ ys) ≡ xs ++ take (n - length xs) ys
take_short n xs ys le =
    let sum : length xs + (n - length xs) ≡ n = omega arith in
    ap (λ k. take k (xs ++ ys)) (sym sum) ∙ take-append-add xs ys (n - length xs)

line_part_append : (s n : ℕ) (text more : List ℕ) → line_end (take s text) ≡ Some n → line_end (take s (text ++ more)) ≡ Some n
line_part_append s n text more e = by_test (nat_lt (length text) s) refl
  where
    by_test : (t : Bool) → nat_lt (length text) s ≡ t → line_end (take s (text ++ more)) ≡ Some n
    by_test true less =
        let le : length text ≤ s = grind (arith, nat_tests) in
        ap line_end (take_short s text more le) ∙ line_append text (take (s - length text) more) n (ap line_end (sym (take_all s text le)) ∙ e)
    by_test false long =
        let le : s ≤ length text = grind (arith, nat_tests) in
        ap line_end (take-append-le s text more le) ∙ e

data_end : (m : ℕ) (text : List ℕ) → m + 2 ≤ length text → part_end (part.Data m) 0 text ≡ Some (m + 2)
data_end m text le =
    let enough : nat_lt (length text) (m + 2) ≡ false = grind (arith, nat_tests) in
    rw enough refl

pub data_some : (m n : ℕ) (text : List ℕ) → part_end (part.Data m) 0 text ≡ Some n → (n ≡ m + 2) × (m + 2 ≤ length text)
data_some m n text e = by_test (nat_lt (length text) (m + 2)) refl
  where
    by_test : (t : Bool) → nat_lt (length text) (m + 2) ≡ t → (n ≡ m + 2) × (m + 2 ≤ length text)
    by_test true less = absurd (let wrong : None ≡ Some n = rw less at e in cc)
    by_test false enough = let same : Some (m + 2) ≡ Some n = rw enough at e in (cc, grind (arith, nat_tests))

data_none : (m : ℕ) (text : List ℕ) → part_end (part.Data m) 0 text ≡ None → length text < m + 2
data_none m text e = by_test (nat_lt (length text) (m + 2)) refl
  where
    by_test : (t : Bool) → nat_lt (length text) (m + 2) ≡ t → length text < m + 2
    by_test true less = grind (arith, nat_tests)
    by_test false enough = absurd (let wrong : Some (m + 2) ≡ None = rw enough at e in cc)

pub part_bound : (p : Part) (s n : ℕ) (text : List ℕ) → part_end p s text ≡ Some n → (0 < n) × (n ≤ length text)
part_bound part.Size s n text e = let h = line_bound (take (s + 18) text) n e in (h.0, omega (arith, h.1, length-take (s + 18) text))
part_bound part.Trailer s n text e = let h = line_bound (take (s + 18) text) n e in (h.0, omega (arith, h.1, length-take (s + 18) text))
part_bound (part.Data m) s n text e = let h = data_some m n text e in (omega arith, omega arith)

pub part_append : (p : Part) (s n : ℕ) (text more : List ℕ) → part_end p s text ≡ Some n → part_end p s (text ++ more) ≡ Some n
part_append part.Size s n text more e = line_part_append (s + 18) n text more e
part_append part.Trailer s n text more e = line_part_append (s + 18) n text more e
part_append (part.Data m) s n text more e =
    let h = data_some m n text e in
    data_end m (text ++ more) (omega (arith, h.1, length-append text more)) ∙ ap Some (sym h.0)

pub part_long : (p : Part) (s : ℕ) (text more : List ℕ) → part_end p s text ≡ None → most_of p s ≤ length text → part_end p s (text ++ more) ≡ None
part_long part.Size s text more e le = ap line_end (take-append-le (s + 18) text more le) ∙ e
part_long part.Trailer s text more e le = ap line_end (take-append-le (s + 18) text more le) ∙ e
part_long (part.Data m) s text more e le = absurd (omega (arith, data_none m text e, le))

pub open_empty : (place : Place) → IsOpen place []
open_empty place = by_part place.part refl
  where
    by_part : (p : Part) → place.part ≡ p → IsOpen place []
    by_part part.Size is = record { endless = rw (is, take_all {A = ℕ} (place.spare + 18) [] (omega arith)) refl; short = rw is (omega arith) }
    by_part part.Trailer is = record { endless = rw (is, take_all {A = ℕ} (place.spare + 18) [] (omega arith)) refl; short = rw is (omega arith) }
    by_part (part.Data m) is =
        let short : nat_lt 0 (m + 2) ≡ true = grind (arith, nat_tests) in
        record { endless = rw (is, short) refl; short = rw is (omega arith) }

-- ---- parts after one another

-- what more bytes make of what was cut
abbrev pub Stays : Cut ChunkFault (List ℕ) → Cut ChunkFault (List ℕ) → List ℕ → Type 0
Stays Incomplete d more = Unit {0}
Stays (Refused f) d more = d ≡ Refused f
Stays (Complete body rest) d more = d ≡ Complete body (rest ++ more)

stays_onto : (front : List ℕ) (c d : Cut ChunkFault (List ℕ)) (more : List ℕ) → Stays c d more → Stays (onto front c) (onto front d) more
stays_onto front Incomplete d more h = tt
stays_onto front (Refused f) d more h = ap (onto front) h
stays_onto front (Complete body rest) d more h = ap (onto front) h

pub onto_onto : (a b : List ℕ) (c : Cut ChunkFault (List ℕ)) → onto a (onto b c) ≡ onto (a ++ b) c
onto_onto a b Incomplete = refl
onto_onto a b (Refused f) = refl
onto_onto a b (Complete body rest) = ap (λ x. Complete x rest) (sym (append_assoc a b body))

-- with room for each part the number of parts is of no matter
pub fuel_same : (f g : ℕ) (place : Place) (text : List ℕ) → length text < f → length text < g → cut_parts f place text ≡ cut_parts g place text
fuel_same zero g place text a b = absurd (omega arith)
fuel_same (suc f) zero place text a b = absurd (omega arith)
fuel_same (suc f) (suc g) place text a b = by_end (fuel_same f g) (part_end place.part place.spare text) refl
  where
    by_next : ((q : Place) (after : List ℕ) → length after < f → length after < g → cut_parts f q after ≡ cut_parts g q after) → (n : ℕ) → 0 < n → n ≤ length text
        → (x : Next) → cut_next (cut_parts f) x (take n text) (drop n text) ≡ cut_next (cut_parts g) x (take n text) (drop n text)
    by_next same n some le (next.Fault e) = refl
    by_next same n some le next.End = refl
    by_next same n some le (next.Goes q k) =
        ap (onto (take k (take n text))) (same q (drop n text) (omega (arith, length-drop n text)) (omega (arith, length-drop n text)))

    by_end : ((q : Place) (after : List ℕ) → length after < f → length after < g → cut_parts f q after ≡ cut_parts g q after) → (o : Option ℕ)
        → part_end place.part place.spare text ≡ o → cut_part (cut_parts f) place text o ≡ cut_part (cut_parts g) place text o
    by_end same None e = refl
    by_end same (Some n) e = let h = part_bound place.part place.spare n text e in by_next same n h.0 h.1 (next_of place (take n text))

pub stays : (f g : ℕ) (place : Place) (text more : List ℕ) → length text < f → length (text ++ more) < g
    → Stays (cut_parts f place text) (cut_parts g place (text ++ more)) more
stays zero g place text more a b = absurd (omega arith)
stays (suc f) zero place text more a b = absurd (omega arith)
stays (suc f) (suc g) place text more a b = by_end (stays f g) (part_end place.part place.spare text) refl
  where
    whole : List ℕ
    whole = text ++ more

    by_next : ((q : Place) (after more : List ℕ) → length after < f → length (after ++ more) < g → Stays (cut_parts f q after) (cut_parts g q (after ++ more)) more)
        → (n : ℕ) → 0 < n → n ≤ length text → (x : Next)
        → Stays (cut_next (cut_parts f) x (take n text) (drop n text)) (cut_next (cut_parts g) x (take n text) (drop n text ++ more)) more
    by_next later n some le (next.Fault e) = refl
    by_next later n some le next.End = refl
    by_next later n some le (next.Goes q k) =
        stays_onto (take k (take n text)) (cut_parts f q (drop n text)) (cut_parts g q (drop n text ++ more)) more
        (later q (drop n text) more (omega (arith, length-drop n text)) (omega (arith, length-drop n text, length-append (drop n text) more, length-append text more)))

    by_length : part_end place.part place.spare text ≡ None → (t : Bool) → nat_lt (length text) (most_of place.part place.spare) ≡ t
        → Stays (cut_part (cut_parts f) place text None) (cut_part (cut_parts g) place whole (part_end place.part place.spare whole)) more
    by_length e true less = rw less tt
    by_length e false long =
        let le : most_of place.part place.spare ≤ length text = grind (arith, nat_tests) in
        let longer : most_of place.part place.spare ≤ length whole = omega (arith, length-append text more) in
        let test : nat_lt (length whole) (most_of place.part place.spare) ≡ false = grind (arith, nat_tests) in
        let none = part_long place.part place.spare text more e le in
        rw (long, none, test) refl

    by_end : ((q : Place) (after more : List ℕ) → length after < f → length (after ++ more) < g → Stays (cut_parts f q after) (cut_parts g q (after ++ more)) more)
        → (o : Option ℕ) → part_end place.part place.spare text ≡ o
        → Stays (cut_part (cut_parts f) place text o) (cut_part (cut_parts g) place whole (part_end place.part place.spare whole)) more
    by_end later None e = by_length e (nat_lt (length text) (most_of place.part place.spare)) refl
    by_end later (Some n) e =
        let h = part_bound place.part place.spare n text e in
        rw (part_append place.part place.spare n text more e, take-append-le n text more h.1, drop-append-le n text more h.1)
        (by_next later n h.0 h.1 (next_of place (take n text)))

pub at_stays : (place : Place) (text more : List ℕ) → Stays (cut_at place text) (cut_at place (text ++ more)) more
at_stays place text more = stays (suc (length text)) (suc (length (text ++ more))) place text more (omega arith) (omega arith)

-- a whole part, and what follows it
pub at_step : (place : Place) (bytes more : List ℕ) → part_end place.part place.spare bytes ≡ Some (length bytes)
    → cut_at place (bytes ++ more) ≡ cut_next cut_at (next_of place bytes) bytes more
at_step place bytes more e =
    let some = (part_bound place.part place.spare (length bytes) bytes e).0 in
    rw (part_append place.part place.spare (length bytes) bytes more e, take-append_seam bytes more, drop-append_seam bytes more) (by_next some (next_of place bytes))
  where
    by_next : 0 < length bytes → (x : Next) → cut_next (cut_parts (length (bytes ++ more))) x bytes more ≡ cut_next cut_at x bytes more
    by_next some (next.Fault f) = refl
    by_next some next.End = refl
    by_next some (next.Goes q k) =
        ap (onto (take k bytes)) (fuel_same (length (bytes ++ more)) (suc (length more)) q more (omega (arith, length-append bytes more)) (omega arith))

-- a part that can't end any more
pub at_long : (place : Place) (text more : List ℕ) → part_end place.part place.spare text ≡ None → most_of place.part place.spare ≤ length text
    → cut_at place (text ++ more) ≡ Refused fault.Malformed
at_long place text more e le =
    let longer : most_of place.part place.spare ≤ length (text ++ more) = omega (arith, length-append text more) in
    let test : nat_lt (length (text ++ more)) (most_of place.part place.spare) ≡ false = grind (arith, nat_tests) in
    rw (part_long place.part place.spare text more e le, test) refl

-- and one that has not ended
pub at_open : (place : Place) (left : List ℕ) → IsOpen place left → cut_at place left ≡ Incomplete
at_open place left is =
    let test : nat_lt (length left) (most_of place.part place.spare) ≡ true = let lt = is.short in grind (arith, nat_tests) in
    rw (is.endless, test) refl

-- ---- what is left behind a body

abbrev pub IsRestWithin : Cut ChunkFault (List ℕ) → ℕ → Type 0
IsRestWithin Incomplete most = Unit {0}
IsRestWithin (Refused f) most = Unit {0}
IsRestWithin (Complete body rest) most = length rest ≤ most

rest_onto : (front : List ℕ) (c : Cut ChunkFault (List ℕ)) (least most : ℕ) → least ≤ most → IsRestWithin c least → IsRestWithin (onto front c) most
rest_onto front Incomplete least most le h = tt
rest_onto front (Refused f) least most le h = tt
rest_onto front (Complete body rest) least most le h = omega arith

rest_parts : (f : ℕ) (place : Place) (text : List ℕ) → IsRestWithin (cut_parts f place text) (length text)
rest_parts zero place text = tt
rest_parts (suc f) place text = by_end (rest_parts f) (part_end place.part place.spare text)
  where
    by_next : ((q : Place) (after : List ℕ) → IsRestWithin (cut_parts f q after) (length after)) → (n : ℕ) (x : Next)
        → IsRestWithin (cut_next (cut_parts f) x (take n text) (drop n text)) (length text)
    by_next later n (next.Fault e) = tt
    by_next later n next.End = omega (arith, length-drop n text)
    by_next later n (next.Goes q k) =
        rest_onto (take k (take n text)) (cut_parts f q (drop n text)) (length (drop n text)) (length text) (omega (arith, length-drop n text)) (later q (drop n text))

    by_length : (t : Bool) → IsRestWithin (if t then Incomplete else Refused fault.Malformed) (length text)
    by_length true = tt
    by_length false = tt

    by_end : ((q : Place) (after : List ℕ) → IsRestWithin (cut_parts f q after) (length after)) → (o : Option ℕ)
        → IsRestWithin (cut_part (cut_parts f) place text o) (length text)
    by_end later None = by_length (nat_lt (length text) (most_of place.part place.spare))
    by_end later (Some n) = by_next later n (next_of place (take n text))

pub at_rest : (place : Place) (text : List ℕ) → IsRestWithin (cut_at place text) (length text)
at_rest place text = rest_parts (suc (length text)) place text
