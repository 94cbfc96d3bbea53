-- Texts that a writer has a beginning of.
use Rattle.gateway_run.proofs.Names.{◌≡◌, ℕ, ◌+◌, ◌-◌, ◌≤◌, ◌<◌, List, [], ◌∷◌, ◌++◌, length, take, drop, flat_map, get_or, Option, Result, Ok, Err, arith, refl, sym, ap, ◌∙◌, append_assoc, OnErr, codes, decimal, enumerate_from, take_all, length-drop, length-append, take-append-le, take-append-drop, take_more, common_steps, flat_map-append, Appends, AppendsSome, start_line, connection_text, connections_text, nat_tests}
use Rattle.std.proofs.lemmas.List.{append-nil}
use Rattle.std.proofs.Math.Seq.{take-add, take-append-add}
use Rattle.std.proofs.lemmas.List.FromFn.{length-enumerate_from, get_or-enumerate_from}
use Rattle.std.proofs.KnownBytes.{Appends-trans}
use Rattle.gateway_model.specs.declared.run.Start.{Start}

-- a write took k more bytes
pub Appends-more : (old mid new : Option (List ℕ)) (n k : ℕ) (text : List ℕ)
    → Appends old mid (take n text) → Appends mid new (take k (take (length text - n) (drop n text))) → Appends old new (take (n + k) text)
Appends-more old mid new n k text h6 h7 = grind (arith, nat_tests, take-add, take_all, length-drop, common_steps)

-- the beginning of a text is that of a longer one
pub AppendsSome-front : (a b : Option (List ℕ)) (xs ys : List ℕ) → AppendsSome a b xs → AppendsSome a b (xs ++ ys)
AppendsSome-front a b xs ys p =
    (p.0, omega (arith, length-append xs ys, p.1), rw (take-append-le p.0 xs ys (omega (arith, p.1))) p.2)

-- the beginning of a later part
pub AppendsSome-later : (a b c : Option (List ℕ)) (xs ys : List ℕ) → Appends a b xs → AppendsSome b c ys → AppendsSome a c (xs ++ ys)
AppendsSome-later a b c xs ys p q =
    (length xs + q.0, omega (arith, length-append xs ys, q.1), rw (take-append-add xs ys q.0) (Appends-trans a b c xs _ p q.2))

module _ {X : Type 0} (f : X → List ℕ) where
  -- one more
  pub flat_map-more : (xs : List X) (i : ℕ) (d : X) → i < length xs → flat_map f (take (i + 1) xs) ≡ flat_map f (take i xs) ++ f (get_or xs i d)
  flat_map-more xs i d lt = rw (take_more xs i d lt, flat_map-append f (take i xs) (get_or xs i d ∷ []), append-nil (f (get_or xs i d))) refl

  -- those before, this one, and those after
  pub flat_map-at : (xs : List X) (i : ℕ) (d : X) → i < length xs → flat_map f xs ≡ flat_map f (take i xs) ++ f (get_or xs i d) ++ flat_map f (drop (i + 1) xs)
  flat_map-at xs i d lt =
      ap (flat_map f) (sym (take-append-drop (i + 1) xs)) ∙ flat_map-append f (take (i + 1) xs) (drop (i + 1) xs)
      ∙ ap (λ l. l ++ flat_map f (drop (i + 1) xs)) (flat_map-more xs i d lt)

  -- a fault at one of the parts
  pub AppendsSome-at : (a b c : Option (List ℕ)) (xs : List X) (i : ℕ) (d : X) → i < length xs
      → Appends a b (flat_map f (take i xs)) → AppendsSome b c (f (get_or xs i d)) → AppendsSome a c (flat_map f xs)
  AppendsSome-at a b c xs i d lt p q =
      rw (flat_map-at xs i d lt) (AppendsSome-front a c _ _ (AppendsSome-later a b c _ _ p q))

  -- one part more
  pub Appends-at : (a b c : Option (List ℕ)) (xs : List X) (i : ℕ) (d : X) → i < length xs
      → Appends a b (flat_map f (take i xs)) → Appends b c (f (get_or xs i d)) → Appends a c (flat_map f (take (i + 1) xs))
  Appends-at a b c xs i d lt p q =
      rw (flat_map-more xs i d lt) (Appends-trans a b c _ _ p q)

pub OnErr-map : {A E P Q : Type 0} (r : Result A E) → (P → Q) → OnErr r P → OnErr r Q
OnErr-map (Ok a) f p = tt
OnErr-map (Err e) f p = f p

-- ---- the lines, of their parts

pub start_parts : (s : Start) (a b c d : List ℕ) → a ≡ decimal s.event → b ≡ decimal s.conn → c ≡ decimal s.request → d ≡ decimal s.branch
    → codes "start " ++ (a ++ (codes " " ++ (b ++ (codes " " ++ (c ++ (codes " " ++ (d ++ (codes "\n" ++ [])))))))) ≡ start_line s
start_parts s a b c d p q r t = rw (p, q, r, t) (simp append_assoc refl)

pub connection_parts : (conn : ℕ) (bytes a b : List ℕ) → a ≡ decimal conn → b ≡ decimal (length bytes)
    → codes "connection " ++ (a ++ (codes ": " ++ (b ++ (codes " bytes\n" ++ (bytes ++ (codes "\n" ++ [])))))) ≡ connection_text conn bytes
connection_parts conn bytes a b p q = rw (p, q) (grind (arith, common_steps, append_assoc))

-- ---- the connections

pub entry_at : (queued : List (List ℕ)) (i : ℕ) (d bytes : List ℕ) → i < length queued → bytes ≡ get_or queued i d
    → get_or (enumerate_from 0 queued) i (0, d) ≡ (i, bytes)
entry_at queued i d bytes lt e = grind (arith, nat_tests, get_or-enumerate_from)

-- the text of an entry
abbrev pub entry_text : ℕ × List ℕ → List ℕ
entry_text entry = connection_text entry.0 entry.1

pub Appends-connection : (a b c : Option (List ℕ)) (queued : List (List ℕ)) (i : ℕ) (d bytes : List ℕ) → i < length queued → bytes ≡ get_or queued i d
    → Appends a b (flat_map entry_text (take i (enumerate_from 0 queued))) → Appends b c (connection_text i bytes)
    → Appends a c (flat_map entry_text (take (i + 1) (enumerate_from 0 queued)))
Appends-connection a b c queued i d bytes lt e p q =
    Appends-at entry_text a b c (enumerate_from 0 queued) i (0, d) (omega (arith, length-enumerate_from 0 queued, lt)) p
    (rw (entry_at queued i d bytes lt e) q)

pub AppendsSome-connection : (a b c : Option (List ℕ)) (queued : List (List ℕ)) (i : ℕ) (d bytes : List ℕ) → i < length queued → bytes ≡ get_or queued i d
    → Appends a b (flat_map entry_text (take i (enumerate_from 0 queued))) → AppendsSome b c (connection_text i bytes)
    → AppendsSome a c (connections_text queued)
AppendsSome-connection a b c queued i d bytes lt e p q =
    AppendsSome-at entry_text a b c (enumerate_from 0 queued) i (0, d) (omega (arith, length-enumerate_from 0 queued, lt)) p
    (rw (entry_at queued i d bytes lt e) q)

pub all_connections : (queued : List (List ℕ)) (i : ℕ) → length queued ≤ i → take i (enumerate_from 0 queued) ≡ enumerate_from 0 queued
all_connections queued i le = take_all i _ (omega (arith, length-enumerate_from 0 queued, le))
