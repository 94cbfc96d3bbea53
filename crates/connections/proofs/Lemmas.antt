-- The lemmas of this crate, and the names that most proofs cite.
pub use Rattle.std.proofs.Common.{[], ◌++◌, arith, ◌≡◌, length, sym, ap, ◌∙◌, append-nil, List, refl, ◌≤◌, false, ◌∷◌, length-append, take, rules, subst, ◌-◌, ◌<◌, append_assoc, lit≤, nat_eq}
pub use Rattle.std.proofs.lemmas.Grind.{common_steps, flat_map-append}
pub use Rattle.std.specs.Io.KnownBytes.{Appends, Consumes}
pub use Rattle.std.specs.Prelude.{Option, ℕ, ◌+◌, Bool, true, All, Some, None, zero, suc, drop, map, flat_map, ⊤}
pub use Rattle.connections.specs.Writes.{NotYet, IsOver, Unwritten, CutShort, Writes, bytes_of, End, WritesOut, IsCut, goes_on, begun, part, told_last, calls_of}
pub use Rattle.std.proofs.lemmas.List.{nil_from_length, take_all, length-drop}
pub use Rattle.std.proofs.lemmas.Bool.Decides.{nat_tests}
use Rattle.std.proofs.lemmas.List.Elements.{All-nil, All-cons, All-append, All-head, All-tail}
use Rattle.connections.specs.declared.pumping.Fed.{Fed}
pub use Rattle.connections.specs.declared.pumping.Fed.TheVariants.{Go, Stop, Full}
use Rattle.connections.specs.declared.pumping.Heard.{Heard}
use Rattle.connections.specs.declared.pumping.Heard.TheVariants.{Piece}
pub use Rattle.connections.specs.Pumps.{Tells, Pumps, Counts, IsRead, taken_of, ends_by, answered, joined}
pub use Rattle.std.proofs.KnownBytes.{Consumes-nil, Consumes-trans, Appends-trans}
use Rattle.std.proofs.lemmas.List.FromFn.{map-range_with_len_more}
pub use Rattle.std.proofs.Math.Seq.{take-add}
use Rattle.gateway_model.specs.Past.{call_id}
use Rattle.gateway_theory.specs.Replies.{ReplyValue}
use Rattle.connections.specs.declared.writing.Handed.{Handed}
use Rattle.connections.specs.declared.writing.Handed.TheVariants.{Reply}

-- ---- what is told goes on

-- nothing was told
pub Tells-refl : {A : Type 0} (a : Option (List A)) → Tells a a []
Tells-refl a = grind (arith, common_steps)

-- one after the other
pub Tells-trans : {A : Type 0} (a b c : Option (List A)) (xs ys : List A) → Tells a b xs → Tells b c ys → Tells a c (xs ++ ys)
Tells-trans a b c xs ys p q = grind (arith, common_steps)

-- ---- what a read, a piece and the hang-up add to what was pumped

is_read_last : (pieces final : List (List ℕ)) → length final ≡ 1 → All IsRead (pieces ++ final) → IsRead (joined final)
is_read_last (x ∷ pieces) final one reads = is_read_last pieces final one (All-tail IsRead x (pieces ++ final) reads)
is_read_last [] [] one reads = absurd (omega arith)
is_read_last [] (x ∷ []) one reads = subst IsRead (sym (append-nil x)) (All-head IsRead x [] reads)
is_read_last [] (x ∷ y ∷ final) one reads = absurd (omega arith)

-- nothing was read
pub Pumps-refl : (a : Option (List ℕ)) (t : Option (List Heard)) (k : ℕ) → Pumps 0 a a t t k k Go []
Pumps-refl a t k = record {
  pieces = [];
  final = [];
  one_at_most = refl;
  few = lit≤ tt;
  reads = All-nil IsRead;
  read = Consumes-nil a;
  given = Tells-refl t;
  counted = omega arith;
}

-- one read more: these pieces go on, and these end the reading
pumped : (n m : ℕ) (a b c : Option (List ℕ)) (t s u : Option (List Heard)) (k j i : ℕ) (bytes : List ℕ) (fed : Fed) (xs ys : List (List ℕ))
    → xs ++ ys ≡ bytes ∷ [] → length ys ≡ ends_by fed → answered Go xs ++ answered fed ys ≡ Piece bytes fed ∷ [] → length (joined xs) + length (taken_of (joined ys) fed) ≡ length (taken_of bytes fed)
    → Pumps n a b t s k j Go [] → n + 1 ≤ m → IsRead bytes → Consumes b c bytes → Tells s u (Piece bytes fed ∷ []) → i ≡ j + length (taken_of bytes fed)
    → Pumps m a c t u k i fed []
pumped n m a b c t s u k j i bytes fed xs ys is one heard takes p within is_read read told counted =
    let none = nil_from_length p.final p.one_at_most in
    let size : length (xs ++ ys) ≡ 1 = ap length is in
    let rest : joined (xs ++ ys) ≡ bytes = ap joined is ∙ append-nil bytes in
    let before : All IsRead p.pieces = subst (All IsRead) (append-nil p.pieces) (subst (λ zs. All IsRead (p.pieces ++ zs)) none p.reads) in
    record {
      pieces = p.pieces ++ xs;
      final = ys;
      one_at_most = one;
      few = grind (arith, common_steps);
      reads = subst (All IsRead) (sym (append_assoc p.pieces xs ys ∙ ap (λ zs. p.pieces ++ zs) is)) (All-append IsRead p.pieces (bytes ∷ []) before (All-cons IsRead bytes [] is_read (All-nil IsRead)));
      read = grind (arith, common_steps, Consumes-trans);
      given = grind (arith, common_steps, Tells-trans);
      counted = grind (arith, common_steps);
    }

-- one read more, and what the inlet said to it
pub Pumps-more : (n m : ℕ) (a b c : Option (List ℕ)) (t s u : Option (List Heard)) (k j i : ℕ) (bytes : List ℕ) (fed : Fed)
    → Pumps n a b t s k j Go [] → n + 1 ≤ m → IsRead bytes → Consumes b c bytes → Tells s u (Piece bytes fed ∷ []) → i ≡ j + length (taken_of bytes fed)
    → Pumps m a c t u k i fed []
Pumps-more n m a b c t s u k j i bytes Stop = pumped n m a b c t s u k j i bytes Stop [] (bytes ∷ []) refl refl refl (rw (append-nil bytes) (omega arith))
Pumps-more n m a b c t s u k j i bytes Full = pumped n m a b c t s u k j i bytes Full [] (bytes ∷ []) refl refl refl (omega arith)
Pumps-more n m a b c t s u k j i bytes Go = pumped n m a b c t s u k j i bytes Go (bytes ∷ []) [] refl refl refl (rw (append-nil bytes) (omega arith))

taken_all : (a b : Option (List ℕ)) (k i : ℕ) (fed : Fed) (xs ys : List ℕ) → (fed ≡ Full → ⊥) → Consumes a b (xs ++ ys) → i ≡ k + length xs + length ys
    → Counts a b k i fed
taken_all a b k i fed xs ys not_full read counted = record {
  taken = xs ++ ys;
  refused = [];
  read = rw (append-nil (xs ++ ys)) read;
  counted = omega (arith, counted, length-append xs ys);
  all_taken = λ _. refl;
  last_read = λ full. absurd (not_full full);
}

-- what was counted, of a reading that told nothing
pub Counts-of : (n : ℕ) (a b : Option (List ℕ)) (t u : Option (List Heard)) (k i : ℕ) (fed : Fed) (last : List Heard) → Pumps n a b t u k i fed last → Counts a b k i fed
Counts-of n a b t u k i Full last p = record {
  taken = joined p.pieces;
  refused = joined p.final;
  read = p.read;
  counted = omega (arith, p.counted);
  all_taken = λ is_not. absurd (is_not refl);
  last_read = λ _. is_read_last p.pieces p.final p.one_at_most p.reads;
}
Counts-of n a b t u k i Go last p = taken_all a b k i Go (joined p.pieces) (joined p.final) (λ is. cc is) p.read p.counted
Counts-of n a b t u k i Stop last p = taken_all a b k i Stop (joined p.pieces) (joined p.final) (λ is. cc is) p.read p.counted

-- ---- what a reply, and the end, add to what was written

-- one reply more, whole or in part
Writes-more : (conn : ℕ) (a b c : Option (List ℕ)) (t s u : Option (List Handed)) (xs whole : List ReplyValue) (r : ReplyValue) (end : End)
    → r ∷ [] ≡ whole ++ part end → told_last end ≡ [] → IsCut end → r.id ≡ call_id conn (length xs) → Appends b c (flat_map bytes_of whole ++ begun end) → Tells s u (Reply r.id ∷ [])
    → Writes conn 0 a b t s xs NotYet [] → Writes conn 0 a c t u (xs ++ r ∷ []) end []
Writes-more conn a b c t s u xs whole r end are none short id bytes told p = record {
  whole = p.whole ++ whole;
  are = grind (arith, common_steps);
  short = short;
  own = let more = map-range_with_len_more (call_id conn) 0 (length xs) (length xs) (omega arith) in grind (arith, common_steps);
  bytes = grind (arith, common_steps, Appends-trans);
  given = grind (arith, common_steps, Tells-trans);
}

-- so much was written of the reply to the next request
pub Writes-sent : (conn : ℕ) (a b c : Option (List ℕ)) (t s u : Option (List Handed)) (xs : List ReplyValue) (r : ReplyValue) (sent : ℕ) (all : Bool)
    → nat_eq sent (length (bytes_of r)) ≡ all → sent ≤ length (bytes_of r) → r.id ≡ call_id conn (length xs) → Appends b c (take sent (bytes_of r)) → Tells s u (Reply r.id ∷ [])
    → Writes conn 0 a b t s xs NotYet [] → (end : End) × (goes_on end ≡ all) × Writes conn 0 a c t u (xs ++ r ∷ []) end []
Writes-sent conn a b c t s u xs r sent true is within id bytes told p =
    let whole : take sent (bytes_of r) ≡ (bytes_of r ++ []) ++ [] = grind (arith, common_steps, take_all) in
    (NotYet, refl, Writes-more conn a b c t s u xs (r ∷ []) r NotYet refl refl tt id (rw (← whole) bytes) told p)
Writes-sent conn a b c t s u xs r sent false is within id bytes told p =
    (CutShort r sent, refl, Writes-more conn a b c t s u xs [] r (CutShort r sent) refl refl (grind (arith, common_steps)) id bytes told p)
