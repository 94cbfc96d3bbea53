-- A cut depends on the shortest block alone, and bytes that follow change neither a message nor a refusal.
use Rattle.std.proofs.Common.{◌≡◌, ℕ, ◌<◌, ◌≤◌, ◌==◌, Bool, true, false, ◌&&◌, nat_lt, List, [], ◌∷◌, ◌++◌, length, take, drop, refl, sym, ap, subst, ◌∙◌, arith, length-take, length-append, length-take-le}
use Rattle.std.proofs.lemmas.Bool.Decides.{nat_tests}
use Rattle.std.proofs.lemmas.List.{take-append-le, drop-append-le, take-append-drop}
use Rattle.http_pieces.specs.Cut.{Cut, Incomplete, Refused, Complete, Asks, Refusal, Body, Coded, Kind, IsSingle, IsCut, skip_pairs, most_head, IsBlock, HasNoBlock, cut_unblocked, cut_after, IsCutText, without_block, without_head, with_head}

-- ---- codings

-- a coding whose messages and refusals more bytes do not change, and which leaves no more than came
pub record IsCoding {R V : Type 0} (cut : List ℕ → Cut R V) : Type 0 where
  pub complete : (after more : List ℕ) (v : V) (rest : List ℕ) → Complete v rest ≡ cut after → Complete v (rest ++ more) ≡ cut (after ++ more)
  pub refused : (after more : List ℕ) (r : R) → Refused r ≡ cut after → Refused r ≡ cut (after ++ more)
  pub within : (after : List ℕ) (v : V) (rest : List ℕ) → Complete v rest ≡ cut after → length rest ≤ length after

-- each coding that a head of the kind asks for is such
abbrev pub HasCodings : {R V : Type 0} → Kind R V → Type 0
HasCodings {R} {V} kind = (block : List ℕ) (cut : List ℕ → Cut R V) → kind.IsHead block (Coded cut) → IsCoding cut

abbrev pub is_pair : ℕ → ℕ → Bool
is_pair a b = (a == 13) && (b == 10)

-- ---- the pairs that lead a text

pub skip_append : (s more : List ℕ) → skip_pairs (s ++ more) ≡ skip_pairs (skip_pairs s ++ more)
skip_append [] more = refl
skip_append (a ∷ []) more = refl
skip_append (a ∷ b ∷ s) more = by_test (skip_append s more) (is_pair a b) refl
  where
    by_test : skip_pairs (s ++ more) ≡ skip_pairs (skip_pairs s ++ more) → (t : Bool) → is_pair a b ≡ t
        → skip_pairs (a ∷ b ∷ s ++ more) ≡ skip_pairs (skip_pairs (a ∷ b ∷ s) ++ more)
    by_test later true pair = rw pair later
    by_test later false other = rw (other, other) refl

pub skip_long : (s more : List ℕ) → 2 ≤ length (skip_pairs s) → skip_pairs (s ++ more) ≡ skip_pairs s ++ more
skip_long [] more le = absurd (omega arith)
skip_long (a ∷ []) more le = absurd (omega arith)
skip_long (a ∷ b ∷ s) more le = by_test (skip_long s more) (is_pair a b) refl le
  where
    by_test : (2 ≤ length (skip_pairs s) → skip_pairs (s ++ more) ≡ skip_pairs s ++ more) → (t : Bool) → is_pair a b ≡ t
        → 2 ≤ length (skip_pairs (a ∷ b ∷ s)) → skip_pairs (a ∷ b ∷ s ++ more) ≡ skip_pairs (a ∷ b ∷ s) ++ more
    by_test later true pair long = rw pair (later (rw pair at long))
    by_test later false other long = rw other refl

pub skip_shorter : (s : List ℕ) → length (skip_pairs s) ≤ length s
skip_shorter [] = omega arith
skip_shorter (a ∷ []) = omega arith
skip_shorter (a ∷ b ∷ s) = by_test (skip_shorter s) (is_pair a b) refl
  where
    by_test : length (skip_pairs s) ≤ length s → (t : Bool) → is_pair a b ≡ t → length (skip_pairs (a ∷ b ∷ s)) ≤ length (a ∷ b ∷ s)
    by_test later true pair = rw pair (omega arith)
    by_test later false other = rw other (omega arith)

-- ---- the block

pub block_unique : (text : List ℕ) (m n : ℕ) → IsBlock text m → IsBlock text n → m ≡ n
block_unique text m n a b =
    let not_less : m < n → ⊥ = λ lt. b.shortest m lt a.ends in
    let not_more : n < m → ⊥ = λ lt. a.shortest n lt b.ends in
    omega arith

pub block_long : (text : List ℕ) (n : ℕ) → IsBlock text n → 4 ≤ n
block_long text n b =
    omega (arith, ap length b.ends.1, length-append b.ends.0 (13 ∷ 10 ∷ 13 ∷ 10 ∷ []), length-take-le n text b.within)

pub block_append : (text more : List ℕ) (n : ℕ) → IsBlock text n → IsBlock (text ++ more) n
block_append text more n b = record {
  within = omega (arith, b.within, length-append text more);
  limit = b.limit;
  ends = rw (take-append-le n text more b.within) b.ends;
  shortest = λ m lt ends. b.shortest m lt (rw (take-append-le m text more (omega (arith, b.within))) at ends);
}

pub take_prefix : (text : List ℕ) (n e : ℕ) → n ≤ length (take e text) → take n (take e text) ≡ take n text
take_prefix text n e le = sym (take-append-le n (take e text) (drop e text) le) ∙ ap (take n) (take-append-drop e text)

-- the block of the whole is that of each prefix that holds it
pub block_trim : (text : List ℕ) (n e : ℕ) → n ≤ e → IsBlock text n → IsBlock (take e text) n
block_trim text n e le b =
    let fits : n ≤ length (take e text) = omega (arith, b.within, length-take e text) in
    record {
      within = fits;
      limit = b.limit;
      ends = rw (take_prefix text n e fits) b.ends;
      shortest = λ m lt ends. b.shortest m lt (rw (take_prefix text m e (omega (arith, fits))) at ends);
    }

pub no_block_append : (text more : List ℕ) → most_head ≤ length text → HasNoBlock text → HasNoBlock (text ++ more)
no_block_append text more long none = λ n le ends. none n le (rw (take-append-le n text more (omega arith)) at ends)

-- ---- what follows a head

pub after_complete_intro : {R V : Type 0} (n : ℕ) (message : List ℕ → V) (after : List ℕ) → n ≤ length after
    → cut_after {R = R} (Body n message) after ≡ Complete (message (take n after)) (drop n after)
after_complete_intro n message after le =
    let enough : nat_lt (length after) n ≡ false = grind (arith, nat_tests) in
    rw enough refl

-- ---- more bytes

pub unblocked_incomplete : {R V : Type 0} (kind : Kind R V) (text : List ℕ) (v : V) (rest : List ℕ) → Complete v rest ≡ cut_unblocked kind text → ⊥
unblocked_incomplete kind text v rest e = by_test (nat_lt (length text) most_head) refl
  where
    by_test : (t : Bool) → nat_lt (length text) most_head ≡ t → ⊥
    by_test true short = let same : Complete v rest ≡ Incomplete = rw short at e in cc
    by_test false long = let same : Complete v rest ≡ Refused kind.too_large = rw long at e in cc

pub unblocked_refused : {R V : Type 0} (kind : Kind R V) (text : List ℕ) (r : R) → Refused r ≡ cut_unblocked kind text → (most_head ≤ length text) × (r ≡ kind.too_large)
unblocked_refused kind text r e = by_test (nat_lt (length text) most_head) refl
  where
    by_test : (t : Bool) → nat_lt (length text) most_head ≡ t → (most_head ≤ length text) × (r ≡ kind.too_large)
    by_test true short = absurd (let same : Refused r ≡ Incomplete = rw short at e in cc)
    by_test false long = let same : Refused r ≡ Refused kind.too_large = rw long at e in (grind (arith, nat_tests), cc)

-- a body of so many bytes
body_more : {R V : Type 0} (n : ℕ) (message : List ℕ → V) (after more : List ℕ) (v : V) (rest : List ℕ)
    → ◌≡◌ {A = Cut R V} (Complete v rest) (cut_after (Body n message) after)
    → ◌≡◌ {A = Cut R V} (Complete v (rest ++ more)) (cut_after (Body n message) (after ++ more))
body_more {R = R} {V = V} n message after more v rest e = by_test (nat_lt (length after) n) refl
  where
    by_test : (t : Bool) → nat_lt (length after) n ≡ t → ◌≡◌ {A = Cut R V} (Complete v (rest ++ more)) (cut_after (Body n message) (after ++ more))
    by_test true short = absurd (let same : ◌≡◌ {A = Cut R V} (Complete v rest) Incomplete = rw short at e in cc)
    by_test false enough =
        let same : ◌≡◌ {A = Cut R V} (Complete v rest) (Complete (message (take n after)) (drop n after)) = rw enough at e in
        let within : n ≤ length after = grind (arith, nat_tests) in
        let v_is : v ≡ message (take n after) = cc in
        let rest_is : rest ≡ drop n after = cc in
        let first : ◌≡◌ {A = Cut R V} (Complete v (rest ++ more)) (Complete (message (take n (after ++ more))) (rest ++ more)) =
        ap (λ x. Complete x (rest ++ more)) (v_is ∙ ap message (sym (take-append-le n after more within))) in
        first
        ∙ ap (Complete (message (take n (after ++ more)))) (ap (λ r. r ++ more) rest_is ∙ sym (drop-append-le n after more within))
        ∙ sym (after_complete_intro n message (after ++ more) (omega (arith, length-append after more)))

module _ {R V : Type 0} (kind : Kind R V) (codings : HasCodings kind) where
  -- behind a head that asks for it
  complete_more : (block : List ℕ) (a : Asks R V) (after more : List ℕ) (v : V) (rest : List ℕ) → kind.IsHead block a → Complete v rest ≡ cut_after a after
      → Complete v (rest ++ more) ≡ cut_after a (after ++ more)
  complete_more block (Refusal r) after more v rest head e = absurd (cc)
  complete_more block (Body n message) after more v rest head e = body_more {R = R} n message after more v rest e
  complete_more block (Coded cut) after more v rest head e = (codings block cut head).complete after more v rest e

  refused_more : (block : List ℕ) (a : Asks R V) (after more : List ℕ) (r : R) → kind.IsHead block a → Refused r ≡ cut_after a after
      → Refused r ≡ cut_after a (after ++ more)
  refused_more block (Refusal s) after more r head e = e
  refused_more block (Body n message) after more r head e = by_test (nat_lt (length after) n) refl
    where
      by_test : (t : Bool) → nat_lt (length after) n ≡ t → ◌≡◌ {A = Cut R V} (Refused r) (cut_after (Body n message) (after ++ more))
      by_test true short = absurd (let same : ◌≡◌ {A = Cut R V} (Refused r) Incomplete = rw short at e in cc)
      by_test false enough = absurd (let same : ◌≡◌ {A = Cut R V} (Refused r) (Complete (message (take n after)) (drop n after)) = rw enough at e in cc)
  refused_more block (Coded cut) after more r head e = (codings block cut head).refused after more r e

  text_complete : (text more : List ℕ) (v : V) (rest : List ℕ) → IsCutText kind text (Complete v rest) → IsCutText kind (text ++ more) (Complete v (rest ++ more))
  text_complete text more v rest (without_block none e) = absurd (unblocked_incomplete kind text v rest e)
  text_complete text more v rest (without_head n b other e) = absurd (cc)
  text_complete text more v rest (with_head n a b head e) =
      with_head n a (block_append text more n b) (rw (take-append-le n text more b.within) head)
      (complete_more (take n text) a (drop n text) more v rest head e ∙ ap (cut_after a) (sym (drop-append-le n text more b.within)))

  text_refused : (text more : List ℕ) (r : R) → IsCutText kind text (Refused r) → IsCutText kind (text ++ more) (Refused r)
  text_refused text more r (without_block none e) =
      let h = unblocked_refused kind text r e in
      let longer : most_head ≤ length (text ++ more) = omega (arith, h.0, length-append text more) in
      let long : nat_lt (length (text ++ more)) most_head ≡ false = grind (arith, nat_tests) in
      without_block (no_block_append text more h.0 none) (rw (long, h.1) refl)
  text_refused text more r (without_head n b other e) =
      without_head n (block_append text more n b) (rw (take-append-le n text more b.within) other) e
  text_refused text more r (with_head n a b head e) =
      with_head n a (block_append text more n b) (rw (take-append-le n text more b.within) head)
      (refused_more (take n text) a (drop n text) more r head e ∙ ap (cut_after a) (sym (drop-append-le n text more b.within)))

-- ---- a kind whose heads ask for one thing each

text_unique : {R V : Type 0} (kind : Kind R V) → IsSingle kind → (text : List ℕ) (c d : Cut R V) → IsCutText kind text c → IsCutText kind text d → c ≡ d
text_unique kind single text c d (without_block none e) (without_block also f) = e ∙ sym f
text_unique kind single text c d (without_block none e) (without_head n b other f) = absurd (none n b.limit b.ends)
text_unique kind single text c d (without_block none e) (with_head n a b head f) = absurd (none n b.limit b.ends)
text_unique kind single text c d (without_head n b other e) (without_block none f) = absurd (none n b.limit b.ends)
text_unique kind single text c d (without_head n b other e) (without_head m b' also f) = e ∙ sym f
text_unique kind single text c d (without_head n b other e) (with_head m a b' head f) =
    absurd (other a (subst (λ x. kind.IsHead (take x text) a) (block_unique text m n b' b) head))
text_unique kind single text c d (with_head n a b head e) (without_block none f) = absurd (none n b.limit b.ends)
text_unique kind single text c d (with_head n a b head e) (without_head m b' other f) =
    absurd (other a (subst (λ x. kind.IsHead (take x text) a) (block_unique text n m b b') head))
text_unique kind single text c d (with_head n a b head e) (with_head m a' b' head' f) =
    let place = block_unique text m n b' b in
    let same : a' ≡ a = single (take n text) a' a (subst (λ x. kind.IsHead (take x text) a') place head') head in
    e ∙ sym (f ∙ ap (λ x. cut_after a' (drop x text)) place ∙ ap (λ x. cut_after x (drop n text)) same)

-- a text is cut in one way only
pub kind_unique : {R V : Type 0} (kind : Kind R V) → IsSingle kind → (text : List ℕ) (c d : Cut R V) → IsCut kind text c → IsCut kind text d → c ≡ d
kind_unique kind single text c d = text_unique kind single (skip_pairs text) c d

text_complete_long : {R V : Type 0} (kind : Kind R V) (text : List ℕ) (v : V) (rest : List ℕ) → IsCutText kind text (Complete v rest) → 2 ≤ length text
text_complete_long kind text v rest (without_block none e) = absurd (unblocked_incomplete kind text v rest e)
text_complete_long kind text v rest (without_head n b other e) = absurd (cc)
text_complete_long kind text v rest (with_head n a b head e) = omega (arith, block_long text n b, b.within)

text_refused_long : {R V : Type 0} (kind : Kind R V) (text : List ℕ) (r : R) → IsCutText kind text (Refused r) → 2 ≤ length text
text_refused_long kind text r (without_block none e) = omega (arith, (unblocked_refused kind text r e).0)
text_refused_long kind text r (without_head n b other e) = omega (arith, block_long text n b, b.within)
text_refused_long kind text r (with_head n a b head e) = omega (arith, block_long text n b, b.within)

-- a message stays as it was cut
pub kind_complete_append : {R V : Type 0} (kind : Kind R V) → HasCodings kind → (text more : List ℕ) (v : V) (rest : List ℕ)
    → IsCut kind text (Complete v rest) → IsCut kind (text ++ more) (Complete v (rest ++ more))
kind_complete_append kind codings text more v rest cut =
    let long = text_complete_long kind (skip_pairs text) v rest cut in
    rw (skip_long text more long) (text_complete kind codings (skip_pairs text) more v rest cut)

-- so does a refusal
pub kind_refused_append : {R V : Type 0} (kind : Kind R V) → HasCodings kind → (text more : List ℕ) (r : R)
    → IsCut kind text (Refused r) → IsCut kind (text ++ more) (Refused r)
kind_refused_append kind codings text more r cut =
    let long = text_refused_long kind (skip_pairs text) r cut in
    rw (skip_long text more long) (text_refused kind codings (skip_pairs text) more r cut)

-- nothing is cut off no bytes
pub kind_empty : {R V : Type 0} (kind : Kind R V) → IsCut kind [] Incomplete
kind_empty kind = without_block (λ n le ends. absurd (omega (arith, ap length ends.1, length-append ends.0 (13 ∷ 10 ∷ 13 ∷ 10 ∷ []), length-take {A = ℕ} n []))) refl
