-- What a text is cut into, by what was read of its head and how much of its body is there.
use Rattle.std.proofs.Common.{◌≡◌, ℕ, ◌+◌, ◌-◌, ◌<◌, ◌≤◌, true, false, nat_lt, List, [], ◌++◌, length, take, drop, refl, sym, ap, subst, ◌∙◌, arith, length-take}
use Rattle.std.proofs.lemmas.Bool.Decides.{nat_tests}
use Rattle.std.proofs.lemmas.List.{length-drop, take_all, drop_all, take-append-drop, take-append-le, length-append}
use Rattle.http_pieces.specs.Cut.{Cut, Incomplete, Refused, Complete, Body, Refusal, Kind, skip_pairs, most_head, IsBlock, HasNoBlock, IsCutText, without_block, without_head, with_head, cut_after, IsCut}
use Rattle.http_pieces.specs.Form.{Form, IsHeadOf, IsRefused, as_head, as_none, IsOpenBody}
use Rattle.http_pieces.proofs.CutLemmas.{no_block_append, skip_long, block_trim, block_append, block_long, take_prefix, after_complete_intro}

pub cut_short : {R V : Type 0} (kind : Kind R V) (text : List ℕ) → HasNoBlock text → length text < most_head → IsCutText kind text Incomplete
cut_short kind text none short =
    let test : nat_lt (length text) most_head ≡ true = grind (arith, nat_tests) in
    without_block none (rw test refl)

-- what is refused without its body stays so, whatever follows it
pub cut_too_large : {R V : Type 0} (kind : Kind R V) (text more : List ℕ) (r : R) → HasNoBlock text → most_head ≤ length text → r ≡ kind.too_large
    → IsCutText kind (text ++ more) (Refused r)
cut_too_large kind text more r none long is =
    let longer : most_head ≤ length (text ++ more) = omega (arith, long, length-append text more) in
    let test : nat_lt (length (text ++ more)) most_head ≡ false = grind (arith, nat_tests) in
    without_block (no_block_append text more long none) (rw (test, is) refl)

pub cut_refused : {R V : Type 0} (kind : Kind R V) (text more : List ℕ) (n : ℕ) (r : R) → IsBlock text n → IsRefused kind (take n text) r
    → IsCutText kind (text ++ more) (Refused r)
cut_refused kind text more n r block (as_head asks) =
    with_head n (Refusal r) (block_append text more n block) (rw (take-append-le n text more block.within) asks) refl
cut_refused kind text more n r block (as_none none is) =
    without_head n (block_append text more n block) (rw (take-append-le n text more block.within) none) (ap Refused is)

module _ {R H V : Type 0} (form : Form R H V) where
  pub cut_no_body : (text : List ℕ) (n k size : ℕ) (head : H) → IsBlock text n → IsHeadOf form (take n text) head size → length text - n < size
      → IsCutText (form.kind k) text Incomplete
  cut_no_body text n k size head block at short =
      let test : nat_lt (length (drop n text)) size ≡ true = let lt : length (drop n text) < size = omega (arith, length-drop n text) in grind (arith, nat_tests) in
      with_head n (Body size (λ body. form.message (take n text ++ body) head (length (take n text)) k)) block (at.asks k) (rw test refl)

  -- a body that ends the text
  whole_after : (after : List ℕ) (size : ℕ) (message : List ℕ → V) (v : V) → length after ≡ size → v ≡ message after
      → ◌≡◌ {A = Cut R V} (Complete v []) (cut_after (Body size message) after)
  whole_after after size message v tail is =
      let all : take size after ≡ after = take_all size after (omega arith) in
      let none : drop size after ≡ [] = drop_all size after (omega arith) in
      let first : ◌≡◌ {A = Cut R V} (Complete v []) (Complete (message (take size after)) []) = ap (λ x. Complete x []) (is ∙ ap message (sym all)) in
      first ∙ ap (Complete (message (take size after))) (sym none) ∙ sym (after_complete_intro size message after (omega arith))

  -- bytes that end with the body are the block and the body
  parts_are : (text : List ℕ) (n e : ℕ) → n ≤ length (take e text) → take n text ++ drop n (take e text) ≡ take e text
  parts_are text n e le = ap (λ x. x ++ drop n (take e text)) (sym (take_prefix text n e le)) ∙ take-append-drop n (take e text)

  -- they are cut into the message, with nothing left
  pub cut_whole : (text : List ℕ) (n k size : ℕ) (head : H) → IsBlock text n → IsHeadOf form (take n text) head size → n + size ≤ length text
      → IsCutText (form.kind k) (take (n + size) text) (Complete (form.message (take (n + size) text) head n k) [])
  cut_whole text n k size head block at fits =
      let bytes = take (n + size) text in
      let long : length bytes ≡ n + size = omega (arith, length-take (n + size) text) in
      let front : take n bytes ≡ take n text = take_prefix text n (n + size) (omega arith) in
      let tail : length (drop n bytes) ≡ size = omega (arith, length-drop n bytes) in
      let size_of : length (take n text) ≡ n = omega (arith, length-take n text) in
      let message = λ (body : List ℕ). form.message (take n text ++ body) head (length (take n text)) k in
      let is : form.message bytes head n k ≡ message (drop n bytes) =
      ap (λ x. form.message x head n k) (sym (parts_are text n (n + size) (omega arith)))
      ∙ ap (λ x. form.message (take n text ++ drop n bytes) head x k) (sym size_of) in
      with_head n (Body size message) (block_trim text n (n + size) (omega arith) block)
      (subst (λ b. (form.kind k).IsHead b (Body size message)) (sym front) (at.asks k))
      (whole_after (drop n bytes) size message (form.message bytes head n k) tail is)

  -- ---- a body that has begun

  module _ (text : List ℕ) (head : H) (body missing : ℕ) (at : IsOpenBody form text head body missing) where
    of_text : (k : ℕ) (c : Cut R V) → IsCutText (form.kind k) text c → IsCut (form.kind k) text c
    of_text k c cut = subst (λ t. IsCutText (form.kind k) t c) (sym at.unpaired) cut

    pub open_short : 0 < missing → (k : ℕ) → IsCut (form.kind k) text Incomplete
    open_short some k =
        of_text k Incomplete (cut_no_body text body k (length text - body + missing) head at.block at.head_is (omega arith))

    pub open_whole : missing ≡ 0 → (k : ℕ) → IsCut (form.kind k) text (Complete (form.message text head body k) [])
    open_whole none k =
        let size = length text - body + missing in
        let all : take (body + size) text ≡ text = take_all (body + size) text (omega (arith, at.block.within)) in
        of_text k (Complete (form.message text head body k) [])
        (subst (λ t. IsCutText (form.kind k) t (Complete (form.message t head body k) [])) all
        (cut_whole text body k size head at.block at.head_is (omega (arith, at.block.within))))

    pub open_in : form.IsIn text head
    open_in = subst (λ t. form.IsIn t head) (take-append-drop body text) (at.head_is.within (drop body text))

    pub open_more : (more : List ℕ) → length more ≤ missing → IsOpenBody form (text ++ more) head body (missing - length more)
    open_more more le =
        let four = block_long text body at.block in
        let long : 2 ≤ length (skip_pairs text) = omega (arith, at.block.within, ap length at.unpaired) in
        let size : length text - body + missing ≡ length (text ++ more) - body + (missing - length more) = omega (arith, at.block.within, length-append text more) in
        record {
          unpaired = skip_long text more long ∙ ap (λ t. t ++ more) at.unpaired;
          block = block_append text more body at.block;
          head_is = subst (IsHeadOf form (take body (text ++ more)) head) size
              (subst (λ b. IsHeadOf form b head (length text - body + missing)) (sym (take-append-le body text more at.block.within)) at.head_is);
        }
