-- Members that are listed, and one more.
use Rattle.std.proofs.Common.{◌≡◌, ℕ, ◌+◌, ◌<◌, List, [], ◌∷◌, ◌++◌, take, length, get_or, ap, ◌∙◌, refl}
use Rattle.std.specs.Borrow.{Bor}
use Rattle.std.proofs.lemmas.List.{take_more}
use Rattle.access_log.specs.declared.members.Leaf.{Leaf}
use Rattle.access_log.specs.Leaves.{leaf_data, members_of}
use Rattle.access_log.specs.Members.{and_member}
use Rattle.serde_json.specs.Data.{Data, Members, member, object}
use Rattle.serde_json.specs.Written.{compact_text}

and_last : (ms : List (Bor (List ℕ) × Leaf)) (m : Bor (List ℕ) × Leaf)
    → members_of (ms ++ m ∷ []) ≡ and_member (members_of ms) m.0.now (leaf_data m.1)
and_last [] m = refl
and_last (n ∷ ms) m = ap (member n.0.now (leaf_data n.1)) (and_last ms m)

pub and_next : (ms : List (Bor (List ℕ) × Leaf)) (i : ℕ) (d : Bor (List ℕ) × Leaf) → i < length ms
    → members_of (take (i + 1) ms) ≡ and_member (members_of (take i ms)) (get_or ms i d).0.now (leaf_data (get_or ms i d).1)
and_next ms i d lt = ap members_of (take_more ms i d lt) ∙ and_last (take i ms) (get_or ms i d)

-- what is said of the text of the members, as said of a document
pub text_told : (ms : Members) (d : Data) (text : List ℕ) → text ≡ compact_text (object ms) → object ms ≡ d → text ≡ compact_text d
text_told ms d text said same = said ∙ ap compact_text same
