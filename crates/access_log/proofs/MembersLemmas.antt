-- What was written of an object's members is the text of the object, and reads back as it.
use Rattle.std.proofs.Common.{◌≡◌, ℕ, true, ◌^◌, ◌<◌, ◌≤◌, List, [], ◌∷◌, ◌++◌, Some, option_map, option_and_then}
use Rattle.std.proofs.Common.{refl, sym, ap, ◌∙◌, arith, append_assoc, append-nil}
use Rattle.json.specs.Token.{Token}
use Rattle.json.specs.Token as token
use Rattle.json.specs.Json as json
use Rattle.json.specs.Lex.{tokens}
use Rattle.json.specs.Print.{print}
use Rattle.json.specs.Tree.{json_tokens, members_tokens}
use Rattle.json.specs.Tree as tree
use Rattle.json.specs.Written.{Written}
use Rattle.json.proofs.Printed.Trees.{value-json_tokens}
use Rattle.serde_json.specs.Data.{Data, Members, boolean, no_members, member, null, number, string, unsigned, object, put}
use Rattle.serde_json.specs.Read.{of_json, of_members, max_depth, read}
use Rattle.serde_json.specs.Written.{outline, members_outline, compact_text}
use Rattle.serde_json.proofs.Numbers.{number_of-decimal}
use Rattle.serde_json.proofs.Texts.{print-outline}
use Rattle.access_log.specs.Members.{and_member, all_put, front, IsLeaf, AreLeaves, HasMembers}

pub leaf_text : (s : List ℕ) → IsLeaf (string s)
leaf_text s = record { reads = refl; flat = refl }

pub leaf_true : IsLeaf (boolean true)
leaf_true = record { reads = refl; flat = refl }

pub leaf_null : IsLeaf null
leaf_null = record { reads = refl; flat = refl }

pub leaf_number : (n : ℕ) → n < 2 ^ 64 → IsLeaf (number (unsigned n))
leaf_number n h = record { reads = ap (option_map number) (number_of-decimal n h); flat = refl }

front_and_member : (ms : Members) (k : List ℕ) (d : Data)
    → front (and_member ms k d) ≡ front ms ++ token.key k ∷ json_tokens (outline d)
front_and_member no_members k d = ap (λ ts. token.key k ∷ ts) (append-nil _)
front_and_member (member l e ms) k d =
    ap (λ ts. token.key l ∷ (json_tokens (outline e) ++ ts)) (front_and_member ms k d)
    ∙ ap (λ ts. token.key l ∷ ts) (sym (append_assoc (json_tokens (outline e)) (front ms) _))

leaves_and_member : (ms : Members) (k : List ℕ) (d : Data) → AreLeaves ms → IsLeaf d → AreLeaves (and_member ms k d)
leaves_and_member no_members k d h leaf = (leaf, tt)
leaves_and_member (member l e ms) k d h leaf = (h.0, leaves_and_member ms k d h.1 leaf)

-- a key was written, and then a token that is all of the data
pub has_more : (d : Data) (t : Token) (k : List ℕ) (old mid new : Written) → IsLeaf d → json_tokens (outline d) ≡ t ∷ []
    → (mid.before ≡ old.before) × (mid.tokens ≡ old.tokens ++ token.key k ∷ [])
    → (new.before ≡ mid.before) × (new.tokens ≡ mid.tokens ++ t ∷ [])
    → (ms : Members) → HasMembers ms old → HasMembers (and_member ms k d) new
has_more d t k old mid new leaf one first second ms h = record {
  before = second.0 ∙ first.0 ∙ h.before;
  tokens = second.1 ∙ ap (λ ts. ts ++ t ∷ []) (first.1 ∙ ap (λ ts. ts ++ token.key k ∷ []) h.tokens)
      ∙ ap (λ ts. token.begin_object ∷ ts) (append_assoc (front ms) (token.key k ∷ []) (t ∷ [])
      ∙ ap (λ ts. front ms ++ token.key k ∷ ts) (sym one) ∙ sym (front_and_member ms k d));
  leaves = leaves_and_member ms k d h.leaves leaf;
}

closed : (ms : Members) → front ms ++ token.end_object ∷ [] ≡ members_tokens (members_outline ms)
closed no_members = refl
closed (member k d ms) =
    ap (λ ts. token.key k ∷ ts) (append_assoc (json_tokens (outline d)) (front ms) _
    ∙ ap (λ ts. json_tokens (outline d) ++ ts) (closed ms))

-- the tokens of the object that has the members
whole : (ms : Members) (old new : Written) → HasMembers ms old → new.tokens ≡ old.tokens ++ token.end_object ∷ []
    → new.tokens ≡ json_tokens (outline (object ms))
whole ms old new h last = last ∙ ap (λ ts. ts ++ token.end_object ∷ []) h.tokens
    ∙ ap (λ ts. token.begin_object ∷ ts) (closed ms)

pub text_is : (ms : Members) (old new : Written) → HasMembers ms old → new.before ≡ old.before
    → new.tokens ≡ old.tokens ++ token.end_object ∷ []
    → new.before ++ print new.tokens ≡ compact_text (object ms)
text_is ms old new h same last = rw (same, h.before, whole ms old new h last) (print-outline (object ms))

members_read : (ms found : Members) → AreLeaves ms → of_members (members_outline ms) found ≡ Some (all_put ms found)
members_read no_members found h = refl
members_read (member k d ms) found h = ap (option_and_then (λ e. of_members (members_outline ms)
    (put k e found))) h.0.reads ∙ members_read ms (put k d found) h.1

members_flat : (ms : Members) → AreLeaves ms → tree.members_depth (members_outline ms) ≡ 0
members_flat no_members h = refl
members_flat (member k d ms) h = rw (h.0.flat, members_flat ms h.1) refl

pub reads_back : (ms : Members) (old new : Written) → HasMembers ms old
    → new.tokens ≡ old.tokens ++ token.end_object ∷ [] → all_put ms no_members ≡ ms
    → (text : List ℕ) → tokens text ≡ new.tokens → read text ≡ Some (object ms)
reads_back ms old new h last sorted text same =
    let j = outline (object ms) in
    let flat : tree.depth j ≤ max_depth = omega (arith, members_flat ms h.leaves) in
    ap (λ o. option_and_then of_json (option_and_then (λ p. json.if_last p.0 p.1) o))
    (ap (json.value max_depth) (same ∙ whole ms old new h last ∙ sym (append-nil _))
    ∙ value-json_tokens j max_depth [] flat)
    ∙ ap (option_map object) (members_read ms no_members h.leaves ∙ ap Some sorted)
