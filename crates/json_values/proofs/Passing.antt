-- The grammar's loops, a turn at a time, where what was read is passed over.
use Rattle.std.proofs.Common.{◌≡◌, ℕ, zero, suc, ◌-◌, ◌<◌, ◌≤◌, List, [], ◌∷◌, length, Bool, true, false, cond, Option, Some, None, option_map, option_and_then, refl, ap, ◌∙◌}
use Rattle.std.specs.Option.{is_some}
use Rattle.json.specs.Token.{Token}
use Rattle.json.specs.Json as json
use Rattle.json.specs.Json.{Parse, parse_map, after_end_array, read_key, items_step, items, members, value, if_last}
use Rattle.json.proofs.Grammar.{value_is, items_end, items_more, members_end, members_no_key, members_more}
use Rattle.serde_json.specs.Data.{Num, Data, number, array, object, item, Members, no_members, put}
use Rattle.serde_json.specs.Read.{read, number_of, of_json, of_items, of_members, max_depth}
use Rattle.std.specs.Str.{IsUtf8, is_utf8}
use Rattle.std.proofs.lemmas.Str.{is_utf8-from_IsUtf8, IsUtf8-from_is_utf8}
use Rattle.json.specs.Lex.{tokens}
use Rattle.json_values.specs.Json.{json_of}
use Rattle.json_values.specs.Rest.{behind, after_value}

-- ---- what was found, and its data

abbrev pick : {A : Type 0} → A → Option A → A
pick d None = d
pick d (Some a) = a

data_found : {A B : Type 0} (a : A) (r s : List Token) (x : Option B) → option_map {U = List Token} (λ _. r) x ≡ Some s → (r ≡ s) × (b : B) × (x ≡ Some b)
data_found a r s None e = absurd (cc)
data_found a r s (Some b) e = (ap (pick r) e, b, refl)

pub behind_some : {A B : Type 0} (f : A → Option B) (o : Option (A × List Token)) (r : List Token) → behind f o ≡ Some r → (a : A) × (o ≡ Some (a, r)) × (b : B) × (f a ≡ Some b)
behind_some f None r e = absurd (cc)
behind_some f (Some p) r e = let both = data_found p.0 p.1 r (f p.0) e in (p.0, ap (λ s. Some (p.0, s)) both.0, both.1, both.2)

no_data : {B : Type 0} (r : List Token) (x : Option B) → option_map {U = List Token} (λ _. r) x ≡ None → x ≡ None
no_data r None e = refl
no_data r (Some b) e = absurd (cc)

same_behind : {A B : Type 0} (g : A → B) (r : List Token) (x : Option A) → option_map (λ _. r) (option_map g x) ≡ option_map (λ _. r) x
same_behind g r None = refl
same_behind g r (Some a) = refl

-- Which members were found before plays no part.
any_members : (ms : json.Members) (a b : Members) (r : List Token) → option_map (λ _. r) (of_members ms a) ≡ option_map (λ _. r) (of_members ms b)
any_members json.no_members a b r = refl
any_members (json.member k j ms) a b r = at_data (of_json j) (λ d. any_members ms (put k d a) (put k d b) r)
  where
    at_data : (o : Option Data) → ((d : Data) → option_map (λ _. r) (of_members ms (put k d a)) ≡ option_map (λ _. r) (of_members ms (put k d b)))
        → option_map (λ _. r) (option_and_then (λ d. of_members ms (put k d a)) o) ≡ option_map (λ _. r) (option_and_then (λ d. of_members ms (put k d b)) o)
    at_data None same = refl
    at_data (Some d) same = same d

pub behind_array : (o : Option (json.Items × List Token)) → behind of_json (parse_map json.array o) ≡ behind of_items o
behind_array None = refl
behind_array (Some p) = same_behind array p.1 (of_items p.0)

pub behind_object : (o : Option (json.Members × List Token)) → behind of_json (parse_map json.object o) ≡ behind (λ ms. of_members ms no_members) o
behind_object None = refl
behind_object (Some p) = same_behind object p.1 (of_members p.0 no_members)

with_item : (j : json.Json) (d : Data) → of_json j ≡ Some d → (o : Option (json.Items × List Token)) → behind of_items (parse_map (json.item j) o) ≡ behind of_items o
with_item j d e None = refl
with_item j d e (Some p) = rw e (same_behind (item d) p.1 (of_items p.0))

without_item : (j : json.Json) → of_json j ≡ None → (o : Option (json.Items × List Token)) → behind of_items (parse_map (json.item j) o) ≡ None
without_item j e None = refl
without_item j e (Some p) = rw e

with_member : (k : List ℕ) (j : json.Json) (d : Data) → of_json j ≡ Some d → (o : Option (json.Members × List Token))
    → behind (λ ms. of_members ms no_members) (parse_map (json.member k j) o) ≡ behind (λ ms. of_members ms no_members) o
with_member k j d e None = refl
with_member k j d e (Some p) = rw e (any_members p.0 (put k d no_members) no_members p.1)

without_member : (k : List ℕ) (j : json.Json) → of_json j ≡ None → (o : Option (json.Members × List Token)) → behind (λ ms. of_members ms no_members) (parse_map (json.member k j) o) ≡ None
without_member k j e None = refl
without_member k j e (Some p) = rw e

-- ---- a number

number_behind : (depth : ℕ) (s : List ℕ) (r : List Token) → behind of_json (value depth (Token.number s ∷ r)) ≡ option_map (λ _. r) (number_of s)
number_behind depth s r = ap (behind of_json) (value_is depth (Token.number s ∷ r)) ∙ same_behind number r (number_of s)

pub number_passed : (depth : ℕ) (s : List ℕ) (r : List Token) → is_some (number_of s) ≡ true → behind of_json (value depth (Token.number s ∷ r)) ≡ Some r
number_passed depth s r e = number_behind depth s r ∙ at_number (number_of s) e
  where
    at_number : (o : Option Num) → is_some o ≡ true → option_map (λ _. r) o ≡ Some r
    at_number None e = absurd (cc)
    at_number (Some n) e = refl

pub number_refused : (depth : ℕ) (s : List ℕ) (r : List Token) → is_some (number_of s) ≡ false → behind of_json (value depth (Token.number s ∷ r)) ≡ None
number_refused depth s r e = number_behind depth s r ∙ at_number (number_of s) e
  where
    at_number : (o : Option Num) → is_some o ≡ false → option_map (λ _. r) o ≡ None
    at_number None e = refl
    at_number (Some n) e = absurd (cc)

-- ---- a turn of each loop

module _ (p : Parse json.Json) where
  pub item_passed : (n : ℕ) (ts r : List Token) → 0 < n → after_end_array ts ≡ None → behind of_json (p ts) ≡ Some r → behind of_items (items p n ts) ≡ behind of_items (items p (n - 1) r)
  item_passed n ts r some going e =
      let found = behind_some of_json (p ts) r e in
      ap (behind of_items) (items_more p n ts r found.0 some going found.1) ∙ with_item found.0 found.2 found.3 _

  no_item : (more : Parse json.Items) (o : Option (json.Json × List Token)) → behind of_json o ≡ None → behind of_items (option_and_then (λ q. parse_map (json.item q.0) (more q.1)) o) ≡ None
  no_item more None e = refl
  no_item more (Some q) e = without_item q.0 (no_data q.1 (of_json q.0) e) (more q.1)

  pub item_refused : (n : ℕ) (ts : List Token) → after_end_array ts ≡ None → behind of_json (p ts) ≡ None → behind of_items (items p n ts) ≡ None
  unfolding items
  item_refused zero ts going e = refl
  item_refused (suc n) ts going e = ap (λ o. behind of_items (items_step p (items p n) ts o)) going ∙ no_item (items p n) (p ts) e

  pub items_over : (n : ℕ) (ts r : List Token) → length ts ≤ n → after_end_array ts ≡ Some r → behind of_items (items p n ts) ≡ Some r
  items_over n ts r enough e = ap (behind of_items) (items_end p n ts r enough e)

  pub member_passed : (n : ℕ) (k : List ℕ) (ts s r : List Token) → 0 < n → read_key ts ≡ Some (Some k, s) → behind of_json (p s) ≡ Some r
      → behind (λ ms. of_members ms no_members) (members p n ts) ≡ behind (λ ms. of_members ms no_members) (members p (n - 1) r)
  member_passed n k ts s r some key e =
      let found = behind_some of_json (p s) r e in
      ap (behind (λ ms. of_members ms no_members)) (members_more p n k ts s r found.0 some key found.1) ∙ with_member k found.0 found.2 found.3 _

  no_member : (k : List ℕ) (more : Parse json.Members) (o : Option (json.Json × List Token)) → behind of_json o ≡ None
      → behind (λ ms. of_members ms no_members) (option_and_then (λ q. parse_map (json.member k q.0) (more q.1)) o) ≡ None
  no_member k more None e = refl
  no_member k more (Some q) e = without_member k q.0 (no_data q.1 (of_json q.0) e) (more q.1)

  pub member_refused : (n : ℕ) (k : List ℕ) (ts s : List Token) → read_key ts ≡ Some (Some k, s) → behind of_json (p s) ≡ None → behind (λ ms. of_members ms no_members) (members p n ts) ≡ None
  unfolding members
  member_refused zero k ts s key e = refl
  member_refused (suc n) k ts s key e = rw key (no_member k (members p n) (p s) e)

  pub key_refused : (n : ℕ) (ts : List Token) → read_key ts ≡ None → behind (λ ms. of_members ms no_members) (members p n ts) ≡ None
  key_refused n ts e = ap (behind (λ ms. of_members ms no_members)) (members_no_key p n ts e)

  pub members_over : (n : ℕ) (ts r : List Token) → length ts ≤ n → read_key ts ≡ Some (None, r) → behind (λ ms. of_members ms no_members) (members p n ts) ≡ Some r
  members_over n ts r enough e = ap (behind (λ ms. of_members ms no_members)) (members_end p n ts r enough e)

-- ---- the whole text

abbrev whole : Option (json.Json × List Token) → Option Data
whole o = option_and_then of_json (option_and_then (λ p. if_last p.0 p.1) o)

whole_passed : (o : Option (json.Json × List Token)) → behind of_json o ≡ Some [] → is_some (whole o) ≡ true
whole_passed o e = let found = behind_some of_json o [] e in ap (λ o. is_some (whole o)) found.1 ∙ ap is_some found.3

whole_and_more : (o : Option (json.Json × List Token)) (t : Token) (r : List Token) → behind of_json o ≡ Some (t ∷ r) → is_some (whole o) ≡ false
whole_and_more o t r e = ap (λ o. is_some (whole o)) (behind_some of_json o (t ∷ r) e).1

whole_refused : (o : Option (json.Json × List Token)) → behind of_json o ≡ None → is_some (whole o) ≡ false
whole_refused None e = refl
whole_refused (Some (j, [])) e = ap is_some (no_data [] (of_json j) e)
whole_refused (Some (j, t ∷ r)) e = refl

module _ (bytes : List ℕ) where
  pub json_passed : IsUtf8 bytes → after_value max_depth (tokens bytes) ≡ Some [] → is_some (json_of bytes) ≡ true
  unfolding json_of
  json_passed text e = rw (is_utf8-from_IsUtf8 bytes text) (whole_passed (value max_depth (tokens bytes)) e)

  pub json_and_more : (t : Token) (r : List Token) → IsUtf8 bytes → after_value max_depth (tokens bytes) ≡ Some (t ∷ r) → is_some (json_of bytes) ≡ false
  unfolding json_of
  json_and_more t r text e = rw (is_utf8-from_IsUtf8 bytes text) (whole_and_more (value max_depth (tokens bytes)) t r e)

  pub json_refused : IsUtf8 bytes → after_value max_depth (tokens bytes) ≡ None → is_some (json_of bytes) ≡ false
  unfolding json_of
  json_refused text e = rw (is_utf8-from_IsUtf8 bytes text) (whole_refused (value max_depth (tokens bytes)) e)

  pub no_text : (IsUtf8 bytes → ⊥) → is_some (json_of bytes) ≡ false
  unfolding json_of
  no_text refused = at_test (is_utf8 bytes) refl
    where
      at_test : (b : Bool) → is_utf8 bytes ≡ b → is_some (cond b (read bytes) None) ≡ false
      at_test true e = absurd (refused (IsUtf8-from_is_utf8 bytes e))
      at_test false e = refl
