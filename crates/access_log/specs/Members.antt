-- An object in JSON that is written member after member, each a text, a number, true or null.
use Rattle.std.specs.Prelude.{◌≡◌, ⊤, ℕ, List, [], ◌∷◌, ◌++◌, Some}
use Rattle.json.specs.Token.{Token}
use Rattle.json.specs.Token as token
use Rattle.json.specs.Tree.{json_tokens}
use Rattle.json.specs.Tree as tree
use Rattle.json.specs.Written.{Written}
use Rattle.serde_json.specs.Data.{Data, Members, no_members, member, put}
use Rattle.serde_json.specs.Read.{of_json}
use Rattle.serde_json.specs.Written.{outline}

-- the members, and one behind them
abbrev pub and_member : Members → List ℕ → Data → Members
and_member no_members k d = member k d no_members
and_member (member l e ms) k d = member l e (and_member ms k d)

-- what a reader makes of members: those that were read before, and these, each at its key's place
abbrev pub all_put : Members → Members → Members
all_put no_members found = found
all_put (member k d ms) found = all_put ms (put k d found)

-- the tokens of members, with no closing bracket
abbrev pub front : Members → List Token
front no_members = []
front (member k d ms) = token.key k ∷ (json_tokens (outline d) ++ front ms)

-- what is written of the data reads back as the data, and nests nothing
pub record IsLeaf (d : Data) : Type 0 where
  pub reads : of_json (outline d) ≡ Some d
  pub flat : tree.depth (outline d) ≡ 0

abbrev pub AreLeaves : Members → Type 0
AreLeaves no_members = ⊤
AreLeaves (member k d ms) = IsLeaf d × AreLeaves ms

-- an object was begun, and has these members so far
pub record HasMembers (ms : Members) (w : Written) : Type 0 where
  pub before : w.before ≡ []
  pub tokens : w.tokens ≡ token.begin_object ∷ front ms
  pub leaves : AreLeaves ms
