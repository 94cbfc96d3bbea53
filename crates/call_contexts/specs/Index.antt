-- The contexts of calls by the calls' ids.
use Rattle.std.specs.BTreeMap.{is_at}
use Rattle.std.specs.Map.{lookup}
use Rattle.std.specs.Ordering.{nat_cmp, ordering_then}
use Rattle.std.specs.declared.cmp.Ordering.{Ordering}
use Rattle.std.specs.Prelude.{◌≡◌, ℕ, if◌then◌else◌, List, [], ◌∷◌, Bool, Option, Some, None, filter, map, not}
use Rattle.after_funcs.specs.Hooks.{Operation, due, waiting}
use Rattle.after_funcs.specs.Stands.{StandsFor as HooksStand}
use Rattle.after_funcs.specs.declared.callbacks.AfterFuncs.{AfterFuncs}
use Rattle.context_tree.specs.Context.{Id, same}
use Rattle.context_tree.specs.Tree.{TreeValue}
use Rattle.gateway_model.specs.declared.id.CallId.{CallId}
use Rattle.gateway_model.specs.Past.{is_call}
use Rattle.call_contexts.specs.Sound.{BranchesGo, IsSound, Name, NoTwo, Rising, hook_of, kept_of, life_at, names_of, numbers_of}
use Rattle.call_contexts.specs.Standing.{seen, without}
use Rattle.call_contexts.specs.declared.life.Life.{Life}

-- the numbers of a call's connection and of its request
abbrev pub Key : Type 0
Key = ℕ × ℕ

abbrev pub key_cmp : Key → Key → Ordering
key_cmp a b = ordering_then (nat_cmp a.0 b.0) (nat_cmp a.1 b.1)

-- such numbers, and the context of that call
abbrev pub Entry : Type 0
Entry = Key × Id

-- the context at an id
abbrev pub indexed : CallId → List Entry → Option Id
indexed id entries = lookup (is_at (key_cmp (id.conn, id.request))) entries

-- this is at the id now, and at each other id what was there
abbrev pub Sets : CallId → Option Id → List Entry → List Entry → Type 0
Sets id ctx old new = (other : CallId) → indexed other new ≡ (if is_call id other then ctx else indexed other old)

-- the context of the call of that id
abbrev pub named_in : CallId → List Name → Option Id
named_in id [] = None
named_in id (n ∷ ns) = if is_call n.0 id then Some n.1 else named_in id ns

-- they have one id
abbrev pub same_id : Name → Name → Bool
same_id m n = is_call n.0 m.0

-- no two calls have one id, and the index has the context of each, and no other
pub record IsIndexed (entries : List Entry) (names : List Name) : Type 0 where
  pub is : (id : CallId) → indexed id entries ≡ named_in id names
  pub once : NoTwo same_id names

-- the call of that context, which has this hook, is gone: first the contexts of its branches are, and then its own
pub record HasLeft {C V H : Type 0} (id : Id) (hook : ℕ) (old new : TreeValue C V) (f : AfterFuncs H) (base : Id) (conns : List Id) (calls left : List Life) (was is : List Entry) : Type 0 where
  pub between : TreeValue C V
  pub bare : List Life
  pub gone : BranchesGo id old between f base conns calls bare
  pub life : Life
  pub its : life_at id bare ≡ Some life
  pub hook_is : life.hook ≡ hook
  pub left_is : left ≡ filter (λ l. not (same l.ctx id)) bare
  pub sound : (g : AfterFuncs H) (hooks : List (Operation H)) → HooksStand g hooks → map hook_of (waiting hooks) ≡ map kept_of left → due hooks ≡ [] → IsSound new g base conns left
  pub seen_is : seen new.slots base conns left ≡ without id (seen old.slots base conns calls)
  pub rising : Rising (numbers_of left)
  pub indexed : IsIndexed was (names_of calls) → IsIndexed is (names_of left)
