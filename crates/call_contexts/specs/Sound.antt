-- How the connections and calls are kept in a tree of contexts and a table of hooks.
use Rattle.std.specs.Prelude.{◌≡◌, ◌<◌, ◌==◌, ℕ, Bool, true, false, is_some, nat_le, List, [], ◌∷◌, ◌++◌, map, slice_index_or, if◌then◌else◌, All, IfNone, IfSome, Option, Some, None, option_map, option_and_then, unwrap_or}
use Rattle.std.specs.List.{find, list_any}
use Rattle.std.specs.Option.{option_map_or, option_or}
use Rattle.context_tree.specs.declared.error.Cause.{Cause}
use Rattle.context_tree.specs.declared.node.Kind.{Kind}
use Rattle.context_tree.specs.declared.node.Kind.TheVariants.{Background, Cancel, Deadline, Value}
use Rattle.context_tree.specs.Context.{Id, TreeOp, Makes, Releases, HasChild, same, held, parent_of, follows, line, chain, handed, has_cancel, ending, makes}
use Rattle.context_tree.specs.Tree.{TreeValue, StandsFor, IsLawful, is_among}
use Rattle.after_funcs.specs.declared.callbacks.AfterFuncs.{AfterFuncs}
use Rattle.after_funcs.specs.declared.registration.Registration.{Registration}
use Rattle.after_funcs.specs.Hooks.{Operation, waiting, due}
use Rattle.after_funcs.specs.Stands.{StandsFor as HooksStand}
use Rattle.gateway_model.specs.declared.id.CallId.{CallId}
use Rattle.gateway_model.specs.Past.{is_call}
use Rattle.call_contexts.specs.declared.life.Life.{Life}
use Rattle.call_contexts.specs.declared.twig.Twig.{Twig}
use Rattle.call_contexts.specs.Standing.{bare_call, has_ended, is_over, request_id_key, seen, seen_call}

-- an operation on the tree
abbrev pub Op : Type 0 → Type 0 → Type 0
Op C V = TreeOp C V

-- what ended a context
abbrev pub why : {C V : Type 0} → Id → List (Op C V) → Option (Cause C)
why x past = option_map (λ e. e.cause) (ending x past)

-- ---- what the laws of the tree say

pub record TreeLaws (C V : Type 0) : Type 0 where
  pub new_unheld : (past : List (TreeOp C V)) (id : Id) (kind : Kind C V) (now : ℕ) → IsLawful (Makes id kind now ∷ past) → held id past ≡ None
  pub new_childless : (past : List (TreeOp C V)) (id : Id) (kind : Kind C V) (now : ℕ) → IsLawful (Makes id kind now ∷ past)
      → HasChild id (Makes id kind now ∷ past) → ⊥
  pub held_below : (past : List (TreeOp C V)) (x : Id) (kind : Kind C V) → IsLawful past → held x past ≡ Some kind → x.0 < makes past
  pub line_goes_on : (past : List (TreeOp C V)) (x : Id) (kind : Kind C V) → IsLawful past → held x past ≡ Some kind
      → line x past ≡ (x, kind) ∷ option_map_or (λ p. line p past) (parent_of kind) []
  pub chain_goes_on : (past : List (TreeOp C V)) (x : Id) (kind : Kind C V) → IsLawful past → held x past ≡ Some kind
      → chain x past ≡ (x, kind) ∷ option_map_or (λ p. chain p past) (follows kind) []
  pub ends_with : (past : List (TreeOp C V)) (x t : Id) (kind : Kind C V) → IsLawful past → held x past ≡ Some kind
      → has_cancel t (chain x past) ≡ true → is_some (ending t past) ≡ true → is_some (ending x past) ≡ true
  pub new_unhanded : (past : List (TreeOp C V)) (id : Id) (kind : Kind C V) (now : ℕ) → IsLawful (Makes id kind now ∷ past) → handed id past ≡ false

-- ---- the contexts of a call

-- no two of them stand in this relation
abbrev pub NoTwo : {A : Type 0} → (A → A → Bool) → List A → Type 0
NoTwo r [] = Unit {0}
NoTwo r (l ∷ ls) = (list_any (r l) ls ≡ false) × NoTwo r ls

-- all different
abbrev pub Distinct : List Id → Type 0
Distinct [] = Unit {0}
Distinct (x ∷ xs) = (is_among x xs ≡ false) × Distinct xs

-- the context of a call derives from the one that has its request id, or else from that of its connection
abbrev pub parent_of_call : Option Id → Id → Id
parent_of_call holder conn = unwrap_or holder conn

-- both of them
abbrev pub contexts : Id → Option Id → List Id
contexts ctx None = ctx ∷ []
contexts ctx (Some holder) = ctx ∷ holder ∷ []

-- the moment that counts at its making
abbrev pub moment_of : Option ℕ → ℕ → ℕ
moment_of None now = 0
moment_of (Some at) now = now

module _ {C V : Type 0} where
  -- how the context of a call is made
  abbrev pub kind_of : Id → Option ℕ → Kind C V
  kind_of parent None = Cancel parent
  kind_of parent (Some at) = Deadline parent at None

  -- a context that has the request id is made, where there is one
  abbrev pub with_holder : Id → Option Id → Option V → List (Op C V) → List (Op C V)
  with_holder conn None request_id past = past
  with_holder conn (Some holder) None past = past
  with_holder conn (Some holder) (Some request_id) past = Makes holder (Value conn request_id_key request_id) 0 ∷ past

  -- the contexts of a call are made
  abbrev pub with_call : Id → Option Id → Id → Option ℕ → ℕ → Option V → List (Op C V) → List (Op C V)
  with_call ctx holder conn at now request_id past =
      Makes ctx (kind_of (parent_of_call holder conn) at) (moment_of at now) ∷ with_holder conn holder request_id past

  -- the contexts of a call are let go of
  abbrev pub let_go : Id → Option Id → List (Op C V) → List (Op C V)
  let_go ctx None past = Releases ctx ∷ past
  let_go ctx (Some holder) past = Releases holder ∷ Releases ctx ∷ past

  -- it is held, and none derives from it
  pub record IsFree (id : Id) (past : List (Op C V)) : Type 0 where
    pub is_held : is_some (held id past) ≡ true
    pub childless : HasChild id past → ⊥

  -- none derives from the contexts of a call but one of them from the other
  abbrev pub AreFree : Id → Option Id → List (Op C V) → Type 0
  AreFree ctx None past = IsFree ctx past
  AreFree ctx (Some holder) past = IsFree ctx past × IsFree holder (Releases ctx ∷ past)

  -- between two lists of operations the same contexts are held, but for these, and the same have ended
  pub record Touches (ids : List Id) (past later : List (Op C V)) : Type 0 where
    pub held_is : (x : Id) → is_among x ids ≡ false → held x later ≡ held x past
    pub ending_is : (x : Id) (kind : Kind C V) → is_among x ids ≡ false → held x past ≡ Some kind → why x later ≡ why x past

  -- The tree stands for operations that leave the same contexts.
  pub record StandsAlike (t : TreeValue C V) (past : List (Op C V)) : Type 0 where
    pub later : List (Op C V)
    pub stands : StandsFor t later
    pub alike : Touches [] past later
    pub handed_is : (x : Id) → handed x later ≡ handed x past

  -- a connection's context derives from the base
  abbrev pub IsConn : Id → List (Op C V) → Id → Type 0
  IsConn base past id = held id past ≡ Some (Cancel base)

  -- the context that has a request id derives from its connection's
  abbrev pub IsHolder : List (Op C V) → Id → Option Id → Type 0
  IsHolder past conn None = Unit {0}
  IsHolder past conn (Some holder) = (request_id : V) × (held holder past ≡ Some (Value conn request_id_key request_id))

  -- a branch's context is held as it was made, from that of its call
  abbrev pub IsTwig : List (Op C V) → Id → Twig → Type 0
  IsTwig past call t = held t.ctx past ≡ Some (Deadline call t.at None)

  -- the contexts of a call and of its branches are held as they were made
  pub record IsLife (past : List (Op C V)) (base : Id) (life : Life) : Type 0 where
    pub call_is : held life.ctx past ≡ Some (kind_of (parent_of_call life.holder life.conn) life.deadline)
    pub holder_is : IsHolder past life.conn life.holder
    pub conn_is : held life.conn past ≡ Some (Cancel base)
    pub twigs_are : All (IsTwig past life.ctx) life.twigs

-- ---- the calls

-- the number of its hook, and its context
abbrev pub kept_of : Life → ℕ × Id
kept_of l = (l.hook, l.ctx)

-- the calls have one context
abbrev pub same_ctx : Life → Life → Bool
same_ctx l m = same m.ctx l.ctx

-- each is above those before it
abbrev pub Rising : List ℕ → Type 0
Rising [] = Unit {0}
Rising (n ∷ ns) = All (λ m. n < m) ns × Rising ns

-- the numbers of the calls' contexts
abbrev pub numbers_of : List Life → List ℕ
numbers_of ls = map (λ l. l.ctx.0) ls

-- a call's id, and its context
abbrev pub Name : Type 0
Name = CallId × Id

abbrev pub names_of : List Life → List Name
names_of ls = map (λ l. (l.id, l.ctx)) ls

-- the contexts of branches, of a call with its branches, and of all calls
abbrev pub twig_ids : List Twig → List Id
twig_ids ts = map (λ t. t.ctx) ts

abbrev pub ids_of : Life → List Id
ids_of l = contexts l.ctx l.holder ++ twig_ids l.twigs

abbrev pub ids_in : List Life → List Id
ids_in [] = []
ids_in (l ∷ ls) = ids_of l ++ ids_in ls

-- all contexts that are kept
abbrev pub all_ids : Id → Id → List Id → List Life → List Id
all_ids root base conns calls = root ∷ base ∷ conns ++ ids_in calls

-- the first call of that context, and that of that id
abbrev pub life_at : Id → List Life → Option Life
life_at id ls = find (λ l. same l.ctx id) ls

abbrev pub life_for : CallId → List Life → Option Life
life_for id ls = find (λ l. is_call l.id id) ls

-- of these two the branch of the lesser deadline, and of equal ones the first
abbrev pub sooner_twig : Twig → Option Twig → Twig
sooner_twig t None = t
sooner_twig t (Some u) = if nat_le t.at u.at then t else u

-- the branch of the least deadline, and of equal ones the first
abbrev pub soonest_of : List Twig → Option Twig
soonest_of [] = None
soonest_of (t ∷ ts) = Some (sooner_twig t (soonest_of ts))

-- neither the context of the call was handed out, nor that of a branch of it
abbrev pub IsUnhanded : {C V : Type 0} → List (Op C V) → Life → Type 0
IsUnhanded past l = (handed l.ctx past ≡ false) × All (λ t. handed t.ctx past ≡ false) l.twigs

-- the first branch of that number is gone
abbrev pub drop_twig : ℕ → List Twig → List Twig
drop_twig n [] = []
drop_twig n (t ∷ ts) = if t.branch == n then ts else t ∷ drop_twig n ts

-- that branch is gone, and no other
pub record IsWithout (t : Twig) (old new : List Twig) : Type 0 where
  pub front : List Twig
  pub back : List Twig
  pub was : old ≡ front ++ t ∷ back
  pub is : new ≡ front ++ back

-- a branch of the call of that context started, as the last
pub record IsStarted {C V : Type 0} (call : Id) (branch at now : ℕ) (old new : List Twig) (t u : TreeValue C V) : Type 0 where
  pub ctx : Id
  pub is : new ≡ old ++ record { ctx = ctx; branch = branch; at = at } ∷ []
  pub stands : (past : List (Op C V)) → StandsFor t past → StandsFor u (Makes ctx (Deadline call at None) now ∷ past)

-- the call of that context, or else the call of the context that it derives from
abbrev pub owner_in : {C V : Type 0} → List (Op C V) → Id → List Life → Option CallId
owner_in past x ls = option_map (λ l. l.id) (option_or (life_at x ls) (option_and_then (λ p. life_at p ls) (option_and_then parent_of (held x past))))

-- the call of that context with these branches
abbrev pub with_twigs : Id → List Twig → Life → Life
with_twigs id ts l = record { id = l.id; ctx = l.ctx; holder = l.holder; conn = l.conn; deadline = l.deadline; hook = l.hook; twigs = if same l.ctx id then ts else l.twigs }

-- the number of a hook, and the context that it waits on
abbrev pub hook_of : {H : Type 0} → Registration H → ℕ × Id
hook_of r = (r.id, r.ctx)

module _ {C V H : Type 0} where
  -- Some operations lead to these contexts and hooks. Each call has its contexts, those of its branches, and its hook which
  -- waits on it; no other context is held, and no hook is due. What the laws of the tree say is kept with it, so that no call
  -- has to ask for it again.
  pub record IsSound (t : TreeValue C V) (f : AfterFuncs H) (base : Id) (conns : List Id) (calls : List Life) : Type 0 where
    pub laws : TreeLaws C V
    pub past : List (Op C V)
    pub hooks : List (Operation H)
    pub tree_is : StandsFor t past
    pub hooks_are : HooksStand f hooks
    pub root : Id
    pub root_is : held root past ≡ Some Background
    pub base_is : held base past ≡ Some (Cancel root)
    pub conns_are : All (IsConn base past) conns
    pub calls_are : All (IsLife past base) calls
    pub known : All (λ l. is_among l.conn conns ≡ true) calls
    pub none_else : (x : Id) → is_among x (all_ids root base conns calls) ≡ false → held x past ≡ None
    pub distinct : Distinct (all_ids root base conns calls)
    pub hook_waits : map hook_of (waiting hooks) ≡ map kept_of calls
    pub none_due : due hooks ≡ []
    -- what has ended of these is still to be found
    pub unhanded : All (IsUnhanded past) calls

-- the call at that place is the one of that context
abbrev pub IsPlaced : Id → ℕ → List Life → Type 0
IsPlaced id place calls = (d : Life) → (slice_index_or calls place d).ctx ≡ id

-- the contexts of the call's branches are gone, and nothing else
pub record BranchesGo {C V H : Type 0} (id : Id) (old new : TreeValue C V) (f : AfterFuncs H) (base : Id) (conns : List Id) (calls left : List Life) : Type 0 where
  pub sound : IsSound new f base conns left
  pub seen_is : seen new.slots base conns left ≡ bare_call id (seen old.slots base conns calls)
  pub names_are : names_of left ≡ names_of calls

-- nothing else changes, and this call is over, or none is
pub record FindsEnded {C V H : Type 0} (found : Option CallId) (old new : TreeValue C V) (f : AfterFuncs H) (base : Id) (conns : List Id) (calls : List Life) : Type 0 where
  pub sound : IsSound new f base conns calls
  pub seen_is : seen new.slots base conns calls ≡ seen old.slots base conns calls
  pub its : IfSome found (λ id. list_any (has_ended id) (map (seen_call old.slots) calls) ≡ true)
  pub none : IfNone found (list_any is_over (map (seen_call old.slots) calls) ≡ false)
