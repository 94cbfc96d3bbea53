-- What is seen of the connections and calls of a gateway: who stands, and who has ended.
use Rattle.std.specs.Prelude.{◌≡◌, ℕ, ◌==◌, Bool, true, false, ◌||◌, ◌&&◌, not, nat_le, if◌then◌else◌, List, [], ◌∷◌, ◌++◌, is_some, is_none, map, filter, All, Option, Some, None, option_map, option_and_then}
use Rattle.std.specs.List.{find, list_any}
use Rattle.std.specs.Option.{option_or, option_map_or}
use Rattle.context_tree.specs.declared.error.Cause.{Cause}
use Rattle.context_tree.specs.declared.error.Cause.TheVariants.{Given, Plain}
use Rattle.context_tree.specs.declared.error.CtxErr.TheVariants.{DeadlineExceeded}
use Rattle.context_tree.specs.declared.node.Node.{Node}
use Rattle.context_tree.specs.Context.{Id, same, own_value}
use Rattle.context_tree.specs.Frames.{is_due}
use Rattle.context_tree.specs.Tree.{IsNotAfter, ending_in, node_at}
use Rattle.after_funcs.specs.declared.registration.Registration.{Registration}
use Rattle.gateway_model.specs.declared.id.CallId.{CallId}
use Rattle.gateway_model.specs.Past.{is_call as is_id}
use Rattle.call_contexts.specs.declared.life.Life.{Life}
use Rattle.call_contexts.specs.declared.twig.Twig.{Twig}

-- a connection's context, and what ended it, if anything did
pub record Conn (C : Type 0) : Type 0 where
  pub id : Id
  pub ended : Option (Cause C)

-- a branch of a call that is out and has a timeout: its number, its deadline, and what ended its context, if anything did
pub record Branch (C : Type 0) : Type 0 where
  pub branch : ℕ
  pub deadline : ℕ
  pub ended : Option (Cause C)

-- a call, by its id: its context, that of its connection, its deadline, its request id, what ended it, if anything did, and its branches, by start
pub record Call (C V : Type 0) : Type 0 where
  pub name : CallId
  pub id : Id
  pub conn : Id
  pub deadline : Option ℕ
  pub request_id : Option V
  pub ended : Option (Cause C)
  pub branches : List (Branch C)

-- the connections and the calls that stand, by beginning, and what ended all, if anything did
pub record Standing (C V : Type 0) : Type 0 where
  pub drained : Option (Cause C)
  pub conns : List (Conn C)
  pub calls : List (Call C V)

-- the key of a call's request id
abbrev pub request_id_key : ℕ
request_id_key = 0

-- the slots of a tree
abbrev pub Slots : Type 0 → Type 0 → Type 0
Slots C V = List (Option (Node C V))

-- the number of a branch of this deadline, where that is before its call's
abbrev pub if_before : Option ℕ → ℕ → ℕ → Option ℕ
if_before call at branch = if is_due at call then None else Some branch

module _ {C : Type 0} where
  abbrev pub is_conn : Id → List (Conn C) → Bool
  is_conn id conns = list_any (λ c. same c.id id) conns

  -- what ended the connection of that context
  abbrev pub ended_conn : Id → List (Conn C) → Option (Cause C)
  ended_conn id [] = None
  ended_conn id (c ∷ cs) = if same c.id id then c.ended else ended_conn id cs

  -- what ends a context whose deadline this is, at a moment
  abbrev pub if_due : ℕ → Option ℕ → Option (Cause C)
  if_due now deadline = if is_due now deadline then Some (Plain DeadlineExceeded) else None

  -- what a cancel for this cause ends a context by, if it reaches it
  abbrev pub if_cancelled : Bool → C → Option (Cause C)
  if_cancelled reached cause = if reached then Some (Given cause) else None

  -- the branch, which this ends, unless it has ended before
  abbrev pub ends_branch : Option (Cause C) → Branch C → Branch C
  ends_branch e b = record { branch = b.branch; deadline = b.deadline; ended = option_or b.ended e }

  -- a moment comes to a branch
  abbrev pub expires_branch : ℕ → Branch C → Branch C
  expires_branch now b = ends_branch (if_due now (Some b.deadline)) b

  -- of these two the branch of the lesser deadline, and of equal ones the first
  abbrev pub sooner_branch : Branch C → Option (Branch C) → Branch C
  sooner_branch b None = b
  sooner_branch b (Some d) = if nat_le b.deadline d.deadline then b else d

  -- the branch of the least deadline, and of equal ones the first
  abbrev pub first_branch : List (Branch C) → Option (Branch C)
  first_branch [] = None
  first_branch (b ∷ bs) = Some (sooner_branch b (first_branch bs))

  -- the branch of a call that ended before the call: of the deadlines of those that have ended, the call's among them, the least, of
  -- equal ones the call's, and then that of the branch that started first. So the one of the least deadline, if it has ended
  abbrev pub branch_before : Option ℕ → List (Branch C) → Option ℕ
  branch_before call bs = option_and_then (λ b. if is_some b.ended then if_before call b.deadline b.branch else None) (first_branch bs)

  -- the first branch of that number is gone
  abbrev pub drop_branch : ℕ → List (Branch C) → List (Branch C)
  drop_branch n [] = []
  drop_branch n (b ∷ bs) = if b.branch == n then bs else b ∷ drop_branch n bs

  -- the connection, which this ends, unless it has ended before
  abbrev pub ends_conn : Option (Cause C) → Conn C → Conn C
  ends_conn e c = record { id = c.id; ended = option_or c.ended e }

module _ {C V : Type 0} where
  abbrev pub is_call : Id → List (Call C V) → Bool
  is_call id calls = list_any (λ c. same c.id id) calls

  -- the call of that id
  abbrev pub call_for : CallId → List (Call C V) → Option (Call C V)
  call_for id calls = find (λ c. is_id c.name id) calls

  -- its context, its request id, and what ended it
  abbrev pub ctx_for : CallId → List (Call C V) → Option Id
  ctx_for id calls = option_map (λ c. c.id) (call_for id calls)

  abbrev pub request_for : CallId → List (Call C V) → Option V
  request_for id calls = option_and_then (λ c. c.request_id) (call_for id calls)

  abbrev pub ended_call : CallId → List (Call C V) → Option (Cause C)
  ended_call id calls = option_and_then (λ c. c.ended) (call_for id calls)

  -- its branch that ended before it
  abbrev pub ended_branch : CallId → List (Call C V) → Option ℕ
  ended_branch id calls = option_and_then (λ c. branch_before c.deadline c.branches) (call_for id calls)

  -- the first call of the connection of that number
  abbrev pub first_of : ℕ → List (Call C V) → Option CallId
  first_of number calls = option_map (λ c. c.name) (find (λ c. c.name.conn == number) calls)

  -- the call stands, and is of the connection of that number
  abbrev pub IsCallOf : ℕ → CallId → List (Call C V) → Type 0
  IsCallOf number id calls = (id.conn ≡ number) × (is_some (call_for id calls) ≡ true)

  -- where the call has not ended, its deadline is not before this one; without one, it has none
  abbrev pub IsNoSooner : Option ℕ → Call C V → Type 0
  IsNoSooner first c = (at : ℕ) → c.ended ≡ None → c.deadline ≡ Some at → IsNotAfter first at

  -- where a branch of the call has not ended, its deadline is not before this one; without one, there is none
  abbrev pub AreNoSooner : Option ℕ → Call C V → Type 0
  AreNoSooner first c = All (λ b. b.ended ≡ None → IsNotAfter first b.deadline) c.branches

  -- the call has not ended and has this deadline, or a branch of it has not ended and has it
  abbrev pub has_deadline : ℕ → Call C V → Bool
  has_deadline at c = (is_none c.ended && option_map_or (λ d. d == at) c.deadline false) || list_any (λ b. is_none b.ended && (b.deadline == at)) c.branches

  -- its context has ended, or that of a branch of it
  abbrev pub is_over : Call C V → Bool
  is_over c = is_some c.ended || list_any (λ b. is_some b.ended) c.branches

  -- it is that call, and over
  abbrev pub has_ended : CallId → Call C V → Bool
  has_ended id c = is_id c.name id && is_over c

  -- the calls are of different contexts
  abbrev pub AreApart : List (Call C V) → Type 0
  AreApart [] = Unit {0}
  AreApart (c ∷ cs) = (is_call c.id cs ≡ false) × AreApart cs

  -- no connection and no call has that context
  abbrev pub is_fresh : Id → Standing C V → Bool
  is_fresh id v = not (is_conn id v.conns || is_call id v.calls)

  -- ---- what is done to them

  abbrev pub empty : Standing C V
  empty = record { drained = None; conns = []; calls = [] }

  -- a connection opens
  abbrev pub opened : Id → Standing C V → Standing C V
  opened id v = record { drained = v.drained; conns = v.conns ++ record { id = id; ended = v.drained } ∷ []; calls = v.calls }

  -- a call begins
  abbrev pub begun : Id → CallId → Id → Option ℕ → ℕ → Option V → Standing C V → Standing C V
  begun id name conn deadline now request_id v =
      record {
        drained = v.drained;
        conns = v.conns;
        calls = v.calls ++ record { name = name; id = id; conn = conn; deadline = deadline; request_id = request_id; ended = option_or (ended_conn conn v.conns) (if_due now deadline); branches = [] } ∷ [];
      }

  -- the call with these branches
  abbrev pub with_branches : List (Branch C) → Call C V → Call C V
  with_branches bs c = record { name = c.name; id = c.id; conn = c.conn; deadline = c.deadline; request_id = c.request_id; ended = c.ended; branches = bs }

  -- the call, which this ends with its branches, each unless it has ended before
  abbrev pub ends_call : Option (Cause C) → Call C V → Call C V
  ends_call e c =
      record { name = c.name; id = c.id; conn = c.conn; deadline = c.deadline; request_id = c.request_id; ended = option_or c.ended e; branches = map (ends_branch e) c.branches }

  -- a moment comes to a call: it ends by its own deadline and with it its branches, and each of these by its own
  abbrev pub expires_call : ℕ → Call C V → Call C V
  expires_call now c =
      record {
        name = c.name;
        id = c.id;
        conn = c.conn;
        deadline = c.deadline;
        request_id = c.request_id;
        ended = option_or c.ended (if_due now c.deadline);
        branches = map (λ b. expires_branch now (ends_branch (if_due now c.deadline) b)) c.branches;
      }

  -- the branches of the call of that context
  abbrev pub on_branches : Id → (Call C V → List (Branch C)) → Standing C V → Standing C V
  on_branches id f v = record { drained = v.drained; conns = v.conns; calls = map (λ c. if same c.id id then with_branches (f c) c else c) v.calls }

  -- a branch of a call starts: it has ended by what had ended its call, or where its own deadline is reached
  abbrev pub branched : Id → ℕ → ℕ → ℕ → Standing C V → Standing C V
  branched id branch at now =
      on_branches id (λ c. c.branches ++ record { branch = branch; deadline = at; ended = option_or c.ended (if_due now (Some at)) } ∷ [])

  -- the first branch of that number of a call is gone
  abbrev pub unbranched : Id → ℕ → Standing C V → Standing C V
  unbranched id branch = on_branches id (λ c. drop_branch branch c.branches)

  -- all branches of a call are gone
  abbrev pub bare_call : Id → Standing C V → Standing C V
  bare_call id = on_branches id (λ c. [])

  -- no call of that context has a branch
  abbrev pub IsBare : Id → List (Call C V) → Type 0
  IsBare id calls = All (λ c. same c.id id ≡ true → c.branches ≡ []) calls

  -- a moment comes
  abbrev pub expired : ℕ → Standing C V → Standing C V
  expired now v = record { drained = v.drained; conns = v.conns; calls = map (expires_call now) v.calls }

  -- a connection's context ends for this cause
  abbrev pub cancelled : Id → C → Standing C V → Standing C V
  cancelled id cause v =
      record {
        drained = v.drained;
        conns = map (λ c. ends_conn (if_cancelled (same c.id id) cause) c) v.conns;
        calls = map (λ c. ends_call (if_cancelled (same c.conn id) cause) c) v.calls;
      }

  -- all end for this cause
  abbrev pub all_ended : C → Standing C V → Standing C V
  all_ended cause v =
      record {
        drained = option_or v.drained (Some (Given cause));
        conns = map (ends_conn (Some (Given cause))) v.conns;
        calls = map (ends_call (Some (Given cause))) v.calls;
      }

  -- a call is gone
  abbrev pub without : Id → Standing C V → Standing C V
  without id v = record { drained = v.drained; conns = v.conns; calls = filter (λ c. not (same c.id id)) v.calls }

  -- a connection is gone
  abbrev pub closed : Id → Standing C V → Standing C V
  closed id v = record { drained = v.drained; conns = filter (λ c. not (same c.id id)) v.conns; calls = v.calls }

  -- ---- how a tree keeps them

  -- the request id that a context has of its own
  abbrev pub value_in : Slots C V → Id → Option V
  value_in slots holder = option_and_then (λ n. own_value request_id_key n.kind) (node_at slots holder)

  -- what ended a context
  abbrev pub cause_in : Slots C V → Id → Option (Cause C)
  cause_in slots id = option_map (λ e. e.cause) (ending_in slots id)

  abbrev pub seen_conn : Slots C V → Id → Conn C
  seen_conn slots id = record { id = id; ended = cause_in slots id }

  abbrev pub seen_branch : Slots C V → Twig → Branch C
  seen_branch slots t = record { branch = t.branch; deadline = t.at; ended = cause_in slots t.ctx }

  abbrev pub seen_branches : Slots C V → List Twig → List (Branch C)
  seen_branches slots twigs = map (seen_branch slots) twigs

  abbrev pub seen_call : Slots C V → Life → Call C V
  seen_call slots life =
      record {
        name = life.id;
        id = life.ctx;
        conn = life.conn;
        deadline = life.deadline;
        request_id = option_and_then (value_in slots) life.holder;
        ended = cause_in slots life.ctx;
        branches = seen_branches slots life.twigs;
      }

  abbrev pub seen : Slots C V → Id → List Id → List Life → Standing C V
  seen slots base conns calls = record { drained = cause_in slots base; conns = map (seen_conn slots) conns; calls = map (seen_call slots) calls }

-- ---- the calls' hooks

-- the connections and calls, and the hooks that wait, each with the context of its call
pub record WithHooks (C V H : Type 0) : Type 0 where
  pub standing : Standing C V
  pub hooks : List (Id × H)

-- a hook, with the context of its call
abbrev pub on_ctx : {H : Type 0} → Registration H → Id × H
on_ctx r = (r.ctx, r.hook)

module _ {H : Type 0} where
  -- the hook of the call of that context
  abbrev pub hook_for : Id → List (Id × H) → Option H
  hook_for id [] = None
  hook_for id (p ∷ ps) = if same p.0 id then Some p.1 else hook_for id ps

module _ {C V H : Type 0} where
  -- the hooks stay
  abbrev pub with_standing : Standing C V → WithHooks C V H → WithHooks C V H
  with_standing standing v = record { standing = standing; hooks = v.hooks }

  -- a hook more waits
  abbrev pub with_hook : Id → H → Standing C V → WithHooks C V H → WithHooks C V H
  with_hook id hook standing v = record { standing = standing; hooks = v.hooks ++ (id, hook) ∷ [] }

  -- a call and its hook are gone
  abbrev pub gone : Id → WithHooks C V H → WithHooks C V H
  gone id v = record { standing = without id v.standing; hooks = filter (λ p. not (same p.0 id)) v.hooks }
