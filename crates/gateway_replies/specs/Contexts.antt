-- The contexts of the open connections and of the calls that can be decided, by the connections' numbers and the calls' ids.
use Rattle.std.specs.Prelude.{◌≡◌, ◌≤◌, ◌&&◌, ◌||◌, ℕ, Bool, true, false, is_some, is_none, not, if◌then◌else◌, ◌==◌, List, [], ◌∷◌, ◌++◌, map, filter, nat_le, All, Option, None, Some, option_map}
use Rattle.std.specs.List.{list_any}
use Rattle.std.specs.Option.{option_map_or, option_or}
use Rattle.context_tree.specs.declared.error.Cause.{Cause}
use Rattle.context_tree.specs.declared.error.Cause.TheVariants.{Given, Plain}
use Rattle.context_tree.specs.declared.error.CtxErr.TheVariants.{DeadlineExceeded}
use Rattle.context_tree.specs.Context.{Id, same}
use Rattle.call_contexts.specs.Standing.{Branch, Call, Conn, Standing, branch_before, drop_branch, ends_branch, expires_branch, if_cancelled}
use Rattle.call_contexts.specs.Sound.{Rising}
use Rattle.gateway_replies.specs.declared.contexts.cancelled.CancelledBy.{CancelledBy}
use Rattle.gateway_replies.specs.declared.contexts.cancelled.CancelledBy.TheVariants.{HangUp, Drain}
use Rattle.gateway_model.specs.declared.call_event.CallEvent.{CallEvent}
use Rattle.gateway_model.specs.declared.call_event.CallEvent.TheVariants.{BranchExpired, Expired, HungUp as HungUpNow, Drained as DrainedNow}
use Rattle.gateway_theory.specs.declared.trigger.Trigger.{Trigger}
use Rattle.gateway_theory.specs.declared.trigger.Trigger.TheVariants.{Reached, HungUp, Drained}
use Rattle.gateway_model.specs.declared.id.CallId.{CallId}
use Rattle.gateway_model.specs.Past.{ArrivedCall, is_call, is_due}

-- what ended a context, if anything did: its deadline, or what it was cancelled for
abbrev pub Ended : Type 0
Ended = Option (Cause CancelledBy)

-- by a deadline, if the moment has reached it
abbrev pub by_deadline : ℕ → Option ℕ → Ended
by_deadline now deadline = if is_due now deadline then Some (Plain DeadlineExceeded) else None

-- by a hang-up, and by the drain, where that has come
abbrev pub by_hang_up : Bool → Ended
by_hang_up came = if_cancelled came HangUp

abbrev pub by_drain : Bool → Ended
by_drain came = if_cancelled came Drain

-- the event by which a call ends at a moment, whose context ended so, and of which that branch ended before it
abbrev pub event_of : ℕ → Ended → Option ℕ → Option CallEvent
event_of moment (Some (Given HangUp)) branch = Some HungUpNow
event_of moment (Some (Given Drain)) branch = Some DrainedNow
event_of moment (Some (Plain error)) branch = Some (option_map_or (λ i. BranchExpired i moment) branch (Expired moment))
event_of moment None branch = option_map (λ i. BranchExpired i moment) branch

-- a connection that has a context, and what ended that
pub record PeerValue : Type 0 where
  pub number : ℕ
  pub ended : Ended

abbrev pub peer : ℕ → Ended → PeerValue
peer number ended = record { number = number; ended = ended }

-- a branch of a call that is out and has a timeout
abbrev pub TimedBranch : Type 0
TimedBranch = Branch CancelledBy

-- a call that has a context and a hook: the deadline and the request id that its context has, what ended that, and its branches that have contexts, by
-- start
pub record LifeValue : Type 0 where
  pub id : CallId
  pub deadline : Option ℕ
  pub request_id : Option (List ℕ)
  pub ended : Ended
  pub branches : List TimedBranch

-- whether all were ended, the connections and the calls, by beginning
pub record ContextsValue : Type 0 where
  pub drained : Bool
  pub conns : List PeerValue
  pub calls : List LifeValue

abbrev pub contexts_value : Bool → List PeerValue → List LifeValue → ContextsValue
contexts_value drained conns calls = record { drained = drained; conns = conns; calls = calls }

abbrev pub no_contexts : ContextsValue
no_contexts = contexts_value false [] []

-- the context that is made for a call
abbrev pub life_by : Ended → CallId → ArrivedCall → LifeValue
life_by ended id a = record { id = id; deadline = a.deadline; request_id = a.request_id; ended = ended; branches = [] }

-- the connection of that number has a context
abbrev pub is_peer : ℕ → List PeerValue → Bool
is_peer number conns = list_any (λ p. p.number == number) conns

-- no connection has that number, or one above it
abbrev pub IsNext : ℕ → List PeerValue → Type 0
IsNext number conns = (n : ℕ) → number ≤ n → is_peer n conns ≡ false

-- the call has a context
abbrev pub is_life : CallId → List LifeValue → Bool
is_life id calls = list_any (λ l. is_call l.id id) calls

-- the event by which it ends at a moment, if it does
abbrev pub ending_at : ℕ → LifeValue → Option CallEvent
ending_at moment l = event_of moment l.ended (branch_before l.deadline l.branches)

abbrev pub ending_life : ℕ → CallId → List LifeValue → Option CallEvent
ending_life moment id [] = None
ending_life moment id (l ∷ ls) = if is_call l.id id then ending_at moment l else ending_life moment id ls

-- the moment has reached the deadline of the call's context, which has not ended, or of a branch of it which has not
abbrev pub has_due : ℕ → LifeValue → Bool
has_due moment l = (is_none l.ended && is_due moment l.deadline) || list_any (λ (b : TimedBranch). is_none b.ended && nat_le b.deadline moment) l.branches

-- where the call's context has not ended, the moment has not reached its deadline, nor that of a branch of it that has not
pub record IsNotDue (moment : ℕ) (l : LifeValue) : Type 0 where
  pub call : l.ended ≡ None → is_due moment l.deadline ≡ false
  pub each : All (λ (b : TimedBranch). b.ended ≡ None → nat_le b.deadline moment ≡ false) l.branches

-- its context has ended, or that of a branch of it
abbrev pub is_over : LifeValue → Bool
is_over l = is_some l.ended || list_any (λ (b : TimedBranch). is_some b.ended) l.branches

-- it is that of the call, and over
abbrev pub has_ended : CallId → LifeValue → Bool
has_ended id l = is_call l.id id && is_over l

-- the calls of other connections
abbrev pub others : ℕ → List LifeValue → List LifeValue
others number calls = filter (λ l. not (l.id.conn == number)) calls

-- what ended the context of the connection of that number; one that opens has ended from the start where all were
abbrev pub ended_peer : Ended → ℕ → List PeerValue → Ended
ended_peer new number [] = new
ended_peer new number (p ∷ ps) = if p.number == number then p.ended else ended_peer new number ps

abbrev pub ends_of : ContextsValue → ℕ → Ended
ends_of v number = ended_peer (by_drain v.drained) number v.conns

-- ---- what is done to them

abbrev pub opened : ℕ → ContextsValue → ContextsValue
opened number v = contexts_value v.drained (v.conns ++ peer number (by_drain v.drained) ∷ []) v.calls

-- a call's context begins; it has ended by what ended that of its connection, or where its deadline is reached
abbrev pub begun : ℕ → CallId → ArrivedCall → ContextsValue → ContextsValue
begun now id a v = contexts_value v.drained v.conns (v.calls ++ life_by (option_or (ends_of v id.conn) (by_deadline now a.deadline)) id a ∷ [])

-- the context of the connection, or of the call, ends by this, unless it has ended before
abbrev pub ends_peer : Ended → PeerValue → PeerValue
ends_peer e p = record { number = p.number; ended = option_or p.ended e }

abbrev pub ends_life : Ended → LifeValue → LifeValue
ends_life e l = record { id = l.id; deadline = l.deadline; request_id = l.request_id; ended = option_or l.ended e; branches = map (ends_branch e) l.branches }

-- a moment comes to a call: it ends by its own deadline and with it its branches, and each of these by its own
abbrev pub expires_life : ℕ → LifeValue → LifeValue
expires_life now l =
    record {
      id = l.id;
      deadline = l.deadline;
      request_id = l.request_id;
      ended = option_or l.ended (by_deadline now l.deadline);
      branches = map (λ (b : TimedBranch). expires_branch now (ends_branch (by_deadline now l.deadline) b)) l.branches;
    }

-- they are told what may end calls
abbrev pub told : Trigger → ContextsValue → ContextsValue
told (Reached now) v = contexts_value v.drained v.conns (map (expires_life now) v.calls)
told (HungUp number) v =
    contexts_value v.drained
    (map (λ p. ends_peer (by_hang_up (p.number == number)) p) v.conns)
    (map (λ l. ends_life (by_hang_up (l.id.conn == number)) l) v.calls)
told Drained v = contexts_value true (map (λ p. ends_peer (by_drain true) p) v.conns) (map (λ l. ends_life (by_drain true) l) v.calls)

-- the call with these branches
abbrev pub with_branches : List TimedBranch → LifeValue → LifeValue
with_branches bs l = record { id = l.id; deadline = l.deadline; request_id = l.request_id; ended = l.ended; branches = bs }

abbrev pub on_branches : CallId → (LifeValue → List TimedBranch) → ContextsValue → ContextsValue
on_branches id f v = contexts_value v.drained v.conns (map (λ l. if is_call l.id id then with_branches (f l) l else l) v.calls)

-- a branch of the call starts, with a context that ends at this moment
abbrev pub started : CallId → ℕ → ℕ → ℕ → ContextsValue → ContextsValue
started id branch at now = on_branches id (λ l. l.branches ++ record { branch = branch; deadline = at; ended = option_or l.ended (by_deadline now (Some at)) } ∷ [])

-- the context of that branch is gone, if it has one
abbrev pub finished : CallId → ℕ → ContextsValue → ContextsValue
finished id branch = on_branches id (λ l. drop_branch branch l.branches)

-- the context of the call is gone
abbrev pub without : CallId → ContextsValue → ContextsValue
without id v = contexts_value v.drained v.conns (filter (λ l. not (is_call l.id id)) v.calls)

-- those of all calls of the connection are gone
abbrev pub without_calls : ℕ → ContextsValue → ContextsValue
without_calls number v = contexts_value v.drained v.conns (others number v.calls)

abbrev pub closed : ℕ → ContextsValue → ContextsValue
closed number v = contexts_value v.drained (filter (λ p. not (p.number == number)) v.conns) (others number v.calls)

-- the first call of the connection
abbrev pub first_life : ℕ → List LifeValue → Option CallId
first_life number [] = None
first_life number (l ∷ ls) = if l.id.conn == number then Some l.id else first_life number ls

-- all else than the calls of the connection is as it was
pub record KeepsOthers (number : ℕ) (v w : ContextsValue) : Type 0 where
  pub drained_is : w.drained ≡ v.drained
  pub conns_are : w.conns ≡ v.conns
  pub others_are : others number w.calls ≡ others number v.calls

-- ---- how they are kept

-- the connections' numbers, each with its context
abbrev pub Peers : Type 0
Peers = List (ℕ × Id)

-- the context of the connection of that number
abbrev pub ctx_of : ℕ → Peers → Option Id
ctx_of number [] = None
ctx_of number (p ∷ ps) = if p.0 == number then Some p.1 else ctx_of number ps

-- the connections' numbers
abbrev pub numbers_of : Peers → List ℕ
numbers_of ps = map (λ p. p.0) ps

abbrev pub same_number : ℕ × Id → ℕ × Id → Bool
same_number p q = q.0 == p.0

abbrev pub same_context : ℕ × Id → ℕ × Id → Bool
same_context p q = same q.1 p.1

module _ {A : Type 0} where
  -- no two of them stand in this relation
  abbrev pub NoTwo : (A → A → Bool) → List A → Type 0
  NoTwo r [] = Unit {0}
  NoTwo r (x ∷ xs) = (list_any (r x) xs ≡ false) × NoTwo r xs

-- no call has two contexts
abbrev pub same_life : LifeValue → LifeValue → Bool
same_life l m = is_call m.id l.id

abbrev pub LivesApart : List LifeValue → Type 0
LivesApart calls = NoTwo same_life calls

-- as the tree of contexts keeps them
abbrev pub ConnContext : Type 0
ConnContext = Conn CancelledBy

abbrev pub CallContext : Type 0 → Type 0
CallContext V = Call CancelledBy V

abbrev pub AllContexts : Type 0 → Type 0
AllContexts V = Standing CancelledBy V

-- the connections, by their contexts
abbrev pub peers_of : Peers → List ConnContext → List PeerValue
peers_of [] cs = []
peers_of (p ∷ ps) [] = []
peers_of (p ∷ ps) (c ∷ cs) = peer p.0 c.ended ∷ peers_of ps cs

module _ {V : Type 0} where
  -- what a call's context has
  abbrev pub life_of : (V → List ℕ) → CallContext V → LifeValue
  life_of text c = record { id = c.name; deadline = c.deadline; request_id = option_map text c.request_id; ended = c.ended; branches = c.branches }

  abbrev pub lives_of : (V → List ℕ) → List (CallContext V) → List LifeValue
  lives_of text cs = map (life_of text) cs

  abbrev pub names_in : List (CallContext V) → List CallId
  names_in cs = map (λ c. c.name) cs

  abbrev pub contexts_of : (V → List ℕ) → Peers → AllContexts V → ContextsValue
  contexts_of text peers v = contexts_value (is_some v.drained) (peers_of peers v.conns) (lives_of text v.calls)

  -- the context of the call derives from that of its connection
  abbrev pub OnPeer : Peers → CallContext V → Type 0
  OnPeer peers c = ctx_of c.name.conn peers ≡ Some c.conn

  -- no two are of one call
  abbrev pub same_id : CallContext V → CallContext V → Bool
  same_id c d = is_call d.name c.name

  -- there are contexts of these connections, and no others
  pub record IsTied (peers : Peers) (v : AllContexts V) : Type 0 where
    pub drained_is : v.drained ≡ by_drain (is_some v.drained)
    pub conns_are : map (λ c. c.id) v.conns ≡ map (λ p. p.1) peers
    pub calls_are : All (OnPeer peers) v.calls
    pub numbers_rise : Rising (numbers_of peers)
    pub contexts_apart : NoTwo same_context peers
    pub calls_apart : NoTwo same_id v.calls
