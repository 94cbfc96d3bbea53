-- What the gateway keeps between two calls of it, and what a broadcast makes of its connections.
use Rattle.std.specs.BTreeMap.{is_at}
use Rattle.std.specs.List.{sum_by}
use Rattle.std.specs.List.Sorted.{IsStrictlySortedBy}
use Rattle.std.specs.Map.{keys_of, lookup, remove_entry, values_of}
use Rattle.std.specs.Option.{option_map_or}
use Rattle.std.specs.Ordering.{nat_cmp}
use Rattle.std.specs.Prelude.{◌≡◌, ℕ, ◌≤◌, ◌^◌, cond, Bool, true, false, List, [], Option, None, Some}
use Rattle.gateway_theory.specs.Gateway.{open_count}
use Rattle.gateway_theory.specs.Held.{is_gone}
use Rattle.gateway_theory.specs.Values.{GatewayValue, gateway_value, HeldConnection, CallState, gone, call_at}
use Rattle.gateway_theory.specs.Serving.{IsServing}
use Rattle.gateway_theory.specs.Steps.{MayEnd}
use Rattle.gateway_connection.specs.Linked.{Over, none_over}
use Rattle.gateway_connection.specs.OwnContexts.{IsTied, own_contexts}
use Rattle.gateway_connection.specs.declared.shared.Shared.{Shared}
use Rattle.gateway_model.specs.Past.{call_id}
use Rattle.gateway_model.specs.declared.id.CallId.{CallId}
use Rattle.gateway_replies.specs.Contexts.{contexts_value}
use Rattle.gateway_replies.specs.Hooks.{HookedContexts}
use Rattle.gateway_theory.specs.Store.{waiting}
use Rattle.gateway_theory.specs.declared.tally.Tally.{Tally}
use Rattle.gateway_theory.specs.declared.trigger.Trigger.{Trigger}

-- the connections that are kept, by their numbers
abbrev pub Conns : Type 0
Conns = List (ℕ × HeldConnection)

abbrev pub held_at : ℕ → Conns → Option HeldConnection
held_at c conns = lookup (is_at (nat_cmp c)) conns

-- how many branches of their calls wait for their start
abbrev pub waiting_for : HeldConnection → ℕ
waiting_for k = waiting k.calls

abbrev pub waiting_all : Conns → ℕ
waiting_all conns = sum_by waiting_for (values_of conns)

-- what is kept of a call
abbrev pub call_kept : CallId → Conns → CallState
call_kept id conns = option_map_or (λ (k : HeldConnection). call_at (call_id k.number id.request) k.calls) (held_at id.conn conns) gone

-- nothing comes back any more to that of the number, if there is one
abbrev pub is_gone_at : ℕ → Conns → Bool
is_gone_at n conns = option_map_or is_gone (held_at n conns) false

-- that of the number is taken out, if that is so
abbrev pub IsWithout : Bool → ℕ → Conns → Conns → Type 0
IsWithout true n old new = (new ≡ remove_entry (is_at (nat_cmp n)) old) × ((q : ℕ) → held_at q new ≡ cond (is_at (nat_cmp n) q) None (held_at q old)) × IsStrictlySortedBy nat_cmp (keys_of new)
IsWithout false n old new = new ≡ old

-- each stands under its own number
abbrev pub AreNumbered : Conns → Type 0
AreNumbered conns = (c : ℕ) (k : HeldConnection) → held_at c conns ≡ Some k → k.number ≡ c

module _ {H : Type 0} where
  -- the gateway, as its fields tell it
  abbrev pub gateway_of : Shared H → Conns → ℕ → Tally → GatewayValue
  gateway_of shared conns opened tally = gateway_value shared.plans shared.moment shared.contexts.standing.drained conns shared.jobs.jobs opened shared.begun tally

  -- the contexts of a number are those of its connection; where none is kept there are none
  abbrev pub TiedAt : Over → ℕ → Option HeldConnection → HookedContexts H → Type 0
  TiedAt over c None x = own_contexts c x.standing ≡ contexts_value x.standing.drained [] []
  TiedAt over c (Some k) x = IsTied over k x

  abbrev pub AreTied : Over → Conns → HookedContexts H → Type 0
  AreTied over conns x = (c : ℕ) → TiedAt over c (held_at c conns) x

  -- the connections and what they live by fit together, where the contexts of calls are over so
  pub record AreFit (over : Over) (shared : Shared H) (conns : Conns) : Type 0 where
    pub tied : AreTied over conns shared.contexts
    pub waits : shared.jobs.waiting ≡ waiting_all conns
    pub early : shared.moment ≤ 2 ^ 62

  -- between two calls
  pub record IsWhole (shared : Shared H) (conns : Conns) (opened open_now : ℕ) (tally : Tally) : Type 0 where
    pub serving : IsServing (gateway_of shared conns opened tally)
    pub fit : AreFit none_over shared conns
    pub open_is : open_now ≡ open_count (gateway_of shared conns opened tally)

  -- ---- a broadcast

  -- nothing changes but the contexts, and how many branches wait
  pub record IsToldOnly (s t : Shared H) : Type 0 where
    pub plans_are : t.plans ≡ s.plans
    pub moment_is : t.moment ≡ s.moment
    pub jobs_are : t.jobs.jobs ≡ s.jobs.jobs
    pub begun_is : t.begun ≡ s.begun

-- of each connection the calls end that this ends, or it breaks
pub record AllEnd (trigger : Trigger) (old new : Conns) : Type 0 where
  pub each : (c : ℕ) → MayEnd trigger (held_at c old) (held_at c new)
  pub keys_are : keys_of new ≡ keys_of old

-- one of them breaks, or none does
abbrev pub OneBreaks : Bool → Conns → Conns → Type 0
OneBreaks true old new = (c : ℕ) × (k : HeldConnection) × (l : HeldConnection) × (held_at c old ≡ Some k) × (held_at c new ≡ Some l) × (k.broken ≡ false) × (l.broken ≡ true)
OneBreaks false old new = (c : ℕ) (k l : HeldConnection) → held_at c old ≡ Some k → held_at c new ≡ Some l → l.broken ≡ true → k.broken ≡ true
