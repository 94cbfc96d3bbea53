-- What the gateway lends to a connection's step, what the step needs of it, and what it leaves.
use Rattle.std.specs.Prelude.{◌≡◌, ◌+◌, ◌<◌, ◌≤◌, ◌^◌, true, List, ◌++◌}
use Rattle.http_pieces.specs.Request.{most_requests}
use Rattle.gateway_model.specs.Job.{JobValue}
use Rattle.gateway_theory.specs.Store.{waiting}
use Rattle.gateway_theory.specs.Held.{hears, next_held}
use Rattle.gateway_theory.specs.Values.{HeldConnection}
use Rattle.gateway_connection.specs.Linked.{Over, none_over}
use Rattle.gateway_connection.specs.OwnContexts.{IsTied, LeavesOthers}
use Rattle.gateway_connection.specs.declared.shared.Shared.{Shared}

module _ {H : Type 0} where
  -- a connection, of whose contexts these are over, may make a step: the contexts are its own, and its branches that wait are counted
  pub record MayStep (over : Over) (k : HeldConnection) (s : Shared H) : Type 0 where
    pub tied : IsTied over k s.contexts
    pub waits : waiting k.calls ≤ s.jobs.waiting
    pub early : s.moment ≤ 2 ^ 62

  -- .. and a request may come on it
  pub record MayCome (k : HeldConnection) (s : Shared H) : Type 0 where
    pub may : MayStep none_over k s
    pub on : hears k ≡ true
    pub room : (next_held k).request < most_requests

  -- the step adds these jobs, and changes nothing of others: neither their contexts nor the count of their branches that wait
  pub record LeavesRest (jobs : List JobValue) (k l : HeldConnection) (s t : Shared H) : Type 0 where
    pub plans_are : t.plans ≡ s.plans
    pub moment_is : t.moment ≡ s.moment
    pub jobs_are : t.jobs.jobs ≡ s.jobs.jobs ++ jobs
    pub waits : t.jobs.waiting + waiting k.calls ≡ s.jobs.waiting + waiting l.calls
    pub others : LeavesOthers k.number s.contexts t.contexts
