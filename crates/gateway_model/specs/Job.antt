-- A job: one branch of a call, and what its backend is asked.
use Rattle.std.specs.Prelude.{ℕ, ◌-◌, List, Option, option_map}
use Rattle.http_pieces.specs.Fields.{NamedValue}
use Rattle.connect_codec.specs.Passed.{passed}
use Rattle.gateway_model.specs.declared.id.CallId.{CallId}
use Rattle.gateway_model.specs.Branch.{branch_at}
use Rattle.gateway_model.specs.Past.{ArrivedCall, smaller, deadline_from}

pub record JobValue : Type 0 where
  pub call : CallId
  pub branch : ℕ
  -- the path of its call's plan, and the branch's name there
  pub plan_path : List ℕ
  pub branch_name : List ℕ
  pub address : List ℕ
  pub path : List ℕ
  pub body : List ℕ
  pub request_id : Option (List ℕ)
  -- the fields of the call's request that are passed on
  pub passed : List NamedValue
  -- the moment at which its call expires, or the branch before its call, if either does
  pub deadline : Option ℕ
  -- how long it has until then as it starts, in milliseconds
  pub remaining : Option ℕ

-- the job of a branch of the call that starts at this moment: the plan's path, the branch's name, address and path, the body and the id of
-- the call's request, those of its fields that the branch passes on, the sooner deadline, the call's or its own (Go `context.WithTimeout`), and what is left of the time until then
-- (Go `time.Until`)
abbrev pub job_of : CallId → ℕ → ArrivedCall → ℕ → JobValue
job_of call i asked moment = record {
  call = call;
  branch = i;
  plan_path = asked.plan.path;
  branch_name = (branch_at asked.plan i).name;
  address = (branch_at asked.plan i).address;
  path = (branch_at asked.plan i).path;
  body = asked.request.body;
  request_id = asked.request_id;
  passed = passed (branch_at asked.plan i).pass asked.request.fields;
  deadline = smaller asked.deadline (deadline_from moment asked.plan i);
  remaining = option_map (λ deadline. deadline - moment) (smaller asked.deadline (deadline_from moment asked.plan i));
}
