-- The line of the log for a branch whose backend was asked.
use Rattle.std.specs.Prelude.{ℕ, List, codes, Option, Bool, true, false}
use Rattle.std.specs.Option.{option_copied}
use Rattle.serde_json.specs.Data.{Data, Members, boolean, number, unsigned, string, object, member, no_members}
use Rattle.serde_json.specs.Written.{compact_text}
use Rattle.gateway_model.specs.declared.id.CallId.{CallId}
use Rattle.branch_causes.specs.Causes.{cause_name}
use Rattle.branch_causes.specs.declared.cause.Cause.{Cause}
use Rattle.branch_causes.specs.declared.cause.Cause.TheVariants.{Answer}
use Rattle.access_log.specs.Line.{number_or_null, text_or_null}
use Rattle.access_log.specs.declared.branch.BranchAsked.{BranchAsked}

-- whether a branch has a line: that of each that answered is told where all are
abbrev pub is_told : Cause → Bool → Bool
is_told Answer tells_all = tells_all
is_told _ tells_all = true

-- what came of asking a backend, without its borrows
pub record AskedBranch : Type 0 where
  pub call : CallId
  pub plan : List ℕ
  pub branch : List ℕ
  pub address : List ℕ
  pub took : ℕ
  pub cause : Cause
  pub status : Option ℕ
  pub request_id : Option (List ℕ)
  pub is_reused : Bool

abbrev pub asked_of : BranchAsked → AskedBranch
asked_of asked = record {
  call = asked.call;
  plan = asked.plan.now;
  branch = asked.branch.now;
  address = asked.address.now;
  took = asked.took;
  cause = asked.cause;
  status = asked.status;
  request_id = option_copied asked.request_id;
  is_reused = asked.is_reused;
}

-- these members, and before them that the request went over a connection that was kept, if it did
abbrev pub and_reused : Bool → Members → Members
and_reused false members = members
and_reused true members = member (codes "reused") (boolean true) members

-- The document of a branch that a worker told at that time, in milliseconds from 1970. The keys are in byte order.
abbrev pub branch_document : ℕ → ℕ → AskedBranch → Data
branch_document time worker asked =
    object (
    member (codes "address") (string asked.address) (
    member (codes "branch") (string asked.branch) (
    member (codes "cause") (string (cause_name asked.cause)) (
    member (codes "connection") (number (unsigned asked.call.conn)) (
    member (codes "ms") (number (unsigned asked.took)) (
    member (codes "path") (string asked.plan) (
    member (codes "request") (number (unsigned asked.call.request)) (
    member (codes "request_id") (text_or_null asked.request_id) (
    and_reused asked.is_reused (
    member (codes "status") (number_or_null asked.status) (
    member (codes "time") (number (unsigned time)) (
    member (codes "worker") (number (unsigned worker)) no_members))))))))))))

-- the line: the document as compact JSON, with no LF
unfoldable pub branch_line : ℕ → ℕ → AskedBranch → List ℕ
branch_line time worker asked = compact_text (branch_document time worker asked)
