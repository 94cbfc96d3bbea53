use Rattle.std.proofs.Common.{sym}
use Rattle.std.proofs.lemmas.List.{append-nil}
use Rattle.connect_codec.specs.BranchAsk.{call_of}
use Rattle.connect_codec.proofs.MessageLemmas.{branch_request_ends}
use Rattle.connect_codec.proofs.branch.branch_request.Goals as goal

pub returns : goal.returns
returns c =
    rw (← branch_request_ends (call_of c.args.ask.now) _ _ c.in_ok-head.ensures (sym (append-nil c.in_ok-head.head))) c.end.ensures
