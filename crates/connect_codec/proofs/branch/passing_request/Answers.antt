use Rattle.connect_codec.specs.BranchAsk.{call_passing}
use Rattle.connect_codec.specs.Passed.{fields_passed}
use Rattle.connect_codec.proofs.MessageLemmas.{branch_request_ends}
use Rattle.connect_codec.proofs.branch.passing_request.Goals as goal

pub returns : goal.returns
returns c =
    let call = call_passing (fields_passed c.args.passed.now) c.args.ask.now in
    rw (← branch_request_ends call _ _ c.in_ok-head.ensures c.in_ok-pass_on.ensures) c.end.ensures
