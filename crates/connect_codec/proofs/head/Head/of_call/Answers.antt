use Rattle.std.proofs.Common.{◌∙◌}
use Rattle.connect_codec.proofs.MessageLemmas.{request_line_ends}
use Rattle.connect_codec.proofs.head.Head.of_call.Goals as goal

pub returns : goal.returns
returns c = rw (request_line_ends c.args.path.now c.as_str.result.now (c.as_str.ensures.value ∙ c.in_ok-line.ensures.ok)) c.of_line.ensures
