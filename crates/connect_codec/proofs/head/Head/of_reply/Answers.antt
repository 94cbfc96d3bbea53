use Rattle.std.proofs.Common.{◌∙◌}
use Rattle.connect_codec.proofs.MessageLemmas.{status_line_ends}
use Rattle.connect_codec.proofs.head.Head.of_reply.Goals as goal

pub returns : goal.returns
returns c =
    rw (status_line_ends c.args.status c.phrase_of-phrase.result.now c.as_str.result.now c.phrase_of-phrase.ensures (c.as_str.ensures.value ∙ c.in_ok-line.ensures.ok))
    c.of_line.ensures
