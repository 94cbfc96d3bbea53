use Rattle.std.proofs.Common.{ap, ◌∙◌}
use Rattle.http_pieces.specs.ReplyHead.{length_by_number}
use Rattle.http_pieces.proofs.ReplyLemmas.{length_stated}
use Rattle.http_pieces.proofs.reply_head.length_by_field.Goals as goal

pub returns-in_default : goal.returns-in_default
returns-in_default c = λ values is.
    c.length_by_number.ensures ∙ ap (length_by_number c.args.status) (c.stated_length.ensures values is) ∙ length_stated c.args.status values c.args.field is c.in_default.not-None
