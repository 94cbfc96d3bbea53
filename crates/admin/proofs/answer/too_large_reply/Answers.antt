use Rattle.std.proofs.Common.{refl}
use Rattle.admin.proofs.answer.too_large_reply.Goals as goal

pub returns : goal.returns
returns c = rw (c.in_ok-bytes.ensures, c.in_ok-error.ensures) refl
