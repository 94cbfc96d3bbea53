use Rattle.std.proofs.Common.{lit≤}
use Rattle.timeout_header.proofs.DigitsLemmas.{at_most_ten}
use Rattle.timeout_header.proofs.digits.Digits.of.Goals as goal

pub write_digits-start-requires : goal.write_digits-start-requires
write_digits-start-requires c = (at_most_ten c.args.number c.requires, lit≤ tt)
