use Rattle.std.proofs.Common.{min, arith, ◌≤◌}
use Rattle.timeout_header.proofs.DigitsLemmas.{decimal-digits}
use Rattle.timeout_header.proofs.value.write.Goals as goal

pub returns-clause-reads_back : goal.returns-clause-reads_back
returns-clause-reads_back c =
    let small : min c.args.timeout 9999999999 ≤ 9999999999 = omega arith in
    rw (c.of.ensures, c.min.ensures, decimal-digits _ small)
