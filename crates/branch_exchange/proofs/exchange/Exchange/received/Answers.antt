use Rattle.std.proofs.Common.{◌++◌, subst}
use Rattle.branch_exchange.specs.Exchange.{TakesIn}
use Rattle.branch_exchange.proofs.exchange.Exchange.received.Goals as goal

pub returns-in-Ok-Some-clause-comes : goal.returns-in-Ok-Some-clause-comes
returns-in-Ok-Some-clause-comes c =
    rw (← c.self.view_is)
    (λ framing bytes h.
    let taken = subst (λ r. TakesIn framing c.take_in.new.replies (bytes ++ c.args.piece.now) r) c.in-Ok-Some.field-0-is (c.in-Ok-Some.ensures framing bytes h) in
    (taken.0, c.is_sent.ensures.0 c.if-is_sent.true, taken.1))
