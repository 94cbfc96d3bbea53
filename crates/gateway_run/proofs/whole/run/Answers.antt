use Rattle.gateway_run.proofs.Names.{ap, arith, length, count_by, is_opening}
use Rattle.gateway_run.proofs.WholeLemmas.{no_stocks, ok_stocked}
use Rattle.gateway_run.proofs.whole.run.Goals as goal

pub returns-in_err-run-clause-stocks : goal.returns-in_err-run-clause-stocks
returns-in_err-run-clause-stocks g c = no_stocks c.from_residual.result (length c.args.stocks.items) (count_by is_opening c.args.events.items) c.from_residual.ensures.1
    (omega (arith, c.if-len-openings.false, c.len.ensures, c.openings.ensures, ap (λ es. count_by is_opening es) c.deref.ensures.value))

pub returns-clause-stocks : goal.returns-clause-stocks
returns-clause-stocks g c = ok_stocked _ (length c.args.stocks.items) (count_by is_opening c.args.events.items)
    (omega (arith, c.if-len-openings.false, c.len.ensures, c.openings.ensures, ap (λ es. count_by is_opening es) c.deref.ensures.value))
