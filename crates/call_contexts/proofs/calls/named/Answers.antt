use Rattle.call_contexts.proofs.Names.{◌∙◌, ap, sym, option_map}
use Rattle.call_contexts.proofs.Indexing.{none_indexed, one_indexed}
use Rattle.call_contexts.proofs.calls.named.Goals as goal

pub returns-in_err-ctx : goal.returns-in_err-ctx
returns-in_err-ctx c = ap (option_map (λ l. l.now)) c.from_residual.ensures ∙ sym (none_indexed c.args.id.now c.args.calls.now c.requires.indexed (sym c.find.ensures ∙ c.in_err-ctx.was))

pub returns : goal.returns
returns c = c.find-2.ensures ∙ one_indexed c.args.id.now c.args.calls.now c.requires.indexed c.requires.rising c.in_ok-ctx.ctx (sym c.find.ensures ∙ c.in_ok-ctx.was)
