use Rattle.gateway_run.proofs.Names.{rules, subst, AppendsSome, OnErr}
use Rattle.gateway_run.proofs.RunLemmas.{start_parts}
use Rattle.gateway_run.proofs.text.write_start.Goals as goal

pub returns-clause-err : goal.returns-clause-err
returns-clause-err g c =
    subst (λ text. OnErr c.send_all.result (AppendsSome (g.W.Write.contents c.args.writer.now) (g.W.Write.contents c.send_all.new.writer) text))
    (start_parts c.args.start c.as_bytes.result.now c.as_bytes-2.result.now c.as_bytes-3.result.now c.as_bytes-4.result.now
    (search rules) (search rules) (search rules) (search rules)) c.send_all.ensures.err
