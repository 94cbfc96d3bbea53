use Rattle.gateway_run.proofs.Names.{rules, subst, AppendsSome, OnErr, OnOk, Appends}
use Rattle.gateway_run.proofs.RunLemmas.{connection_parts}
use Rattle.gateway_run.proofs.text.write_connection.Goals as goal

pub returns-clause-ok : goal.returns-clause-ok
returns-clause-ok g c =
    subst (λ text. OnOk c.send_all.result (Appends (g.W.Write.contents c.args.writer.now) (g.W.Write.contents c.send_all.new.writer) text))
    (connection_parts c.args.conn c.args.bytes.now c.as_bytes.result.now c.as_bytes-2.result.now (search rules) (search rules)) c.send_all.ensures.ok

pub returns-clause-err : goal.returns-clause-err
returns-clause-err g c =
    subst (λ text. OnErr c.send_all.result (AppendsSome (g.W.Write.contents c.args.writer.now) (g.W.Write.contents c.send_all.new.writer) text))
    (connection_parts c.args.conn c.args.bytes.now c.as_bytes.result.now c.as_bytes-2.result.now (search rules) (search rules)) c.send_all.ensures.err
