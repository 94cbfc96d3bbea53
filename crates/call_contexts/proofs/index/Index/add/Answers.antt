use Rattle.call_contexts.proofs.Names.{Some}
use Rattle.call_contexts.proofs.Indexing.{sets_by}
use Rattle.call_contexts.proofs.index.Index.add.Goals as goal

pub returns-clause-added : goal.returns-clause-added
returns-clause-added c = rw (← c.self.view_is) (sets_by c.args.id.now (Some c.args.ctx) c.key.result c.self.inside.map c.insert.new.self c.key.ensures c.in_ok-insert.ensures.updates)
