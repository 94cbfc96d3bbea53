use Rattle.call_contexts.proofs.Names.{None}
use Rattle.call_contexts.proofs.Indexing.{sets_by}
use Rattle.call_contexts.proofs.index.Index.forget.Goals as goal

pub returns : goal.returns
returns c = rw (← c.self.view_is) (sets_by c.args.id.now None c.key.result c.self.inside.map c.remove.new.self c.key.ensures c.remove.ensures.updates)
