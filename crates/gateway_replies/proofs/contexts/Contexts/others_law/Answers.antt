use Rattle.gateway_replies.proofs.ContextLemmas.{without_others}
use Rattle.gateway_replies.proofs.contexts.Contexts.others_law.Goals as goal

pub returns : goal.returns
returns g c = λ id. without_others id c.args.self.now.standing
