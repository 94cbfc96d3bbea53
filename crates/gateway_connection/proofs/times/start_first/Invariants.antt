use Rattle.gateway_connection.specs.lemmas.Names.{◌≡◌, first_started}
use Rattle.gateway_connection.proofs.times.start_first.Given as goal

abbrev pub invariant-loop-branch : goal.invariant-loop-branch
invariant-loop-branch g l = (l.contexts.standing ≡ first_started l.id l.moment l.asked.plan l.branch l.fn.contexts.standing) × (l.contexts.stocks ≡ l.fn.contexts.stocks)
