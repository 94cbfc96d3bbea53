use Rattle.gateway_replies.proofs.Names.{◌∙◌, arith, sym}
use Rattle.std.proofs.lemmas.Bool.{eqb-false}
use Rattle.gateway_replies.proofs.contexts.peer.take_first.Goals as goal

pub remove-requires : goal.remove-requires
remove-requires g c = omega (arith, eqb-false _ _ (sym c.is_empty.ensures ∙ c.if-is_empty.false))

pub returns-clause-none : goal.returns-clause-none
returns-clause-none g c = tt

pub returns-then-is_empty-clause-first : goal.returns-then-is_empty-clause-first
returns-then-is_empty-clause-first g c = tt
