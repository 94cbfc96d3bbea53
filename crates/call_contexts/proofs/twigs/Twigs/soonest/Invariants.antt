use Rattle.call_contexts.proofs.Names.{◌≡◌, drop, soonest_of}
use Rattle.call_contexts.proofs.Sooner.{merged}
use Rattle.call_contexts.proofs.twigs.Twigs.soonest.Given as goal

-- the first of those that were passed, and of the rest
abbrev pub invariant-loop-twig : goal.invariant-loop-twig
invariant-loop-twig l = soonest_of l.fn.self ≡ merged l.least (soonest_of (drop l.twig-index l.fn.self))
