use Rattle.gateway_replies.proofs.Names.{rules}
use Rattle.gateway_replies.specs.declared.contexts.peer.Peer.{Peer}
use Rattle.std.proofs.lemmas.List.Sorted.{answers_always}
use Rattle.gateway_replies.proofs.PlaceLemmas.{hit, missed}
use Rattle.gateway_replies.proofs.contexts.place.Goals as goal

pub returns-in-Ok-clause-its : goal.returns-in-Ok-clause-its
returns-in-Ok-clause-its g c =
    hit c.args.number c.args.peers.now c.requires c.in-Ok.place (c.in-Ok.ensures.position (λ (p : Peer _). p.number) (answers_always _ _ _ (λ f a r k called. search rules)))

pub returns-in-Err-clause-none : goal.returns-in-Err-clause-none
returns-in-Err-clause-none g c =
    missed c.args.number c.args.peers.now c.requires c.in-Err.field-0 (c.in-Err.ensures.position (λ (p : Peer _). p.number) (answers_always _ _ _ (λ f a r k called. search rules)))
