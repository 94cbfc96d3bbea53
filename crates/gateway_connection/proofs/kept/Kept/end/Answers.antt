use Rattle.gateway_connection.specs.lemmas.Names.{◌∙◌, ap, given_up, kept_value, subst, sym, IsKept, KeptValue, ◌≡◌, true, false, is_some, option_map, is_life}
use Rattle.gateway_connection.specs.Ends.{LetsGo}
use Rattle.gateway_connection.specs.KeptCall.{live_of}
use Rattle.gateway_connection.proofs.KeptLemmas.{ended_kept}
use Rattle.gateway_connection.proofs.kept.Kept.end.Goals as goal

pub invariant_of-self : goal.invariant_of-self
invariant_of-self g c = subst (λ l. IsKept c.self.inside.id c.self.inside.out.items c.clear_queue.new.self l) (sym c.take.ensures.after)
    (ended_kept c.self.inside.id c.self.inside.out.items c.self.inside.group c.clear_queue.new.self c.self.inside.live c.self.invariant c.clear_queue.ensures.cleared)

pub returns-clause-given : goal.returns-clause-given
returns-clause-given g c = ap (λ l. kept_value c.self.inside.id c.self.inside.out.items c.clear_queue.new.self.queue l) c.take.ensures.after ∙ ap given_up c.self.view_is

pub returns-clause-goes : goal.returns-clause-goes
returns-clause-goes g c = subst (λ d. LetsGo d c.reply_to.result c.args.contexts.now c.reply_to.new.contexts) (ap (λ (k : KeptValue). k.id) c.self.view_is)
    (record { gone = c.reply_to.ensures.gone; others = c.reply_to.ensures.others; stocks_are = c.reply_to.ensures.stocks })

pub unreachable-requires : goal.unreachable-requires
unreachable-requires g c =
    let clash : true ≡ false = sym c.requires.live ∙ ap (λ (k : KeptValue). is_some k.call.live) (sym c.self.view_is)
    ∙ ap (λ l. is_some (option_map (live_of c.self.inside.group.queue) l)) (sym c.take.ensures.value ∙ c.in_default.is) in
    cc

pub reply_to-requires : goal.reply_to-requires
reply_to-requires g c = ap (λ (k : KeptValue). is_life k.id c.args.contexts.now.standing.calls) c.self.view_is ∙ c.requires.known
