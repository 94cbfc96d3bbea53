use Rattle.gateway_replies.proofs.Names.{◌∙◌, ap, arc_value, ending_life, event_of, HookedContexts}
use Rattle.gateway_replies.proofs.ToldLemmas.{life_ended}
use Rattle.gateway_replies.proofs.contexts.Contexts.ending.Goals as goal

pub returns : goal.returns
returns g c =
    c.event_of.ensures ∙ ap (λ e. event_of c.args.moment e c.ended_branch-branch.result) c.ended-ended.ensures
    ∙ ap (event_of c.args.moment _) c.ended_branch-branch.ensures
    ∙ life_ended arc_value c.args.moment c.self.inside.contexts.standing.calls c.args.id.now
    ∙ ap (λ (u : HookedContexts _). ending_life c.args.moment c.args.id.now u.standing.calls) c.self.view_is
