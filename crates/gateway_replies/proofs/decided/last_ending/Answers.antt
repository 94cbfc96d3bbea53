use Rattle.gateway_replies.proofs.Names.{◌∙◌}
use Rattle.gateway_theory.specs.lemmas.ReplyLemmas.{ending_in, if_ok}
use Rattle.gateway_replies.proofs.decided.last_ending.Goals as goal

pub returns-in-Some : goal.returns-in-Some
returns-in-Some c =
    if_ok c.ending_of.result _ _
    (λ _ e. e ∙ ending_in _ c.args.call.now c.in-Some.event.now c.deref.result.now c.deref-in-Some.result.now c.call.view_is c.deref.ensures.value c.in-Some.ensures.value c.deref-in-Some.ensures)
    c.ending_of.ensures
