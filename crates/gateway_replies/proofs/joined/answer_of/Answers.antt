use Rattle.gateway_replies.proofs.Names.{List, ℕ, Option, ap, ◌∙◌, unwrap_or, later_step}
use Rattle.gateway_replies.proofs.joined.answer_of.Goals.{in-Some+in_ok-answer, in_default}
use Rattle.gateway_replies.proofs.joined.answer_of.Goals as goal

pub loop-event-preserved : goal.loop-event-preserved
loop-event-preserved c =
    later_step c.args.branch c.args.events.now c.loop-event.event-index c.event-item.result c.loop-event.answer c.match-answer_in.answer
    c.loop-event-test.true c.event-item.is c.loop-event.invariant
    (elim c.match-answer_in.branch [
      | in-Some+in_ok-answer w ↦ w.answer-is ∙ w.in_ok-answer.ensures.cases ∙ ap (λ (x : Option (List ℕ)). unwrap_or x c.loop-event.answer) w.in-Some.ensures
      | in_default w ↦ w.answer-is ∙ ap (λ (x : Option (List ℕ)). unwrap_or x c.loop-event.answer) w.in_default.ensures
    ])
