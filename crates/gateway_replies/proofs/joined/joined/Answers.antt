use Rattle.gateway_replies.proofs.Names.{length, ap, ◌∙◌, length_answers}
use Rattle.gateway_replies.proofs.joined.joined.Goals as goal

pub join-requires : goal.join-requires
join-requires c =
    ap length (c.deref.ensures.value ∙ c.in_ok-answers.ensures)
    ∙ length_answers (length c.branches.result.now) c.args.events.now
    ∙ ap length c.branches.ensures.branches
