use Rattle.gateway_replies.proofs.Names.{more_answers}
use Rattle.gateway_replies.proofs.joined.answers_in.Goals as goal

pub loop-branch-preserved : goal.loop-branch-preserved
loop-branch-preserved c =
    more_answers c.loop-branch.branch c.args.events.now c.loop-branch.answers.items c.push.new.self.items c.in_ok-answer_of.field-0
    c.in_ok-push.ensures.items c.loop-branch.invariant c.in_ok-answer_of.ensures
