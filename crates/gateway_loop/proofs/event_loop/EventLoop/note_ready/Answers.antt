use Rattle.gateway_loop.proofs.AskLemmas.{goes_then}
use Rattle.gateway_loop.proofs.Words.{WholeLoop, subst, sym, tell}
use Rattle.gateway_loop.specs.Loop.{IsToldBeside}
use Rattle.gateway_loop.proofs.TellLemmas.{tell_on, told_closing, told_left, told_then}
use Rattle.gateway_loop.proofs.event_loop.EventLoop.note_ready.Goals as goal

pub returns-clause-exact : goal.returns-clause-exact
returns-clause-exact g c =
    let closed = c.close_ended-is_ended.new.self in
    let heard = c.hear_kept-is_heard.new.self in
    subst (λ (w : WholeLoop). IsToldBeside (tell c.args.ready c.args.self.now) w) (sym c.tell_ready.ensures.exact)
    (tell_on c.args.ready c.args.self.now heard
    (told_then c.args.self.now closed heard (told_closing c.args.self.now closed c.close_ended-is_ended.ensures.rest) (told_left closed heard c.hear_kept-is_heard.ensures.rest)))

pub returns-clause-goes : goal.returns-clause-goes
returns-clause-goes g c = goes_then _ _ _ c.close_ended-is_ended.ensures.goes (goes_then _ _ _ c.hear_kept-is_heard.ensures.goes (c.tell_ready.ensures.goes _))
