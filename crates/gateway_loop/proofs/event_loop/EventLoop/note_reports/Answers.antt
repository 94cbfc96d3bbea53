use Rattle.gateway_loop.proofs.Words.{List, Ready, WholeLoop, subst, sym, tell, tell_all, ap, ◌∙◌}
use Rattle.gateway_loop.specs.Loop.{IsToldBeside}
use Rattle.std.specs.Prelude.{false, slice_index_or, take}
use Rattle.std.proofs.lemmas.List.{take_more}
use Rattle.gateway_loop.proofs.AskLemmas.{goes_same, goes_then}
use Rattle.gateway_loop.proofs.TellLemmas.{tell_more, tell_on, told_self, told_then}
use Rattle.gateway_loop.proofs.event_loop.EventLoop.note_reports.Goals as goal

abbrev nobodys : Ready
nobodys = record { token = 0; readable = false; writable = false; read_closed = false; urgent = false }

pub loop-ready-init : goal.loop-ready-init
loop-ready-init g c = (told_self c.args.self.now, goes_same _)

pub loop-ready-preserved : goal.loop-ready-preserved
loop-ready-preserved g c =
    let index = c.loop-ready.ready-index in
    let reports = c.args.reports.now in
    let item = slice_index_or reports index nobodys in
    let before = c.loop-ready.invariant in
    let told = tell_all (take index reports) c.args.self.now in (
      subst (λ (w : WholeLoop). IsToldBeside w c.note_ready.new.self)
          (sym (tell_more (take index reports) item c.args.self.now) ∙ ap (λ (l : List Ready). tell_all l c.args.self.now) (sym (take_more reports index nobodys c.loop-ready-test.true)))
          (told_then (tell item told) (tell item c.loop-ready.self) c.note_ready.new.self (tell_on item told c.loop-ready.self before.0) c.note_ready.ensures.exact),
      goes_then _ _ _ before.1 c.note_ready.ensures.goes,
    )
