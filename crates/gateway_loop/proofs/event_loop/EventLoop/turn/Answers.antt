use Rattle.gateway_loop.proofs.Words.{ℕ, ◌≡◌, ◌∙◌, ◌+◌, [], List, ap, arith, length, subst, Admits, ContinuesLoop, Ready, WholeLoop, tell_all}
use Rattle.gateway_loop.proofs.AskLemmas.{admits_goes, admits_more, admits_on, goes_admits, ticked_on}
use Rattle.gateway_loop.proofs.TellLemmas.{continues_told, ticked_since, tells_no_moment}
use Rattle.gateway_loop.specs.Loop.{IsToldBeside}
use Rattle.gateway_loop.proofs.event_loop.EventLoop.turn.Goals as goal

pub returns-clause-continues : goal.returns-clause-continues
returns-clause-continues g c =
    let later = admits_more (length c.args.comings.now.streams.items) 0 [] c.args.comings.now.found.items _ _ _ c.admit_all.ensures.goes (admits_goes 0 c.args.comings.now.found.items _ _ _ c.take_found.ensures.goes c.serve.ensures.goes) in
    admits_on _ _ _ _ (goes_admits _ _ _ _ _ (rw c.begin_turn.ensures at c.note_reports.ensures.goes) (goes_admits _ _ _ _ _ c.tick.ensures.goes later))

pub returns-clause-reports : goal.returns-clause-reports
returns-clause-reports g c =
    let later = admits_more (length c.args.comings.now.streams.items) 0 [] c.args.comings.now.found.items _ _ _ c.admit_all.ensures.goes (admits_goes 0 c.args.comings.now.found.items _ _ _ c.take_found.ensures.goes c.serve.ensures.goes) in
    let noted = c.note_reports.new.self in
    continues_told (tell_all c.args.comings.now.ready.items c.args.self.now) noted c.serve.new.self
    (subst (λ (v : WholeLoop). IsToldBeside (tell_all c.args.comings.now.ready.items v) noted) c.begin_turn.ensures
    (subst (λ (l : List Ready). IsToldBeside (tell_all l c.begin_turn.new.self) noted) c.as_slice.ensures.value c.note_reports.ensures.exact))
    (admits_on _ _ _ _ (goes_admits _ _ _ _ _ c.tick.ensures.goes later))

pub returns-clause-accounts : goal.returns-clause-accounts
returns-clause-accounts g c =
    let later = admits_more (length c.args.comings.now.streams.items) 0 [] c.args.comings.now.found.items _ _ _ c.admit_all.ensures.goes (admits_goes 0 c.args.comings.now.found.items _ _ _ c.take_found.ensures.goes c.serve.ensures.goes) in
    let all = goes_admits _ _ _ _ _ (rw c.begin_turn.ensures at c.note_reports.ensures.goes) (goes_admits _ _ _ _ _ c.tick.ensures.goes later) in
    let none : length c.args.comings.now.streams.items + 0 ≡ length c.args.comings.now.streams.items = omega arith in
    (subst (λ (n : ℕ). Admits n c.args.comings.now.found.items (g.N.Network.value c.args.net.now) (g.N.Network.value c.serve.new.net) c.args.self.now c.serve.new.self) none all).accounts

pub returns-clause-ticks : goal.returns-clause-ticks
returns-clause-ticks g c =
    let later = admits_more (length c.args.comings.now.streams.items) 0 [] c.args.comings.now.found.items _ _ _ c.admit_all.ensures.goes (admits_goes 0 c.args.comings.now.found.items _ _ _ c.take_found.ensures.goes c.serve.ensures.goes) in
    let same : c.note_reports.new.self.side.told ≡ c.args.self.now.side.told =
    ap (λ (w : WholeLoop). w.side.told) c.note_reports.ensures.exact.rest ∙ tells_no_moment c.as_slice.result.now c.begin_turn.new.self ∙ ap (λ (w : WholeLoop). w.side.told) c.begin_turn.ensures in
    ticked_since c.args.self.now c.note_reports.new.self c.serve.new.self same
    (ticked_on c.note_reports.new.self c.tick.new.self c.serve.new.self c.tick.ensures.ticks (admits_on _ _ _ _ later))

pub returns-clause-drained : goal.returns-clause-drained
returns-clause-drained g c =
    let later = admits_more (length c.args.comings.now.streams.items) 0 [] c.args.comings.now.found.items _ _ _ c.admit_all.ensures.goes (admits_goes 0 c.args.comings.now.found.items _ _ _ c.take_found.ensures.goes c.serve.ensures.goes) in
    (goes_admits _ _ _ _ _ (rw c.begin_turn.ensures at c.note_reports.ensures.goes) (goes_admits _ _ _ _ _ c.tick.ensures.goes later)).drained
