use Rattle.gateway_loop.proofs.Words.{◌≡◌, ◌+◌, ℕ, [], List, ap, arith, length, rules, subst, sym, Admits}
use Rattle.gateway_loop.proofs.AskLemmas.{admits_more, admits_none}
use Rattle.gateway_loop.proofs.event_loop.EventLoop.admit_all.Goals as goal

pub loop-dealt-init : goal.loop-dealt-init
loop-dealt-init g c = (0, admits_none _, omega arith)

pub loop-dealt-preserved : goal.loop-dealt-preserved
loop-dealt-preserved g c =
    let done = c.loop-dealt.invariant.0 in
    let some = ap (λ (items : List _). length items) c.in-Some.ensures.items in (done + 1, admits_more done 1 [] [] _ _ _ c.loop-dealt.invariant.1 c.admit.ensures.goes, omega (arith, c.loop-dealt.invariant.2, some))

pub returns-clause-goes : goal.returns-clause-goes
returns-clause-goes g c =
    let done = c.loop-dealt.invariant.0 in
    let none : c.loop-dealt.streams.items ≡ [] = search rules in
    let all : length c.args.streams.now.items ≡ done = omega (arith, c.loop-dealt.invariant.2, ap (λ (items : List _). length items) none) in
    subst (λ (n : ℕ). Admits n [] (g.N.Network.value c.args.net.now) (g.N.Network.value c.loop-dealt.net) c.args.self.now c.loop-dealt.self) (sym all) c.loop-dealt.invariant.1
