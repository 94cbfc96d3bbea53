use Rattle.gateway_loop.proofs.Words.{◌≡◌, ◌∙◌, ◌∷◌, ◌++◌, [], List, ap, append-nil, append_assoc, refl, rules, subst, sym, Admits, FoundValue}
use Rattle.gateway_loop.proofs.AskLemmas.{admits_more, admits_none}
use Rattle.gateway_loop.proofs.event_loop.EventLoop.take_found.Goals as goal

pub loop-looked_up-init : goal.loop-looked_up-init
loop-looked_up-init g c = ([], admits_none _, refl)

pub loop-looked_up-preserved : goal.loop-looked_up-preserved
loop-looked_up-preserved g c =
    let done = c.loop-looked_up.invariant.0 in (
      done ++ c.in-Some.looked_up ∷ [],
      admits_more 0 0 done (c.in-Some.looked_up ∷ []) _ _ _ c.loop-looked_up.invariant.1 c.take_name.ensures.goes,
      c.loop-looked_up.invariant.2 ∙ ap (λ (l : List FoundValue). done ++ l) c.in-Some.ensures.items ∙ sym (append_assoc done (c.in-Some.looked_up ∷ []) c.pop_front.new.self.items),
    )

pub returns-clause-goes : goal.returns-clause-goes
returns-clause-goes g c =
    let done = c.loop-looked_up.invariant.0 in
    let none : c.loop-looked_up.found.items ≡ [] = search rules in
    let all : c.args.found.now.items ≡ done = c.loop-looked_up.invariant.2 ∙ ap (λ (l : List FoundValue). done ++ l) none ∙ append-nil done in
    subst (λ (l : List FoundValue). Admits 0 l (g.N.Network.value c.args.net.now) (g.N.Network.value c.loop-looked_up.net) c.args.self.now c.loop-looked_up.self) (sym all) c.loop-looked_up.invariant.1
