use Rattle.std.proofs.Common.{tests}
use Rattle.std.proofs.lemmas.Iterator.Consumers.{YieldsList-from_first}
use Rattle.std.proofs.lemmas.Iterator.Search.{all_from_yields_List}
use Rattle.std.specs.Prelude.{◌&&◌}
use Rattle.gateway_loop.specs.Rests.{is_named, rests_asking}
use Rattle.gateway_loop.proofs.Words.{◌≡◌, ◌∙◌, ℕ, Bool, true, arith, subst, sym, entries, rules, AskingState, shown}
use Rattle.gateway_loop.proofs.RestLemmas.{all_asking, all_named, all_there, both_true}
use Rattle.gateway_loop.proofs.event_loop.EventLoop.all_exchanges_rest.Goals as goal

pub returns-clause-rests : goal.returns-clause-rests
returns-clause-rests g c =
    let i = c.self.inside in
    let s = shown i.clients.core in
    let rests : ℕ × AskingState → Bool = λ entry. rests_asking s c.args.until entry.0 entry.1 && is_named i.names entry.1 in
    let all = entries i.asking in
    let each = all_from_yields_List rests _ _ c.all.result c.all.ensures.ran (YieldsList-from_first (λ item. (item.0, item.1.now)) (λ rest. rest) all c.iter-asking.ensures.rest) (λ x b q k. search (rules, tests)) in
    rw (← c.self.view_is)
    (λ yes. all_asking i.manner s c.args.until i.asking.slots (λ j x is. (c.self.invariant.0.begun j x is).prefix) (λ j x is. (c.self.invariant.1 j x is).0) (λ j x is. (c.self.invariant.1 j x is).1) (λ j x is. subst (λ (n : ℕ). rests_asking s c.args.until n x ≡ true) (omega arith)
    (both_true _ _ (all_there rests 0 i.asking.slots (sym each ∙ yes) j x is)).0))

pub returns-clause-named : goal.returns-clause-named
returns-clause-named g c =
    let i = c.self.inside in
    let s = shown i.clients.core in
    let rests : ℕ × AskingState → Bool = λ entry. rests_asking s c.args.until entry.0 entry.1 && is_named i.names entry.1 in
    let all = entries i.asking in
    let each = all_from_yields_List rests _ _ c.all.result c.all.ensures.ran (YieldsList-from_first (λ item. (item.0, item.1.now)) (λ rest. rest) all c.iter-asking.ensures.rest) (λ x b q k. search (rules, tests)) in
    rw (← c.self.view_is)
    (λ yes. all_named i.names i.asking.slots (λ j x is. (both_true _ _ (all_there rests 0 i.asking.slots (sym each ∙ yes) j x is)).1))
