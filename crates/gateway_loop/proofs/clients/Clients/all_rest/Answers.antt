use Rattle.std.proofs.Common.{tests}
use Rattle.std.proofs.lemmas.Iterator.Consumers.{YieldsList-from_first}
use Rattle.std.proofs.lemmas.Iterator.Search.{all_from_yields_List}
use Rattle.gateway_loop.specs.Rests.{rests_client}
use Rattle.gateway_loop.proofs.Words.{◌≡◌, ◌∙◌, ℕ, Bool, true, arith, subst, sym, entries, rules, ClientValue, shown}
use Rattle.gateway_loop.proofs.RestLemmas.{all_there, client_rests}
use Rattle.gateway_loop.proofs.clients.Clients.all_rest.Goals as goal

pub returns : goal.returns
returns g c =
    let i = c.self.inside in
    let s = shown i.core in
    let rests : ℕ × ClientValue → Bool = λ entry. rests_client s c.args.until entry.0 entry.1 in
    let all = entries i.clients in
    let each = all_from_yields_List rests _ _ c.all.result c.all.ensures.ran (YieldsList-from_first (λ item. (item.0, item.1.now)) (λ rest. rest) all c.iter-clients.ensures.rest) (λ x b q k. search (rules, tests)) in
    rw (← c.self.view_is) (λ yes j x is. client_rests s c.args.until j x (subst (λ (n : ℕ). rests_client s c.args.until n x ≡ true) (omega arith) (all_there rests 0 i.clients.slots (sym each ∙ yes) j x is)))
