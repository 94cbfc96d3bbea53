use Rattle.std.proofs.Common.{tests}
use Rattle.std.proofs.lemmas.Iterator.Consumers.{YieldsList-from_filter, YieldsList-from_first, count_from_yields_List}
use Rattle.std.proofs.lemmas.List.Sums.{length-filter}
use Rattle.gateway_loop.proofs.Words.{◌∙◌, entries, rules, ClientValue}
use Rattle.gateway_loop.proofs.GrowLemmas.{count_entries}
use Rattle.gateway_loop.proofs.clients.Clients.lingering.Goals as goal

pub returns : goal.returns
returns g c =
    let all = entries c.self.inside.clients in
    let counted = count_from_yields_List c.filter.result _ c.count.ensures.ran
    (YieldsList-from_filter _ (λ entry. entry.1.lingers) (YieldsList-from_first (λ item. (item.0, item.1.now)) (λ rest. rest) all (c.filter.ensures.source ∙ c.iter.ensures.rest)) c.filter.ensures.closure (λ x b q k. search (rules, tests))) in
    rw (← c.self.view_is) (counted ∙ length-filter (λ entry. entry.1.lingers) all ∙ count_entries (λ (x : ClientValue). x.lingers) 0 c.self.inside.clients.slots)
