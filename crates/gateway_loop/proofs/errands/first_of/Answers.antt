use Rattle.gateway_loop.proofs.Words.{◌≡◌, ◌≤◌, ◌∙◌, ap, arith, length, rules, take}
use Rattle.std.specs.Prelude.{min}
use Rattle.std.proofs.lemmas.List.{take_all, take_min}
use Rattle.gateway_loop.proofs.errands.first_of.Goals as goal

pub returns : goal.returns
returns c =
    let xs = c.args.addresses.now in
    let some = take c.min.result xs in
    let end : length some ≤ c.loop-address.address-index = search rules in
    let turned : min (length xs) 32 ≡ min 32 (length xs) = omega arith in
    c.loop-address.invariant ∙ take_all c.loop-address.address-index some end ∙ ap (λ k. take k xs) (c.min.ensures ∙ turned) ∙ take_min 32 xs
