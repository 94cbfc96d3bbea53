use Rattle.gateway_connection.specs.lemmas.Names.{◌++◌, [], ◌∷◌, sym, ap, ◌∙◌, arith, nat_lt, map-range_with_len_more, ◌≡◌, map, range_with_len}
use Rattle.gateway_connection.proofs.ResultLemmas.{none_ok}
use Rattle.gateway_connection.proofs.begin.first_out.Goals as goal

pub loop-index-preserved : goal.loop-index-preserved
loop-index-preserved c =
    c.in_ok-push.ensures.items ∙ ap (λ xs. xs ++ nat_lt c.loop-index.index c.args.first ∷ []) c.loop-index.invariant
    ∙ sym (map-range_with_len_more (λ i. nat_lt i c.args.first) 0 c.loop-index.index c.loop-index.index (omega arith))

pub returns-in_err-push : goal.returns-in_err-push
returns-in_err-push c = none_ok _ _ c.from_residual.result c.from_residual.ensures.1

pub returns : goal.returns
returns c =
    let all : c.loop-index.index ≡ c.args.count = omega arith in
    c.loop-index.invariant ∙ ap (λ n. map (λ i. nat_lt i c.args.first) (range_with_len 0 n)) all

pub loop-index-init : goal.loop-index-init
loop-index-init c = c.new-out.ensures.items
