use Rattle.call_contexts.proofs.Names.{◌≡◌, ◌∙◌, ◌<◌, ◌++◌, ◌∷◌, suc, ap, arith, length, sym, take, drop, slice_index_or, remove, Twig}
use Rattle.call_contexts.proofs.Branches.{dropped_at, dropped_none, split_at}
use Rattle.call_contexts.proofs.twigs.Twigs.take.Goals as goal

pub returns-then-index-branch-clause-taken : goal.returns-then-index-branch-clause-taken
returns-then-index-branch-clause-taken c =
    let i = c.loop-index.index in
    let ts = c.args.self.now in
    let lt : i < length ts = omega (arith, c.loop-index-test.true, c.len-index-end.ensures, ap length c.self.view_is) in
    let its : c.remove.result ≡ slice_index_or ts i c.remove.result = c.remove.ensures.value ∙ ap (λ us. slice_index_or us i c.remove.result) c.loop-index.invariant.0 in
    record {
      front = take i ts;
      back = drop (suc i) ts;
      was = split_at i ts c.remove.result lt ∙ ap (λ t. take i ts ++ t ∷ drop (suc i) ts) (sym its);
      is = c.remove.ensures.items ∙ ap (λ us. remove us i) c.loop-index.invariant.0;
    }

pub returns-then-index-branch-clause-first : goal.returns-then-index-branch-clause-first
returns-then-index-branch-clause-first c =
    let i = c.loop-index.index in
    let ts = c.args.self.now in
    let lt : i < length ts = omega (arith, c.loop-index-test.true, c.len-index-end.ensures, ap length c.self.view_is) in
    let its : c.index.result.now ≡ slice_index_or ts i c.index.result.now = c.index.ensures ∙ ap (λ us. slice_index_or us i c.index.result.now) c.loop-index.invariant.0 in
    c.remove.ensures.items ∙ ap (λ us. remove us i) c.loop-index.invariant.0
    ∙ sym (dropped_at c.args.branch i ts c.index.result.now lt c.loop-index.invariant.1 (ap (λ (t : Twig). t.branch) (sym its) ∙ c.if-index-branch.true))

pub returns-clause-first : goal.returns-clause-first
returns-clause-first c =
    c.loop-index.invariant.0
    ∙ dropped_none c.args.branch c.args.self.now
    (λ j e low. c.loop-index.invariant.1 j e (omega (arith, low, c.loop-index-test.false, c.len-index-end.ensures, ap length c.self.view_is)))
