use Rattle.std.proofs.Common.{◌≡◌, ◌∙◌, sym, ap, arith}
use Rattle.error_document.proofs.Names.{first_from, first_from-zero, first_from-next, first_from-found, first_from-end}
use Rattle.error_document.proofs.code.Code.from_name.Goals as goal

pub loop-code-init : goal.loop-code-init
loop-code-init c = first_from-zero c.args.name.now

pub loop-code-preserved : goal.loop-code-preserved
loop-code-preserved c =
    c.loop-code.invariant ∙ first_from-next _ _ _ _ (omega arith) (c.as_bytes.ensures.value ∙ c.name.ensures) (sym c.eq.ensures ∙ c.if-eq.false)

pub returns-then-eq : goal.returns-then-eq
returns-then-eq c =
    sym (c.loop-code.invariant ∙ first_from-found _ _ _ _ (omega arith) (c.as_bytes.ensures.value ∙ c.name.ensures) (sym c.eq.ensures ∙ c.if-eq.true))

pub returns : goal.returns
returns c = let past : c.loop-code.code-index ≡ 16 = omega arith in sym (c.loop-code.invariant ∙ ap (first_from c.args.name.now) past ∙ first_from-end c.args.name.now)
