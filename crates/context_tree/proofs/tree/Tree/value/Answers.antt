use Rattle.std.proofs.Common.{sym, ap, subst, ◌∙◌}
use Rattle.std.specs.Option.{option_copied}
use Rattle.std.specs.Result.{result_ok}
use Rattle.context_tree.specs.Tree.{StandsFor}
use Rattle.context_tree.proofs.Whole.{value_told}
use Rattle.context_tree.proofs.tree.Tree.value.Goals as goal

pub returns : goal.returns
returns g c = λ past stood.
    let found = c.ok_or.ensures.ok_part ∙ ap result_ok c.in_ok-_node.was in
    value_told _ past (subst (λ t. StandsFor t past) (sym c.self.view_is) stood) c.args.id c.in_ok-_node._node.now c.args.key (option_copied c.value.result)
    (sym (ap option_copied found) ∙ c.node.ensures) c.value.ensures
