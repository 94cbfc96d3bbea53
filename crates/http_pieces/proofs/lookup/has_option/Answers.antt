use Rattle.std.proofs.Common.{sym, ◌∙◌}
use Rattle.http_pieces.proofs.FieldLemmas.{has_option_found, has_option_left}
use Rattle.http_pieces.proofs.lookup.has_option.Goals as goal

pub returns-then-is_option : goal.returns-then-is_option
returns-then-is_option c =
    sym (c.options.invariant ∙ has_option_found _ _ _ c.next_option.result.1 c.next_option.ensures.parts (sym c.if-is_option.ensures))

pub options-preserved : goal.options-preserved
options-preserved c =
    c.options.invariant ∙ has_option_left _ _ _ c.next_option.result.1 c.in-Some.after c.next_option.ensures.parts (sym c.if-is_option.ensures) c.in-Some.is
