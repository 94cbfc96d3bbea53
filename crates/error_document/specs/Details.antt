-- When two details are the same: byte for byte.
use Rattle.std.specs.Prelude.{Bool, nat_eq}
use Rattle.std.specs.Cmp.{IsEquivalence, and_equiv}
use Rattle.std.specs.Cmp.Lexicographic.{pointwise, on_texts_equal}
use Rattle.std.specs.Ordering.{on, eq_of_both}
use Rattle.error_document.specs.declared.detail.Detail.{Detail}

abbrev pub same_detail : Detail → Detail → Bool
same_detail = eq_of_both (on (λ d. d.type_name) (pointwise nat_eq)) (on (λ d. d.value) (pointwise nat_eq))

pub same_detail-equiv : IsEquivalence same_detail
same_detail-equiv = and_equiv (on_texts_equal (λ d. d.type_name)) (on_texts_equal (λ d. d.value))
