-- A text that ends with warnings has one.
use Rattle.std.proofs.Common.{◌≡◌, ◌≢◌, ℕ, List, [], ◌++◌, codes, inl, inr, sym, ap, ◌∙◌, append_assoc}
use Rattle.input_check.specs.Report.{AreWarnings, Warns}

pub warns : (old warnings new : List ℕ) → new ≡ old ++ warnings → AreWarnings warnings → warnings ≢ [] → Warns new
warns old warnings new is (inl none) some = absurd (some none)
warns old warnings new is (inr begun) some =
    (old, begun.0, is ∙ ap (λ w. old ++ w) begun.1 ∙ sym (append_assoc old (codes "warning: ") begun.0))
