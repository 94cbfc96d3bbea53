use Rattle.std.proofs.Common.{[], ◌∷◌, arith, inl, inr, refl}
use Rattle.loop_model.specs.Found.{found_value}
use Rattle.loop_rows.proofs.rows_of_names.addresses_of_a_name.Goals as goal

pub returns-clause-none : goal.returns-clause-none
returns-clause-none c name = inl refl

pub returns-clause-both : goal.returns-clause-both
returns-clause-both c name a b = inr record { one = found_value name (a ∷ b ∷ []); there = (0, omega arith, refl); its_name = refl; first = refl }
