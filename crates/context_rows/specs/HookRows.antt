-- The hooks of the worked rows.
use Rattle.std.specs.Prelude.{true, false, List, [], ◌∷◌}
use Rattle.after_funcs.specs.Hooks.{Operation, AfterFunc}

-- hooks x (0) and y (1) on context 5, and z (2) on context 6
abbrev pub three : {H : Type 0} → H → H → H → List (Operation H)
three x y z = AfterFunc (6, 0) false z ∷ AfterFunc (5, 0) false y ∷ AfterFunc (5, 0) false x ∷ []

-- hook x (0) on context 5, and y (1) on context 6, which has ended
abbrev pub one_done : {H : Type 0} → H → H → List (Operation H)
one_done x y = AfterFunc (6, 0) true y ∷ AfterFunc (5, 0) false x ∷ []
