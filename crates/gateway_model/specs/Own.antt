-- What of all that occurs is visible to one connection, and what occurs where no connection breaks.
use Rattle.std.specs.Prelude.{ℕ, Bool, true, false, ◌==◌, not, filter, List}
use Rattle.gateway_model.specs.Occurrence.{Occurrence, Opening, Comes, HangUp, Moment, Result, Drain, Closing, Break}

-- it is a moment, the drain, or of that connection
abbrev pub is_visible : ℕ → Occurrence → Bool
is_visible c Opening = false
is_visible c (Comes d x) = d == c
is_visible c (HangUp d) = d == c
is_visible c (Moment m) = true
is_visible c (Result id i outcome) = id.conn == c
is_visible c Drain = true
is_visible c (Closing d) = d == c
is_visible c (Break d) = d == c

-- what occurred that is visible to it
abbrev pub own : ℕ → List Occurrence → List Occurrence
own c os = filter (is_visible c) os

abbrev pub is_break : Occurrence → Bool
is_break (Break c) = true
is_break o = false

-- the same, and no connection breaks
abbrev pub without_breaks : List Occurrence → List Occurrence
without_breaks os = filter (λ o. not (is_break o)) os
