-- The field `Connect-Timeout-Ms` (Connect protocol reference, "Unary-Request": milliseconds, as a positive integer of at most 10
-- digits; 0 is taken too, which is this project's choice).
use Rattle.std.specs.Prelude.{ℕ, List, [], ◌∷◌, Option, None, Some, Result, Ok, Err, min, decimal}
use Rattle.http_pieces.specs.Fields as fields
use Rattle.http_pieces.specs.declared.largest.TheConstants.{MAX_DECIMAL}
use Rattle.timeout_header.specs.declared.error.BadTimeout.{BadTimeout}

-- a value's number of milliseconds, where it is 1 to 10 digits
abbrev pub number_or_bad : Option ℕ → Result (Option ℕ) BadTimeout
number_or_bad (Some n) = Ok (Some n)
number_or_bad None = Err (record {})

-- what a request says by the values that it has under the name: nothing without the field, else the number of its one value of 1 to
-- 10 digits; all else is refused
abbrev pub timeout_of : List (List ℕ) → Result (Option ℕ) BadTimeout
timeout_of [] = Ok None
timeout_of (value ∷ []) = number_or_bad (fields.decimal value)
timeout_of (value ∷ other ∷ more) = Err (record {})

-- the decimal digits of a timeout, cut at the most that ten digits say
abbrev pub timeout_text : ℕ → List ℕ
timeout_text n = decimal (min n MAX_DECIMAL)
