-- How the results of branches were seen, counted.
use Rattle.std.specs.Prelude.{ℕ, ◌^◌, min, Bool, true, false, List, filter, length}
use Rattle.gateway_model.specs.declared.seen.Seen.{Seen}
use Rattle.gateway_model.specs.declared.seen.Seen.TheVariants.{Counted, Late, Unknown}
use Rattle.gateway_theory.specs.declared.tally.Tally.{Tally}

abbrev pub is_counted : Seen → Bool
is_counted Counted = true
is_counted Late = false
is_counted Unknown = false

abbrev pub is_late : Seen → Bool
is_late Counted = false
is_late Late = true
is_late Unknown = false

abbrev pub is_unknown : Seen → Bool
is_unknown Counted = false
is_unknown Late = false
is_unknown Unknown = true

-- how many of these are so; no more is counted than that
abbrev pub most_counted : ℕ
most_counted = 2 ^ 62

abbrev pub count_of : (Seen → Bool) → List Seen → ℕ
count_of is_so seen = min (length (filter is_so seen)) most_counted

-- the tally of these answers
abbrev pub tally_of : List Seen → Tally
tally_of seen = record { counted = count_of is_counted seen; late = count_of is_late seen; unknown = count_of is_unknown seen }
