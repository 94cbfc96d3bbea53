use Rattle.std.proofs.Common.{◌-◌, ◌<◌, ◌≤◌, slice_index_or, ℕ}
use Rattle.admin.specs.declared.totals.TheConstants.{MOST_MILLISECONDS}
use Rattle.admin.proofs.totals.place_of_time.Given as goal

abbrev pub invariant-loop-place : goal.invariant-loop-place
invariant-loop-place l =
    (l.place ≤ 13) × ((i : ℕ) → i < l.place → slice_index_or MOST_MILLISECONDS i 0 < l.milliseconds)

abbrev pub decreases-loop-place : goal.decreases-loop-place
decreases-loop-place l = 13 - l.place
