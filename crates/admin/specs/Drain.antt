-- The stages of a drain. Moments and times are in milliseconds; ◌-◌ stops at 0.
use Rattle.std.specs.Prelude.{ℕ, ◌-◌, nat_lt, if◌then◌else◌, Option, None, Some, min}
use Rattle.std.specs.Option.{option_map_or, unwrap_or}
use Rattle.admin.specs.declared.drain.Stage.{Stage}
use Rattle.admin.specs.declared.drain.Stage.TheVariants.{Serves, Accepts, Closes, Ends, Cuts}

-- how long streams are still accepted, how long calls go on once nobody listens, when it was asked for, and since when nobody listens
pub record DrainValue : Type 0 where
  pub after : ℕ
  pub grace : ℕ
  pub begun : Option ℕ
  pub closed : Option ℕ

abbrev pub drain_value : ℕ → ℕ → Option ℕ → Option ℕ → DrainValue
drain_value after grace begun closed = record { after = after; grace = grace; begun = begun; closed = closed }

-- of several moments the first
abbrev pub first_of : Option ℕ → ℕ → Option ℕ
first_of None moment = Some moment
first_of (Some first) moment = Some first

-- so long nobody listens, and it was asked for longer ago than streams are still accepted
abbrev pub waited : DrainValue → ℕ → ℕ → ℕ → ℕ
waited d begun closed moment = min ((moment - begun) - d.after) (moment - closed)

-- once it was asked for, and nobody listens: calls go on for the time of grace; the replies of those that were left are written for two seconds
abbrev pub late_stage : ℕ → ℕ → Stage
late_stage grace waited = if nat_lt waited grace then Closes else (if nat_lt (waited - grace) 2000 then Ends else Cuts)

abbrev pub stage_since : DrainValue → ℕ → ℕ → Stage
stage_since d moment begun =
    if nat_lt (moment - begun) d.after then Accepts else
    option_map_or (λ closed. late_stage d.grace (waited d begun closed moment)) d.closed Closes

-- the stage at that moment
abbrev pub stage_of : DrainValue → ℕ → Stage
stage_of d moment = option_map_or (stage_since d moment) d.begun Serves

abbrev pub late_time_left : ℕ → ℕ → Option ℕ
late_time_left grace waited =
    if nat_lt waited grace then Some (grace - waited) else (if nat_lt (waited - grace) 2000 then Some (2000 - (waited - grace)) else None)

abbrev pub time_left_since : DrainValue → ℕ → ℕ → Option ℕ
time_left_since d moment begun =
    if nat_lt (moment - begun) d.after then Some (d.after - (moment - begun)) else
    option_map_or (λ closed. late_time_left d.grace (waited d begun closed moment)) d.closed None

-- how long after that moment the next stage begins, if one does by itself
abbrev pub time_left : DrainValue → ℕ → Option ℕ
time_left d moment = option_map_or (time_left_since d moment) d.begun None
