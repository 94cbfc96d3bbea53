-- The branches that start, and the jobs that they give.
use Rattle.std.specs.Prelude.{ℕ, ◌-◌, List, [], ◌∷◌, ◌++◌, map}
use Rattle.std.specs.List.{range_with_len}
use Rattle.std.specs.Option.{option_map_or}
use Rattle.gateway_model.specs.declared.id.CallId.{CallId}
use Rattle.gateway_model.specs.Job.{JobValue, job_of}
use Rattle.gateway_model.specs.Occurrence.{Occurrence, Comes, Result}
use Rattle.gateway_model.specs.Past.{Past, Mark, call, call_id, arrivals, now, started, mark_of, marked}

-- an occurrence, and the place of its event in the list of events
abbrev pub Placed : Type 0
Placed = ℕ × Occurrence

-- what occurred, without its places
abbrev pub occurrences : List Placed → List Occurrence
occurrences placed = map (λ o. o.1) placed

-- the branches of a call that start at this occurrence, in declared order
abbrev pub branches_started : CallId → Mark → Past → List ℕ
branches_started id m past = range_with_len (started id past) (started id (m ∷ past) - started id past)

-- their jobs, which start at the moment of this occurrence
abbrev pub jobs_started : CallId → Mark → Past → List JobValue
jobs_started id m past = option_map_or (λ c. map (λ i. job_of id i c (now past)) (branches_started id m past)) (call id (m ∷ past)) []

-- the jobs that start at this occurrence; only branches of the call that a request begins, or that a result is of, can start
abbrev pub jobs_by : Occurrence → Mark → Past → List JobValue
jobs_by (Comes conn e) m past = jobs_started (call_id conn (arrivals conn past)) m past
jobs_by (Result id i outcome) m past = jobs_started id m past
jobs_by _ m past = []

-- the jobs of all branches that have started by what occurred: in the order of what they started at, then of the branches
abbrev pub jobs : Past → List JobValue
jobs [] = []
jobs (m ∷ past) = jobs past ++ jobs_by m.what m past

-- by what occurred, newest first, the jobs of all branches that have started, each with the place of the event at which it did: in the
-- order of the events, then of the calls' requests, then of the branches
abbrev pub starts : List Placed → List (ℕ × JobValue)
starts [] = []
starts (o ∷ placed) =
    let past = marked (occurrences placed) in
    starts placed ++ map (λ job. (o.0, job)) (jobs_by o.1 (mark_of past o.1) past)
