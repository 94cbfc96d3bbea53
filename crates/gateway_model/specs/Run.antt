-- What a run comes to: the openings that succeeded, what is queued for each connection, and what starts.
use Rattle.std.specs.Prelude.{◌≡◌, ℕ, ◌<◌, Bool, ◌==◌, List, [], length, map, reverse, slice_index_or}
use Rattle.std.specs.List.{flat_map, list_any}
use Rattle.gateway_model.specs.declared.entry.ReplyEntry.{ReplyEntry}
use Rattle.gateway_model.specs.Breaks.{BreakAsTheyMay, InOrder, by_events}
use Rattle.gateway_model.specs.Events.{Before}
use Rattle.gateway_model.specs.declared.event.Event.{Event}
use Rattle.gateway_model.specs.Job.{JobValue}
use Rattle.gateway_model.specs.Past.{is_broken, marked}
use Rattle.gateway_model.specs.Queue.{answer_of, queued}
use Rattle.gateway_model.specs.Starts.{Placed, occurrences, starts}
use Rattle.gateway_model.specs.declared.run.Start.{Start}

-- these events, newest first
abbrev pub newest_first : List Event → Before
newest_first events = reverse events

-- the number is in the list
abbrev pub is_listed : ℕ → List ℕ → Bool
is_listed n ns = list_any (λ m. m == n) ns

-- ---- what is queued

-- the bytes that answer these entries, one answer behind another
abbrev pub bytes_of : List ReplyEntry → List ℕ
bytes_of entries = flat_map (λ reply. reply.bytes) (map answer_of entries)

-- ---- what starts

-- the start of a job's branch, at the event of its place
abbrev pub run_start : ℕ × JobValue → Start
run_start s = record { event = s.0; conn = s.1.call.conn; request = s.1.call.request; branch = s.1.branch }

-- all starts by what occurred
abbrev pub starts_of : List Placed → List Start
starts_of placed = map run_start (starts placed)

-- the start is of a call of that connection
abbrev pub is_start_of : ℕ → Start → Bool
is_start_of c s = s.conn == c

-- ---- where connections broke

-- what a run comes to: all of it is by what occurred and by where connections broke
pub record IsLived (opened : List ℕ) (bytes : List (List ℕ)) (begun : List Start) (asked : List JobValue) (broken : List ℕ) (es : Before) (occurred lived : List Placed) : Type 0 where
  pub same : by_events lived ≡ occurred
  pub in_order : InOrder (length es) lived
  pub breaks : BreakAsTheyMay opened es lived
  pub broken_are : (c : ℕ) → is_listed c broken ≡ is_broken c (marked (occurrences lived))
  pub queued_are : (c : ℕ) → c < length opened → slice_index_or bytes c [] ≡ queued c (marked (occurrences lived))
  pub starts_are : begun ≡ starts_of lived
  pub jobs_are : asked ≡ map (λ s. s.1) (starts lived)
