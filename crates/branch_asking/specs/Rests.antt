-- Whether nothing is left to be done for a job that is asked for.
use Rattle.std.specs.Prelude.{Bool, true, false, ◌&&◌, ◌||◌, not, nat_le, if◌then◌else◌, List, [], ◌∷◌, ℕ, length, is_some, Option, Some, None}
use Rattle.loop_model.specs.Asking.{AskingValue, got_for}
use Rattle.loop_model.specs.Requests.{request_of}
use Rattle.loop_model.specs.declared.manner.Manner.{Manner}
use Rattle.branch_asking.specs.Asking.{AskingState, AttemptValue, asked_for}

abbrev pub is_nil : List ℕ → Bool
is_nil [] = true
is_nil (byte ∷ bytes) = false

-- its stream is watched; it has nothing to read, or has not taken a byte; and where the request was not sent it is watched for room to
-- write, and takes no more
abbrev pub rests_watched : Bool → AttemptValue → Option (ℕ × Bool) → Bool
rests_watched sent x None = false
rests_watched sent x (Some w) = (not x.reads || not x.connected) && (sent || (w.1 && not x.writes))

-- .. while it has one; nothing is to be read or written else
abbrev pub rests_by : Bool → AttemptValue → Bool
rests_by sent x = if is_some x.stream then rests_watched sent x x.watched else not x.reads && not x.writes

-- where the request was sent if nothing is left of it
abbrev pub rests_over : AttemptValue → Bool
rests_over x = rests_by (is_nil x.exchange.left) x

-- as many bytes were written as its request has
abbrev pub is_sent : Manner → AskingValue → Bool
is_sent manner x = nat_le (length (request_of manner x.job)) (length (got_for x))

-- it has not ended, and its attempt rests
abbrev pub rests_asked : AskingState → Bool
rests_asked x = not (is_some x.end) && rests_by (is_sent x.manner (asked_for x)) x.attempt
