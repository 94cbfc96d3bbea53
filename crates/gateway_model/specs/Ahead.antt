-- What is still to come of connections and of their calls.
use Rattle.std.specs.Prelude.{◌≡◌, ℕ, Bool, true, false, ◌==◌, if◌then◌else◌, List, length, map, MatchBool, Option, None, option_and_then}
use Rattle.std.specs.List.{list_any, range_with_len}
use Rattle.http_pieces.specs.Request.{HttpRequest}
use Rattle.http_pieces.specs.Requests.{StreamEnd, Open, RefusedBy, Closed, Requests}
use Rattle.gateway_model.specs.Concerns.{concerns}
use Rattle.gateway_model.specs.Events.{Before, hung_up, stream}
use Rattle.gateway_model.specs.Occurrence.{Moment}
use Rattle.gateway_model.specs.Past.{ArrivedCall, Past, arrivals, call, call_id, can_be_decided, deadlines_out, least_of, smaller}
use Rattle.gateway_model.specs.Queue.{queued_entries}
use Rattle.gateway_model.specs.declared.id.CallId.{CallId}

-- ---- a connection

-- no request follows those of the text
abbrev pub is_final : StreamEnd → Bool
is_final (Open left) = false
is_final (RefusedBy r) = true
is_final Closed = true

-- whether the connection's stream brings no more: its peer hung up, or no request follows those that its whole text is cut into
abbrev pub BringsNoMore : List ℕ → ℕ → Before → Bool → Type 0
BringsNoMore opened conn events over =
    MatchBool (hung_up opened conn events) (over ≡ true)
    ((given : List HttpRequest) × (ending : StreamEnd) × Requests 0 (stream opened conn events) given ending × (over ≡ is_final ending))

-- as many replies are queued as requests came
abbrev pub are_answered : ℕ → Past → Bool
are_answered conn past = length (queued_entries conn past) == arrivals conn past

-- ---- deadlines

-- the least deadline of the call and of its branches that are out, while it can be decided
abbrev pub deadline_of : CallId → Past → Option ℕ
deadline_of id past =
    if can_be_decided id past then option_and_then (λ (c : ArrivedCall). smaller c.deadline (least_of (deadlines_out id c.plan past))) (call id past) else None

-- of all calls of the connection
abbrev pub conn_deadline : ℕ → Past → Option ℕ
conn_deadline conn past = least_of (map (λ k. deadline_of (call_id conn k) past) (range_with_len 0 (arrivals conn past)))

-- of all connections, where so many were opened
abbrev pub least_deadline : ℕ → Past → Option ℕ
least_deadline count past = least_of (map (λ c. conn_deadline c past) (range_with_len 0 count))

-- the moment, if it comes next, decides a call of one of them
abbrev pub ends_calls : ℕ → ℕ → Past → Bool
ends_calls count moment past = list_any (λ c. concerns c (Moment moment) past) (range_with_len 0 count)
