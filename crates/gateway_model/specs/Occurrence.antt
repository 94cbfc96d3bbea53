-- What occurs to a gateway, where the bytes of its connections are already cut into requests. By events alone no connection breaks.
use Rattle.std.specs.Prelude.{ℕ}
use Rattle.http_pieces.specs.declared.refusal.Refusal.{Refusal}
use Rattle.http_pieces.specs.Request.{HttpRequest}
use Rattle.connect_codec.specs.declared.answer.Outcome.{Outcome}
use Rattle.gateway_model.specs.declared.id.CallId.{CallId}
use Rattle.gateway_model.specs.Arrival.{Arrival}

-- what comes on a connection's stream
pub data Coming : Type 0 where
  -- a request, and what it comes to by its verdict
  Request : HttpRequest → Arrival → Coming
  -- the stream's refusal, which ends it
  Refused : Refusal → Coming

pub data Occurrence : Type 0 where
  -- a connection is opened; connections count from 0
  Opening : Occurrence
  -- something comes on the stream of the connection of that number
  Comes : ℕ → Coming → Occurrence
  -- the peer of a connection hangs up
  HangUp : ℕ → Occurrence
  -- the moment is handed in, in milliseconds
  Moment : ℕ → Occurrence
  -- a branch of a call ends with that outcome
  Result : CallId → ℕ → Outcome → Occurrence
  -- the gateway is drained
  Drain : Occurrence
  -- a connection is closed
  Closing : ℕ → Occurrence
  -- want of memory breaks a connection
  Break : ℕ → Occurrence
