-- A request as its readers see it (RFC 9112, sections 3, 5, 6 and 9).
use Rattle.std.specs.Prelude.{ℕ, ◌+◌, Bool, true, false, ◌||◌, ◌==◌, List, map, drop}
use Rattle.httparse.specs.declared.spans.Span.{Span}
use Rattle.httparse.specs.declared.spans.HeaderSpan.{HeaderSpan}
use Rattle.httparse.specs.Spans.{span_bytes, header_bytes}
use Rattle.http_pieces.specs.declared.version.Version.{Version}
use Rattle.http_pieces.specs.declared.version.Version.TheVariants.{V10, V11}
use Rattle.http_pieces.specs.Fields.{NamedValue, asks_to_close}

-- method, target, version, fields in order, body, and the request's place among those of its
-- connection, from 0
pub record HttpRequest : Type 0 where
  pub method : List ℕ
  pub target : List ℕ
  pub version : Version
  pub fields : List NamedValue
  pub body : List ℕ
  pub number : ℕ

abbrev pub is_v10 : Version → Bool
is_v10 V10 = true
is_v10 V11 = false

-- a connection takes this many requests (this project's choice)
abbrev pub most_requests : ℕ
most_requests = 100

-- after this request no other is read: it is of HTTP/1.0, it asks for the close, or it is the connection's 100th
abbrev pub closes : HttpRequest → Bool
closes q = is_v10 q.version || asks_to_close q.fields || (q.number + 1 == most_requests)

-- the request whose parts are covered by the spans of these bytes, and whose body begins at `body`
abbrev pub request_at : List ℕ → Span → Span → Version → List HeaderSpan → ℕ → ℕ → HttpRequest
request_at bytes method target version headers body number = record {
  method = span_bytes bytes method;
  target = span_bytes bytes target;
  version = version;
  fields = map (header_bytes bytes) headers;
  body = drop body bytes;
  number = number;
}
