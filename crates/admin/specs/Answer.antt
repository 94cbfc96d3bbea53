-- The replies at the address for operators, byte for byte. Each is the last of its connection.
use Rattle.std.specs.Prelude.{ℕ, List, ◌++◌, length, codes, decimal}
use Rattle.admin.specs.declared.answer.Readiness.{Readiness}
use Rattle.admin.specs.declared.answer.Readiness.TheVariants.{Ready, Full, Draining, Closed}

-- the figures, in Prometheus' text format
unfoldable pub metrics_reply : List ℕ → List ℕ
metrics_reply figures =
    codes "HTTP/1.1 200 OK\r\nContent-Type: text/plain; version=0.0.4; charset=utf-8\r\nContent-Length: " ++ decimal (length figures)
    ++ codes "\r\nConnection: close\r\n\r\n" ++ figures

-- a text, with a status and its phrase
unfoldable pub text_reply : List ℕ → List ℕ → List ℕ
text_reply status text =
    codes "HTTP/1.1 " ++ status ++ codes "\r\nContent-Type: text/plain; charset=utf-8\r\nContent-Length: " ++ decimal (length text)
    ++ codes "\r\nConnection: close\r\n\r\n" ++ text

-- 200 where a stream would be accepted
abbrev pub ready_reply : Readiness → List ℕ
ready_reply Ready = text_reply (codes "200 OK") (codes "ready")
ready_reply Full = text_reply (codes "503 Service Unavailable") (codes "full")
ready_reply Draining = text_reply (codes "503 Service Unavailable") (codes "draining")
ready_reply Closed = text_reply (codes "503 Service Unavailable") (codes "closed")

-- a drain that is asked for as a page of another origin, a form or a gateway's branch does
abbrev pub forbidden_reply : List ℕ
forbidden_reply =
    text_reply (codes "403 Forbidden") (codes "ask for it as curl -X POST does: without Origin, Connect-Protocol-Version and a form's Content-Type\n")

-- a request that names another host (RFC 9110, section 15.5.20)
abbrev pub misdirected_reply : List ℕ
misdirected_reply =
    text_reply (codes "421 Misdirected Request") (codes "name this host by its number, as localhost or as --admin does; --ready takes any name\n")

-- another method than GET, where that alone is allowed (RFC 9110, section 15.5.6)
abbrev pub only_get_reply : List ℕ
only_get_reply = codes "HTTP/1.1 405 Method Not Allowed\r\nAllow: GET\r\nContent-Length: 0\r\nConnection: close\r\n\r\n"
