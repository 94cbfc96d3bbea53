-- What a visitor of the address for operators asks for.
use Rattle.std.specs.Prelude.{◌≡◌, ℕ, List, [], ◌∷◌, ◌++◌, length, take, ◌==◌, Bool, if◌then◌else◌, Option, None, Some, bytes_eq, codes}
use Rattle.std.specs.Option.{option_map_or}
use Rattle.http_pieces.specs.Reader.{HasRead, ReaderValue, ending_after}
use Rattle.http_pieces.specs.Request.{HttpRequest}
use Rattle.http_pieces.specs.Requests.{RefusedBy, Requests}
use Rattle.http_pieces.specs.declared.refusal.Refusal.{Refusal}
use Rattle.connect_codec.specs.Path.{path_of}
use Rattle.admin.specs.Door.{is_named, may_drain}
use Rattle.admin.specs.declared.asked.Asked.{Asked}
use Rattle.admin.specs.declared.asked.Asked.TheVariants.{Metrics, Ready, Drain, Forbidden, Misdirected, OnlyGet, OnlyPost, NotFound, Refused}
use Rattle.admin.specs.declared.door.Door.{Door}
use Rattle.admin.specs.declared.door.Door.TheVariants.{Operators, Watchers}

-- what a method asks for where GET alone is allowed
abbrev pub only_get : List ℕ → Asked → Asked
only_get method asked = if bytes_eq method (codes "GET") then asked else OnlyGet

-- what is asked for at the path of the drain, which those who only watch don't have
abbrev pub drain_at : Door → HttpRequest → Asked
drain_at (Operators given) q = if bytes_eq q.method (codes "POST") then (if may_drain q.fields then Drain else Forbidden) else OnlyPost
drain_at Watchers q = NotFound

-- what a request asks for at that path
abbrev pub asked_at : Door → List ℕ → HttpRequest → Asked
asked_at door path q =
    if bytes_eq path (codes "/metrics") then only_get q.method Metrics else (
    if bytes_eq path (codes "/ready") then only_get q.method Ready else (
    if bytes_eq path (codes "/drain") then drain_at door q else
    NotFound))

abbrev pub asked_of : Door → HttpRequest → Asked
asked_of door q =
    if is_named door q.fields then option_map_or (λ path. asked_at door path q) (path_of q.target) NotFound else Misdirected

-- Of what came before and these first bytes of the piece, the first request is this one, or the stream is refused so.
pub data IsAskedBy (door : Door) (bytes piece : List ℕ) : Asked → Type 0 where
  ByRequest : (n : ℕ) (q : HttpRequest) → Requests 0 (bytes ++ take n piece) (q ∷ []) (ending_after q) → IsAskedBy door bytes piece (asked_of door q)
  ByRefusal : (n : ℕ) (r : Refusal) → Requests 0 (bytes ++ take n piece) [] (RefusedBy r) → IsAskedBy door bytes piece (Refused r)

-- what a piece brings at a door: something that is asked for, or nothing yet
abbrev pub Brings : Door → List ℕ → List ℕ → ReaderValue → Option Asked → Type 0
Brings door bytes piece reader None = HasRead reader (bytes ++ piece) []
Brings door bytes piece reader (Some asked) = IsAskedBy door bytes piece asked
