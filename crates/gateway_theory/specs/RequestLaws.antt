-- What is known of the requests of a text: the laws of the crate that cuts them.
use Rattle.std.specs.Prelude.{◌≡◌, ℕ, List, ◌++◌}
use Rattle.http_pieces.specs.declared.refusal.Refusal.{Refusal}
use Rattle.http_pieces.specs.Cut.{Complete, Cut, IsCut}
use Rattle.http_pieces.specs.Head.{request_kind}
use Rattle.http_pieces.specs.Request.{HttpRequest}
use Rattle.http_pieces.specs.Requests.{RefusedBy, Closed, StreamEnd, Requests}

-- a text is cut in one way and has one list of requests; more bytes change neither a request nor a stream that has ended
pub record RequestLaws : Type 0 where
  pub cut_unique : (k : ℕ) (text : List ℕ) (c d : Cut Refusal HttpRequest) → IsCut (request_kind k) text c → IsCut (request_kind k) text d → c ≡ d
  pub cut_stays : (k : ℕ) (text more : List ℕ) (q : HttpRequest) (rest : List ℕ) → IsCut (request_kind k) text (Complete q rest)
      → IsCut (request_kind k) (text ++ more) (Complete q (rest ++ more))
  pub unique : (k : ℕ) (text : List ℕ) (given other : List HttpRequest) (a b : StreamEnd) → Requests k text given a → Requests k text other b → (given ≡ other) × (a ≡ b)
  pub refused_stays : (k : ℕ) (text more : List ℕ) (given : List HttpRequest) (r : Refusal) → Requests k text given (RefusedBy r) → Requests k (text ++ more) given (RefusedBy r)
  pub closed_stays : (k : ℕ) (text more : List ℕ) (given : List HttpRequest) → Requests k text given Closed → Requests k (text ++ more) given Closed
