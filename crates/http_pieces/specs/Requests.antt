-- The requests of a text: it is cut again and again until nothing more comes of it.
use Rattle.std.specs.Prelude.{◌≡◌, ℕ, suc, List, [], ◌∷◌, MatchBool}
use Rattle.http_pieces.specs.declared.refusal.Refusal.{Refusal}
use Rattle.http_pieces.specs.Cut.{Incomplete, Refused, Complete, IsCut, skip_pairs}
use Rattle.http_pieces.specs.Head.{request_kind}
use Rattle.http_pieces.specs.Request.{HttpRequest, closes}

-- where the requests of a text end
pub data StreamEnd : Type 0 where
  -- these bytes are left over, which are no whole request; CR LF pairs that lead them are not counted
  Open : List ℕ → StreamEnd
  -- what follows was refused
  RefusedBy : Refusal → StreamEnd
  -- the last request closes, and what follows it is ignored
  Closed : StreamEnd

-- a text that is cut into no request ends so
pub data EndsAt (k : ℕ) (text : List ℕ) (ending : StreamEnd) : Type 0 where
  unfinished : IsCut (request_kind k) text Incomplete → ending ≡ Open (skip_pairs text) → EndsAt k text ending
  broken : (r : Refusal) → IsCut (request_kind k) text (Refused r) → ending ≡ RefusedBy r → EndsAt k text ending

-- the text, whose first request is number k, has these requests and ends so
abbrev pub Requests : ℕ → List ℕ → List HttpRequest → StreamEnd → Type 0
Requests k text [] ending = EndsAt k text ending
Requests k text (q ∷ requests) ending =
    (rest : List ℕ) × IsCut (request_kind k) text (Complete q rest)
    × MatchBool (closes q) ((requests ≡ []) × (ending ≡ Closed)) (Requests (suc k) rest requests ending)
