-- What a reader tells of the bytes that it has read, whose first request is whole or which are refused.
use Rattle.std.proofs.Common.{◌≡◌, ℕ, List, [], ◌∷◌, ap, subst}
use Rattle.http_pieces.specs.Reader.{Reading, ReaderValue, HasRead, HasReadTo, Partial, Waiting, Stopped, Done, ending_after, state_of}
use Rattle.http_pieces.specs.Request.{HttpRequest}
use Rattle.http_pieces.specs.Requests.{RefusedBy, Requests}
use Rattle.http_pieces.specs.declared.refusal.Refusal.{Refusal}
use Rattle.http_pieces.specs.declared.state.State.TheVariants as state

is_stopped : (r : Reading) (refusal : Refusal) → state_of r ≡ state.Refused refusal → r ≡ Stopped refusal
is_stopped (Partial left) refusal e = absurd (cc)
is_stopped (Waiting q) refusal e = absurd (cc)
is_stopped (Stopped x) refusal e = ap (λ z. Stopped z) (refusal_in e)
  where
    refusal_in : state.Refused x ≡ state.Refused refusal → x ≡ refusal
    refusal_in same = cc
is_stopped Done refusal e = absurd (cc)

-- a reader that is refused
pub refused_by : (v : ReaderValue) (bytes : List ℕ) (refusal : Refusal) → HasRead v bytes [] → state_of v.reading ≡ state.Refused refusal
    → Requests 0 bytes [] (RefusedBy refusal)
refused_by v bytes refusal has e = subst (λ r. HasReadTo r bytes []) (is_stopped v.reading refusal e) has.reads

-- a reader whose first request waits
pub asked_by : (v : ReaderValue) (bytes : List ℕ) (q : HttpRequest) → HasRead v bytes [] → v.reading ≡ Waiting q
    → Requests 0 bytes (q ∷ []) (ending_after q)
asked_by v bytes q has e = subst (λ r. HasReadTo r bytes []) e has.reads
