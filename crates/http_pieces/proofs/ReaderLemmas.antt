-- What each step of a reader has read.
use Rattle.std.proofs.Common.{◌≡◌, ℕ, ◌+◌, List, [], ◌∷◌, ◌++◌, length, refl, sym, subst, ◌∙◌, append-nil, zero-add}
use Rattle.http_pieces.specs.declared.refusal.Refusal.{Refusal}
use Rattle.http_pieces.specs.Cut.{Incomplete, Refused, Complete, skip_pairs, IsCut}
use Rattle.http_pieces.specs.Head.{request_kind}
use Rattle.http_pieces.specs.Request.{HttpRequest}
use Rattle.http_pieces.specs.Requests.{StreamEnd, Open, RefusedBy, Closed, unfinished, broken, Requests}
use Rattle.http_pieces.specs.Reader.{Reading, Partial, Waiting, Stopped, Done, ending_after, HasReadTo}
use Rattle.http_pieces.proofs.RequestsLemmas.{requests_more, requests_stay, requests_one}

-- what a reader has read, whatever it has looked at
pub record ReadsTo (taken : ℕ) (reading : Reading) (bytes : List ℕ) (given : List HttpRequest) : Type 0 where
  pub count : taken ≡ length given
  pub reads : HasReadTo reading bytes given

more_of : (n : ℕ) (left bytes more : List ℕ) (given requests : List HttpRequest) (ending : StreamEnd) → ReadsTo n (Partial left) bytes given
    → Requests n (left ++ more) requests ending → Requests 0 (bytes ++ more) (given ++ requests) ending
more_of n left bytes more given requests ending h later =
    let from : Requests (0 + length given) (left ++ more) requests ending = subst (λ k. Requests k (left ++ more) requests ending) (h.count ∙ sym (zero-add (length given))) later in
    requests_more 0 bytes given left h.reads more requests ending from

pub read_on : (n : ℕ) (left bytes more : List ℕ) (given : List HttpRequest) → IsCut (request_kind n) (left ++ more) Incomplete
    → ReadsTo n (Partial left) bytes given → ReadsTo n (Partial (skip_pairs (left ++ more))) (bytes ++ more) given
read_on n left bytes more given cut h = record {
  count = h.count;
  reads = rw append-nil at (more_of n left bytes more given [] (Open (skip_pairs (left ++ more))) h (unfinished cut refl));
}

pub read_refusal : (n : ℕ) (left bytes more : List ℕ) (given : List HttpRequest) (r : Refusal) → IsCut (request_kind n) (left ++ more) (Refused r)
    → ReadsTo n (Partial left) bytes given → ReadsTo n (Stopped r) (bytes ++ more) given
read_refusal n left bytes more given r cut h = record {
  count = h.count;
  reads = rw append-nil at (more_of n left bytes more given [] (RefusedBy r) h (broken r cut refl));
}

pub read_request : (n : ℕ) (left bytes more : List ℕ) (given : List HttpRequest) (q : HttpRequest) → IsCut (request_kind n) (left ++ more) (Complete q [])
    → ReadsTo n (Partial left) bytes given → ReadsTo n (Waiting q) (bytes ++ more) given
read_request n left bytes more given q cut h = record {
  count = h.count;
  reads = more_of n left bytes more given (q ∷ []) (ending_after q) h (requests_one n (left ++ more) q cut);
}

pub read_stopped : (n : ℕ) (bytes more : List ℕ) (given : List HttpRequest) (r : Refusal) → ReadsTo n (Stopped r) bytes given
    → ReadsTo n (Stopped r) (bytes ++ more) given
read_stopped n bytes more given r h = record { count = h.count; reads = requests_stay 0 bytes more given (RefusedBy r) tt h.reads }

pub read_done : (n : ℕ) (bytes more : List ℕ) (given : List HttpRequest) → ReadsTo n Done bytes given
    → ReadsTo n Done (bytes ++ more) given
read_done n bytes more given h = record { count = h.count; reads = requests_stay 0 bytes more given Closed tt h.reads }
