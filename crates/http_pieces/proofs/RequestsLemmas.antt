-- A text has one list of requests, and more bytes only add to it.
use Rattle.std.proofs.Common.{◌≡◌, ℕ, suc, ◌+◌, Bool, true, false, List, [], ◌∷◌, ◌++◌, length, refl, sym, ap, subst, ◌∙◌, arith, if◌then◌else◌, add-zero}
use Rattle.std.specs.Bool.{MatchBool}
use Rattle.http_pieces.specs.declared.refusal.Refusal.{Refusal}
use Rattle.http_pieces.specs.Cut.{Cut, Incomplete, Refused, Complete, skip_pairs, IsCut}
use Rattle.http_pieces.specs.Head.{request_kind}
use Rattle.http_pieces.specs.Request.{HttpRequest, closes}
use Rattle.http_pieces.specs.Requests.{StreamEnd, Open, RefusedBy, Closed, EndsAt, unfinished, broken, Requests}
use Rattle.http_pieces.specs.Reader.{ending_after}
use Rattle.http_pieces.specs.Layout.{request_single}
use Rattle.http_pieces.proofs.Codings.{request_codings}
use Rattle.http_pieces.proofs.CutLemmas.{skip_append, kind_unique, kind_complete_append, kind_refused_append, kind_empty}

-- ---- one cut

-- a text is cut in one way only
pub cut_unique : (k : ℕ) (text : List ℕ) (c d : Cut Refusal HttpRequest) → IsCut (request_kind k) text c → IsCut (request_kind k) text d → c ≡ d
cut_unique k = kind_unique (request_kind k) (request_single k)

-- a request stays as it was cut
pub cut_complete_append : (k : ℕ) (text more : List ℕ) (q : HttpRequest) (rest : List ℕ)
    → IsCut (request_kind k) text (Complete q rest) → IsCut (request_kind k) (text ++ more) (Complete q (rest ++ more))
cut_complete_append k = kind_complete_append (request_kind k) (request_codings k)

-- so does a refusal
pub cut_refused_append : (k : ℕ) (text more : List ℕ) (r : Refusal)
    → IsCut (request_kind k) text (Refused r) → IsCut (request_kind k) (text ++ more) (Refused r)
cut_refused_append k = kind_refused_append (request_kind k) (request_codings k)

-- ---- requests

-- texts that differ in the pairs that lead them alone have the same requests
pub requests_skip : (k : ℕ) (s t : List ℕ) → skip_pairs s ≡ skip_pairs t → (requests : List HttpRequest) (ending : StreamEnd) → Requests k s requests ending → Requests k t requests ending
requests_skip k s t e [] ending (unfinished cut is) = unfinished (rw (← e) cut) (is ∙ ap Open e)
requests_skip k s t e [] ending (broken r cut is) = broken r (rw (← e) cut) is
requests_skip k s t e (q ∷ requests) ending h = (h.0, rw (← e) h.1, h.2)

number_next : (k n : ℕ) → k + suc n ≡ suc k + n
number_next k n = omega arith

cons_same : (q p : HttpRequest) (xs ys : List HttpRequest) → q ≡ p → xs ≡ ys → q ∷ xs ≡ p ∷ ys
cons_same q p xs ys e f = cc

-- what more bytes add to the bytes left over, they add to the whole
pub requests_more : (k : ℕ) (s : List ℕ) (given : List HttpRequest) (left : List ℕ) → Requests k s given (Open left)
    → (more : List ℕ) (requests : List HttpRequest) (ending : StreamEnd) → Requests (k + length given) (left ++ more) requests ending → Requests k (s ++ more) (given ++ requests) ending
requests_more k s [] left (unfinished cut is) more requests ending h =
    let left_is : left ≡ skip_pairs s = cc in
    let same : skip_pairs (left ++ more) ≡ skip_pairs (s ++ more) = rw left_is (sym (skip_append s more)) in
    requests_skip k (left ++ more) (s ++ more) same requests ending (rw add-zero at h)
requests_more k s [] left (broken r cut is) more requests ending h = absurd (cc)
requests_more k s (q ∷ given) left h more requests ending later =
    let further : Requests (suc k + length given) (left ++ more) requests ending =
    subst (λ n. Requests n (left ++ more) requests ending) (number_next k (length given)) later in
    (h.0 ++ more, cut_complete_append k s more q h.0 h.1, by_close (λ next. requests_more (suc k) h.0 given left next more requests ending further) (closes q) h.2)
  where
    by_close : (Requests (suc k) h.0 given (Open left) → Requests (suc k) (h.0 ++ more) (given ++ requests) ending) → (t : Bool)
        → MatchBool t ((given ≡ []) × (Open left ≡ Closed)) (Requests (suc k) h.0 given (Open left))
        → MatchBool t ((given ++ requests ≡ []) × (ending ≡ Closed)) (Requests (suc k) (h.0 ++ more) (given ++ requests) ending)
    by_close go true last = absurd (let wrong : Open left ≡ Closed = last.1 in cc)
    by_close go false next = go next

-- what was refused or closed stays so
abbrev pub IsFinal : StreamEnd → Type 0
IsFinal (Open left) = ⊥
IsFinal (RefusedBy r) = Unit {0}
IsFinal Closed = Unit {0}

pub requests_stay : (k : ℕ) (s more : List ℕ) (given : List HttpRequest) (ending : StreamEnd) → IsFinal ending
    → Requests k s given ending → Requests k (s ++ more) given ending
requests_stay k s more [] ending final (unfinished cut is) = absurd (subst IsFinal is final)
requests_stay k s more [] ending final (broken r cut is) = broken r (cut_refused_append k s more r cut) is
requests_stay k s more (q ∷ given) ending final h =
    (h.0 ++ more, cut_complete_append k s more q h.0 h.1, by_close (λ next. requests_stay (suc k) h.0 more given ending final next) (closes q) h.2)
  where
    by_close : (Requests (suc k) h.0 given ending → Requests (suc k) (h.0 ++ more) given ending) → (t : Bool)
        → MatchBool t ((given ≡ []) × (ending ≡ Closed)) (Requests (suc k) h.0 given ending)
        → MatchBool t ((given ≡ []) × (ending ≡ Closed)) (Requests (suc k) (h.0 ++ more) given ending)
    by_close go true last = last
    by_close go false next = go next

-- nothing is cut off no bytes
pub cut_empty : (k : ℕ) → IsCut (request_kind k) [] Incomplete
cut_empty k = kind_empty (request_kind k)

-- one whole request
pub requests_one : (k : ℕ) (s : List ℕ) (q : HttpRequest) → IsCut (request_kind k) s (Complete q []) → Requests k s (q ∷ []) (ending_after q)
requests_one k s q cut = ([], cut, by_close (closes q))
  where
    by_close : (t : Bool) → MatchBool t ((◌≡◌ {A = List HttpRequest} [] []) × ((if t then Closed else Open []) ≡ Closed)) (EndsAt (suc k) [] (if t then Closed else Open []))
    by_close true = (refl, refl)
    by_close false = unfinished (cut_empty (suc k)) refl

-- a text has one list of requests
pub requests_unique : (k : ℕ) (s : List ℕ) (given other : List HttpRequest) (a b : StreamEnd) → Requests k s given a → Requests k s other b → (given ≡ other) × (a ≡ b)
requests_unique k s [] [] a b (unfinished cut is) (unfinished also too) = (refl, is ∙ sym too)
requests_unique k s [] [] a b (unfinished cut is) (broken r also too) = absurd (let e = cut_unique k s _ _ cut also in cc)
requests_unique k s [] [] a b (broken r cut is) (unfinished also too) = absurd (let e = cut_unique k s _ _ cut also in cc)
requests_unique k s [] [] a b (broken r cut is) (broken r' also too) =
    let e = cut_unique k s _ _ cut also in
    let same : r ≡ r' = cc in
    (refl, is ∙ ap RefusedBy same ∙ sym too)
requests_unique k s [] (p ∷ other) a b (unfinished cut is) h = absurd (let e = cut_unique k s _ _ cut h.1 in cc)
requests_unique k s [] (p ∷ other) a b (broken r cut is) h = absurd (let e = cut_unique k s _ _ cut h.1 in cc)
requests_unique k s (q ∷ given) [] a b h (unfinished cut is) = absurd (let e = cut_unique k s _ _ cut h.1 in cc)
requests_unique k s (q ∷ given) [] a b h (broken r cut is) = absurd (let e = cut_unique k s _ _ cut h.1 in cc)
requests_unique k s (q ∷ given) (p ∷ other) a b h g =
    let e = cut_unique k s _ _ h.1 g.1 in
    let same : q ≡ p = cc in
    let rests : g.0 ≡ h.0 = cc in
    let tail : MatchBool (closes q) ((other ≡ []) × (b ≡ Closed)) (Requests (suc k) h.0 other b) =
    subst (λ x. MatchBool (closes x) ((other ≡ []) × (b ≡ Closed)) (Requests (suc k) h.0 other b)) (sym same)
    (subst (λ x. MatchBool (closes p) ((other ≡ []) × (b ≡ Closed)) (Requests (suc k) x other b)) rests g.2) in
    let rest = by_close (λ x y. requests_unique (suc k) h.0 given other a b x y) (closes q) h.2 tail in
    (cons_same q p given other same rest.0, rest.1)
  where
    by_close : (Requests (suc k) h.0 given a → Requests (suc k) h.0 other b → (given ≡ other) × (a ≡ b)) → (t : Bool)
        → MatchBool t ((given ≡ []) × (a ≡ Closed)) (Requests (suc k) h.0 given a)
        → MatchBool t ((other ≡ []) × (b ≡ Closed)) (Requests (suc k) h.0 other b) → (given ≡ other) × (a ≡ b)
    by_close go true x y = (x.0 ∙ sym y.0, x.1 ∙ sym y.1)
    by_close go false x y = go x y
