-- Every text is cut, and has its requests. A head's grammar is a relation of its parser's, so what is shown is that there can't be none.
use Rattle.std.proofs.Common.{◌≡◌, ℕ, zero, suc, ◌<◌, ◌≤◌, Bool, true, false, List, [], ◌∷◌, length, take, drop, refl, sym, ap, ◌∙◌, subst, arith, ⊎_elim}
use Rattle.std.specs.Prelude.{MatchBool, nat_lt, if◌then◌else◌}
use Rattle.std.proofs.lemmas.Bool.{cases_lt}
use Rattle.std.proofs.lemmas.List.{take_all, length-append, length-take, length-drop}
use Rattle.http_pieces.specs.Cut.{Coded, Cut, Incomplete, Refused, Complete, Refusal, Body, Kind, IsBlock, EndsInEmptyLine, IsCut, IsCutText, without_block, without_head, with_head, cut_unblocked, cut_after, most_head, skip_pairs}
use Rattle.http_pieces.specs.Head.{request_kind}
use Rattle.http_pieces.specs.Request.{HttpRequest, closes}
use Rattle.http_pieces.specs.Requests.{StreamEnd, Open, RefusedBy, Closed, unfinished, broken, Requests}
use Rattle.http_pieces.specs.declared.refusal.Refusal.{Refusal as RequestRefusal}
use Rattle.http_pieces.proofs.Codings.{request_codings}
use Rattle.http_pieces.proofs.CutLemmas.{HasCodings, skip_shorter}

-- where no prefix is the block, none below the limit ends in an empty line
no_ending : (text : List ℕ) → ((n : ℕ) → IsBlock text n → ⊥) → (bound n : ℕ) → n < bound → n ≤ most_head → EndsInEmptyLine (take n text) → ⊥
no_ending text none zero n lt limit ends = absurd (omega arith)
no_ending text none (suc bound) n lt limit ends =
    ⊎_elim
    (λ (over : length text < n).
    let all : take n text ≡ take (length text) text = take_all n text (omega arith) ∙ sym (take_all (length text) text (omega arith)) in
    no_ending text none bound (length text) (omega arith) (omega arith) (rw all at ends))
    (λ (within : n ≤ length text).
    none n (record { within = within; limit = limit; ends = ends; shortest = λ m less. no_ending text none bound m (omega arith) (omega arith) }))
    (cases_lt (length text) n)

-- a text is cut into something
pub text_cut : {R V : Type 0} (kind : Kind R V) (text : List ℕ) → ((c : Cut R V) → IsCutText kind text c → ⊥) → ⊥
text_cut kind text none =
    none (cut_unblocked kind text)
    (without_block (λ n limit ends. no_ending text no_block (suc n) n (omega arith) limit ends) refl)
  where
    no_block : (n : ℕ) → IsBlock text n → ⊥
    no_block n b = none (Refused kind.no_head) (without_head n b (λ a h. none (cut_after a (drop n text)) (with_head n a b h refl)) refl)

pub any_cut : {R V : Type 0} (kind : Kind R V) (text : List ℕ) → ((c : Cut R V) → IsCut kind text c → ⊥) → ⊥
any_cut kind text none = text_cut kind (skip_pairs text) none

-- ---- what is behind a message is shorter

-- an empty line has four bytes
four : (text : List ℕ) (n : ℕ) → EndsInEmptyLine (take n text) → 4 ≤ length (take n text)
four text n ends = omega (arith, ap length ends.1, length-append ends.0 (13 ∷ 10 ∷ 13 ∷ 10 ∷ []))

not_unblocked : {R V : Type 0} (c : Cut R V) (q : V) (rest : List ℕ) (r : R) (b : Bool) → c ≡ Complete q rest → c ≡ (if b then Incomplete else Refused r) → ⊥
not_unblocked c q rest r true is e = cc
not_unblocked c q rest r false is e = cc

-- what is left behind the bytes of a body
rest_is : {R V : Type 0} (c : Cut R V) (q m : V) (rest left : List ℕ) (b : Bool) → c ≡ Complete q rest → c ≡ (if b then Incomplete else Complete m left) → rest ≡ left
rest_is c q m rest left true is e = absurd (cc)
rest_is c q m rest left false is e = cc

text_shorter : {R V : Type 0} (kind : Kind R V) → HasCodings kind → (text : List ℕ) (c : Cut R V) (q : V) (rest : List ℕ) → c ≡ Complete q rest → IsCutText kind text c
    → length rest < length text
text_shorter kind codings text c q rest is (without_block b e) = absurd (not_unblocked c q rest kind.too_large (nat_lt (length text) most_head) is e)
text_shorter kind codings text c q rest is (without_head n b none e) = absurd (cc)
text_shorter kind codings text c q rest is (with_head n (Refusal r) b h e) = absurd (cc)
text_shorter kind codings text c q rest is (with_head n (Body m message) b h e) =
    let same : rest ≡ drop m (drop n text) =
    rest_is c q (message (take m (drop n text))) rest (drop m (drop n text)) (nat_lt (length (drop n text)) m) is e in
    omega (arith, ap length same, length-drop m (drop n text), length-drop n text, four text n b.ends, length-take n text)
text_shorter kind codings text c q rest is (with_head n (Coded cut) b h e) =
    let within = (codings (take n text) cut h).within (drop n text) q rest (sym is ∙ e) in
    omega (arith, within, length-drop n text, four text n b.ends, length-take n text)

pub cut_shorter : {R V : Type 0} (kind : Kind R V) → HasCodings kind → (text : List ℕ) (q : V) (rest : List ℕ) → IsCut kind text (Complete q rest) → length rest < length text
cut_shorter kind codings text q rest cut = omega (arith, text_shorter kind codings (skip_pairs text) (Complete q rest) q rest refl cut, skip_shorter text)

-- ---- requests

abbrev nothing : List HttpRequest
nothing = []

-- no list of requests is that of the text
abbrev HasNone : ℕ → List ℕ → Type 0
HasNone k text = (given : List HttpRequest) (ending : StreamEnd) → Requests k text given ending → ⊥

requests_below : (bound k : ℕ) (text : List ℕ) → length text < bound → HasNone k text → ⊥
requests_below zero k text lt none = absurd (omega arith)
requests_below (suc bound) k text lt none =
    any_cut (request_kind k) text
    (by_cut (λ rest less others. requests_below bound (suc k) rest (omega (arith, lt, less)) others))
  where
    by_cut : ((rest : List ℕ) → length rest < length text → HasNone (suc k) rest → ⊥) → (c : Cut RequestRefusal HttpRequest) → IsCut (request_kind k) text c → ⊥
    by_cut more Incomplete cut = none [] (Open (skip_pairs text)) (unfinished cut refl)
    by_cut more (Refused r) cut = none [] (RefusedBy r) (broken r cut refl)
    by_cut more (Complete q rest) cut = by_closing (closes q) refl
      where
        by_closing : (b : Bool) → closes q ≡ b → ⊥
        by_closing true b_is =
            none (q ∷ []) Closed
            (rest, cut, subst (λ b. MatchBool b ((nothing ≡ []) × (Closed ≡ Closed)) (Requests (suc k) rest [] Closed)) (sym b_is) (refl, refl))
        by_closing false b_is =
            more rest (cut_shorter (request_kind k) (request_codings k) text q rest cut)
            (λ given ending requests. none (q ∷ given) ending
            (rest, cut, subst (λ b. MatchBool b ((given ≡ []) × (ending ≡ Closed)) (Requests (suc k) rest given ending)) (sym b_is) requests))

pub any_requests : (k : ℕ) (text : List ℕ) → HasNone k text → ⊥
any_requests k text none = requests_below (suc (length text)) k text (omega arith) none
