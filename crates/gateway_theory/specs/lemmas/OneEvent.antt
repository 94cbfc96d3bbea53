-- One event more, and one more opening that succeeds behind some events.
use Rattle.std.specs.Prelude.{◌≡◌, ◌<◌, ◌∷◌, ◌++◌, ◌≤◌}
use Rattle.gateway_theory.specs.lemmas.Names.{ℕ, true, false, List, [], length, refl, arith, nat_tests, not, lt-ltb, eq-eqb, and_left, Event, Piece, Before, connections, hung_up, is_closing_of, is_open, listens, stream, succeeds, ap, ◌∙◌, open_connections, count_below}
use Rattle.std.proofs.Math.Bool.{and-true, or-false}
use Rattle.gateway_model.specs.declared.event.Event.TheVariants.{Opening, HangUp, Closing}
use Rattle.gateway_theory.specs.lemmas.Cases.{and_false, or_true}
use Rattle.gateway_theory.specs.lemmas.ServedOpens.{unopened_shut as unborn_open, unopened_hung as unborn_hung, unopened_text as unborn_stream, grown}
use Rattle.gateway_theory.specs.lemmas.CutLemmas.{IsSame, same_before}
use Rattle.gateway_theory.specs.lemmas.SlotLemmas.{count_same}

-- ---- a connection that was opened before

pub kept_open : (opened : List ℕ) (c : ℕ) (e : Event) (es : Before) → c < connections opened es → is_closing_of c e ≡ false
    → is_open opened c (e ∷ es) ≡ is_open opened c es
kept_open opened c e es lt stays = rw (lt-ltb c (connections opened es) lt, stays) (and-true (is_open opened c es))

pub now_hung : (opened : List ℕ) (c : ℕ) (es : Before) → is_open opened c es ≡ true → hung_up opened c (HangUp c ∷ es) ≡ true
now_hung opened c es is = rw (is, eq-eqb c c refl) (or_true (hung_up opened c es))

pub deaf_stream : (opened : List ℕ) (c : ℕ) (e : Event) (es : Before) → listens opened c es ≡ false → stream opened c (e ∷ es) ≡ stream opened c es
deaf_stream opened c e es deaf = rw deaf refl

pub more_stream : (opened : List ℕ) (c : ℕ) (bytes : List ℕ) (es : Before) → listens opened c es ≡ true
    → stream opened c (Piece c bytes ∷ es) ≡ stream opened c es ++ bytes
more_stream opened c bytes es on = rw (on, eq-eqb c c refl) refl

pub shut_open : (opened : List ℕ) (c : ℕ) (es : Before) → c < connections opened es → is_open opened c (Closing c ∷ es) ≡ false
shut_open opened c es lt = rw (lt-ltb c (connections opened es) lt, eq-eqb c c refl) (and_false (is_open opened c es))

pub stays_shut : (opened : List ℕ) (c : ℕ) (e : Event) (es : Before) → c < connections opened es → is_open opened c es ≡ false
    → is_open opened c (e ∷ es) ≡ false
stays_shut opened c e es lt shut = rw (lt-ltb c (connections opened es) lt, shut) refl

pub shut_deaf : (opened : List ℕ) (c : ℕ) (es : Before) → is_open opened c es ≡ false → listens opened c es ≡ false
shut_deaf opened c es shut = and_left (is_open opened c es) (not (hung_up opened c es)) shut

pub shut_hung : (opened : List ℕ) (c : ℕ) (e : Event) (es : Before) → is_open opened c es ≡ false → hung_up opened c (e ∷ es) ≡ hung_up opened c es
shut_hung opened c e es shut = rw shut (or-false (hung_up opened c es))

-- ---- one that opens

pub born_hung : (opened : List ℕ) (es : Before) → hung_up opened (connections opened es) (Opening ∷ es) ≡ false
born_hung opened es = grind (arith, nat_tests, shut_hung, unborn_open, unborn_hung)

pub born_open : (opened : List ℕ) (es : Before) → succeeds opened (length es) ≡ true → is_open opened (connections opened es) (Opening ∷ es) ≡ true
born_open opened es succeeds_here = grind arith

pub born_stream : (opened : List ℕ) (es : Before) → stream opened (connections opened es) (Opening ∷ es) ≡ []
born_stream opened es = grind (arith, nat_tests, deaf_stream, shut_deaf, unborn_open, unborn_stream)

pub same_openings : (opened : List ℕ) (place : ℕ) (es : Before) → ((other : ℕ) → succeeds opened other ≡ true → other < place) → length es ≤ place
    → IsSame opened (opened ++ place ∷ []) es es
same_openings opened place es below le = same_before opened (opened ++ place ∷ []) place es le (grown opened place below)

pub same_count : (opened : List ℕ) (place : ℕ) (es : Before) → ((other : ℕ) → succeeds opened other ≡ true → other < place) → length es ≤ place
    → open_connections (opened ++ place ∷ []) es ≡ open_connections opened es
same_count opened place es below le =
    let same : IsSame opened (opened ++ place ∷ []) es es = same_openings opened place es below le in
    ap (λ n. count_below n (λ c. is_open (opened ++ place ∷ []) c es)) same.connections_are
    ∙ count_same (connections opened es) (λ c. is_open (opened ++ place ∷ []) c es) (λ c. is_open opened c es) (λ c within. same.open_is c)
