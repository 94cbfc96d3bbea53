-- Every list of events comes to occurrences: not to none.
use Rattle.gateway_run.proofs.Names.{◌≡◌, ℕ, ◌+◌, Bool, true, false, List, [], ◌∷◌, ◌++◌, map, length, refl, sym, subst, append-nil, MatchBool, HttpRequest, StreamEnd, Open, RefusedBy, Closed, Requests, PlanRecord, Occurrence, Coming, Comes, Placed, Event, Opening, Piece, HangUp, Moment, BranchResult, Drain, Closing, Before, listens, stream, Gains, requests_gained, refusal_gained, OccursAt, Occurs, onto}
use Rattle.http_pieces.specs.declared.refusal.Refusal.{Refusal}

-- what is known of requests
pub record RequestLaws : Type 0 where
  pub requests : (k : ℕ) (text : List ℕ) → ((given : List HttpRequest) (ending : StreamEnd) → Requests k text given ending → ⊥) → ⊥
  pub more : (k : ℕ) (text : List ℕ) (given : List HttpRequest) (left : List ℕ) → Requests k text given (Open left)
      → (more : List ℕ) (requests : List HttpRequest) (ending : StreamEnd) → Requests (k + length given) (left ++ more) requests ending
      → Requests k (text ++ more) (given ++ requests) ending
  pub refused_stays : (k : ℕ) (text more : List ℕ) (given : List HttpRequest) (r : Refusal) → Requests k text given (RefusedBy r)
      → Requests k (text ++ more) given (RefusedBy r)
  pub closed_stays : (k : ℕ) (text more : List ℕ) (given : List HttpRequest) → Requests k text given Closed → Requests k (text ++ more) given Closed

module _ (laws : RequestLaws) (plans : List PlanRecord) (opened : List ℕ) where
  -- a stream that gains nothing
  ended : (text bytes : List ℕ) (given : List HttpRequest) (ending : StreamEnd) → Requests 0 text given ending → Requests 0 (text ++ bytes) given ending
      → Gains plans text (text ++ bytes) (requests_gained plans [] ++ refusal_gained ending ending)
  ended text bytes given ending was is = record {
    given = given;
    more = [];
    ending = ending;
    later = ending;
    text_is = was;
    longer_is = subst (λ qs. Requests 0 (text ++ bytes) qs ending) (sym (append-nil given)) is;
    gained_is = refl;
  }

  gains_exist : (text bytes : List ℕ) → ((gained : List Coming) → Gains plans text (text ++ bytes) gained → ⊥) → ⊥
  gains_exist text bytes none = laws.requests 0 text by_ending
    where
      by_ending : (given : List HttpRequest) (ending : StreamEnd) → Requests 0 text given ending → ⊥
      by_ending given (Open left) was =
          laws.requests (0 + length given) (left ++ bytes) (λ more later is. none (requests_gained plans more ++ refusal_gained (Open left) later) (record {
            given = given;
            more = more;
            ending = Open left;
            later = later;
            text_is = was;
            longer_is = laws.more 0 text given left was bytes more later is;
            gained_is = refl;
          }))
      by_ending given (RefusedBy r) was =
          none (requests_gained plans [] ++ refusal_gained (RefusedBy r) (RefusedBy r)) (ended text bytes given (RefusedBy r) was (laws.refused_stays 0 text bytes given r was))
      by_ending given Closed was =
          none (requests_gained plans [] ++ refusal_gained Closed Closed) (ended text bytes given Closed was (laws.closed_stays 0 text bytes given was))

  at_exists : (e : Event) (before : Before) → ((os : List Occurrence) → OccursAt plans opened e before os → ⊥) → ⊥
  at_exists Opening before none = none _ refl
  at_exists (HangUp conn) before none = none _ refl
  at_exists (Moment m) before none = none _ refl
  at_exists (BranchResult conn request branch outcome) before none = none _ refl
  at_exists Drain before none = none _ refl
  at_exists (Closing conn) before none = none _ refl
  at_exists (Piece conn bytes) before none = by_listening (listens opened conn before) refl
    where
      nothing : List Occurrence
      nothing = []

      Gained : List Occurrence → Type 0
      Gained os = (gained : List Coming) × Gains plans (stream opened conn before) (stream opened conn before ++ bytes) gained × (os ≡ map (Comes conn) gained)

      by_listening : (b : Bool) → listens opened conn before ≡ b → ⊥
      by_listening false b_is = none [] (subst (λ b. MatchBool b (Gained []) (nothing ≡ [])) (sym b_is) refl)
      by_listening true b_is =
          gains_exist (stream opened conn before) bytes (λ gained is. none (map (Comes conn) gained)
          (subst (λ b. MatchBool b (Gained (map (Comes conn) gained)) (map (Comes conn) gained ≡ [])) (sym b_is) (gained, is, refl)))

  occurs_by : (es : Before) → ((occurred : List Placed) → Occurs plans opened es occurred → ⊥) → ⊥
  occurs_by [] none = none [] refl
  occurs_by (e ∷ before) none =
      occurs_by before (λ past h. at_exists e before (λ os is. none (onto (length before) os past) (past, h, (os, is, refl))))

pub occurs_exists : (laws : RequestLaws) (plans : List PlanRecord) (opened : List ℕ) (es : Before) → ((occurred : List Placed) → Occurs plans opened es occurred → ⊥) → ⊥
occurs_exists laws plans opened es none = occurs_by laws plans opened es none
