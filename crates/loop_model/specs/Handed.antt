-- The moments, the drain and the results among events.
use Rattle.std.specs.Prelude.{◌≡◌, ◌⊎◌, ℕ, ◌≤◌, max, Bool, true, false, ◌||◌, List, [], ◌∷◌, ◌++◌, Option, unwrap_or}
use Rattle.connect_codec.specs.declared.answer.Outcome.{Outcome}
use Rattle.gateway_model.specs.declared.event.Event.{Event}
use Rattle.gateway_model.specs.declared.event.Event.TheVariants.{Moment, BranchResult, Drain}
use Rattle.gateway_model.specs.declared.id.CallId.{CallId}
use Rattle.gateway_model.specs.Events.{Before}
use Rattle.gateway_model.specs.Job.{JobValue}
use Rattle.gateway_model.specs.Past.{call_id}

-- ---- moments

abbrev pub moment_in : Event → List ℕ
moment_in (Moment m) = m ∷ []
moment_in _ = []

-- the moments among the events, newest first
abbrev pub moments : Before → List ℕ
moments [] = []
moments (e ∷ before) = moment_in e ++ moments before

-- the greatest of them, or 0
abbrev pub latest : List ℕ → ℕ
latest [] = 0
latest (m ∷ moments) = max m (latest moments)

-- Of the moments that a clock told these were handed in, both newest first: each as it was told. One that was not is no later than one
-- that had been.
abbrev pub HandsIn : List ℕ → List ℕ → Type 0
HandsIn [] moments = moments ≡ []
HandsIn (m ∷ told) moments = ((rest : List ℕ) × (moments ≡ m ∷ rest) × HandsIn told rest) ⊎ ((m ≤ latest moments) × HandsIn told moments)

-- ---- the drain

abbrev pub is_drain : Event → Bool
is_drain Drain = true
is_drain _ = false

-- it is among the events
abbrev pub has_drained : Before → Bool
has_drained [] = false
has_drained (e ∷ before) = is_drain e || has_drained before

-- ---- results

-- what a branch of a call ended with
pub record ResultValue : Type 0 where
  pub call : CallId
  pub branch : ℕ
  pub outcome : Outcome

abbrev pub result_in : Event → List ResultValue
result_in (BranchResult conn request branch outcome) = record { call = call_id conn request; branch = branch; outcome = outcome } ∷ []
result_in _ = []

-- the results among the events, in order
abbrev pub results : Before → List ResultValue
results [] = []
results (e ∷ before) = results before ++ result_in e

-- the result is that of the job; where there was no memory for an outcome it is this
pub record IsResultOf (unknown : Outcome) (r : ResultValue) (e : JobValue × Option Outcome) : Type 0 where
  pub call : r.call ≡ e.0.call
  pub branch : r.branch ≡ e.0.branch
  pub outcome : r.outcome ≡ unwrap_or e.1 unknown
