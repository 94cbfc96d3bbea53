-- What is known of the core's definitions and of what it stands for: the laws of the crate below that the proofs of a run use.
use Rattle.gateway_run.proofs.Names.{◌≡◌, ℕ, ◌<◌, ◌≤◌, true, List, [], ◌∷◌, ◌++◌, length, ◌↔◌, PlanRecord, Before, Occurs, connections, is_open, open_connections, succeeds, Placed}

-- one more opening that succeeds, behind some events and all others that do, changes nothing of what these come to
pub record OpeningsLaws : Type 0 where
  pub occurs : (plans : List PlanRecord) (opened : List ℕ) (place : ℕ) (es : Before) (occurred : List Placed) → ((other : ℕ) → succeeds opened other ≡ true → other < place)
      → length es ≤ place → Occurs plans (opened ++ place ∷ []) es occurred ↔ Occurs plans opened es occurred
  pub connections : (opened : List ℕ) (place : ℕ) (es : Before) → ((other : ℕ) → succeeds opened other ≡ true → other < place)
      → length es ≤ place → connections (opened ++ place ∷ []) es ≡ connections opened es
  pub is_open : (opened : List ℕ) (place : ℕ) (es : Before) → ((other : ℕ) → succeeds opened other ≡ true → other < place)
      → length es ≤ place → (c : ℕ) → is_open (opened ++ place ∷ []) c es ≡ is_open opened c es
  pub open_connections : (opened : List ℕ) (place : ℕ) (es : Before) → ((other : ℕ) → succeeds opened other ≡ true → other < place)
      → length es ≤ place → open_connections (opened ++ place ∷ []) es ≡ open_connections opened es
