-- For a connection that is shut nothing comes of what occurs; and one that was opened and is not open has closed.
use Rattle.std.specs.Prelude.{◌≡◌, ◌⊎◌}
use Rattle.gateway_theory.specs.lemmas.Names.{ℕ, true, List, [], None, arith, nat_tests, filter, eqb-true, is_of, Occurrence, call_id, coming_on, is_shut, mark_of, marked, is_broken, jobs_by}
use Rattle.gateway_model.specs.declared.event.Event.TheVariants.{Closing}
use Rattle.gateway_theory.specs.lemmas.Frame.{none_start}
use Rattle.gateway_theory.specs.lemmas.StandsLemmas.{none_by, Quiet, started_same}
use Rattle.gateway_model.specs.Occurrence as occurs

-- nothing comes of the occurrence for a connection that is closed, or closes by it
abbrev pub IsShutTo : ℕ → Occurrence → List Occurrence → Type 0
IsShutTo c o os = (coming_on c o (is_broken c (marked os)) ≡ None) × ((is_shut c (marked os) ≡ true) ⊎ ((d : ℕ) × (o ≡ occurs.Closing d)))

pub quiet_shut : (c k : ℕ) (o : Occurrence) (os : List Occurrence) → IsShutTo c o os → Quiet (call_id c k) (mark_of (marked os) o) (marked os)
quiet_shut c k o os fact = grind (arith, nat_tests)

pub shut_jobs : (c : ℕ) (o : Occurrence) (os : List Occurrence) → IsShutTo c o os → filter (is_of c) (jobs_by o (mark_of (marked os) o) (marked os)) ≡ []
shut_jobs c o os fact = search (arith, none_by, eqb-true, none_start, started_same, quiet_shut)
