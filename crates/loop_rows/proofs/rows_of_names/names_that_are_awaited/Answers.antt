use Rattle.std.proofs.Common.{[], ◌∷◌, ◌∙◌, ap, refl}
use Rattle.loop_model.specs.Found.{Asked, Found, FoundValue, found_value}
use Rattle.loop_rows.proofs.NameRows.{asked_now, found_since, never_asked, only, others_asked}
use Rattle.loop_rows.proofs.rows_of_names.names_that_are_awaited.Goals as goal

pub returns-clause-asked : goal.returns-clause-asked
returns-clause-asked c name = asked_now name []

pub returns-clause-beside : goal.returns-clause-beside
returns-clause-beside c name other a apart = record {
  before = [];
  since = Found (found_value other (a ∷ [])) ∷ [];
  lookups_are = refl;
  not_found = λ f there its. apart (ap (λ (g : FoundValue). g.name) (only (found_value other (a ∷ [])) f there) ∙ its);
}

pub returns-clause-again : goal.returns-clause-again
returns-clause-again c name a = asked_now name (Asked name ∷ Found (found_value name (a ∷ [])) ∷ [])

pub returns-clause-found : goal.returns-clause-found
returns-clause-found c name a w = found_since name (found_value name (a ∷ [])) refl w

pub returns-clause-no_such_name : goal.returns-clause-no_such_name
returns-clause-no_such_name c name w = found_since name (found_value name []) refl w

pub returns-clause-unasked : goal.returns-clause-unasked
returns-clause-unasked c name w = never_asked name w

pub returns-clause-anothers : goal.returns-clause-anothers
returns-clause-anothers c name other apart w = apart (others_asked name other w)
