use Rattle.std.specs.Prelude.{◌∷◌, ◌++◌}
use Rattle.gateway_theory.specs.lemmas.Names.{[]}
use Rattle.gateway_theory.specs.lemmas.OneEvent.{same_count, same_openings}
use Rattle.gateway_theory.specs.lemmas.ServedOpens.{shrunk, grown, occurs_before}
use Rattle.gateway_theory.proofs.event_laws.openings_law.Goals as goal

pub returns : goal.returns
returns c = record {
  occurs = λ plans opened place es occurred below le. (
    occurs_before plans opened (opened ++ place ∷ []) place es occurred le (grown opened place below),
    occurs_before plans (opened ++ place ∷ []) opened place es occurred le (shrunk opened place below),
  );
  connections = λ opened place es below le. (same_openings opened place es below le).connections_are;
  is_open = λ opened place es below le. (same_openings opened place es below le).open_is;
  open_connections = same_count;
}
