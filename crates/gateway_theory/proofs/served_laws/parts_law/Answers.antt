use Rattle.gateway_theory.specs.lemmas.Names.{Err, Ok, core_of}
use Rattle.gateway_theory.specs.lemmas.PiecesAdd.{begun_up, feeds_stand}
use Rattle.gateway_theory.proofs.served_laws.parts_law.Goals as goal

pub returns : goal.returns
returns c = record {
  begins = λ n v h conns. begun_up c.request_laws.ensures n (core_of v) h conns;
  goes_on = λ n m p q u v w h serving fed f. feeds_stand c.request_laws.ensures n p q u v w (Ok m) h serving f fed;
  ends = λ n fault p q u v w h serving fed f. feeds_stand c.request_laws.ensures n p q u v w (Err fault) h serving f fed;
}
