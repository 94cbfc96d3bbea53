use Rattle.std.proofs.Common.{[], codes, lit<, refl}
use Rattle.gateway_model.specs.Past.{marked}
use Rattle.gateway_model.specs.Queue.{queued}
use Rattle.gateway_model.specs.Starts.{occurrences}
use Rattle.loop_rows.proofs.RowLemmas.{longer, off_on, on_off}
use Rattle.loop_rows.proofs.rows_of_clients.ends_of_a_client.Goals as goal

pub returns-clause-ended : goal.returns-clause-ended
returns-clause-ended c plans = record {
  known = lit< tt;
  dropped = [];
  read = refl;
  all_fed = λ off. refl;
  hangs_up = λ off. refl;
  no_other = λ hung. refl;
  written = λ occurred all. (queued 0 (marked (occurrences occurred)), refl);
}

pub returns-clause-untold : goal.returns-clause-untold
returns-clause-untold c plans e = off_on (e.hangs_up refl)

pub returns-clause-made_up : goal.returns-clause-made_up
returns-clause-made_up c plans e = on_off (e.hangs_up refl)

pub returns-clause-lingers : goal.returns-clause-lingers
returns-clause-lingers c plans = record {
  known = lit< tt;
  dropped = codes "bc";
  read = refl;
  all_fed = λ off. absurd (on_off off);
  hangs_up = λ off. absurd (on_off off);
  no_other = λ hung. refl;
  written = λ occurred all. (queued 0 (marked (occurrences occurred)), refl);
}

pub returns-clause-lost : goal.returns-clause-lost
returns-clause-lost c plans e = longer 0 _ (codes "ab") e.dropped refl e.read
