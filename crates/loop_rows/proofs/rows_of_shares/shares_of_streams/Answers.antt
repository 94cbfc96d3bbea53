use Rattle.std.proofs.Common.{[], refl}
use Rattle.std.proofs.lemmas.List.Elements.{All-nil}
use Rattle.loop_model.specs.Asking.{ended_value}
use Rattle.loop_model.specs.Streams.{IsNew}
use Rattle.loop_rows.specs.LoopRows.{asking, ended, new_stream}
use Rattle.loop_rows.proofs.ExchangeLemmas.{all_one}
use Rattle.loop_rows.proofs.ShareRows.{none_at_all, one_shared}
use Rattle.loop_rows.proofs.rows_of_shares.shares_of_streams.Goals as goal

pub returns-clause-none : goal.returns-clause-none
returns-clause-none c m = none_at_all m [] (λ p. refl)

pub returns-clause-one : goal.returns-clause-one
returns-clause-one c m a j turns o = one_shared m [] (λ p. refl) (ended a j [] turns o) (all_one IsNew (new_stream a turns) refl)

pub returns-clause-no_stream : goal.returns-clause-no_stream
returns-clause-no_stream c m j o = one_shared m [] (λ p. refl) (ended_value (asking j) o) (All-nil IsNew)
