use Rattle.std.proofs.Common.{[], ◌∷◌, refl, sym, subst, ⊎_elim}
use Rattle.std.specs.Net.Grammar.{IsSocketText}
use Rattle.std.specs.declared.net.socket_addr.SocketAddr.{SocketAddr}
use Rattle.loop_rows.proofs.RowLemmas.{none_first, one_first}
use Rattle.loop_rows.specs.LoopRows.{asked_at_peer}
use Rattle.loop_rows.proofs.rows_of_loops.other_addresses.Goals as goal

pub returns-clause-elsewhere : goal.returns-clause-elsewhere
returns-clause-elsewhere c m v j b other a =
    let goes = (a.begun 0 (asked_at_peer b [] j) refl).addressed in
    ⊎_elim
    (λ own. other (subst (λ (t : SocketAddr). IsSocketText j.address t) (sym (one_first b own.0 goes.later [] own.2)) own.1))
    (λ found. none_first b goes.later found)
    goes.in_order

pub returns-clause-order : goal.returns-clause-order
returns-clause-order c m v j x b other apart a =
    let goes = (a.begun 0 (asked_at_peer b (x ∷ b ∷ []) j) refl).addressed in
    ⊎_elim
    (λ own. other (subst (λ (t : SocketAddr). IsSocketText j.address t) (sym (one_first b own.0 goes.later [] own.2)) own.1))
    (λ found. apart (one_first b x goes.later (b ∷ []) found))
    goes.in_order
