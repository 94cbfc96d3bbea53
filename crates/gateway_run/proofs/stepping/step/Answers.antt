use Rattle.gateway_run.proofs.Names.{◌==◌, ◌∙◌, true, false, refl, [], ◌∷◌, length, ◌<◌, sym, subst, is_closing_of, most_open, open_connections, BranchResult, Closing, Drain, HangUp, Moment, Opening, Piece, Adds, Served, KeepsBut, TellsStep, call_id, History, after_event, AddsStep, Tells, TellsBreaks, TellsConn, TellsOpening, after_step, seen_in, Done, Saw}
use Rattle.gateway_theory.specs.Told.{BeginsWithin, TellsTook}
use Rattle.gateway_run.proofs.Starting.{begins_told, breaks_told, by_done, by_opening, by_taken, conn_told, few_told, keeps_closing, keeps_for, none_done, none_opening, none_taken, opening_told}
use Rattle.gateway_run.proofs.stepping.step.Goals as goal

pub returns-in-Some-clause-stands : goal.returns-in-Some-clause-stands
returns-in-Some-clause-stands g c = λ history h.
    subst (λ e. Served c.open_conn.new.self (after_step c.opened.result e history)) (sym c.in-Opening.is)
    (by_opening (λ o. Served c.open_conn.new.self (record history { opened = o; events = Opening ∷ history.events })) c.open_conn.result c.opened.result (length history.events) history.opened c.opened.ensures (c.open_conn.ensures.stands history h))

pub returns-in-Some-clause-tells : goal.returns-in-Some-clause-tells
returns-in-Some-clause-tells g c = subst (λ e. Tells e c.opened.result c.args.core.now c.open_conn.new.self) (sym c.in-Opening.is)
    (subst (λ s. TellsOpening s c.args.core.now c.open_conn.new.self) (sym c.opened.ensures)
    (opening_told _ c.open_conn.result c.args.core.now c.open_conn.new.self c.open_conn.ensures.number c.open_conn.ensures.refused c.open_conn.ensures.unchanged))

pub returns-in-Some-clause-few : goal.returns-in-Some-clause-few
returns-in-Some-clause-few g c = λ conn history told h.
    few_told (open_connections history.opened history.events < most_open) c.open_conn.result c.opened.result conn c.opened.ensures told (c.open_conn.ensures.few history h)

pub returns-in-Piece-clause-stands : goal.returns-in-Piece-clause-stands
returns-in-Piece-clause-stands g c = λ history h.
    subst (λ e. Served c.deliver.new.core (after_step c.done.result e history)) (sym c.in-Piece.is)
    (subst (λ o. Served c.deliver.new.core (record history { opened = o; events = Piece c.in-Piece.conn c.in-Piece.bytes ∷ history.events })) (sym (by_done c.deliver.result c.done.result (length history.events) history.opened c.done.ensures))
    (subst (λ n. Served c.deliver.new.core (after_event (Piece n c.in-Piece.bytes) history)) c.of.ensures
    (subst (λ bytes. Served c.deliver.new.core (after_event (Piece c.of.result bytes) history)) c.as_slice.ensures (c.deliver.ensures.stands history h))))

pub returns-in-HangUp-clause-stands : goal.returns-in-HangUp-clause-stands
returns-in-HangUp-clause-stands g c = λ history h.
    subst (λ e. Served c.hang_up.new.self (after_step c.done-in-HangUp.result e history)) (sym c.in-HangUp.is)
    (subst (λ o. Served c.hang_up.new.self (record history { opened = o; events = HangUp c.in-HangUp.conn ∷ history.events })) (sym (by_done c.hang_up.result c.done-in-HangUp.result (length history.events) history.opened c.done-in-HangUp.ensures))
    (subst (λ n. Served c.hang_up.new.self (after_event (HangUp n) history)) c.of-in-HangUp.ensures (c.hang_up.ensures.stands history h)))

pub returns-in-Moment-clause-stands : goal.returns-in-Moment-clause-stands
returns-in-Moment-clause-stands g c = λ history h.
    subst (λ e. Served c.moment.new.self (after_step c.taken.result e history)) (sym c.in-Moment.is)
    (subst (λ o. Served c.moment.new.self (record history { opened = o; events = Moment c.in-Moment.moment ∷ history.events })) (sym (by_taken c.moment.result c.taken.result (length history.events) history.opened c.taken.ensures)) (c.moment.ensures.stands history h))

pub returns-in-BranchResult-clause-stands : goal.returns-in-BranchResult-clause-stands
returns-in-BranchResult-clause-stands g c = λ history h.
    subst (λ e. Served c.result.new.self (after_event e history)) (sym c.in-BranchResult.is)
    (subst (λ n. Served c.result.new.self (after_event (BranchResult n c.in-BranchResult.request c.in-BranchResult.branch c.in-BranchResult.outcome) history)) c.of-in-BranchResult.ensures
    (c.result.ensures.stands history h))

pub returns-in-Drain-clause-stands : goal.returns-in-Drain-clause-stands
returns-in-Drain-clause-stands g c = λ history h.
    subst (λ e. Served c.drain.new.self (after_step c.taken-in-Drain.result e history)) (sym c.in-Drain.is)
    (subst (λ o. Served c.drain.new.self (record history { opened = o; events = Drain ∷ history.events })) (sym (by_taken c.drain.result c.taken-in-Drain.result (length history.events) history.opened c.taken-in-Drain.ensures)) (c.drain.ensures.stands history h))

pub returns-in-Closing-clause-stands : goal.returns-in-Closing-clause-stands
returns-in-Closing-clause-stands g c = λ history h.
    subst (λ e. Served c.close.new.self (after_event e history)) (sym c.in-Closing.is)
    (subst (λ n. Served c.close.new.self (after_event (Closing n) history)) c.of-in-Closing.ensures (c.close.ensures.stands history h))

pub returns-in-Some-clause-adds : goal.returns-in-Some-clause-adds
returns-in-Some-clause-adds g c = subst (λ e. AddsStep c.opened.result e c.args.core.now c.open_conn.new.self) (sym c.in-Opening.is)
    (λ history. by_opening (λ o. Adds o Opening history c.args.core.now c.open_conn.new.self) c.open_conn.result c.opened.result (length history.events) history.opened c.opened.ensures (c.open_conn.ensures.adds history))

pub returns-in-Piece-clause-adds : goal.returns-in-Piece-clause-adds
returns-in-Piece-clause-adds g c = subst (λ e. AddsStep c.done.result e c.args.core.now c.deliver.new.core) (sym c.in-Piece.is)
    (λ history. subst (λ o. Adds o (Piece c.in-Piece.conn c.in-Piece.bytes) history c.args.core.now c.deliver.new.core) (sym (by_done c.deliver.result c.done.result (length history.events) history.opened c.done.ensures))
    (subst (λ n. Adds history.opened (Piece n c.in-Piece.bytes) history c.args.core.now c.deliver.new.core) c.of.ensures
    (subst (λ bytes. Adds history.opened (Piece c.of.result bytes) history c.args.core.now c.deliver.new.core) c.as_slice.ensures (c.deliver.ensures.adds history))))

pub returns-in-HangUp-clause-adds : goal.returns-in-HangUp-clause-adds
returns-in-HangUp-clause-adds g c = subst (λ e. AddsStep c.done-in-HangUp.result e c.args.core.now c.hang_up.new.self) (sym c.in-HangUp.is)
    (λ history. subst (λ o. Adds o (HangUp c.in-HangUp.conn) history c.args.core.now c.hang_up.new.self) (sym (by_done c.hang_up.result c.done-in-HangUp.result (length history.events) history.opened c.done-in-HangUp.ensures))
    (subst (λ n. Adds history.opened (HangUp n) history c.args.core.now c.hang_up.new.self) c.of-in-HangUp.ensures (c.hang_up.ensures.adds history)))

pub returns-in-Moment-clause-adds : goal.returns-in-Moment-clause-adds
returns-in-Moment-clause-adds g c = subst (λ e. AddsStep c.taken.result e c.args.core.now c.moment.new.self) (sym c.in-Moment.is)
    (λ history. subst (λ o. Adds o (Moment c.in-Moment.moment) history c.args.core.now c.moment.new.self) (sym (by_taken c.moment.result c.taken.result (length history.events) history.opened c.taken.ensures)) (c.moment.ensures.adds history))

pub returns-in-BranchResult-clause-adds : goal.returns-in-BranchResult-clause-adds
returns-in-BranchResult-clause-adds g c = subst (λ e. (history : History) → Adds history.opened e history c.args.core.now c.result.new.self) (sym c.in-BranchResult.is)
    (λ history. subst (λ n. Adds history.opened (BranchResult n c.in-BranchResult.request c.in-BranchResult.branch c.in-BranchResult.outcome) history c.args.core.now c.result.new.self) c.of-in-BranchResult.ensures (c.result.ensures.adds history))

pub returns-in-Drain-clause-adds : goal.returns-in-Drain-clause-adds
returns-in-Drain-clause-adds g c = subst (λ e. AddsStep c.taken-in-Drain.result e c.args.core.now c.drain.new.self) (sym c.in-Drain.is)
    (λ history. subst (λ o. Adds o Drain history c.args.core.now c.drain.new.self) (sym (by_taken c.drain.result c.taken-in-Drain.result (length history.events) history.opened c.taken-in-Drain.ensures)) (c.drain.ensures.adds history))

pub returns-in-Closing-clause-adds : goal.returns-in-Closing-clause-adds
returns-in-Closing-clause-adds g c = subst (λ e. (history : History) → Adds history.opened e history c.args.core.now c.close.new.self) (sym c.in-Closing.is)
    (λ history. subst (λ n. Adds history.opened (Closing n) history c.args.core.now c.close.new.self) c.of-in-Closing.ensures (c.close.ensures.adds history))

pub returns-in-Piece-clause-tells : goal.returns-in-Piece-clause-tells
returns-in-Piece-clause-tells g c = subst (λ e. Tells e c.done.result c.args.core.now c.deliver.new.core) (sym c.in-Piece.is) (
  subst (λ s. TellsConn c.in-Piece.conn s c.args.core.now c.deliver.new.core) (sym c.done.ensures) (conn_told _ c.in-Piece.conn c.deliver.result c.deliver.new.core c.args.core.now (subst (λ n. TellsStep n c.args.core.now c.deliver.new.core c.deliver.result) c.of.ensures c.deliver.ensures.tells)),
  λ is. subst (λ n. BeginsWithin n c.in-Piece.bytes c.args.core.now) c.of.ensures
      (subst (λ bytes. BeginsWithin c.of.result bytes c.args.core.now) c.as_slice.ensures (begins_told _ c.deliver.result c.deliver.ensures.begins (sym c.done.ensures ∙ is))),
)

pub returns-in-HangUp-clause-tells : goal.returns-in-HangUp-clause-tells
returns-in-HangUp-clause-tells g c = subst (λ e. Tells e c.done-in-HangUp.result c.args.core.now c.hang_up.new.self) (sym c.in-HangUp.is) (
  subst (λ s. TellsConn c.in-HangUp.conn s c.args.core.now c.hang_up.new.self) (sym c.done-in-HangUp.ensures) (conn_told _ c.in-HangUp.conn c.hang_up.result c.hang_up.new.self c.args.core.now (subst (λ n. TellsStep n c.args.core.now c.hang_up.new.self c.hang_up.result) c.of-in-HangUp.ensures c.hang_up.ensures.tells)),
  λ is. begins_told ⊥ c.hang_up.result c.hang_up.ensures.begins (sym c.done-in-HangUp.ensures ∙ is),
)

pub returns-in-Moment-clause-tells : goal.returns-in-Moment-clause-tells
returns-in-Moment-clause-tells g c = subst (λ e. Tells e c.taken.result c.args.core.now c.moment.new.self) (sym c.in-Moment.is)
    (subst (λ s. TellsBreaks s c.args.core.now c.moment.new.self) (sym c.taken.ensures) (breaks_told _ c.moment.result c.args.core.now c.moment.new.self c.moment.ensures.broke))

pub returns-in-BranchResult-clause-tells : goal.returns-in-BranchResult-clause-tells
returns-in-BranchResult-clause-tells g c = subst (λ e. Tells e (Saw c.result.result) c.args.core.now c.result.new.self) (sym c.in-BranchResult.is)
    (subst (λ m. TellsTook (call_id m c.in-BranchResult.request) c.in-BranchResult.branch c.result.result c.args.core.now c.result.new.self) c.of-in-BranchResult.ensures c.result.ensures.tells)

pub returns-in-Drain-clause-tells : goal.returns-in-Drain-clause-tells
returns-in-Drain-clause-tells g c = subst (λ e. Tells e c.taken-in-Drain.result c.args.core.now c.drain.new.self) (sym c.in-Drain.is)
    (subst (λ s. TellsBreaks s c.args.core.now c.drain.new.self) (sym c.taken-in-Drain.ensures) (breaks_told _ c.drain.result c.args.core.now c.drain.new.self c.drain.ensures.broke))

pub returns-in-Closing-clause-tells : goal.returns-in-Closing-clause-tells
returns-in-Closing-clause-tells g c = subst (λ e. Tells e Done c.args.core.now c.close.new.self) (sym c.in-Closing.is)
    (refl)

pub returns-in-Some-clause-keeps : goal.returns-in-Some-clause-keeps
returns-in-Some-clause-keeps g c = subst (λ e. KeepsBut (λ n. is_closing_of n e) (λ n. true) (seen_in c.opened.result) c.args.core.now c.open_conn.new.self) (sym c.in-Opening.is)
    (subst (λ seen. KeepsBut (λ n. is_closing_of n (Opening)) (λ n. true) seen c.args.core.now c.open_conn.new.self) (sym (none_opening c.open_conn.result c.opened.result c.opened.ensures))
    (keeps_for (λ n. is_closing_of n (Opening)) (λ n. false) [] c.args.core.now c.open_conn.new.self c.open_conn.ensures.keeps))

pub returns-in-Piece-clause-keeps : goal.returns-in-Piece-clause-keeps
returns-in-Piece-clause-keeps g c = subst (λ e. KeepsBut (λ n. is_closing_of n e) (λ n. true) (seen_in c.done.result) c.args.core.now c.deliver.new.core) (sym c.in-Piece.is)
    (subst (λ seen. KeepsBut (λ n. is_closing_of n (Piece c.in-Piece.conn c.in-Piece.bytes)) (λ n. true) seen c.args.core.now c.deliver.new.core) (sym (none_done c.deliver.result c.done.result c.done.ensures))
    (keeps_for (λ n. is_closing_of n (Piece c.in-Piece.conn c.in-Piece.bytes)) (λ n. n == c.of.result) [] c.args.core.now c.deliver.new.core c.deliver.ensures.keeps))

pub returns-in-HangUp-clause-keeps : goal.returns-in-HangUp-clause-keeps
returns-in-HangUp-clause-keeps g c = subst (λ e. KeepsBut (λ n. is_closing_of n e) (λ n. true) (seen_in c.done-in-HangUp.result) c.args.core.now c.hang_up.new.self) (sym c.in-HangUp.is)
    (subst (λ seen. KeepsBut (λ n. is_closing_of n (HangUp c.in-HangUp.conn)) (λ n. true) seen c.args.core.now c.hang_up.new.self) (sym (none_done c.hang_up.result c.done-in-HangUp.result c.done-in-HangUp.ensures))
    (keeps_for (λ n. is_closing_of n (HangUp c.in-HangUp.conn)) (λ n. n == c.of-in-HangUp.result) [] c.args.core.now c.hang_up.new.self c.hang_up.ensures.keeps))

pub returns-in-Moment-clause-keeps : goal.returns-in-Moment-clause-keeps
returns-in-Moment-clause-keeps g c = subst (λ e. KeepsBut (λ n. is_closing_of n e) (λ n. true) (seen_in c.taken.result) c.args.core.now c.moment.new.self) (sym c.in-Moment.is)
    (subst (λ seen. KeepsBut (λ n. is_closing_of n (Moment c.in-Moment.moment)) (λ n. true) seen c.args.core.now c.moment.new.self) (sym (none_taken c.moment.result c.taken.result c.taken.ensures))
    (keeps_for (λ n. is_closing_of n (Moment c.in-Moment.moment)) (λ n. true) [] c.args.core.now c.moment.new.self c.moment.ensures.keeps))

pub returns-in-BranchResult-clause-keeps : goal.returns-in-BranchResult-clause-keeps
returns-in-BranchResult-clause-keeps g c = subst (λ e. KeepsBut (λ n. is_closing_of n e) (λ n. true) (c.result.result.seen ∷ []) c.args.core.now c.result.new.self) (sym c.in-BranchResult.is)
    (keeps_for (λ n. is_closing_of n (BranchResult c.in-BranchResult.conn c.in-BranchResult.request c.in-BranchResult.branch c.in-BranchResult.outcome)) (λ n. n == c.of-in-BranchResult.result) (c.result.result.seen ∷ []) c.args.core.now c.result.new.self c.result.ensures.keeps)

pub returns-in-Drain-clause-keeps : goal.returns-in-Drain-clause-keeps
returns-in-Drain-clause-keeps g c = subst (λ e. KeepsBut (λ n. is_closing_of n e) (λ n. true) (seen_in c.taken-in-Drain.result) c.args.core.now c.drain.new.self) (sym c.in-Drain.is)
    (subst (λ seen. KeepsBut (λ n. is_closing_of n (Drain)) (λ n. true) seen c.args.core.now c.drain.new.self) (sym (none_taken c.drain.result c.taken-in-Drain.result c.taken-in-Drain.ensures))
    (keeps_for (λ n. is_closing_of n (Drain)) (λ n. true) [] c.args.core.now c.drain.new.self c.drain.ensures.keeps))

pub returns-in-Closing-clause-keeps : goal.returns-in-Closing-clause-keeps
returns-in-Closing-clause-keeps g c = subst (λ e. KeepsBut (λ n. is_closing_of n e) (λ n. true) [] c.args.core.now c.close.new.self) (sym c.in-Closing.is)
    (keeps_closing c.in-Closing.conn c.args.core.now c.close.new.self (subst (λ m. KeepsBut (λ n. n == m) (λ n. false) [] c.args.core.now c.close.new.self) c.of-in-Closing.ensures c.close.ensures.keeps))
