use Rattle.call_contexts.proofs.Names.{refl, opened}
use Rattle.call_contexts.proofs.Beginning.{sound_opened, seen_opened, is_new, open_unheld}
use Rattle.call_contexts.proofs.Hooking.{standing_is}
use Rattle.call_contexts.proofs.Lists.{err_if, none_ok}
use Rattle.call_contexts.proofs.call_contexts.CallContexts.open.Goals as goal

pub invariant_of-self-2 : goal.invariant_of-self-2
invariant_of-self-2 g c =
    let s = c.self.invariant.sound in
    record { sound = rw (c.push_reserved.ensures.items, c.reserve.ensures.items) (sound_opened s.laws s c.in-Ok.conn c.with_cancel.new.self (c.in-Ok.ensures.made s.past s.tree_is).1); rising = c.self.invariant.rising; indexed = c.self.invariant.indexed }

pub returns-clause-stands : goal.returns-clause-stands
returns-clause-stands g c =
    let s = c.self.invariant.sound in
    rw (c.push_reserved.ensures.items, c.reserve.ensures.items)
    (standing_is (opened c.in-Ok.conn) c.self.view_is (seen_opened s.laws s c.in-Ok.conn c.with_cancel.new.self (c.in-Ok.ensures.made s.past s.tree_is).1) refl)

pub returns-clause-fresh : goal.returns-clause-fresh
returns-clause-fresh g c =
    let s = c.self.invariant.sound in
    rw (← c.self.view_is) (is_new s c.in-Ok.conn (open_unheld s.laws s c.in-Ok.conn c.with_cancel.new.self (c.in-Ok.ensures.made s.past s.tree_is).1))

pub invariant_of-self : goal.invariant_of-self
invariant_of-self g c = rw c.reserve.ensures.items c.self.invariant

pub invariant_of-self-in_default : goal.invariant_of-self-in_default
invariant_of-self-in_default g c = rw (c.reserve.ensures.items, c.in_default.ensures.unchanged) c.self.invariant

pub returns-in_default : goal.returns-in_default
returns-in_default g c = record { stands = tt; fresh = tt; unchanged = rw (c.reserve.ensures.items, c.in_default.ensures.unchanged) c.self.view_is }

pub returns-in_err-reserve-clause-stands : goal.returns-in_err-reserve-clause-stands
returns-in_err-reserve-clause-stands g c = none_ok _ _ c.from_residual.result c.from_residual.ensures.1

pub returns-in_err-reserve-clause-fresh : goal.returns-in_err-reserve-clause-fresh
returns-in_err-reserve-clause-fresh g c = none_ok _ _ c.from_residual.result c.from_residual.ensures.1

pub returns-in_err-reserve-clause-unchanged : goal.returns-in_err-reserve-clause-unchanged
returns-in_err-reserve-clause-unchanged g c = err_if c.from_residual.result (rw c.reserve.ensures.items c.self.view_is)

pub returns-clause-unchanged : goal.returns-clause-unchanged
returns-clause-unchanged g c = tt
