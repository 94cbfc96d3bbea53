use Rattle.gateway_core.proofs.Names.{sym, subst, ap, ◌∙◌, Ok, Err, refl, false, arith, List, ◌+◌, Keeps, IsServing, AddsOpening, OpensFew, TakesOpening, opens_serving, IsWhole, gateway_of, opens_adds, opens_few, opens_keeps, opens_stands, same_keeps, unopens_adds, unopens_stands, is_at, remove_entry, nat_cmp}
use Rattle.gateway_theory.specs.Gateway.{conn_count}
use Rattle.gateway_core.proofs.StepLemmas.{same_whole}
use Rattle.gateway_core.proofs.OpenLemmas.{no_peer, opens_step, opens_whole, unborn}
use Rattle.gateway_theory.specs.declared.fault.OpenError.{OpenError}
use Rattle.gateway_theory.specs.declared.fault.OpenError.TheVariants.{Full, Exhausted, Memory}
use Rattle.gateway_theory.specs.Refused.{RefusesOpening}
use Rattle.gateway_core.proofs.MapLemmas.{restored}
use Rattle.gateway_core.proofs.gateway.Core.open_conn.Goals as goal

pub returns-then-self-ge-MOST_OPEN-clause-stands : goal.returns-then-self-ge-MOST_OPEN-clause-stands
returns-then-self-ge-MOST_OPEN-clause-stands g c = let e : List g.row.H.Denot × OpenError = (c.args.stock, Full) in unopens_stands c.args.self.now c.args.self.now e refl

pub returns-then-self-ge-MOST_OPEN-clause-adds : goal.returns-then-self-ge-MOST_OPEN-clause-adds
returns-then-self-ge-MOST_OPEN-clause-adds g c = let e : List g.row.H.Denot × OpenError = (c.args.stock, Full) in unopens_adds c.args.self.now c.args.self.now e refl

pub returns-then-self-ge-MOST_OPEN-clause-keeps : goal.returns-then-self-ge-MOST_OPEN-clause-keeps
returns-then-self-ge-MOST_OPEN-clause-keeps g c = same_keeps c.args.self.now c.args.self.now (λ d. false) refl (subst IsServing c.self.view_is c.self.invariant.serving)

pub returns-then-self-ge-MOST_OPENINGS-clause-stands : goal.returns-then-self-ge-MOST_OPENINGS-clause-stands
returns-then-self-ge-MOST_OPENINGS-clause-stands g c = let e : List g.row.H.Denot × OpenError = (c.args.stock, Exhausted) in unopens_stands c.args.self.now c.args.self.now e refl

pub returns-then-self-ge-MOST_OPENINGS-clause-adds : goal.returns-then-self-ge-MOST_OPENINGS-clause-adds
returns-then-self-ge-MOST_OPENINGS-clause-adds g c = let e : List g.row.H.Denot × OpenError = (c.args.stock, Exhausted) in unopens_adds c.args.self.now c.args.self.now e refl

pub returns-then-self-ge-MOST_OPENINGS-clause-keeps : goal.returns-then-self-ge-MOST_OPENINGS-clause-keeps
returns-then-self-ge-MOST_OPENINGS-clause-keeps g c = same_keeps c.args.self.now c.args.self.now (λ d. false) refl (subst IsServing c.self.view_is c.self.invariant.serving)

pub returns-in_default-clause-stands : goal.returns-in_default-clause-stands
returns-in_default-clause-stands g c = let e : List g.row.H.Denot × OpenError = (c.args.stock, Memory) in subst (λ x. TakesOpening {E = List g.row.H.Denot × OpenError} (Err e) x (gateway_of c.self.inside.shared c.insert.new.self.entries c.self.inside.opened c.self.inside.tally)) c.self.view_is (unopens_stands (gateway_of c.self.inside.shared c.self.inside.conns.entries c.self.inside.opened c.self.inside.tally) (gateway_of c.self.inside.shared c.insert.new.self.entries c.self.inside.opened c.self.inside.tally) e (ap (λ es. gateway_of c.self.inside.shared es c.self.inside.opened c.self.inside.tally) c.in_default.ensures.err))

pub returns-in_default-clause-adds : goal.returns-in_default-clause-adds
returns-in_default-clause-adds g c = let e : List g.row.H.Denot × OpenError = (c.args.stock, Memory) in subst (λ x. AddsOpening {E = List g.row.H.Denot × OpenError} (Err e) x (gateway_of c.self.inside.shared c.insert.new.self.entries c.self.inside.opened c.self.inside.tally)) c.self.view_is (unopens_adds (gateway_of c.self.inside.shared c.self.inside.conns.entries c.self.inside.opened c.self.inside.tally) (gateway_of c.self.inside.shared c.insert.new.self.entries c.self.inside.opened c.self.inside.tally) e (ap (λ es. gateway_of c.self.inside.shared es c.self.inside.opened c.self.inside.tally) c.in_default.ensures.err))

pub returns-in_default-clause-unchanged : goal.returns-in_default-clause-unchanged
returns-in_default-clause-unchanged g c = (ap (λ es. gateway_of c.self.inside.shared es c.self.inside.opened c.self.inside.tally) c.in_default.ensures.err) ∙ c.self.view_is

pub returns-in_default-clause-keeps : goal.returns-in_default-clause-keeps
returns-in_default-clause-keeps g c = subst (λ x. Keeps (λ d. false) x (gateway_of c.self.inside.shared c.insert.new.self.entries c.self.inside.opened c.self.inside.tally)) c.self.view_is (same_keeps (gateway_of c.self.inside.shared c.self.inside.conns.entries c.self.inside.opened c.self.inside.tally) (gateway_of c.self.inside.shared c.insert.new.self.entries c.self.inside.opened c.self.inside.tally) (λ d. false) (ap (λ es. gateway_of c.self.inside.shared es c.self.inside.opened c.self.inside.tally) c.in_default.ensures.err) c.self.invariant.serving)

pub invariant_of-self : goal.invariant_of-self
invariant_of-self g c = subst (λ es. IsWhole c.self.inside.shared es c.self.inside.opened c.self.inside.open c.self.inside.tally) (sym c.in_default.ensures.err) c.self.invariant

pub open-requires : goal.open-requires
open-requires g c = no_peer c.self.invariant

pub invariant_of-self-in-Err : goal.invariant_of-self-in-Err
invariant_of-self-in-Err g c = subst (λ y. IsWhole (record c.self.inside.shared { contexts = y }) c.remove.new.self.entries c.self.inside.opened c.self.inside.open c.self.inside.tally) (sym c.in-Err.ensures.err) (same_whole c.self.inside.shared c.self.inside.conns.entries c.remove.new.self.entries c.self.inside.opened c.self.inside.open c.self.inside.tally (c.remove.ensures.entries ∙ ap (λ es. remove_entry (is_at (nat_cmp c.self.inside.opened)) es) c.in-Ok.ensures.entries ∙ restored c.self.inside.opened c.new-conn.result c.self.inside.conns.entries (unborn c.self.inside.shared c.self.inside.conns.entries c.self.inside.opened c.self.inside.tally c.self.invariant.serving)) c.self.invariant)

pub returns-in-Err-clause-stands : goal.returns-in-Err-clause-stands
returns-in-Err-clause-stands g c = let e : List g.row.H.Denot × OpenError = (c.in-Err.stock, Memory) in subst (λ x. TakesOpening {E = List g.row.H.Denot × OpenError} (Err e) x (gateway_of (record c.self.inside.shared { contexts = c.open.new.self }) c.remove.new.self.entries c.self.inside.opened c.self.inside.tally)) c.self.view_is (unopens_stands (gateway_of c.self.inside.shared c.self.inside.conns.entries c.self.inside.opened c.self.inside.tally) (gateway_of (record c.self.inside.shared { contexts = c.open.new.self }) c.remove.new.self.entries c.self.inside.opened c.self.inside.tally) e (ap (λ y. gateway_of (record c.self.inside.shared { contexts = y }) c.remove.new.self.entries c.self.inside.opened c.self.inside.tally) c.in-Err.ensures.err ∙ ap (λ es. gateway_of c.self.inside.shared es c.self.inside.opened c.self.inside.tally) (c.remove.ensures.entries ∙ ap (λ es. remove_entry (is_at (nat_cmp c.self.inside.opened)) es) c.in-Ok.ensures.entries ∙ restored c.self.inside.opened c.new-conn.result c.self.inside.conns.entries (unborn c.self.inside.shared c.self.inside.conns.entries c.self.inside.opened c.self.inside.tally c.self.invariant.serving))))

pub returns-in-Err-clause-adds : goal.returns-in-Err-clause-adds
returns-in-Err-clause-adds g c = let e : List g.row.H.Denot × OpenError = (c.in-Err.stock, Memory) in subst (λ x. AddsOpening {E = List g.row.H.Denot × OpenError} (Err e) x (gateway_of (record c.self.inside.shared { contexts = c.open.new.self }) c.remove.new.self.entries c.self.inside.opened c.self.inside.tally)) c.self.view_is (unopens_adds (gateway_of c.self.inside.shared c.self.inside.conns.entries c.self.inside.opened c.self.inside.tally) (gateway_of (record c.self.inside.shared { contexts = c.open.new.self }) c.remove.new.self.entries c.self.inside.opened c.self.inside.tally) e (ap (λ y. gateway_of (record c.self.inside.shared { contexts = y }) c.remove.new.self.entries c.self.inside.opened c.self.inside.tally) c.in-Err.ensures.err ∙ ap (λ es. gateway_of c.self.inside.shared es c.self.inside.opened c.self.inside.tally) (c.remove.ensures.entries ∙ ap (λ es. remove_entry (is_at (nat_cmp c.self.inside.opened)) es) c.in-Ok.ensures.entries ∙ restored c.self.inside.opened c.new-conn.result c.self.inside.conns.entries (unborn c.self.inside.shared c.self.inside.conns.entries c.self.inside.opened c.self.inside.tally c.self.invariant.serving))))

pub returns-in-Err-clause-unchanged : goal.returns-in-Err-clause-unchanged
returns-in-Err-clause-unchanged g c = (ap (λ y. gateway_of (record c.self.inside.shared { contexts = y }) c.remove.new.self.entries c.self.inside.opened c.self.inside.tally) c.in-Err.ensures.err ∙ ap (λ es. gateway_of c.self.inside.shared es c.self.inside.opened c.self.inside.tally) (c.remove.ensures.entries ∙ ap (λ es. remove_entry (is_at (nat_cmp c.self.inside.opened)) es) c.in-Ok.ensures.entries ∙ restored c.self.inside.opened c.new-conn.result c.self.inside.conns.entries (unborn c.self.inside.shared c.self.inside.conns.entries c.self.inside.opened c.self.inside.tally c.self.invariant.serving))) ∙ c.self.view_is

pub returns-in-Err-clause-keeps : goal.returns-in-Err-clause-keeps
returns-in-Err-clause-keeps g c = subst (λ x. Keeps (λ d. false) x (gateway_of (record c.self.inside.shared { contexts = c.open.new.self }) c.remove.new.self.entries c.self.inside.opened c.self.inside.tally)) c.self.view_is (same_keeps (gateway_of c.self.inside.shared c.self.inside.conns.entries c.self.inside.opened c.self.inside.tally) (gateway_of (record c.self.inside.shared { contexts = c.open.new.self }) c.remove.new.self.entries c.self.inside.opened c.self.inside.tally) (λ d. false) (ap (λ y. gateway_of (record c.self.inside.shared { contexts = y }) c.remove.new.self.entries c.self.inside.opened c.self.inside.tally) c.in-Err.ensures.err ∙ ap (λ es. gateway_of c.self.inside.shared es c.self.inside.opened c.self.inside.tally) (c.remove.ensures.entries ∙ ap (λ es. remove_entry (is_at (nat_cmp c.self.inside.opened)) es) c.in-Ok.ensures.entries ∙ restored c.self.inside.opened c.new-conn.result c.self.inside.conns.entries (unborn c.self.inside.shared c.self.inside.conns.entries c.self.inside.opened c.self.inside.tally c.self.invariant.serving))) c.self.invariant.serving)

pub invariant_of-self-2 : goal.invariant_of-self-2
invariant_of-self-2 g c = opens_whole c.self.invariant c.insert.new.self.entries c.new-conn.result c.new-conn.ensures c.in-Ok.ensures.entries c.in-Ok.ensures.updates.0 c.insert.ensures.ordered c.open.new.self c.args.stock c.in_default-open.ensures.ok c.in_default-open.ensures.hooks (opens_serving c.fresh_law.ensures.requests (gateway_of c.self.inside.shared c.self.inside.conns.entries c.self.inside.opened c.self.inside.tally) (gateway_of (record c.self.inside.shared { contexts = c.open.new.self }) c.insert.new.self.entries (c.self.inside.opened + 1) c.self.inside.tally) c.self.inside.opened (opens_step c.self.invariant c.insert.new.self.entries c.new-conn.result c.new-conn.ensures c.in-Ok.ensures.entries c.in-Ok.ensures.updates.0 c.insert.ensures.ordered c.open.new.self (omega (arith, c.if-self-ge-MOST_OPEN.false)) c.in_default-open.ensures.ok) c.self.invariant.serving)

pub returns-clause-stands : goal.returns-clause-stands
returns-clause-stands g c = subst (λ y. TakesOpening {E = List g.row.H.Denot × OpenError} (Ok c.self.inside.opened) y (gateway_of (record c.self.inside.shared { contexts = c.open.new.self }) c.insert.new.self.entries (c.self.inside.opened + 1) c.self.inside.tally)) c.self.view_is (opens_stands (List g.row.H.Denot × OpenError) c.fresh_law.ensures.requests (gateway_of c.self.inside.shared c.self.inside.conns.entries c.self.inside.opened c.self.inside.tally) (gateway_of (record c.self.inside.shared { contexts = c.open.new.self }) c.insert.new.self.entries (c.self.inside.opened + 1) c.self.inside.tally) c.self.inside.opened (opens_step c.self.invariant c.insert.new.self.entries c.new-conn.result c.new-conn.ensures c.in-Ok.ensures.entries c.in-Ok.ensures.updates.0 c.insert.ensures.ordered c.open.new.self (omega (arith, c.if-self-ge-MOST_OPEN.false)) c.in_default-open.ensures.ok) c.self.invariant.serving)

pub returns-clause-adds : goal.returns-clause-adds
returns-clause-adds g c = subst (λ y. AddsOpening {E = List g.row.H.Denot × OpenError} (Ok c.self.inside.opened) y (gateway_of (record c.self.inside.shared { contexts = c.open.new.self }) c.insert.new.self.entries (c.self.inside.opened + 1) c.self.inside.tally)) c.self.view_is (opens_adds (List g.row.H.Denot × OpenError) c.fresh_law.ensures.requests (gateway_of c.self.inside.shared c.self.inside.conns.entries c.self.inside.opened c.self.inside.tally) (gateway_of (record c.self.inside.shared { contexts = c.open.new.self }) c.insert.new.self.entries (c.self.inside.opened + 1) c.self.inside.tally) c.self.inside.opened (opens_step c.self.invariant c.insert.new.self.entries c.new-conn.result c.new-conn.ensures c.in-Ok.ensures.entries c.in-Ok.ensures.updates.0 c.insert.ensures.ordered c.open.new.self (omega (arith, c.if-self-ge-MOST_OPEN.false)) c.in_default-open.ensures.ok) c.self.invariant.serving)

pub returns-clause-few : goal.returns-clause-few
returns-clause-few g c = subst (λ y. OpensFew {E = List g.row.H.Denot × OpenError} (Ok c.self.inside.opened) y) c.self.view_is (opens_few (List g.row.H.Denot × OpenError) (gateway_of c.self.inside.shared c.self.inside.conns.entries c.self.inside.opened c.self.inside.tally) (gateway_of (record c.self.inside.shared { contexts = c.open.new.self }) c.insert.new.self.entries (c.self.inside.opened + 1) c.self.inside.tally) c.self.inside.opened (opens_step c.self.invariant c.insert.new.self.entries c.new-conn.result c.new-conn.ensures c.in-Ok.ensures.entries c.in-Ok.ensures.updates.0 c.insert.ensures.ordered c.open.new.self (omega (arith, c.if-self-ge-MOST_OPEN.false)) c.in_default-open.ensures.ok) c.self.invariant.serving)

pub returns-clause-keeps : goal.returns-clause-keeps
returns-clause-keeps g c = subst (λ y. Keeps (λ d. false) y (gateway_of (record c.self.inside.shared { contexts = c.open.new.self }) c.insert.new.self.entries (c.self.inside.opened + 1) c.self.inside.tally)) c.self.view_is (opens_keeps (gateway_of c.self.inside.shared c.self.inside.conns.entries c.self.inside.opened c.self.inside.tally) (gateway_of (record c.self.inside.shared { contexts = c.open.new.self }) c.insert.new.self.entries (c.self.inside.opened + 1) c.self.inside.tally) c.self.inside.opened (opens_step c.self.invariant c.insert.new.self.entries c.new-conn.result c.new-conn.ensures c.in-Ok.ensures.entries c.in-Ok.ensures.updates.0 c.insert.ensures.ordered c.open.new.self (omega (arith, c.if-self-ge-MOST_OPEN.false)) c.in_default-open.ensures.ok) c.self.invariant.serving)

pub returns-then-self-ge-MOST_OPEN-clause-refused : goal.returns-then-self-ge-MOST_OPEN-clause-refused
returns-then-self-ge-MOST_OPEN-clause-refused g c = subst (RefusesOpening Full) c.self.view_is (omega (arith, c.if-self-ge-MOST_OPEN.true, c.self.invariant.open_is))

pub returns-then-self-ge-MOST_OPENINGS-clause-refused : goal.returns-then-self-ge-MOST_OPENINGS-clause-refused
returns-then-self-ge-MOST_OPENINGS-clause-refused g c = subst (RefusesOpening Exhausted) c.self.view_is (omega (arith, c.if-self-ge-MOST_OPEN.false, c.self.invariant.open_is), omega (arith, c.if-self-ge-MOST_OPENINGS.true))

pub returns-in_default-clause-refused : goal.returns-in_default-clause-refused
returns-in_default-clause-refused g c = subst (RefusesOpening Memory) c.self.view_is (omega (arith, c.if-self-ge-MOST_OPEN.false, c.self.invariant.open_is), omega (arith, c.if-self-ge-MOST_OPENINGS.false))

pub returns-in-Err-clause-refused : goal.returns-in-Err-clause-refused
returns-in-Err-clause-refused g c = subst (RefusesOpening Memory) c.self.view_is (omega (arith, c.if-self-ge-MOST_OPEN.false, c.self.invariant.open_is), omega (arith, c.if-self-ge-MOST_OPENINGS.false))

pub overflow_add-self : goal.overflow_add-self
overflow_add-self g c = omega (arith, c.if-self-ge-MOST_OPENINGS.false)

pub overflow_add-self-2 : goal.overflow_add-self-2
overflow_add-self-2 g c = omega (arith, c.if-self-ge-MOST_OPEN.false)

pub returns-clause-number : goal.returns-clause-number
returns-clause-number g c = c.of.ensures ∙ ap conn_count c.self.view_is

pub returns-in-Err-clause-back : goal.returns-in-Err-clause-back
returns-in-Err-clause-back g c = c.in-Err.ensures.back

pub returns-then-self-ge-MOST_OPEN-clause-few : goal.returns-then-self-ge-MOST_OPEN-clause-few
returns-then-self-ge-MOST_OPEN-clause-few g c = λ h stands. tt

pub returns-then-self-ge-MOST_OPENINGS-clause-few : goal.returns-then-self-ge-MOST_OPENINGS-clause-few
returns-then-self-ge-MOST_OPENINGS-clause-few g c = λ h stands. tt

pub returns-in_default-clause-few : goal.returns-in_default-clause-few
returns-in_default-clause-few g c = λ h stands. tt

pub returns-in-Err-clause-few : goal.returns-in-Err-clause-few
returns-in-Err-clause-few g c = λ h stands. tt
