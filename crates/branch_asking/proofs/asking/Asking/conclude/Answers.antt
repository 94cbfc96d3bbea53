use Rattle.branch_asking.proofs.Words.{Option, Some, ap, asking_state, refl, subst, sym, ◌∙◌}
use Rattle.branch_exchange.specs.declared.exchange_end.ExchangeEnd.{ExchangeEnd}
use Rattle.branch_asking.proofs.BegunLemmas.{begun_taken, fair_end, fair_loss, fair_over, no_yes, not_true, taken_on, whole_told}
use Rattle.branch_asking.proofs.Words.{HasBegun, asked_for}
use Rattle.branch_asking.proofs.asking.Asking.conclude.Goals as goal
use Rattle.branch_asking.proofs.asking.Asking.conclude.Goals.{in-Some-Reply, in-Some, in-None, then-is_alone, else-is_alone, then-stays, else-stays}

pub invariant_of-self : goal.invariant_of-self
invariant_of-self g c =
    let i = c.self.inside in
    subst (λ (end : Option ExchangeEnd). HasBegun (asking_state i.manner i.job i.addresses i.attempt end i.tried.items)) (sym c.replace.ensures.after)
    (begun_taken i.manner i.job i.addresses i.attempt i.end i.tried.items c.self.invariant)

pub returns-clause-on : goal.returns-clause-on
returns-clause-on g c =
    let i = c.self.inside in
    rw (← c.self.view_is) (taken_on i.manner i.job i.addresses i.attempt i.end c.replace.new.dest i.tried.items)

pub returns-clause-fair : goal.returns-clause-fair
returns-clause-fair g c =
    let i = c.self.inside in
    let x = asked_for (asking_state i.manner i.job i.addresses i.attempt i.end i.tried.items) in
    elim c.match-replace.branch [
      | in-Some-Reply w ↦ rw w.result-is
          (fair_over i.manner x _ _ (fair_end _ c.self.invariant _ _ _ (sym c.replace.ensures.value ∙ w.in-Some-Reply.is ∙ ap Some w.in-Some-Reply.field-0-is) refl w.outcome_of-outcome.ensures))
      | in-Some w ↦ rw w.result-is
          (fair_over i.manner x _ _ (fair_end _ c.self.invariant w.in-Some.end _ _ (sym c.replace.ensures.value ∙ w.in-Some.is) w.asked.ensures w.outcome_of.ensures))
      | in-None w ↦ rw w.result-is (fair_over i.manner x _ _ (fair_loss _ c.self.invariant _ (sym c.replace.ensures.value ∙ w.in-None.is) w.outcome_of-in-None.ensures))
    ]

pub returns-clause-whole : goal.returns-clause-whole
returns-clause-whole g c =
    let i = c.self.inside in
    elim c.match-replace.branch [
      | in-Some-Reply w ↦ rw w.result-is (elim w.if-stays.branch [
        | then-stays v ↦ rw v.result-is (λ yes. elim w.if-is_alone.branch [
          | then-is_alone u ↦
              whole_told (asking_state i.manner i.job i.addresses i.attempt i.end i.tried.items) c.self.invariant w.in-Some-Reply.reply w.outcome_of-outcome.result
              (sym c.replace.ensures.value ∙ w.in-Some-Reply.is ∙ ap Some w.in-Some-Reply.field-0-is) w.outcome_of-outcome.ensures (sym c.is_alone-is_alone.ensures ∙ u.if-is_alone.true)
              (not_true w.in-Some-Reply.reply.closes (sym u.stays-is ∙ v.if-stays.true)) (sym v.is_some.ensures ∙ yes)
          | else-is_alone u ↦ no_yes (sym u.if-is_alone.false ∙ sym u.stays-is ∙ v.if-stays.true)
        ])
        | else-stays v ↦ rw v.result-is (λ yes. no_yes (sym v.if-stays.false ∙ yes))
      ])
      | in-Some w ↦ rw w.result-is (λ yes. no_yes yes)
      | in-None w ↦ rw w.result-is (λ yes. no_yes yes)
    ]
