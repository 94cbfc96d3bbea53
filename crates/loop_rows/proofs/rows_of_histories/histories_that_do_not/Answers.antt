use Rattle.std.proofs.Common.{◌≡◌, ◌+◌, [], ◌∷◌, ◌++◌, ap, arith, length}
use Rattle.std.proofs.lemmas.List.{length-append}
use Rattle.gateway_model.specs.Events.{Before}
use Rattle.gateway_model.specs.declared.event.Event.TheVariants.{Drain, HangUp, Moment, Opening}
use Rattle.loop_rows.proofs.rows_of_histories.histories_that_do_not.Goals as goal

-- so many more came
longer : (later es fs : Before) → fs ≡ later ++ es → length fs ≡ length later + length es
longer later es fs is = let same : length fs ≡ length (later ++ es) = ap (λ (l : Before). length l) is in let both = length-append later es in omega (arith, same, both)

other_order : (later : Before) → HangUp 1 ∷ HangUp 0 ∷ Opening ∷ Opening ∷ [] ≡ later ++ HangUp 0 ∷ HangUp 1 ∷ Opening ∷ Opening ∷ [] → ⊥
other_order [] is = cc
other_order (x ∷ later) is = let more = longer (x ∷ later) (HangUp 0 ∷ HangUp 1 ∷ Opening ∷ Opening ∷ []) (HangUp 1 ∷ HangUp 0 ∷ Opening ∷ Opening ∷ []) is in omega (arith, more)

put_between : (later : Before) → Moment 3 ∷ Drain ∷ Opening ∷ Opening ∷ [] ≡ later ++ Moment 3 ∷ Opening ∷ Opening ∷ [] → ⊥
put_between [] is = let more = longer [] (Moment 3 ∷ Opening ∷ Opening ∷ []) (Moment 3 ∷ Drain ∷ Opening ∷ Opening ∷ []) is in omega (arith, more)
put_between (x ∷ []) is = cc
put_between (x ∷ y ∷ later) is = let more = longer (x ∷ y ∷ later) (Moment 3 ∷ Opening ∷ Opening ∷ []) (Moment 3 ∷ Drain ∷ Opening ∷ Opening ∷ []) is in omega (arith, more)

pub returns-clause-order : goal.returns-clause-order
returns-clause-order c e = other_order e.later e.events_are

pub returns-clause-left_out : goal.returns-clause-left_out
returns-clause-left_out c e =
    let more = longer e.later (Moment 3 ∷ Drain ∷ Opening ∷ Opening ∷ []) (Moment 3 ∷ Opening ∷ Opening ∷ []) e.events_are in
    omega (arith, more)

pub returns-clause-between : goal.returns-clause-between
returns-clause-between c e = put_between e.later e.events_are
