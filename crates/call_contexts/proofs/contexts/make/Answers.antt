use Rattle.call_contexts.proofs.Names.{refl, ◌∷◌, Value, Makes, StandsFor}
use Rattle.call_contexts.proofs.Making.{made_alike}
use Rattle.call_contexts.proofs.Trees.{alike}
use Rattle.call_contexts.proofs.contexts.make.Goals as goal

pub returns-in_default-derive-2-clause-refused : goal.returns-in_default-derive-2-clause-refused
returns-in_default-derive-2-clause-refused g c = λ laws past st.
    let mid : StandsFor c.with_value.new.self (Makes c.in-Ok-with_value.holder (Value c.args.conn 0 c.in-Some.request_id) 0 ∷ past) = (c.in-Ok-with_value.ensures.answers.made past st).1 in
    made_alike laws c.args.conn past c.with_value.new.self c.free.new.tree c.in-Ok-with_value.holder c.in-Some.request_id mid
    (c.free.ensures (Makes c.in-Ok-with_value.holder (Value c.args.conn 0 c.in-Some.request_id) 0 ∷ past) (rw c.in_default-derive-2.ensures.unchanged mid))

pub returns-clause-made : goal.returns-clause-made
returns-clause-made g c = λ past st.
    rw c.in-Some.is (c.in-Ok-derive.ensures.made (Makes c.in-Ok-with_value.holder (Value c.args.conn 0 c.in-Some.request_id) 0 ∷ past) (c.in-Ok-with_value.ensures.answers.made past st).1)

pub returns-in_default : goal.returns-in_default
returns-in_default g c = record { made = c.in-Ok.ensures.made; held = rw c.in_default.is refl; refused = tt }

pub returns-in_default-derive : goal.returns-in_default-derive
returns-in_default-derive g c = record { made = tt; held = tt; refused = λ laws past st. alike c.derive.new.tree past (rw c.in_default-derive.ensures.unchanged st) }

pub returns-in_default-with_value : goal.returns-in_default-with_value
returns-in_default-with_value g c = record { made = tt; held = tt; refused = λ laws past st. alike c.with_value.new.self past (rw c.in_default-with_value.ensures.answers.unchanged st) }

pub returns-in_default-derive-2-clause-made : goal.returns-in_default-derive-2-clause-made
returns-in_default-derive-2-clause-made g c = tt

pub returns-in_default-derive-2-clause-held : goal.returns-in_default-derive-2-clause-held
returns-in_default-derive-2-clause-held g c = tt

pub returns-clause-held : goal.returns-clause-held
returns-clause-held g c = rw c.in-Some.is refl

pub returns-clause-refused : goal.returns-clause-refused
returns-clause-refused g c = tt
