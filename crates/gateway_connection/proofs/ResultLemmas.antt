-- Clauses of a result: of one that is passed on, and of one that a `?` has made.
use Rattle.std.specs.Prelude.{◌≡◌, ℕ, Bool, Err, Ok, IfErr, IfOk, IsErrAnd, OnErr, OnOk, Result}
use Rattle.gateway_theory.specs.Held.{IsFault}
use Rattle.gateway_theory.specs.declared.fault.StepFault.{StepFault}
use Rattle.gateway_theory.specs.declared.fault.StepFault.TheVariants.{Memory}
use Rattle.gateway_connection.specs.lemmas.Names.{inl}

-- what follows from a clause of a result that is passed on
pub ok_then : {T E P Q : Type 0} (r : Result T E) → OnOk r P → (P → Q) → OnOk r Q
ok_then (Ok x) p f = f p
ok_then (Err e) p f = p

pub err_then : {T E P Q : Type 0} (r : Result T E) → OnErr r P → (P → Q) → OnErr r Q
err_then (Ok x) p f = p
err_then (Err e) p f = f p

pub err_both : {T E P Q R : Type 0} (r : Result T E) → OnErr r P → OnErr r Q → (P → Q → R) → OnErr r R
err_both (Ok x) p q f = p
err_both (Err e) p q f = f p q

pub fault_then : {T E : Type 0} {P Q : E → Type 0} (r : Result T E) → IfErr r P → ((e : E) → P e → Q e) → IfErr r Q
fault_then (Ok x) p f = p
fault_then (Err e) p f = f e p

-- .. a clause for each of two
pub fault_both : {T E : Type 0} (P : E → Type 0) (Q : Type 0) (r : Result T E) → IfErr r P → OnErr r Q → IfErr r (λ e. P e × Q)
fault_both P Q (Ok x) p q = p
fault_both P Q (Err e) p q = (p, q)

-- an error has nothing to say of what would have been
pub none_ok : {T E : Type 0} (P : T → Type 0) (Q : E → Type 0) (r : Result T E) → IsErrAnd r Q → IfOk r P
none_ok P Q (Ok x) none = absurd none
none_ok P Q (Err e) none = tt

pub none_on : {T E : Type 0} (P : Type 0) (Q : E → Type 0) (r : Result T E) → IsErrAnd r Q → OnOk r P
none_on P Q (Ok x) none = absurd none
none_on P Q (Err e) none = tt

-- memory was refused
pub by_memory : {T : Type 0} (begun : ℕ) (begins : Bool) (r : Result T StepFault) → IsErrAnd r (λ f. f ≡ Memory) → IfErr r (λ f. IsFault f begun begins)
by_memory begun begins (Ok x) is = absurd is
by_memory begun begins (Err f) is = inl is
