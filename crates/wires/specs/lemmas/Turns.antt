-- What a read and a write make of all that was read and written.
use Rattle.std.specs.Prelude.{◌≡◌, ◌++◌, ◌||◌, ℕ, Bool, true, false, List}
use Rattle.std.proofs.Common.{refl, ap, ◌∙◌, append-nil}
use Rattle.std.proofs.lemmas.Grind.{flat_map-append}
use Rattle.std.proofs.lemmas.List.Folds.{list_any-append}
use Rattle.wires.specs.declared.got.Got.{Got}
use Rattle.wires.specs.declared.got.Got.TheVariants as got
use Rattle.wires.specs.declared.got.Sent.{Sent}
use Rattle.wires.specs.declared.got.Sent.TheVariants as sent
use Rattle.wires.specs.Turns.{Turn, came, went, is_over, given_of, got_of, ended_of, turns_of_read, turns_of_write, BringsWithin, TakesWithin}
use Rattle.wires.specs.Wires.{Ends, Gives, Takes}

-- ---- of turns, and turns after them

pub given-append : (xs ys : List Turn) → given_of (xs ++ ys) ≡ given_of xs ++ given_of ys
given-append xs ys = flat_map-append came xs ys

pub got-append : (xs ys : List Turn) → got_of (xs ++ ys) ≡ got_of xs ++ got_of ys
got-append xs ys = flat_map-append went xs ys

pub ended-append : (xs ys : List Turn) → ended_of (xs ++ ys) ≡ (ended_of xs || ended_of ys)
ended-append xs ys = list_any-append is_over xs ys

or-false : (b : Bool) → (b || false) ≡ b
or-false true = refl
or-false false = refl

or-true : (b : Bool) → (b || true) ≡ true
or-true true = refl
or-true false = refl

-- ---- of one read

pub gives : (old new : List Turn) (piece : List ℕ) (got : Got) → new ≡ old ++ turns_of_read piece got → BringsWithin piece got → Gives (given_of old) (given_of new) piece got
gives old new piece (got.Bytes n) is within = (within.0, within.1, ap given_of is ∙ given-append old _ ∙ ap (λ (l : List ℕ). given_of old ++ l) (append-nil _))
gives old new piece got.Nothing is within = ap given_of is ∙ given-append old _ ∙ append-nil _
gives old new piece got.Interrupted is within = ap given_of (is ∙ append-nil old)
gives old new piece (got.End kind) is within = ap given_of is ∙ given-append old _ ∙ append-nil _

-- it wrote nothing
pub read_keeps : (old new : List Turn) (piece : List ℕ) (got : Got) → new ≡ old ++ turns_of_read piece got → got_of new ≡ got_of old
read_keeps old new piece (got.Bytes n) is = ap got_of is ∙ got-append old _ ∙ append-nil _
read_keeps old new piece got.Nothing is = ap got_of is ∙ got-append old _ ∙ append-nil _
read_keeps old new piece got.Interrupted is = ap got_of (is ∙ append-nil old)
read_keeps old new piece (got.End kind) is = ap got_of is ∙ got-append old _ ∙ append-nil _

pub ends : (old new : List Turn) (piece : List ℕ) (got : Got) → new ≡ old ++ turns_of_read piece got → Ends (ended_of old) (ended_of new) got
ends old new piece (got.Bytes n) is = ap ended_of is ∙ ended-append old _ ∙ or-false _
ends old new piece got.Nothing is = ap ended_of is ∙ ended-append old _ ∙ or-false _
ends old new piece got.Interrupted is = ap ended_of (is ∙ append-nil old)
ends old new piece (got.End kind) is = ap ended_of is ∙ ended-append old _ ∙ or-true _

-- ---- of one write

pub takes : (old new : List Turn) (waiting : List ℕ) (sent : Sent) → new ≡ old ++ turns_of_write waiting sent → TakesWithin waiting sent → Takes (got_of old) (got_of new) waiting sent
takes old new waiting (sent.Bytes n) is within = (within.0, within.1, ap got_of is ∙ got-append old _ ∙ ap (λ (l : List ℕ). got_of old ++ l) (append-nil _))
takes old new waiting sent.Nothing is within = ap got_of (is ∙ append-nil old)
takes old new waiting sent.Interrupted is within = ap got_of (is ∙ append-nil old)
takes old new waiting (sent.Failed kind) is within = ap got_of (is ∙ append-nil old)

-- it read nothing, and found no end
pub write_keeps : (old new : List Turn) (waiting : List ℕ) (sent : Sent) → new ≡ old ++ turns_of_write waiting sent → (given_of new ≡ given_of old) × (ended_of new ≡ ended_of old)
write_keeps old new waiting (sent.Bytes n) is = (ap given_of is ∙ given-append old _ ∙ append-nil _, ap ended_of is ∙ ended-append old _ ∙ or-false _)
write_keeps old new waiting sent.Nothing is = (ap given_of (is ∙ append-nil old), ap ended_of (is ∙ append-nil old))
write_keeps old new waiting sent.Interrupted is = (ap given_of (is ∙ append-nil old), ap ended_of (is ∙ append-nil old))
write_keeps old new waiting (sent.Failed kind) is = (ap given_of (is ∙ append-nil old), ap ended_of (is ∙ append-nil old))

-- ---- all of it

-- what a read makes of the bytes that were read, of those that were written, and of whether the end was found
pub record ReadMakes (old new : List Turn) (piece : List ℕ) (answer : Got) : Type 0 where
  pub given : Gives (given_of old) (given_of new) piece answer
  pub got : got_of new ≡ got_of old
  pub ended : Ends (ended_of old) (ended_of new) answer

pub read_makes : (old new : List Turn) (piece : List ℕ) (answer : Got) → new ≡ old ++ turns_of_read piece answer → BringsWithin piece answer → ReadMakes old new piece answer
read_makes old new piece answer is within = record {
  given = gives old new piece answer is within;
  got = read_keeps old new piece answer is;
  ended = ends old new piece answer is;
}

-- .. and a write
pub record WriteMakes (old new : List Turn) (waiting : List ℕ) (answer : Sent) : Type 0 where
  pub given : given_of new ≡ given_of old
  pub got : Takes (got_of old) (got_of new) waiting answer
  pub ended : ended_of new ≡ ended_of old

pub write_makes : (old new : List Turn) (waiting : List ℕ) (answer : Sent) → new ≡ old ++ turns_of_write waiting answer → TakesWithin waiting answer → WriteMakes old new waiting answer
write_makes old new waiting answer is within =
    let kept = write_keeps old new waiting answer is in
    record { given = kept.0; got = takes old new waiting answer is within; ended = kept.1 }
