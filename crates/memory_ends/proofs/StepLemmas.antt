-- A reader over memory.
use Rattle.std.specs.Prelude.{◌≡◌, ℕ, ◌+◌, ◌-◌, ◌<◌, ◌≤◌, List, [], ◌++◌, length, take, drop, min}
use Rattle.std.proofs.Common.{arith, ap, ◌∙◌, length-append}
use Rattle.std.proofs.lemmas.List.{take_all, length-take, length-drop, take-append-drop, take-append-le, drop-drop, drop_all}

-- what the first bytes of those left and the rest of the buffer give is those bytes
pub step_given : (bytes buffer given : List ℕ) (at n : ℕ) → given ≡ take n (drop at bytes) → at + n ≤ length bytes
    → drop at bytes ≡ take n (given ++ drop n buffer) ++ drop (at + n) bytes
step_given bytes buffer given at n given_is fits =
    let size : length given ≡ n = omega (arith, ap length given_is, length-take n (drop at bytes), length-drop at bytes) in
    let whole : take n given ≡ given = take_all n given (omega (arith, size)) in
    let first : take n (given ++ drop n buffer) ≡ given = take-append-le n given (drop n buffer) (omega (arith, size)) ∙ whole in
    let rest : drop n (drop at bytes) ≡ drop (at + n) bytes = drop-drop n at bytes in
    let joined : take n (drop at bytes) ++ drop n (drop at bytes) ≡ drop at bytes = take-append-drop n (drop at bytes) in
    cc

-- where none is given to a buffer with room, none is left
pub step_ended : (bytes buffer given : List ℕ) (at n step : ℕ) → given ≡ take n (drop at bytes) → n ≡ min (min (length bytes - at) (length buffer)) step
    → 0 < step → n ≡ 0 → 0 < length (given ++ drop n buffer) → drop (at + n) bytes ≡ []
step_ended bytes buffer given at n step given_is n_is some none room =
    let short : length given ≤ 0 = omega (arith, ap length given_is, length-take n (drop at bytes)) in
    let filled : 0 < length buffer = omega (arith, length-append given (drop n buffer), length-drop n buffer) in
    drop_all (at + n) bytes (omega arith)
