-- The search for a code by its name, a code at a time.
use Rattle.std.proofs.Common.{◌≡◌, ℕ, suc, ◌+◌, ◌<◌, List, [], ◌∷◌, length, drop, get_or, Bool, true, false, cond, Option, Some, None, refl, arith}
use Rattle.std.proofs.Math.Seq.{drop-cons}
use Rattle.std.proofs.lemmas.Slice.Eq.{bytes_eq-Decides}
use Rattle.std.specs.List.{find}
use Rattle.std.specs.Str.{bytes_eq}
use Rattle.error_document.specs.Codes.{all_codes, code_name, code_named}
use Rattle.error_document.specs.declared.code.Code.{Code}
use Rattle.error_document.specs.declared.code.Code.TheVariants.{Canceled, Unknown, InvalidArgument, DeadlineExceeded, NotFound, AlreadyExists, PermissionDenied, ResourceExhausted, FailedPrecondition, Aborted, OutOfRange, Unimplemented, Internal, Unavailable, DataLoss, Unauthenticated}

-- the first code from place i on that has the name
unfoldable pub first_from : List ℕ → ℕ → Option Code
first_from name i = find (λ code. bytes_eq (code_name code) name) (drop i all_codes)

pub first_from-zero : (name : List ℕ) → code_named name ≡ first_from name 0
unfolding first_from code_named
first_from-zero name = refl

passed : (test : Code → Bool) (xs : List Code) (i : ℕ) (d : Code) → i < length xs → test (get_or xs i d) ≡ false → find test (drop i xs) ≡ find test (drop (suc i) xs)
passed test xs i d inside other = rw (drop-cons xs i d) (rw other)

found : (test : Code → Bool) (xs : List Code) (i : ℕ) (d : Code) → i < length xs → test (get_or xs i d) ≡ true → find test (drop i xs) ≡ Some (get_or xs i d)
found test xs i d inside same = rw (drop-cons xs i d) (rw same)

pub first_from-next : (name text : List ℕ) (i : ℕ) (d : Code) → i < 16 → text ≡ code_name (get_or all_codes i d) → bytes_eq text name ≡ false → first_from name i ≡ first_from name (i + 1)
unfolding first_from
first_from-next name text i d inside is other =
    let next : i + 1 ≡ suc i = omega arith in
    rw next (passed (λ code. bytes_eq (code_name code) name) all_codes i d inside (rw (← is) other))

pub first_from-found : (name text : List ℕ) (i : ℕ) (d : Code) → i < 16 → text ≡ code_name (get_or all_codes i d) → bytes_eq text name ≡ true → first_from name i ≡ Some (get_or all_codes i d)
unfolding first_from
first_from-found name text i d inside is same = found (λ code. bytes_eq (code_name code) name) all_codes i d inside (rw (← is) same)

pub first_from-end : (name : List ℕ) → first_from name 16 ≡ None
unfolding first_from
first_from-end name = refl

-- ---- a code's name finds the code, and no other name does

pub code_named-code_name : (code : Code) → code_named (code_name code) ≡ Some code
unfolding code_named
code_named-code_name Canceled = refl
code_named-code_name Unknown = refl
code_named-code_name InvalidArgument = refl
code_named-code_name DeadlineExceeded = refl
code_named-code_name NotFound = refl
code_named-code_name AlreadyExists = refl
code_named-code_name PermissionDenied = refl
code_named-code_name ResourceExhausted = refl
code_named-code_name FailedPrecondition = refl
code_named-code_name Aborted = refl
code_named-code_name OutOfRange = refl
code_named-code_name Unimplemented = refl
code_named-code_name Internal = refl
code_named-code_name Unavailable = refl
code_named-code_name DataLoss = refl
code_named-code_name Unauthenticated = refl

passes_at : (test : Code → Bool) (x : Code) (xs : List Code) (code : Code) (b : Bool) → test x ≡ b
    → (find test xs ≡ Some code → test code ≡ true) → cond b (Some x) (find test xs) ≡ Some code → test code ≡ true
passes_at test x xs code true pass later e = let same : x ≡ code = cc in rw (← same) pass
passes_at test x xs code false pass later e = later e

passes : (test : Code → Bool) (xs : List Code) (code : Code) → find test xs ≡ Some code → test code ≡ true
passes test [] code e = absurd (cc)
passes test (x ∷ xs) code e = passes_at test x xs code (test x) refl (passes test xs code) e

pub code_name-code_named : (name : List ℕ) (code : Code) → code_named name ≡ Some code → code_name code ≡ name
unfolding code_named
code_name-code_named name code e = (bytes_eq-Decides (code_name code) name).0 (passes (λ c. bytes_eq (code_name c) name) all_codes code e)
