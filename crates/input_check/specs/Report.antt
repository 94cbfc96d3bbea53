-- What a report says of a file.
use Rattle.std.specs.Prelude.{◌≡◌, ◌⊎◌, List, ℕ, [], ◌++◌, codes, Option, None, Some, Result, Ok, Err}

-- the text says first that the file is fine
abbrev pub IsApproval : List ℕ → Type 0
IsApproval text = (rest : List ℕ) × (text ≡ codes "fine: " ++ rest)

-- the text says first that the file is refused
abbrev pub IsRefusal : List ℕ → Type 0
IsRefusal text = (rest : List ℕ) × (text ≡ codes "refused: " ++ rest)

-- the text has a warning
abbrev pub Warns : List ℕ → Type 0
Warns text = (before after : List ℕ) × (text ≡ before ++ codes "warning: " ++ after)

-- it is empty, or begins with a warning
abbrev pub AreWarnings : List ℕ → Type 0
AreWarnings text = (text ≡ []) ⊎ ((rest : List ℕ) × (text ≡ codes "warning: " ++ rest))

-- The text says first that the file is fine where there is no fault, and else that it is refused.
abbrev pub Says : {F : Type 0} → Option F → List ℕ → Type 0
Says None text = IsApproval text
Says (Some _) text = IsRefusal text

module _ {A F : Type 0} where
  -- There is no fault where reading the file gives something, and else the fault is why it gives nothing.
  abbrev pub IsVerdict : Option F → Result A F → Type 0
  IsVerdict None read = (value : A) × (read ≡ Ok value)
  IsVerdict (Some fault) read = read ≡ Err fault
