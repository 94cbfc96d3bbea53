-- Parts of a line of Prometheus' text format, version 0.0.4.
use Rattle.std.specs.Prelude.{ℕ, ◌<◌, ◌/◌, ◌%◌, List, [], ◌∷◌, ◌++◌, ◌==◌, nat_lt, if◌then◌else◌, codes, decimal, flat_map}

-- in a label's value a backslash, a quotation mark and an LF are escaped
abbrev pub escaped_byte : ℕ → List ℕ
escaped_byte byte =
    if byte == 92 then codes "\\\\" else (
    if byte == 34 then codes "\\\"" else (
    if byte == 10 then codes "\\n" else
    byte ∷ []))

abbrev pub escaped : List ℕ → List ℕ
escaped value = flat_map escaped_byte value

-- `label="value"`
abbrev pub label_text : List ℕ → List ℕ → List ℕ
label_text label value = label ++ codes "=\"" ++ escaped value ++ codes "\""

-- what makes three digits of a number below 1,000
abbrev pub zeros_before : ℕ → List ℕ
zeros_before n = if nat_lt n 10 then codes "00" else (if nat_lt n 100 then codes "0" else [])

-- milliseconds in seconds, with three digits behind the point
abbrev pub seconds_text : ℕ → List ℕ
seconds_text ms = decimal (ms / 1000) ++ codes "." ++ zeros_before (ms % 1000) ++ decimal (ms % 1000)
