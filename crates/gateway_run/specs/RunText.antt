-- The text that a run is written as: what was queued for each connection, the starts, and the broken connections.
use Rattle.std.specs.Prelude.{ℕ, ◌<◌, List, ◌++◌, length, take, codes, decimal, flat_map, Option}
use Rattle.std.specs.List.{enumerate_from}
use Rattle.std.specs.Io.KnownBytes.{Appends}
use Rattle.gateway_run.specs.declared.outcome.Run.{Run}
use Rattle.gateway_model.specs.declared.run.Start.{Start}

-- of the text, known bytes grew by the first few, and not by the whole
abbrev pub AppendsSome : Option (List ℕ) → Option (List ℕ) → List ℕ → Type 0
AppendsSome old new text = (n : ℕ) × (n < length text) × Appends old new (take n text)

-- `connection C: N bytes`, then the N queued bytes, each ended by LF
abbrev pub connection_text : ℕ → List ℕ → List ℕ
connection_text conn queued = codes "connection " ++ decimal conn ++ codes ": " ++ decimal (length queued) ++ codes " bytes\n" ++ queued ++ codes "\n"

-- the queued bytes of each connection, by its number
abbrev pub connections_text : List (List ℕ) → List ℕ
connections_text queued = flat_map (λ entry. connection_text entry.0 entry.1) (enumerate_from 0 queued)

-- `start EVENT CONN REQUEST BRANCH` and LF
abbrev pub start_line : Start → List ℕ
start_line s = codes "start " ++ decimal s.event ++ codes " " ++ decimal s.conn ++ codes " " ++ decimal s.request ++ codes " " ++ decimal s.branch ++ codes "\n"

-- a line for each start, in order
abbrev pub starts_text : List Start → List ℕ
starts_text starts = flat_map start_line starts

-- `broken C` and LF
abbrev pub broken_line : ℕ → List ℕ
broken_line conn = codes "broken " ++ decimal conn ++ codes "\n"

-- a line for each broken connection, in order
abbrev pub broken_text : List ℕ → List ℕ
broken_text broken = flat_map broken_line broken

-- The connections, the starts, the broken connections, and the line `end`.
abbrev pub run_text : Run → List ℕ
run_text run = connections_text run.queued.items ++ starts_text run.starts.items ++ broken_text run.broken.items ++ codes "end\n"
