-- The line of the log for a stream that was closed without a byte.
use Rattle.std.specs.Prelude.{ℕ, List, codes}
use Rattle.serde_json.specs.Data.{Data, number, unsigned, string, object, member, no_members}
use Rattle.serde_json.specs.Written.{compact_text}
use Rattle.access_log.specs.declared.closed.Unserved.{Unserved}
use Rattle.access_log.specs.declared.closed.Unserved.TheVariants.{NoPlace, NoMemory}

abbrev pub unserved_name : Unserved → List ℕ
unserved_name NoPlace = codes "no place"
unserved_name NoMemory = codes "no memory"

-- The document of a stream that was closed at that time, in milliseconds from 1970. The keys are in byte order.
abbrev pub closed_document : ℕ → Unserved → Data
closed_document time why =
    object (
    member (codes "closed") (string (unserved_name why)) (
    member (codes "time") (number (unsigned time)) no_members))

-- the line: the document as compact JSON, with no LF
unfoldable pub closed_line : ℕ → Unserved → List ℕ
closed_line time why = compact_text (closed_document time why)
