-- The line of the log for a connection that broke.
use Rattle.std.specs.Prelude.{ℕ, List, codes, Option}
use Rattle.serde_json.specs.Data.{Data, number, unsigned, string, object, member, no_members}
use Rattle.serde_json.specs.Written.{compact_text}
use Rattle.access_log.specs.Line.{text_or_null}

-- The document of a connection of a worker that broke for want of memory, told at that time, in milliseconds from 1970,
-- with the address of its client, if that is known. The keys are in byte order.
abbrev pub broken_document : ℕ → ℕ → ℕ → Option (List ℕ) → Data
broken_document time worker conn peer =
    object (
    member (codes "broke") (string (codes "no memory")) (
    member (codes "connection") (number (unsigned conn)) (
    member (codes "peer") (text_or_null peer) (
    member (codes "time") (number (unsigned time)) (
    member (codes "worker") (number (unsigned worker)) no_members)))))

-- the line: the document as compact JSON, with no LF
unfoldable pub broken_line : ℕ → ℕ → ℕ → Option (List ℕ) → List ℕ
broken_line time worker conn peer = compact_text (broken_document time worker conn peer)
