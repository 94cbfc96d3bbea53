-- The line of the log for how the gateway stands.
use Rattle.std.specs.Prelude.{ℕ, List, codes}
use Rattle.serde_json.specs.Data.{Data, number, unsigned, object, member, no_members}
use Rattle.serde_json.specs.Written.{compact_text}
use Rattle.access_log.specs.declared.standing.Standing.{Standing}

-- The document of how it stands at that time, in milliseconds from 1970. The keys are in byte order.
abbrev pub standing_document : ℕ → Standing → Data
standing_document time s =
    object (
    member (codes "asking") (number (unsigned s.asking)) (
    member (codes "connections") (number (unsigned s.connections)) (
    member (codes "counted") (number (unsigned s.tally.counted)) (
    member (codes "dropped") (number (unsigned s.dropped)) (
    member (codes "late") (number (unsigned s.tally.late)) (
    member (codes "lingering") (number (unsigned s.lingering)) (
    member (codes "time") (number (unsigned time)) (
    member (codes "unknown") (number (unsigned s.tally.unknown)) (
    member (codes "waiting") (number (unsigned s.waiting)) no_members)))))))))

-- the line: the document as compact JSON, with no LF
unfoldable pub standing_line : ℕ → Standing → List ℕ
standing_line time s = compact_text (standing_document time s)
