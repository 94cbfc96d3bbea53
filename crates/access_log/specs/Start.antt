-- The lines of the log before the first stream is accepted.
use Rattle.std.specs.Prelude.{ℕ, List, codes, Option, None, Some}
use Rattle.std.specs.Option.{option_copied}
use Rattle.serde_json.specs.Data.{Data, Members, number, unsigned, string, object, member, no_members}
use Rattle.serde_json.specs.Written.{compact_text}
use Rattle.access_log.specs.Line.{text_or_null}
use Rattle.access_log.specs.declared.start.Listening.{Listening}
use Rattle.access_log.specs.declared.start.Remark.{Remark}
use Rattle.access_log.specs.declared.start.Remark.TheVariants.{Fault, Warning}

-- what a gateway serves, without its borrows
pub record Served : Type 0 where
  pub listen : List ℕ
  pub admin : Option (List ℕ)
  pub keep : Option ℕ
  pub plans : ℕ
  pub workers : ℕ

abbrev pub served_by : Listening → Served
served_by x = record { listen = x.listen.now; admin = option_copied x.admin; keep = x.keep; plans = x.plans; workers = x.workers }

-- these members, and before them for how many seconds connections to backends are kept, if they are
abbrev pub and_keep : Option ℕ → Members → Members
and_keep None members = members
and_keep (Some keep) members = member (codes "keep") (number (unsigned keep)) members

-- The document of a gateway that listens since that time, in milliseconds from 1970: its addresses, for how long it keeps
-- connections, and how many plans and workers it has. The keys are in byte order.
abbrev pub start_document : ℕ → Served → Data
start_document time x =
    object (
    member (codes "admin") (text_or_null x.admin) (
    and_keep x.keep (
    member (codes "listen") (string x.listen) (
    member (codes "plans") (number (unsigned x.plans)) (
    member (codes "time") (number (unsigned time)) (
    member (codes "workers") (number (unsigned x.workers)) no_members))))))

-- the line: the document as compact JSON, with no LF
unfoldable pub start_line : ℕ → Served → List ℕ
start_line time x = compact_text (start_document time x)

-- the document of a remark that was made at that time, by what it is
abbrev pub remark_document : ℕ → Remark → List ℕ → Data
remark_document time Fault text = object (member (codes "fault") (string text) (member (codes "time") (number (unsigned time)) no_members))
remark_document time Warning text = object (member (codes "time") (number (unsigned time)) (member (codes "warning") (string text) no_members))

unfoldable pub remark_line : ℕ → Remark → List ℕ → List ℕ
remark_line time remark text = compact_text (remark_document time remark text)
