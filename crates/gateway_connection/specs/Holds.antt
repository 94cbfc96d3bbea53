-- A connection, as its fields tell it.
use Rattle.std.specs.Prelude.{ℕ, Bool, List, Option, map}
use Rattle.http_pieces.specs.Reader.{ReaderValue}
use Rattle.gateway_theory.specs.Conn.{entry_in}
use Rattle.gateway_theory.specs.Values.{KeptValue, HeldConnection, held_connection}
use Rattle.gateway_theory.specs.Replies.{ReplyValue}

abbrev pub held_by : ℕ → ℕ → List (Option ReplyValue) → List KeptValue → Bool → Bool → Bool → ReaderValue → HeldConnection
held_by number taken slots calls broken closed hung_up reader = held_connection number taken (map entry_in slots) calls broken closed hung_up reader
