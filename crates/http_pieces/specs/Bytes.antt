-- What bytes are held in.
use Rattle.std.specs.Prelude.{ℕ, List}
use Rattle.http_pieces.specs.declared.byte_string.Held.{Held}
use Rattle.http_pieces.specs.declared.byte_string.Held.TheVariants.{Own, Part}

-- the bytes that are held
abbrev pub held_bytes : Held → List ℕ
held_bytes (Own bytes) = bytes.items
held_bytes (Part bytes alloc) = bytes
