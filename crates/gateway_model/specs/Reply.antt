-- A reply: the request that it answers, and what that is answered by; and the bytes that are written for it.
use Rattle.std.specs.Prelude.{ℕ, Bool, List}
use Rattle.gateway_model.specs.declared.reply_bytes.ReplyBytes.{ReplyBytes}

-- the bytes of a reply, and whether it is its connection's last
abbrev pub reply_of : List ℕ → Bool → ReplyBytes
reply_of bytes last = record { bytes = bytes; last = last }
