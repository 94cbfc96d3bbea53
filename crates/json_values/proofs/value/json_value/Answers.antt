use Rattle.std.proofs.lemmas.Str.{is_utf8-from_IsUtf8}
use Rattle.json_values.specs.Json.{json_of}
use Rattle.json_values.proofs.Reading.{json_of-not_read}
use Rattle.json_values.proofs.value.json_value.Goals as goal

pub returns-in-Ok : goal.returns-in-Ok
unfolding json_of
returns-in-Ok c =
    let read = c.in-Ok.ensures.ok in
    rw (is_utf8-from_IsUtf8 c.args.bytes.now read.0, read.1)

pub returns-in-Err-2 : goal.returns-in-Err-2
returns-in-Err-2 c = json_of-not_read c.args.bytes.now (c.in-Err.ensures.err (λ memory. let both = c.if-is_memory.ensures.1 memory in absurd (cc)))
