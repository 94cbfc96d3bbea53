use Rattle.connections.proofs.sides.write_side.Goals as goal

pub returns-clause-written : goal.returns-clause-written
returns-clause-written g c =
    let w = c.write_replies.ensures.written in
    record { whole = w.2.whole; end = w.0; are = w.2.are; short = w.2.short; bytes = w.2.bytes }
