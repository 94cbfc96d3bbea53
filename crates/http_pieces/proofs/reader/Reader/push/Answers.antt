use Rattle.http_pieces.proofs.PushLemmas.{push_reads, push_takes, push_looks, push_moves, push_over, push_waits}
use Rattle.http_pieces.proofs.reader.Reader.push.Goals as goal

pub returns-clause-reads : goal.returns-clause-reads
returns-clause-reads c =
    push_reads c.self.inside.taken c.self.inside.looked c.push_into.new.looked c.self.inside.bytes.items c.args.piece.now c.push_into.new.bytes.items c.args.self.now c.self.inside.phase c.push_into.new.phase c.self.view_is
    c.push_into.result c.self.invariant.phase_sound c.push_into.ensures.ok c.push_into.ensures.looks

pub returns-clause-takes : goal.returns-clause-takes
returns-clause-takes c =
    push_takes c.self.inside.taken c.self.inside.looked c.push_into.new.looked c.self.inside.bytes.items c.args.piece.now c.push_into.new.bytes.items c.args.self.now c.self.inside.phase c.push_into.new.phase c.self.view_is
    c.push_into.result c.push_into.ensures.ok

pub returns-clause-moves : goal.returns-clause-moves
returns-clause-moves c =
    push_moves c.self.inside.taken c.self.inside.looked c.push_into.new.looked c.self.inside.bytes.items c.args.piece.now c.push_into.new.bytes.items c.args.self.now c.self.inside.phase c.push_into.new.phase c.self.view_is
    c.push_into.result c.push_into.ensures.ok

pub returns-clause-over : goal.returns-clause-over
returns-clause-over c =
    push_over c.self.inside.taken c.self.inside.looked c.push_into.new.looked c.self.inside.bytes.items c.args.piece.now c.push_into.new.bytes.items c.args.self.now c.self.inside.phase c.push_into.new.phase c.self.view_is
    c.push_into.result c.push_into.ensures.ok c.push_into.ensures.kept c.push_into.ensures.idle

pub returns-clause-waits : goal.returns-clause-waits
returns-clause-waits c =
    push_waits c.self.inside.taken c.self.inside.looked c.push_into.new.looked c.self.inside.bytes.items c.args.piece.now c.push_into.new.bytes.items c.args.self.now c.self.inside.phase c.push_into.new.phase c.self.view_is
    c.push_into.result c.push_into.ensures.ok c.push_into.ensures.kept c.push_into.ensures.idle

pub returns-clause-looks : goal.returns-clause-looks
returns-clause-looks c =
    push_looks c.self.inside.taken c.self.inside.looked c.push_into.new.looked c.self.inside.bytes.items c.args.piece.now c.push_into.new.bytes.items c.args.self.now c.self.inside.phase c.push_into.new.phase c.self.view_is
    c.push_into.result c.push_into.ensures.counts
