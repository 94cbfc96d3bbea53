use Rattle.http_pieces.specs.ReplyLayout.{reply_reading_of}
use Rattle.http_pieces.proofs.ReplyLemmas.{reply_reads, reply_takes, reply_looks, reply_moves, reply_over, reply_waits}
use Rattle.http_pieces.proofs.reply_reader.ReplyReader.push.Goals as goal

pub returns-clause-reads : goal.returns-clause-reads
returns-clause-reads c =
    reply_reads c.self.inside.framing c.args.piece.now (reply_reading_of c.self.inside.bytes.items c.self.inside.phase c.self.inside.decoding) (reply_reading_of c.push_reply.new.bytes.items c.push_reply.new.phase c.push_reply.new.decoding)
    c.self.inside.looked c.push_reply.new.looked c.args.self.now c.self.view_is c.push_reply.result c.push_reply.ensures.pushes c.push_reply.ensures.looks

pub returns-clause-takes : goal.returns-clause-takes
returns-clause-takes c =
    reply_takes c.self.inside.framing c.args.piece.now (reply_reading_of c.self.inside.bytes.items c.self.inside.phase c.self.inside.decoding) (reply_reading_of c.push_reply.new.bytes.items c.push_reply.new.phase c.push_reply.new.decoding)
    c.self.inside.looked c.push_reply.new.looked c.args.self.now c.self.view_is c.push_reply.result c.push_reply.ensures.pushes

pub returns-clause-moves : goal.returns-clause-moves
returns-clause-moves c =
    reply_moves c.self.inside.framing c.args.piece.now (reply_reading_of c.self.inside.bytes.items c.self.inside.phase c.self.inside.decoding) (reply_reading_of c.push_reply.new.bytes.items c.push_reply.new.phase c.push_reply.new.decoding)
    c.self.inside.looked c.push_reply.new.looked c.args.self.now c.self.view_is c.push_reply.result c.push_reply.ensures.pushes

pub returns-clause-waits : goal.returns-clause-waits
returns-clause-waits c =
    reply_waits c.self.inside.framing c.args.piece.now (reply_reading_of c.self.inside.bytes.items c.self.inside.phase c.self.inside.decoding) (reply_reading_of c.push_reply.new.bytes.items c.push_reply.new.phase c.push_reply.new.decoding)
    c.self.inside.looked c.push_reply.new.looked c.args.self.now c.self.view_is c.push_reply.result c.push_reply.ensures.pushes c.push_reply.ensures.kept

pub returns-clause-over : goal.returns-clause-over
returns-clause-over c =
    reply_over c.self.inside.framing c.args.piece.now (reply_reading_of c.self.inside.bytes.items c.self.inside.phase c.self.inside.decoding) (reply_reading_of c.push_reply.new.bytes.items c.push_reply.new.phase c.push_reply.new.decoding)
    c.self.inside.looked c.push_reply.new.looked c.args.self.now c.self.view_is c.push_reply.result c.push_reply.ensures.pushes c.push_reply.ensures.kept

pub returns-clause-looks : goal.returns-clause-looks
returns-clause-looks c =
    reply_looks c.self.inside.framing c.args.piece.now (reply_reading_of c.self.inside.bytes.items c.self.inside.phase c.self.inside.decoding) (reply_reading_of c.push_reply.new.bytes.items c.push_reply.new.phase c.push_reply.new.decoding)
    c.self.inside.looked c.push_reply.new.looked c.args.self.now c.self.view_is c.push_reply.result c.push_reply.ensures.counts
