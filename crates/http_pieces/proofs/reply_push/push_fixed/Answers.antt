use Rattle.http_pieces.proofs.HeadedLemmas.{fixed_pushes, fixed_sound, fixed_looks}
use Rattle.http_pieces.proofs.reply_push.push_fixed.Goals as goal

pub returns-clause-pushes : goal.returns-clause-pushes
returns-clause-pushes c = fixed_pushes c.push_into.result c.args.bytes.now.items c.args.piece.now c.push_into.new.bytes.items c.args.phase.now c.push_into.new.phase c.requires.unchunked c.push_into.ensures.ok

pub returns-clause-sound : goal.returns-clause-sound
returns-clause-sound c =
    fixed_sound c.push_into.result c.args.bytes.now.items c.args.piece.now c.push_into.new.bytes.items c.args.phase.now c.push_into.new.phase c.args.looked.now c.push_into.new.looked c.requires.sound c.requires.unchunked c.push_into.ensures.ok c.push_into.ensures.err c.push_into.ensures.still

pub returns-clause-looks : goal.returns-clause-looks
returns-clause-looks c =
    fixed_looks c.push_into.result c.args.bytes.now.items c.args.piece.now c.push_into.new.bytes.items c.args.phase.now c.push_into.new.phase c.args.looked.now c.push_into.new.looked c.requires.sound c.push_into.ensures.ok c.push_into.ensures.looks
