use Rattle.std.proofs.Common.{◌≡◌, sym, ap, subst, ◌∙◌, ◌++◌, take}
use Rattle.std.proofs.lemmas.List.{take_rest}
use Rattle.http_pieces.specs.declared.framing.Framing.TheVariants as framing
use Rattle.http_pieces.specs.Looked.{HasLooked}
use Rattle.http_pieces.specs.ReplyReader.{left_of_reply}
use Rattle.http_pieces.specs.ReplyLayout.{ReplyPushes, phase_reading, reply_reading_of}
use Rattle.http_pieces.proofs.HeadedLemmas.{any_counts, any_looks, any_pushes, plain_looks, pushes_plain}
use Rattle.http_pieces.proofs.reply_push.push_any.Goals as goal

pub returns-in-None-clause-pushes : goal.returns-in-None-clause-pushes
returns-in-None-clause-pushes c =
    let after = c.push_into.new.bytes.items in
    let same : phase_reading after c.push_into.new.phase ≡ reply_reading_of after c.begun.new.phase c.args.decoding.now =
    ap (reply_reading_of after c.push_into.new.phase) (sym c.requires.none) ∙ ap (λ p. reply_reading_of after p c.args.decoding.now) (sym c.in-None.ensures.none.0) in
    subst (λ r. ReplyPushes framing.Any (phase_reading c.args.bytes.now.items c.args.phase.now) c.args.piece.now r c.in_ok-taken.taken) same
    (pushes_plain framing.Any c.args.bytes.now.items c.args.piece.now c.push_into.new.bytes.items c.in_ok-taken.taken c.args.phase.now c.push_into.new.phase c.in-None.ensures.none.1 c.in_ok-taken.ensures.ok)

pub returns-in-None-clause-looks : goal.returns-in-None-clause-looks
returns-in-None-clause-looks c = λ text h.
    let after = c.push_into.new.bytes.items in
    let same : phase_reading after c.push_into.new.phase ≡ reply_reading_of after c.begun.new.phase c.args.decoding.now =
    ap (reply_reading_of after c.push_into.new.phase) (sym c.requires.none) ∙ ap (λ p. reply_reading_of after p c.args.decoding.now) (sym c.in-None.ensures.none.0) in
    subst (λ r. HasLooked c.push_into.new.looked (left_of_reply r) (text ++ take c.in_ok-taken.taken c.args.piece.now)) same
    (plain_looks framing.Any c.args.bytes.now.items c.args.piece.now c.push_into.new.bytes.items c.args.phase.now c.push_into.new.phase c.in_ok-taken.taken c.args.looked.now c.push_into.new.looked text c.requires.sound
    c.in_ok-taken.ensures.ok c.in_ok-taken.ensures.looks h)

pub returns-in-Some-clause-pushes : goal.returns-in-Some-clause-pushes
returns-in-Some-clause-pushes c =
    let decoded = rw (take_rest c.args.piece.now c.in_ok-taken.taken) at c.decode-count.ensures in
    any_pushes c.args.bytes.now.items c.args.piece.now c.push_into.new.bytes.items c.in_ok-taken.taken c.decode-count.result.0 c.args.phase.now c.push_into.new.phase c.in-Some.head c.in-Some.ensures.some.2.0 c.requires.unchunked c.in_ok-taken.ensures.ok
    c.in-Some.ensures.some.2.1 c.in-Some.ensures.some.1
    c.new.result c.decode-count.result.1 c.push_into.new.bytes.items c.begun.new.phase c.new.ensures.empty c.new.ensures.start.0 c.new.ensures.start.1 decoded.within decoded.grows

pub returns-in-Some-clause-looks : goal.returns-in-Some-clause-looks
returns-in-Some-clause-looks c = λ text h.
    let decoded = rw (take_rest c.args.piece.now c.in_ok-taken.taken) at c.decode-count.ensures in
    any_looks c.args.bytes.now.items c.args.piece.now c.push_into.new.bytes.items c.in_ok-taken.taken c.decode-count.result.0 c.args.phase.now c.push_into.new.phase c.in-Some.head c.in-Some.ensures.some.2.0 c.requires.unchunked c.in_ok-taken.ensures.ok
    c.in-Some.ensures.some.2.1 c.in-Some.ensures.some.1
    c.new.result c.decode-count.result.1 c.push_into.new.bytes.items c.begun.new.phase c.args.looked.now c.push_into.new.looked c.requires.sound c.in_ok-taken.ensures.looks decoded.grows text h

pub returns-in-Some-clause-counts : goal.returns-in-Some-clause-counts
returns-in-Some-clause-counts c = λ more.
    any_counts c.args.bytes.now.items c.args.piece.now c.push_into.new.bytes.items c.in_ok-taken.taken c.decode-count.result.0 c.args.phase.now c.push_into.new.phase c.in-Some.head c.in-Some.ensures.some.2.0 c.requires.unchunked c.in_ok-taken.ensures.ok
    c.in-Some.ensures.some.2.1 c.in-Some.ensures.some.1
    c.args.looked.now c.push_into.new.looked (c.in_ok-taken.ensures.counts more)
