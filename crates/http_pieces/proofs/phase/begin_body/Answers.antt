use Rattle.std.proofs.Common.{drop, refl, subst}
use Rattle.std.proofs.lemmas.List.{take_rest}
use Rattle.http_pieces.specs.Form.{JudgesTo}
use Rattle.http_pieces.proofs.PhaseLemmas.{block_grows, block_begins}
use Rattle.http_pieces.proofs.phase.begin_body.Goals as goal

pub returns-in-Err-clause-ok : goal.returns-in-Err-clause-ok
returns-in-Err-clause-ok g c =
    let form = g.M.Message.form in
    let text = drop c.args.front c.args.bytes.now.items in
    let judged = rw (c.deref.ensures.value, take_rest c.args.bytes.now.items c.args.front) at c.in_ok-fault.ensures in
    block_grows form text c.args.piece.now c.in-Err.fault c.requires.block c.requires.unpaired (subst (JudgesTo form text) c.in-Err.is judged) c.clear.new.self.items

pub returns-in_ok-taken-in-Ok-clause-ok : goal.returns-in_ok-taken-in-Ok-clause-ok
returns-in_ok-taken-in-Ok-clause-ok g c =
    let form = g.M.Message.form in
    let text = drop c.args.front c.args.bytes.now.items in
    let judged = rw (c.deref.ensures.value, take_rest c.args.bytes.now.items c.args.front) at c.in_ok-fault.ensures in
    block_begins form c.args.bytes.now.items c.args.piece.now _ _ c.args.front _ c.in-Ok.length _ c.in-Ok.head _ c.requires.within c.requires.block c.requires.unpaired
    (subst (JudgesTo form text) c.in-Ok.is judged) (rw (c.len.ensures, c.args.bytes.now.ok.0) refl) c.in_ok-taken-in-Ok.ensures.taken c.in_ok-taken-in-Ok.ensures.added
    c.drop_front.ensures c.filled-phase.ensures
