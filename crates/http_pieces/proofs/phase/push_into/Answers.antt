use Rattle.std.proofs.Common.{subst}
use Rattle.http_pieces.specs.Form.{IsPhaseSound}
use Rattle.http_pieces.proofs.CountLemmas.{head_counts, body_counts}
use Rattle.http_pieces.proofs.PhaseLemmas.{body_pushes}
use Rattle.http_pieces.proofs.phase.push_into.Goals as goal

pub returns-in_ok-taken-in-Body-clause-ok : goal.returns-in_ok-taken-in-Body-clause-ok
returns-in_ok-taken-in-Body-clause-ok g c =
    body_pushes g.M.Message.form c.args.bytes.now.items c.args.piece.now _ c.in-Body.field-0 c.in-Body.field-1 c.in-Body.missing _ c.args.phase.now c.replace.result _
    c.in-Body.is c.requires.sound c.in_ok-taken-in-Body.ensures.taken c.in_ok-taken-in-Body.ensures.added c.replace.ensures.value c.filled.ensures

pub returns-in_ok-taken-in-Head-clause-counts : goal.returns-in_ok-taken-in-Head-clause-counts
returns-in_ok-taken-in-Head-clause-counts g c more =
    let before = c.args.bytes.now.items in
    let sound = subst (IsPhaseSound g.M.Message.form before) c.in-Head.is c.requires.sound in
    head_counts before c.args.piece.now c.in-Head.matched _ _ c.args.looked.now c.looked_on.result sound c.in_ok-taken-in-Head.ensures.counts c.looked_on.ensures c.requires.still

pub returns-in_ok-taken-in-Body-clause-counts : goal.returns-in_ok-taken-in-Body-clause-counts
returns-in_ok-taken-in-Body-clause-counts g c more =
    let form = g.M.Message.form in
    let before = c.args.bytes.now.items in
    let sound = subst (IsPhaseSound form before) c.in-Body.is c.requires.sound in
    body_counts form before c.args.piece.now _ _ _ c.in_ok-taken-in-Body.taken c.args.looked.now sound.0 c.requires.still
