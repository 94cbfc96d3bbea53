use Rattle.std.proofs.Common.{length, sym, subst}
use Rattle.std.proofs.lemmas.List.{take_rest}
use Rattle.http_pieces.specs.Cut.{IsBlock}
use Rattle.http_pieces.specs.Scan.{held}
use Rattle.http_pieces.proofs.ScanLemmas.{head_block}
use Rattle.http_pieces.proofs.CountLemmas.{ended_looked}
use Rattle.http_pieces.proofs.PhaseLemmas.{grows_behind}
use Rattle.http_pieces.proofs.phase.read_head.Goals as goal

pub begin_body-requires-clause-block : goal.begin_body-requires-clause-block
begin_body-requires-clause-block g c =
    let text = held c.args.bytes.now.items c.args.piece.now c.args.scan in
    subst (λ t. IsBlock t (length t)) (sym c.in_ok-front.ensures.held) (head_block text c.args.scan.matched c.requires.scanned.head c.requires.whole)

pub returns-in-Ok-clause-ok : goal.returns-in-Ok-clause-ok
returns-in-Ok-clause-ok g c =
    let form = g.M.Message.form in
    let before = c.args.bytes.now.items in
    let piece = c.args.piece.now in
    let grows = rw (c.in_ok-front.ensures.held, take_rest piece c.args.scan.seen) at c.in-Ok.ensures.ok in
    grows_behind form before piece (held before piece c.args.scan) _ c.args.scan.seen c.in-Ok.taken c.in-Ok.phase (sym c.requires.scanned.text_is) c.requires.scanned.within grows

pub returns-in-Ok-clause-counts : goal.returns-in-Ok-clause-counts
returns-in-Ok-clause-counts g c =
    ended_looked c.args.bytes.now.items c.args.piece.now c.args.scan c.requires.scanned c.requires.whole c.in-Ok.taken
