use Rattle.std.proofs.Common.{length, drop, sym, ap, ◌∙◌}
use Rattle.std.proofs.Math.Seq.{drop-append_seam}
use Rattle.http_pieces.proofs.ScanLemmas.{held_slice}
use Rattle.http_pieces.proofs.phase.append.Goals as goal

pub returns-else-scan-eq0-clause-held : goal.returns-else-scan-eq0-clause-held
returns-else-scan-eq0-clause-held c =
    rw (c.len-before.ensures, c.args.bytes.now.ok.0)
    (ap (drop (length c.args.bytes.now.items)) c.in_ok-extend_from_slice.ensures.items ∙ drop-append_seam c.args.bytes.now.items _
    ∙ sym (held_slice c.args.bytes.now.items c.args.piece.now c.args.scan c.requires.behind c.if-scan-eq0.false))
