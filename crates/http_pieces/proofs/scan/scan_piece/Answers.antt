use Rattle.std.proofs.Common.{◌+◌, refl, sym, ap, ◌∙◌, subst, get_or, arith}
use Rattle.http_pieces.specs.Scan.{IsScannedTo}
use Rattle.http_pieces.proofs.ScanLemmas.{scan_starts, scan_seen, scan_step}
use Rattle.http_pieces.proofs.scan.scan_piece.Goals as goal

pub loop-byte-init : goal.loop-byte-init
loop-byte-init c = record { seen_is = refl; to = scan_starts c.args.bytes.now c.args.piece.now c.args.matched c.requires }

pub loop-byte-preserved : goal.loop-byte-preserved
loop-byte-preserved c =
    let on = c.scan_on-scan.ensures in
    let to = scan_step c.args.bytes.now c.args.piece.now c.loop-byte.scan (get_or c.args.piece.now c.loop-byte.byte-index 0) c.loop-byte.invariant.to (omega arith) (ap (λ i. get_or c.args.piece.now i 0) (sym c.loop-byte.invariant.seen_is)) c.if-scan-eq4.false c.if-scan-eq-MAX_HEAD.false in
    record { seen_is = ap (λ s. s.seen) on ∙ scan_seen c.loop-byte.scan (get_or c.args.piece.now c.loop-byte.byte-index 0) ∙ ap (λ n. n + 1) c.loop-byte.invariant.seen_is; to = subst (IsScannedTo c.args.bytes.now c.args.piece.now) (sym on) to }
