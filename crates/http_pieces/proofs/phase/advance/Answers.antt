use Rattle.std.proofs.Common.{length, Result, Ok, Err, sym, subst, ◌∙◌, arith, inl}
use Rattle.std.specs.Result.{IfOk}
use Rattle.http_pieces.specs.Form.{Grows}
use Rattle.http_pieces.specs.declared.phase.Phase.TheVariants as phase
use Rattle.http_pieces.proofs.ScanLemmas.{scan_moves, scan_ends}
use Rattle.http_pieces.proofs.CountLemmas.{limit_looked, open_looked}
use Rattle.http_pieces.proofs.PhaseLemmas.{too_large_grows, head_grows}
use Rattle.http_pieces.proofs.phase.advance.Goals as goal

both_ok : {A E : Type 0} (r : Result A E) (P Q S : A → Type 0) → ((a : A) → P a → Q a → S a) → IfOk r P → IfOk r Q → IfOk r S
both_ok (Ok a) P Q S f p q = f a p q
both_ok (Err e) P Q S f p q = tt

pub returns-then-scan-eq4-clause-ok : goal.returns-then-scan-eq4-clause-ok
returns-then-scan-eq4-clause-ok g c =
    let form = g.M.Message.form in
    let before = c.args.bytes.now.items in
    let scan = c.scan_piece-scan.result in
    let scans = rw c.deref.ensures.value at c.scan_piece-scan.ensures in
    let moves = scan_moves before c.args.piece.now scan c.args.matched c.requires scans.to (inl c.if-scan-eq4.true) in
    both_ok c.read_head.result _ _ _ (λ r grows seen. record { grows = grows; moves = λ some. omega (arith, moves, seen) }) c.read_head.ensures.ok c.read_head.ensures.seen

pub returns-then-scan-eq-MAX_HEAD-clause-ok : goal.returns-then-scan-eq-MAX_HEAD-clause-ok
returns-then-scan-eq-MAX_HEAD-clause-ok g c =
    let form = g.M.Message.form in
    let scans = rw c.deref.ensures.value at c.scan_piece-scan.ensures in
    record {
      grows = too_large_grows form c.args.bytes.now.items c.args.piece.now c.clear.new.self.items c.scan_piece-scan.result c.too_large.result scans.to c.if-scan-eq4.false c.if-scan-eq-MAX_HEAD.true c.too_large.ensures;
      moves = λ some. some;
    }

pub returns-clause-ok : goal.returns-clause-ok
returns-clause-ok g c =
    let form = g.M.Message.form in
    let before = c.args.bytes.now.items in
    let piece = c.args.piece.now in
    let scan = c.scan_piece-scan.result in
    let scans = rw c.deref.ensures.value at c.scan_piece-scan.ensures in
    let grows = head_grows form before piece scan scans.to c.if-scan-eq4.false c.if-scan-eq-MAX_HEAD.false (scan_ends before piece scan scans c.if-scan-eq4.false c.if-scan-eq-MAX_HEAD.false) in
    record {
      grows = subst (λ b. Grows form before piece b (length piece) (phase.Head scan.matched)) (sym (c.drop_front.ensures ∙ c.in_ok-front.ensures.held)) grows;
      moves = λ some. some;
    }

pub returns-then-scan-eq-MAX_HEAD-clause-counts : goal.returns-then-scan-eq-MAX_HEAD-clause-counts
returns-then-scan-eq-MAX_HEAD-clause-counts g c =
    let scans = rw c.deref.ensures.value at c.scan_piece-scan.ensures in
    limit_looked c.args.bytes.now.items c.args.piece.now c.scan_piece-scan.result scans.to c.if-scan-eq4.false c.if-scan-eq-MAX_HEAD.true

pub returns-clause-counts : goal.returns-clause-counts
returns-clause-counts g c =
    let before = c.args.bytes.now.items in
    let scan = c.scan_piece-scan.result in
    let scans = rw c.deref.ensures.value at c.scan_piece-scan.ensures in
    open_looked before c.args.piece.now scan scans.to c.if-scan-eq4.false (scan_ends before c.args.piece.now scan scans c.if-scan-eq4.false c.if-scan-eq-MAX_HEAD.false)
