use Rattle.std.proofs.Common.{ℕ, List, []}
use Rattle.std.specs.Borrow.{Bor}
use Rattle.access_log.specs.declared.members.Leaf.TheVariants.{Text}
use Rattle.access_log.proofs.LeafLemmas.{and_next}
use Rattle.access_log.proofs.members.object_text.Goals as goal

pub loop-key-preserved : goal.loop-key-preserved
loop-key-preserved c =
    let nothing : Bor (List ℕ) = record { ref_ptr = (0, 0); now = [] } in
    rw (and_next c.args.members.now c.loop-key.key-index (nothing, Text nothing) c.loop-key-test.true) (c.in_ok-put.ensures _ c.loop-key.invariant)
