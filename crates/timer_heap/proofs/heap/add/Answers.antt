use Rattle.std.proofs.Common.{◌≡◌, ◌++◌, ◌∷◌, [], ◌∙◌, sym, ap, subst, length, arith}
use Rattle.std.specs.Ordering.{nat_cmp}
use Rattle.std.specs.BTreeMap as tree
use Rattle.timer_heap.specs.Heap.{Settles}
use Rattle.timer_heap.proofs.Changes.{put_by, ok_there, settled_more, written_back}
use Rattle.timer_heap.proofs.Places.{push_placed}
use Rattle.timer_heap.proofs.heap.add.Goals as goal

pub settle-requires-clause-placed : goal.settle-requires-clause-placed
settle-requires-clause-placed c =
    let xs = c.args.heap.now.items in
    let long : c.len-place.result ≡ length xs = omega (arith, c.len-place.ensures, c.reserve.ensures.len, c.args.heap.now.ok.0) in
    let updates = ok_there _ _ c.insert.ensures.updates (sym c.is_err.ensures.value ∙ c.if-is_err.false) in
    let put = put_by c.args.places.now c.insert.new.self _ _ updates in
    rw (c.deref_mut.ensures.value, c.push_reserved.ensures.items, c.reserve.ensures.items) (push_placed xs c.args.entry _ _ c.requires.placed c.requires.free (rw (← long) put))

pub returns-clause-added : goal.returns-clause-added
returns-clause-added c =
    let xs = c.args.heap.now.items in
    let lent : c.deref_mut.result.now ≡ xs ++ c.args.entry ∷ [] = c.deref_mut.ensures.value ∙ c.push_reserved.ensures.items ∙ ap (λ l. l ++ c.args.entry ∷ []) c.reserve.ensures.items in
    let long = c.settle.auto.heap in
    let settles = subst (λ l. Settles l c.settle.new.heap (tree.get nat_cmp c.settle.new.places) c.settle.result) lent c.settle.ensures in
    rw (written_back c.push_reserved.new.self.items c.settle.new.heap c.push_reserved.new.self.len (long ∙ ap length c.deref_mut.ensures.value) c.push_reserved.new.self.ok.0)
    (settled_more c.args.entry xs c.settle.new.heap _ c.settle.result settles)
