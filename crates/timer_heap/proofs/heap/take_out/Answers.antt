use Rattle.std.proofs.Common.{◌≡◌, ◌<◌, ◌∙◌, ap, subst, length, arith}
use Rattle.std.specs.Ordering.{nat_cmp}
use Rattle.std.specs.BTreeMap as tree
use Rattle.std.specs.List.{swap_remove}
use Rattle.timer_heap.specs.Heap.{Settles}
use Rattle.timer_heap.proofs.Counting.{few_fit}
use Rattle.timer_heap.proofs.Changes.{put_by, read_at, last_out, filled_placed, filled_out, written_back}
use Rattle.timer_heap.proofs.heap.take_out.Goals as goal

pub returns-then-place-len : goal.returns-then-place-len
returns-then-place-len c =
    let xs = c.args.heap.now.items in
    let gone = read_at xs c.args.place c.swap_remove-gone.result c.requires.within c.swap_remove-gone.ensures.value in
    let is = c.swap_remove-gone.ensures.items ∙ ap (λ x. swap_remove xs c.args.place x) gone in
    let put = put_by c.args.places.now c.remove.new.self _ _ c.remove.ensures.updates in
    let last : c.args.place ≡ length c.swap_remove-gone.new.self.items = omega (arith, c.if-place-len.true, c.len.ensures, c.swap_remove-gone.new.self.ok.0) in
    last_out xs _ c.args.place _ _ c.requires.within is (rw (← gone) put) last c.requires.ordered c.requires.placed

pub settle-requires-clause-placed : goal.settle-requires-clause-placed
settle-requires-clause-placed c =
    let xs = c.args.heap.now.items in
    let gone = read_at xs c.args.place c.swap_remove-gone.result c.requires.within c.swap_remove-gone.ensures.value in
    let is = c.swap_remove-gone.ensures.items ∙ ap (λ x. swap_remove xs c.args.place x) gone in
    let put = put_by c.args.places.now c.remove.new.self _ _ c.remove.ensures.updates in
    let near : c.args.place < length c.swap_remove-gone.new.self.items = omega (arith, c.if-place-len.false, c.len.ensures, c.swap_remove-gone.new.self.ok.0, c.swap_remove-gone.ensures.len, c.args.heap.now.ok.0) in
    rw c.deref_mut.ensures.value (filled_placed xs _ c.args.place _ _ c.requires.within is (rw (← gone) put) _ _ near c.index.ensures c.put_place.ensures c.requires.placed)

pub overflow_add-result : goal.overflow_add-result
overflow_add-result c =
    let few = c.settle.ensures.few in
    let room = c.swap_remove-gone.new.self.ok.0 in
    let fits = few_fit c.settle.result (length c.deref_mut.result.now) few (omega (arith, c.deref_mut.ensures.len)) in
    omega (arith, fits)

pub returns : goal.returns
returns c =
    let xs = c.args.heap.now.items in
    let ys = c.swap_remove-gone.new.self.items in
    let gone = read_at xs c.args.place c.swap_remove-gone.result c.requires.within c.swap_remove-gone.ensures.value in
    let is = c.swap_remove-gone.ensures.items ∙ ap (λ x. swap_remove xs c.args.place x) gone in
    let put = put_by c.args.places.now c.remove.new.self _ _ c.remove.ensures.updates in
    let near : c.args.place < length ys = omega (arith, c.if-place-len.false, c.len.ensures, c.swap_remove-gone.new.self.ok.0, c.swap_remove-gone.ensures.len, c.args.heap.now.ok.0) in
    let settles = subst (λ l. Settles l c.settle.new.heap (tree.get nat_cmp c.settle.new.places) c.settle.result) c.deref_mut.ensures.value c.settle.ensures in
    rw (written_back ys c.settle.new.heap c.swap_remove-gone.new.self.len (c.settle.auto.heap ∙ ap length c.deref_mut.ensures.value) c.swap_remove-gone.new.self.ok.0)
    (filled_out xs ys c.args.place _ _ c.requires.within is (rw (← gone) put) _ _ near c.index.ensures c.put_place.ensures c.requires.placed c.settle.new.heap _ c.settle.result settles)
