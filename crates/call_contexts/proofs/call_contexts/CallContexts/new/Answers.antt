use Rattle.call_contexts.proofs.Names.{refl, []}
use Rattle.call_contexts.proofs.Indexing.{none_kept}
use Rattle.call_contexts.proofs.Seeing.{new_sound, base_live}
use Rattle.call_contexts.proofs.call_contexts.CallContexts.new.Goals as goal

pub invariant_of-result : goal.invariant_of-result
invariant_of-result g c =
    let one = (c.in-Ok.ensures.made [] c.new-tree.ensures).1 in
    let two = (c.in-Ok-with_cancel.ensures.made _ one).1 in
    record { sound = rw (c.new-2.ensures.items, c.new-3.ensures.items) (new_sound c.tree_laws.ensures c.in-Ok.root c.in-Ok-with_cancel.base c.with_cancel.new.self two c.new.result c.new.ensures); rising = rw c.new-3.ensures.items tt; indexed = rw (c.new-3.ensures.items, c.new-4.ensures) none_kept }

pub returns : goal.returns
returns g c =
    let one = (c.in-Ok.ensures.made [] c.new-tree.ensures).1 in
    let two = (c.in-Ok-with_cancel.ensures.made _ one).1 in
    rw (c.new-2.ensures.items, c.new-3.ensures.items, base_live c.tree_laws.ensures c.in-Ok.root c.in-Ok-with_cancel.base c.with_cancel.new.self two, c.new.ensures.waiting_is) refl
