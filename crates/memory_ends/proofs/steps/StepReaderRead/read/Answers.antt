use Rattle.std.proofs.Common.{arith, sym, ◌∙◌, rules, ◌≡◌, take, drop}
use Rattle.memory_ends.proofs.StepLemmas.{step_given, step_ended}
use Rattle.memory_ends.proofs.steps.StepReaderRead.read.Goals as goal

pub returns-clause-bytes : goal.returns-clause-bytes
returns-clause-bytes g c =
    let n_is = c.min-count.ensures in
    let m_is = c.min.ensures in
    let l_is = c.len-2.ensures in
    let some = c.self.invariant in
    let given_is : c.copy_from_slice.new.self ≡ take c.min-count.result (drop c.self.inside.at c.self.inside.bytes.items) = search rules in (
      sym c.self.view_is ∙ step_given c.self.inside.bytes.items c.args.buf.now _ c.self.inside.at c.min-count.result given_is (omega arith),
      λ none room. step_ended c.self.inside.bytes.items c.args.buf.now _ c.self.inside.at c.min-count.result c.self.inside.step given_is (omega arith) some.1 none room,
    )
