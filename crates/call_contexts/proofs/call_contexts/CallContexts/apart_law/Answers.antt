use Rattle.call_contexts.proofs.Distinct.{calls_apart}
use Rattle.call_contexts.proofs.Hooking.{hooks_of_calls}
use Rattle.call_contexts.proofs.Leaving.{seen_apart}
use Rattle.call_contexts.proofs.call_contexts.CallContexts.apart_law.Goals as goal

pub returns-clause-apart : goal.returns-clause-apart
returns-clause-apart g c = rw (← c.self.view_is) (seen_apart c.self.inside.tree.slots c.self.inside.calls.items (calls_apart c.self.invariant.sound.root c.self.inside.base c.self.inside.conns.items c.self.inside.calls.items c.self.invariant.sound.distinct))

pub returns-clause-hooked : goal.returns-clause-hooked
returns-clause-hooked g c =
    let s = c.self.invariant.sound in rw (← c.self.view_is) (hooks_of_calls c.self.inside.tree.slots c.self.inside.hooks s.hooks s.hooks_are c.self.inside.calls.items s.hook_waits)
