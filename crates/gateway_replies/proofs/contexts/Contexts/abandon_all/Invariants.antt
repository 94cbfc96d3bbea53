use Rattle.gateway_replies.proofs.Names.{◌≡◌, length, KeepsOthers, hooks_of_others}
use Rattle.gateway_replies.proofs.contexts.Contexts.abandon_all.Given as goal

abbrev pub invariant-loop-id : goal.invariant-loop-id
invariant-loop-id g l =
    KeepsOthers l.number l.fn.self.standing l.self.standing × (l.self.stocks ≡ l.fn.self.stocks) × (hooks_of_others l.number l.self.hooks ≡ hooks_of_others l.number l.fn.self.hooks)
    × (l.self.called ≡ l.fn.self.called)

abbrev pub decreases-loop-id : goal.decreases-loop-id
decreases-loop-id g l = length l.self.standing.calls
