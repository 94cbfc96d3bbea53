use Rattle.gateway_replies.proofs.Names.{ℕ, List, ◌≡◌, ◌∙◌, ◌++◌, [], ◌∷◌, None, Some, refl, true, false, ap, sym, option_or, arc_value, ctx_for, if_due, names_in, CallContext, LifeValue, TimedBranch, by_deadline, HookedContexts, peer_ties}
use Rattle.gateway_replies.proofs.HookLemmas.{keeps, same_hooks_then}
use Rattle.gateway_replies.proofs.ContextLemmas.{agree, no_life, stands_in}
use Rattle.gateway_replies.proofs.BranchLemmas.{started_lives, started_tied, started_value}
use Rattle.gateway_replies.proofs.contexts.Contexts.start.Goals as goal

pub unreachable-requires : goal.unreachable-requires
unreachable-requires g c =
    let s = c.self.inside in
    let none : ctx_for c.args.id.now s.contexts.standing.calls ≡ None = sym c.ctx_for.ensures ∙ c.in_default.is in
    let clash : true ≡ false = sym c.requires
    ∙ no_life arc_value (peer_ties s.peers.items) s.contexts.standing c.args.self.now.standing c.args.id.now (ap (λ (u : HookedContexts _). u.standing) c.self.view_is) none in
    cc

pub branch-self-requires : goal.branch-self-requires
branch-self-requires g c = stands_in c.self.inside.contexts.standing.calls c.args.id.now c.in-Some.ctx (sym c.ctx_for.ensures ∙ c.in-Some.is)

abbrev with_one : {V : Type 0} → ℕ → ℕ → ℕ → CallContext V → List TimedBranch
with_one branch at now d = d.branches ++ record { branch = branch; deadline = at; ended = option_or d.ended (if_due now (Some at)) } ∷ []

abbrev life_one : ℕ → ℕ → ℕ → LifeValue → List TimedBranch
life_one branch at now l = l.branches ++ record { branch = branch; deadline = at; ended = option_or l.ended (by_deadline now (Some at)) } ∷ []

pub invariant_of-self : goal.invariant_of-self
invariant_of-self g c =
    started_tied (peer_ties c.self.inside.peers.items) c.self.inside.contexts c.branch-self.new.self c.branch-self.result c.in-Some.ctx
    (with_one c.args.branch c.args.at c.args.now) c.branch-self.ensures.stands c.branch-self.ensures.unchanged c.self.invariant

pub returns-clause-ok : goal.returns-clause-ok
returns-clause-ok g c =
    let s = c.self.inside in
    let at : ctx_for c.args.id.now s.contexts.standing.calls ≡ Some c.in-Some.ctx = sym c.ctx_for.ensures ∙ c.in-Some.is in
    started_value arc_value (peer_ties s.peers.items) s.contexts c.branch-self.new.self c.args.self.now.standing
    c.args.id.now c.branch-self.result c.in-Some.ctx (with_one c.args.branch c.args.at c.args.now) (life_one c.args.branch c.args.at c.args.now) (λ d. refl)
    c.branch-self.ensures.stands (agree s.contexts.standing.calls c.args.id.now c.in-Some.ctx c.apart_law.ensures.apart c.self.invariant.calls_apart at) (ap (λ (u : HookedContexts _). u.standing) c.self.view_is)

pub returns-clause-hooks : goal.returns-clause-hooks
returns-clause-hooks g c =
    let s = c.self.inside in
    keeps c.args.self.now _ _ s.peers.items (names_in s.contexts.standing.calls) (names_in c.branch-self.new.self.standing.calls) s.contexts.hooks c.branch-self.new.self.hooks c.self.view_is
    (started_lives s.contexts c.branch-self.new.self c.branch-self.result c.in-Some.ctx (with_one c.args.branch c.args.at c.args.now) c.branch-self.ensures.stands c.branch-self.ensures.unchanged)
    (same_hooks_then s.contexts c.branch-self.new.self c.branch-self.result _ c.branch-self.ensures.stands c.branch-self.ensures.unchanged)
