use Rattle.call_contexts.proofs.Names.{◌∙◌, ap, sym, WithHooks, ctx_for}
use Rattle.call_contexts.proofs.Indexing.{told}
use Rattle.call_contexts.proofs.Seeing.{ctx_kept}
use Rattle.call_contexts.proofs.call_contexts.CallContexts.ctx_for.Goals as goal

pub returns : goal.returns
returns g c =
    c.find.ensures ∙ told c.args.id.now c.self.inside.calls.items c.self.invariant.indexed ∙ sym (ctx_kept c.self.inside.tree.slots c.args.id.now c.self.inside.calls.items)
    ∙ ap (λ (v : WithHooks _ _ _). ctx_for c.args.id.now v.standing.calls) c.self.view_is
