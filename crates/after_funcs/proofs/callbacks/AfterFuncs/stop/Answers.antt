use Rattle.std.proofs.Common.{◌≡◌, not, filter, ap, ◌∙◌, rules}
use Rattle.std.proofs.lemmas.Fn.{filter_same}
use Rattle.std.specs.List.{list_any}
use Rattle.after_funcs.specs.Hooks.{is_named}
use Rattle.after_funcs.proofs.Stopping.{shorter}
use Rattle.after_funcs.proofs.callbacks.AfterFuncs.stop.Goals as goal

pub returns-clause-waited : goal.returns-clause-waited
returns-clause-waited g c past stands =
    let left : c.retain.new.self.items ≡ filter (λ r. not (is_named c.args.id r)) c.args.self.now.waiting.items =
    filter_same _ _ _ (λ x b f' k. search rules) _ _ c.retain.ensures.filtered in
    rw (c.len.ensures, c.len-waiting.ensures, c.retain.new.self.ok.0, c.args.self.now.waiting.ok.0, left, shorter (is_named c.args.id) c.args.self.now.waiting.items)
    (ap (list_any (is_named c.args.id)) stands.waiting_is)

pub returns-clause-stands : goal.returns-clause-stands
returns-clause-stands g c past stands =
    let left : c.retain.new.self.items ≡ filter (λ r. not (is_named c.args.id r)) c.args.self.now.waiting.items =
    filter_same _ _ _ (λ x b f' k. search rules) _ _ c.retain.ensures.filtered in
    record {
      waiting_is = left ∙ ap (filter (λ r. not (is_named c.args.id r))) stands.waiting_is;
      due_is = stands.due_is;
      registered_is = stands.registered_is;
    }
