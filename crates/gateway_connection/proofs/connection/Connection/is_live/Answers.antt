use Rattle.gateway_connection.specs.lemmas.Names.{◌∙◌, ap, sym, is_some, call_id, CallState, HeldConnection, call_missing}
use Rattle.gateway_connection.proofs.HoldsLemmas.{found_call}
use Rattle.gateway_connection.proofs.connection.Connection.is_live.Goals as goal

pub returns-in-Some : goal.returns-in-Some
returns-in-Some c = c.is_live.ensures ∙ sym (ap (λ (x : CallState). is_some x.live)
    (found_call (call_id c.args.self.now.number c.args.request) c.self.inside.calls.items c.args.self.now.calls c.in-Some.index c.index.result.now (ap (λ (k : HeldConnection). k.calls) c.self.view_is) c.in-Some.ensures c.index.ensures))

pub returns-in-None : goal.returns-in-None
returns-in-None c = sym (ap (λ (x : CallState). is_some x.live) (call_missing (call_id c.args.self.now.number c.args.request) c.args.self.now.calls c.in-None.ensures))
