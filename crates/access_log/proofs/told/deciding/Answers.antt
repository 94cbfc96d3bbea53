use Rattle.std.proofs.Common.{◌∙◌, sym, ap}
use Rattle.gateway_model.specs.CallRecord.{CallRecord, last_event}
use Rattle.gateway_theory.specs.lemmas.ReplyLemmas.{last_is}
use Rattle.access_log.proofs.told.deciding.Goals as goal

pub returns : goal.returns
returns c =
    c.last.ensures.value ∙ sym (last_is c.deref.result.now) ∙ ap last_event c.deref.ensures.value ∙ ap (λ (r : CallRecord). last_event r.events) c.call.view_is
