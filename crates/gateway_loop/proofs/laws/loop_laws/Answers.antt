use Rattle.gateway_loop.proofs.Words.{◌∙◌}
use Rattle.gateway_loop.proofs.laws.loop_laws.Goals as goal

pub returns : goal.returns
returns c =
    let known = c.known_law.ensures in
    record {
      known = known;
      entries = λ v h occurred served all conn there. c.begins_law.ensures.taken _ h _ (known v h occurred served all) conn ((known v h occurred served all).open_are conn ∙ there);
      bytes = λ v h occurred served all conn there. c.begins_law.ensures.bytes _ h _ (known v h occurred served all) conn ((known v h occurred served all).open_are conn ∙ there);
      nothing_later = c.queue_law.ensures.nothing_later;
    }
