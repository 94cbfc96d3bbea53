use Rattle.std.proofs.Common.{◌∙◌}
use Rattle.std.proofs.lemmas.Bool.{eqb-true}
use Rattle.branch_exchange.proofs.ExchangeLemmas.{taken_alone, taken_begins, takes_none}
use Rattle.branch_exchange.proofs.exchange.take_in.Goals as goal

pub returns-in-Some : goal.returns-in-Some
returns-in-Some c = λ framing bytes h.
    let framed = c.in_ok-count.ensures.takes.framing ∙ h.framing_is in
    let read = c.in_ok-count.ensures.reads bytes _ h.reads in (
      taken_begins framing bytes c.args.piece.now c.in_ok-count.count c.push.new.self c.in-Some.reply framed c.in-Some.ensures.gives read (c.reply_cut_law.ensures.reply_stays framing),
      λ all. taken_alone framing bytes c.args.piece.now c.in_ok-count.count c.push.new.self c.in-Some.reply framed c.in-Some.ensures.gives read (eqb-true _ _ all),
    )

pub returns-in-None : goal.returns-in-None
returns-in-None c = λ framing bytes h.
    takes_none framing (c.reply_cut_law.ensures.unique framing) bytes c.args.piece.now c.in_ok-count.count c.push.new.self c.take.new.self
    (c.in_ok-count.ensures.takes.framing ∙ h.framing_is) c.in_ok-count.ensures.takes.all c.in-None.ensures.waits c.in-None.ensures.none
    (c.in-None.ensures.reads _ _ (c.in_ok-count.ensures.reads bytes _ h.reads))
