use Rattle.loop_model.proofs.ShareLemmas.{requests_are, told, told_last}
use Rattle.loop_model.proofs.laws.pairing_law.Goals as goal

pub returns-clause-written : goal.returns-clause-written
returns-clause-written c = requests_are

pub returns-clause-told : goal.returns-clause-told
returns-clause-told c manner = told manner (c.reply_cut_law.ensures.unique manner.framing) (c.reply_cut_law.ensures.reply_stays manner.framing)

pub returns-clause-told_last : goal.returns-clause-told_last
returns-clause-told_last c manner = told_last manner (c.reply_cut_law.ensures.unique manner.framing) (c.reply_cut_law.ensures.reply_stays manner.framing)
