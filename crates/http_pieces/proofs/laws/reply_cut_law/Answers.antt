use Rattle.http_pieces.proofs.ReplyLemmas.{reply_unique, reply_complete_append, reply_refused_append}
use Rattle.http_pieces.proofs.laws.reply_cut_law.Goals as goal

pub returns-clause-unique : goal.returns-clause-unique
returns-clause-unique c = reply_unique

pub returns-clause-reply_stays : goal.returns-clause-reply_stays
returns-clause-reply_stays c = reply_complete_append

pub returns-clause-fault_stays : goal.returns-clause-fault_stays
returns-clause-fault_stays c = reply_refused_append
