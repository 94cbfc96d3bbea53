use Rattle.branch_exchange.proofs.ExchangeLemmas.{fresh_reading}
use Rattle.branch_exchange.proofs.exchange.Exchange.new.Goals as goal

pub returns-clause-unread : goal.returns-clause-unread
returns-clause-unread c =
    fresh_reading c.args.framing (c.reply_cut_law.ensures.unique c.args.framing) c.with_framing.result c.with_framing.ensures.reader c.with_framing.ensures.reads
