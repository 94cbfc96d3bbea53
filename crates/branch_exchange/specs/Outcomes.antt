-- What an exchange came to means.
use Rattle.std.specs.Prelude.{Option, Some, None}
use Rattle.connect_codec.specs.declared.answer.Outcome.{Outcome}
use Rattle.connect_codec.specs.Outcome.{outcome_of}
use Rattle.branch_exchange.specs.declared.asked.Asked.{Asked}
use Rattle.branch_exchange.specs.declared.asked.Asked.TheVariants.{Reply, Lost, NoMemory}
use Rattle.branch_exchange.specs.declared.exchange_end.ExchangeEnd.{ExchangeEnd}
use Rattle.branch_exchange.specs.declared.exchange_end.ExchangeEnd.TheVariants as ends

-- the outcome that an answer comes to; for want of memory there is none
abbrev pub outcome_of_asked : Asked → Option Outcome
outcome_of_asked (Reply reply) = Some (outcome_of (Some reply))
outcome_of_asked Lost = Some (outcome_of None)
outcome_of_asked NoMemory = None

-- the same without the cause of a loss
abbrev pub asked_of : ExchangeEnd → Asked
asked_of (ends.Reply reply) = Reply reply
asked_of (ends.Lost loss) = Lost
asked_of ends.NoMemory = NoMemory
