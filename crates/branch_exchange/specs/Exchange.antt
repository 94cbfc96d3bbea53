-- A request that is written, and what is read of its reply.
use Rattle.std.specs.Prelude.{◌≡◌, ℕ, Bool, true, List, [], Option, Some, None, ⊤}
use Rattle.http_pieces.specs.Cut.{Complete, IsCut, Refused}
use Rattle.http_pieces.specs.ReplyHead.{reply_kind}
use Rattle.http_pieces.specs.ReplyReader.{HasReadReply, ReplyReaderValue}
use Rattle.http_pieces.specs.declared.framing.Framing.{Framing}
use Rattle.http_pieces.specs.declared.reply.HttpReply.{HttpReply}
use Rattle.http_pieces.specs.declared.reply_state.ReplyState.{ReplyState}
use Rattle.http_pieces.specs.declared.reply_state.ReplyState.TheVariants as state
use Rattle.branch_exchange.specs.declared.exchange.Taken.{Taken}
use Rattle.branch_exchange.specs.declared.exchange_end.ExchangeEnd.{ExchangeEnd}
use Rattle.branch_exchange.specs.declared.exchange_end.ExchangeEnd.TheVariants.{Reply, Lost, NoMemory}
use Rattle.branch_exchange.specs.declared.exchange_end.Loss.{Loss}
use Rattle.branch_exchange.specs.declared.exchange_end.Loss.TheVariants as loss

-- what is left to be written of the request, the reader of the reply, and whether that is whole, and nothing was read behind it
pub record ExchangeValue : Type 0 where
  pub left : List ℕ
  pub replies : ReplyReaderValue
  pub alone : Bool

abbrev pub exchange_value : List ℕ → ReplyReaderValue → Bool → ExchangeValue
exchange_value left replies alone = record { left = left; replies = replies; alone = alone }

-- the text begins with this reply, whose body may be framed so
abbrev pub BeginsWithReply : Framing → List ℕ → HttpReply → Type 0
BeginsWithReply framing text reply = (rest : List ℕ) × IsCut (reply_kind framing) text (Complete reply rest)

-- the text is this reply, and nothing behind it
abbrev pub IsReplyAlone : Framing → List ℕ → HttpReply → Type 0
IsReplyAlone framing text reply = IsCut (reply_kind framing) text (Complete reply [])

-- the text does not begin with a whole reply
abbrev pub HasNoReply : Framing → List ℕ → Type 0
HasNoReply framing text = (reply : HttpReply) → ¬ (BeginsWithReply framing text reply)

-- a reader of replies that are framed so has read this text, which has no whole reply
pub record IsReading (framing : Framing) (reader : ReplyReaderValue) (text : List ℕ) : Type 0 where
  pub framing_is : reader.framing ≡ framing
  pub reads : HasReadReply reader text None
  pub unanswered : HasNoReply framing text

-- the text has no whole reply yet and was read by this reader, or begins with the reply that is given, and is that alone where that is said
abbrev pub TakesIn : Framing → ReplyReaderValue → List ℕ → Option Taken → Type 0
TakesIn framing reader text None = IsReading framing reader text
TakesIn framing reader text (Some taken) = BeginsWithReply framing text taken.reply × (taken.is_alone ≡ true → IsReplyAlone framing text taken.reply)

-- a reply is refused only where the text is
abbrev pub IsLostBy : Framing → List ℕ → Loss → Type 0
IsLostBy framing text (loss.Refused fault) = IsCut (reply_kind framing) text (Refused fault)
IsLostBy framing text _ = ⊤

-- why no reply comes of a reader in this state
abbrev pub loss_in : ReplyState → Loss
loss_in state.More = loss.Reads
loss_in (state.Refused fault) = loss.Refused fault
loss_in state.Complete = loss.End
loss_in state.Ended = loss.End

-- The text has no whole reply yet; or it begins with the reply that is given, and nothing was left to be written; or none will come: one
-- that is there is lost only where some was left. It is a reply alone where that is said.
abbrev pub ComesTo : Framing → ExchangeValue → List ℕ → Option ExchangeEnd → Type 0
ComesTo framing x text None = IsReading framing x.replies text
ComesTo framing x text (Some (Reply reply)) = BeginsWithReply framing text reply × (x.left ≡ []) × (x.alone ≡ true → IsReplyAlone framing text reply)
ComesTo framing x text (Some (Lost cause)) = IsLostBy framing text cause × (x.left ≡ [] → HasNoReply framing text)
ComesTo framing x text (Some NoMemory) = ⊤
