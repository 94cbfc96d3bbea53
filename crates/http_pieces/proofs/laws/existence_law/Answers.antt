use Rattle.http_pieces.specs.Head.{request_kind}
use Rattle.http_pieces.specs.ReplyHead.{reply_kind}
use Rattle.http_pieces.proofs.Existence.{any_cut, any_requests}
use Rattle.http_pieces.proofs.laws.existence_law.Goals as goal

pub returns : goal.returns
returns c = record {
  cut = λ k text. any_cut (request_kind k) text;
  reply_cut = λ framing text. any_cut (reply_kind framing) text;
  requests = any_requests;
}
