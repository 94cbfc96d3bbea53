-- What a reader of HTTP/1.1 finds in the messages of this crate, whatever bytes follow them (RFC 9112, in the grammar of `httparse`).
use Rattle.std.specs.Prelude.{◌≡◌, ℕ, ◌<◌, ◌^◌, List, [], ◌∷◌, ◌++◌, length, map, reverse, All, IfSome, decimal, codes}
use Rattle.httparse.specs.Grammar.{RequestHead, ReadsRequest, ResponseHead, ReadsResponse, status_code, AllPass, IsToken, is_value_byte, skip_ows}
use Rattle.httparse.specs.Spans.{name_and_value}
use Rattle.http_pieces.specs.Fields.{NamedValue, values_of}
use Rattle.connect_codec.specs.Headers.{is_visible}
use Rattle.connect_codec.specs.BranchRequest.{BranchCall, branch_fields}

-- the fields frame a body of this length: one `Content-Length` says it, and there is no `Transfer-Encoding` (RFC 9112, section 6.3)
pub record Frames (fields : List NamedValue) (len : ℕ) : Type 0 where
  pub one_length : values_of (codes "Content-Length") fields ≡ decimal len ∷ []
  pub no_coding : values_of (codes "Transfer-Encoding") fields ≡ []

-- a response head with this status and these fields
pub record IsHeadOfReply (head : ResponseHead) (status : ℕ) (fields : List NamedValue) : Type 0 where
  pub version : head.minor ≡ 1
  pub status_is : status_code head ≡ status
  pub fields_are : map name_and_value head.fields ≡ fields

-- The bytes of a reply, and any more behind them: they are a head with this status and these fields, then this body, then the
-- others, and there is no other way to read them. The fields say where the body ends.
pub record ReadsAsReply (reply : List ℕ) (status : ℕ) (fields : List NamedValue) (body more : List ℕ) : Type 0 where
  pub found : (head : ResponseHead) × IsHeadOfReply head status fields × ReadsResponse (reply ++ more) head (body ++ more)
  pub only : (head : ResponseHead) (rest : List ℕ) → ReadsResponse (reply ++ more) head rest → IsHeadOfReply head status fields × (rest ≡ body ++ more)
  pub framed : Frames fields (length body)

-- a request head with the method, the target and the fields of a branch request
pub record IsHeadOfCall (head : RequestHead) (call : BranchCall) : Type 0 where
  pub method : head.method ≡ codes "POST"
  pub target : head.target ≡ call.path
  pub version : head.minor ≡ 1
  pub fields_are : map name_and_value head.fields ≡ branch_fields call

-- a field as a reader finds it: its name is a token, and its value, of the bytes that values have, neither begins nor ends with a blank (RFC 9112, section 5)
pub record IsFound (f : NamedValue) : Type 0 where
  pub name : IsToken f.0
  pub value : AllPass is_value_byte f.1
  pub front : skip_ows f.1 ≡ f.1
  pub back : skip_ows (reverse f.1) ≡ reverse f.1

-- none of the fields has that name
abbrev pub NoneNamed : List ℕ → List NamedValue → Type 0
NoneNamed name fields = values_of name fields ≡ []

-- the parts of a branch request that others choose: bytes that can be seen, from `!` to `~`, where the path is not empty; and fields that were
-- found in a request, and say no length, no coding and no host
pub record IsSendable (call : BranchCall) : Type 0 where
  pub some_path : 0 < length call.path
  pub path : AllPass is_visible call.path
  pub address : AllPass is_visible call.address
  pub request_id : IfSome call.request_id (AllPass is_visible)
  pub passed : All IsFound call.passed
  pub no_length : NoneNamed (codes "Content-Length") call.passed
  pub no_coding : NoneNamed (codes "Transfer-Encoding") call.passed
  pub no_host : NoneNamed (codes "Host") call.passed
  pub body : length call.body < 2 ^ 64

-- The bytes of a branch request, and any more behind them: they are its head, then its body, then the others, and there is no
-- other way to read them. The fields say where the body ends, and name one host (RFC 9112, section 3.2).
pub record ReadsAsCall (request : List ℕ) (call : BranchCall) (more : List ℕ) : Type 0 where
  pub found : (head : RequestHead) × IsHeadOfCall head call × ReadsRequest (request ++ more) head (call.body ++ more)
  pub only : (head : RequestHead) (rest : List ℕ) → ReadsRequest (request ++ more) head rest → IsHeadOfCall head call × (rest ≡ call.body ++ more)
  pub framed : Frames (branch_fields call) (length call.body)
  pub one_host : values_of (codes "Host") (branch_fields call) ≡ call.address ∷ []
