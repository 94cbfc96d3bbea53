-- Rows of the definitions, by computation.
use Rattle.std.proofs.Common.{◌≡◌, Bool, true, false, List, ℕ, [], ◌∷◌, Some, codes, refl}
use Rattle.std.specs.Fmt.{digits}
use Rattle.httparse.specs.Grammar.{trim_ows}
use Rattle.http_pieces.specs.Fields.{NamedValue, has_option, same_without_case}
use Rattle.http_pieces.specs.Names.{same_name}
use Rattle.connect_codec.specs.Message.{message_bytes}
use Rattle.connect_codec.specs.BranchRequest.{BranchCall, branch_request}
use Rattle.connect_codec.specs.Passed.{passed}

-- ---- the fields that are passed on

abbrev names : List (List ℕ)
names = codes "authorization" ∷ codes "X-Tenant-Id" ∷ []

abbrev authorization : NamedValue
authorization = (codes "Authorization", codes "Bearer a, b")

none_without_names : passed [] (authorization ∷ []) ≡ []
unfolding same_name same_without_case has_option trim_ows
none_without_names = refl

none_of_another_name : passed names ((codes "Host", codes "a") ∷ (codes "X-Authorization", codes "b") ∷ []) ≡ []
unfolding same_name same_without_case has_option trim_ows
none_of_another_name = refl

-- in the order of the request, under the branch's own names, byte for byte
in_the_requests_order : passed names ((codes "x_tenant_id", codes "7") ∷ (codes "Host", codes "a") ∷ authorization ∷ [])
    ≡ (codes "X-Tenant-Id", codes "7") ∷ (codes "authorization", codes "Bearer a, b") ∷ []
unfolding same_name same_without_case has_option trim_ows
in_the_requests_order = refl

each_that_stands_twice : passed names (authorization ∷ (codes "AUTHORIZATION", []) ∷ []) ≡ (codes "authorization", codes "Bearer a, b") ∷ (codes "authorization", []) ∷ []
unfolding same_name same_without_case has_option trim_ows
each_that_stands_twice = refl

none_that_the_connection_names : passed names ((codes "Connection", codes "close, AUTHORIZATION") ∷ authorization ∷ (codes "X-Tenant-ID", codes "7") ∷ [])
    ≡ (codes "X-Tenant-Id", codes "7") ∷ []
unfolding same_name same_without_case has_option trim_ows
none_that_the_connection_names = refl

named_behind_it : passed names (authorization ∷ (codes "connection", codes "authorization") ∷ []) ≡ []
unfolding same_name same_without_case has_option trim_ows
named_behind_it = refl

-- ---- the request to a branch

abbrev asked : Bool → BranchCall
asked keeps = record {
  address = codes "127.0.0.1:9004";
  path = codes "/acme.v1.Car/Find";
  remaining = Some 90;
  request_id = Some (codes "r-7");
  passed = authorization ∷ [];
  body = codes "{}";
  keeps = keeps;
}

-- the connection is closed
asks_for_the_close : branch_request (asked false)
    ≡ codes "POST /acme.v1.Car/Find HTTP/1.1\r\nHost: 127.0.0.1:9004\r\nContent-Type: application/json\r\nContent-Length: 2\r\nConnect-Protocol-Version: 1\r\nConnect-Timeout-Ms: 90\r\nX-Request-Id: r-7\r\nAuthorization: Bearer a, b\r\nConnection: close\r\n\r\n{}"
unfolding digits branch_request message_bytes
asks_for_the_close = refl

-- the connection is kept
asks_for_no_close : branch_request (asked true)
    ≡ codes "POST /acme.v1.Car/Find HTTP/1.1\r\nHost: 127.0.0.1:9004\r\nContent-Type: application/json\r\nContent-Length: 2\r\nConnect-Protocol-Version: 1\r\nConnect-Timeout-Ms: 90\r\nX-Request-Id: r-7\r\nAuthorization: Bearer a, b\r\n\r\n{}"
unfolding digits branch_request message_bytes
asks_for_no_close = refl
