-- The bytes of a message, field by field.
use Rattle.std.proofs.Common.{◌≡◌, ℕ, Bool, true, false, List, [], ◌∷◌, ◌++◌, refl, sym, ap, ◌∙◌, append_assoc, ◌==◌, ◌≢◌, length, arith, Some, None, Option, codes}
use Rattle.std.specs.Prelude.{decimal, option_map, not}
use Rattle.std.proofs.lemmas.Bool.{eq-eqb}
use Rattle.std.proofs.lemmas.Bool.Decides.{nat_tests}
use Rattle.std.proofs.lemmas.Grind.{flat_map-append}
use Rattle.std.proofs.lemmas.List.{append-nil}
use Rattle.std.specs.List.{flat_map}
use Rattle.http_pieces.specs.Fields.{NamedValue}
use Rattle.timeout_header.specs.Timeout.{timeout_text}
use Rattle.connect_codec.specs.BranchRequest.{BranchCall, request_line, first_fields, branch_fields, branch_request}
use Rattle.connect_codec.specs.Message.{crlf, field_line, message_bytes, field_if, field_of}
use Rattle.connect_codec.specs.Reply.{phrase_of, status_line}

-- the lines of the fields
abbrev pub lines : List NamedValue → List ℕ
lines fields = flat_map field_line fields

pub one_line : (old new : List ℕ) (field : NamedValue) → new ≡ old ++ field_line field → new ≡ old ++ lines (field ∷ [])
one_line old new field e = e ∙ ap (λ xs. old ++ xs) (sym (append-nil (field_line field)))

pub line_there : (old new : List ℕ) (present : Bool) (field : NamedValue) → present ≡ true → new ≡ old ++ field_line field → new ≡ old ++ lines (field_if present field)
line_there old new present field there e = rw there (one_line old new field e)

pub line_absent : (old new : List ℕ) (present : Bool) (field : NamedValue) → present ≡ false → new ≡ old → new ≡ old ++ lines (field_if present field)
line_absent old new present field absent e = rw absent (e ∙ sym (append-nil old))

pub line_of_some : (old new name : List ℕ) (found : Option (List ℕ)) (value : List ℕ) → found ≡ Some value → new ≡ old ++ field_line (name, value)
    → new ≡ old ++ lines (field_of name found)
line_of_some old new name found value is e = rw is (one_line old new (name, value) e)

pub line_of_none : (old new name : List ℕ) (found : Option (List ℕ)) → found ≡ None → new ≡ old → new ≡ old ++ lines (field_of name found)
line_of_none old new name found is e = rw is (e ∙ sym (append-nil old))

-- more lines behind those that stand
pub lines_grow : (start h k : List ℕ) (fields more : List NamedValue) → h ≡ start ++ lines fields → k ≡ h ++ lines more → k ≡ start ++ lines (fields ++ more)
lines_grow start h k fields more e f = f ∙ ap (λ xs. xs ++ lines more) e ∙ append_assoc start (lines fields) (lines more) ∙ ap (λ xs. start ++ xs) (sym (flat_map-append field_line fields more))

-- a head that ends, with its body
pub message_ends : (line head body : List ℕ) (fields : List NamedValue) → head ≡ line ++ crlf ++ lines fields → head ++ crlf ++ body ≡ message_bytes line fields body
unfolding message_bytes
message_ends line head body fields e = rw e refl

-- ---- the first line

pub status_line_ends : (status : ℕ) (phrase line : List ℕ) → phrase ≡ phrase_of status
    → line ≡ codes "HTTP/1.1 " ++ (decimal status ++ (codes " " ++ (phrase ++ crlf))) → status_line status ++ crlf ≡ line
status_line_ends status phrase line named e = rw (e, named) (simp append_assoc)

pub request_line_ends : (path line : List ℕ) → line ≡ codes "POST " ++ (path ++ codes " HTTP/1.1\r\n") → request_line path ++ crlf ≡ line
request_line_ends path line e = rw e (simp append_assoc)

-- ---- a reply

pub is_405 : (status : ℕ) → status ≡ 405 → (status == 405) ≡ true
is_405 status e = eq-eqb status 405 e

pub not_405 : (status : ℕ) → status ≢ 405 → (status == 405) ≡ false
not_405 status other = grind (arith, nat_tests)

-- the fields of a reply, by whether it has a document and by its length
abbrev pub fields_by : ℕ → Bool → ℕ → Bool → List NamedValue
fields_by status typed len last =
    field_if typed (codes "Content-Type", codes "application/json")
    ++ field_if (status == 405) (codes "Allow", codes "POST")
    ++ (codes "Content-Length", decimal len) ∷ []
    ++ field_if last (codes "Connection", codes "close")

pub reply_ends : (status : ℕ) (document : Bool) (body : List ℕ) (last : Bool) (start typed allowed sized closed : List ℕ) → start ≡ status_line status ++ crlf
    → typed ≡ start ++ lines (field_if document (codes "Content-Type", codes "application/json"))
    → allowed ≡ typed ++ lines (field_if (status == 405) (codes "Allow", codes "POST"))
    → sized ≡ allowed ++ field_line (codes "Content-Length", decimal (length body))
    → closed ≡ sized ++ lines (field_if last (codes "Connection", codes "close"))
    → closed ++ crlf ++ body ≡ message_bytes (status_line status) (fields_by status document (length body) last) body
reply_ends status document body last start typed allowed sized closed e0 e1 e2 e3 e4 =
    let two = lines_grow start typed allowed _ _ e1 e2 in
    let three = lines_grow start allowed sized _ _ two (one_line allowed sized (codes "Content-Length", decimal (length body)) e3) in
    let four = lines_grow start sized closed _ _ three e4 in
    message_ends (status_line status) closed body _ (four ∙ ap (λ xs. xs ++ lines (fields_by status document (length body) last)) e0)

-- ---- a branch request

pub first_ends : (call : BranchCall) (start host typed sized version timed named : List ℕ) → start ≡ request_line call.path ++ crlf
    → host ≡ start ++ field_line (codes "Host", call.address)
    → typed ≡ host ++ field_line (codes "Content-Type", codes "application/json")
    → sized ≡ typed ++ field_line (codes "Content-Length", decimal (length call.body))
    → version ≡ sized ++ field_line (codes "Connect-Protocol-Version", codes "1")
    → timed ≡ version ++ lines (field_of (codes "Connect-Timeout-Ms") (option_map timeout_text call.remaining))
    → named ≡ timed ++ lines (field_of (codes "X-Request-Id") call.request_id)
    → named ≡ (request_line call.path ++ crlf) ++ lines (first_fields call)
first_ends call start host typed sized version timed named e0 e1 e2 e3 e4 e5 e6 =
    let at : NamedValue = (codes "Host", call.address) in
    let kind : NamedValue = (codes "Content-Type", codes "application/json") in
    let len : NamedValue = (codes "Content-Length", decimal (length call.body)) in
    let protocol : NamedValue = (codes "Connect-Protocol-Version", codes "1") in
    let time = field_of (codes "Connect-Timeout-Ms") (option_map timeout_text call.remaining) in
    let id = field_of (codes "X-Request-Id") call.request_id in
    let two = lines_grow start host typed (at ∷ []) (kind ∷ []) (one_line start host at e1) (one_line host typed kind e2) in
    let three = lines_grow start typed sized (at ∷ kind ∷ []) (len ∷ []) two (one_line typed sized len e3) in
    let four = lines_grow start sized version (at ∷ kind ∷ len ∷ []) (protocol ∷ []) three (one_line sized version protocol e4) in
    let five = lines_grow start version timed (at ∷ kind ∷ len ∷ protocol ∷ []) time four e5 in
    let six = lines_grow start timed named (at ∷ kind ∷ len ∷ protocol ∷ [] ++ time) id five e6 in
    six ∙ ap (λ xs. xs ++ lines (first_fields call)) e0

pub branch_request_ends : (call : BranchCall) (first more : List ℕ) → first ≡ (request_line call.path ++ crlf) ++ lines (first_fields call)
    → more ≡ first ++ lines call.passed
    → more ++ lines (field_if (not call.keeps) (codes "Connection", codes "close")) ++ crlf ++ call.body ≡ branch_request call
unfolding branch_request
branch_request_ends call first more e0 e1 =
    let start = request_line call.path ++ crlf in
    let close : List NamedValue = field_if (not call.keeps) (codes "Connection", codes "close") in
    let two = lines_grow start first more (first_fields call) call.passed e0 e1 in
    let three = lines_grow start more (more ++ lines close) (first_fields call ++ call.passed) close two refl in
    message_ends (request_line call.path) (more ++ lines close) call.body (branch_fields call) three
