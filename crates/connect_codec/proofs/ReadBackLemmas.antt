-- The messages of this crate, read back.
use Rattle.std.proofs.Common.{◌≡◌, ℕ, ◌/◌, ◌≤◌, ◌<◌, ◌^◌, Bool, true, false, List, [], ◌∷◌, ◌++◌, map, length, refl, ◌∙◌, append_assoc, arith, lit≤, lit<, ◌==◌, get_or, codes, Some, None, cond}
use Rattle.std.specs.Prelude.{All, decimal, min, not, Option, is_some, option_map, unwrap_or, IfSome}
use Rattle.std.proofs.lemmas.Bool.Decides.{nat_tests}
use Rattle.std.proofs.lemmas.Fmt.{decimal_is_IsNumeral, decimal_step, decimal_digit}
use Rattle.std.proofs.lemmas.List.Folds.{list_all-append}
use Rattle.std.proofs.lemmas.List.Sums.{AllPass-from_list_all, list_all-from_AllPass}
use Rattle.std.proofs.lemmas.Str.{IsUtf8-from_ascii}
use Rattle.std.proofs.lemmas.Str.Ascii.{IsAscii-from_all}
use Rattle.std.specs.Char.{is_ascii_digit}
use Rattle.std.specs.List.{list_all}
use Rattle.httparse.proofs.OnLiterals.{httparse_on_literals}
use Rattle.httparse.proofs.GrammarLemmas.{print_response-append, print_request-append, response_unique, request_unique}
use Rattle.httparse.specs.Grammar.{crlf, IsField, is_value_byte, ResponseHead, IsResponseHead, print_response, ReadsResponse, RequestHead, IsRequestHead, print_request, ReadsRequest, is_uri_byte, is_token, AllPass}
use Rattle.httparse.specs.Spans.{name_and_value}
use Rattle.http_pieces.specs.Fields.{NamedValue, values_of, same_without_case}
use Rattle.timeout_header.specs.Timeout.{timeout_text}
use Rattle.http_pieces.specs.declared.largest.TheConstants.{MAX_DECIMAL}
use Rattle.connect_codec.specs.Message.{message_bytes, field_if, field_of}
use Rattle.connect_codec.specs.Headers.{is_visible}
use Rattle.connect_codec.specs.Reply.{phrases, phrase_in, phrase_of, status_line, reply_bytes, reply_fields, is_bare_status}
use Rattle.error_document.specs.Codes.{code_status}
use Rattle.error_document.specs.declared.code.Code.{Code}
use Rattle.error_document.specs.declared.code.Code.TheVariants as code
use Rattle.connect_codec.specs.ReadBack.{IsHeadOfReply, ReadsAsReply, Frames, IsHeadOfCall, IsSendable, NoneNamed, ReadsAsCall}
use Rattle.connect_codec.specs.BranchRequest.{BranchCall, request_line, first_fields, branch_fields, branch_request}
use Rattle.connect_codec.proofs.MessageLemmas.{fields_by}
use Rattle.connect_codec.proofs.FieldLineLemmas.{both_true, sound_name, digits_pass, is_sound, as_field, all_fields, all_values, found_fields, found_values, both_fields, both_values, print_fields}

-- ---- statuses

pub three_digits : (status : ℕ) → 100 ≤ status → status < 1000 → length (decimal status) ≡ 3
three_digits status low high =
    let last = decimal_step status (omega arith) (omega arith) in
    let middle = decimal_step (status / 10) (omega arith) (omega arith) in
    let first = decimal_digit (status / 10 / 10) (omega arith) in
    rw (last, middle, first) refl

pub digits_of_status : (status : ℕ) → status < 1000 → list_all is_ascii_digit (decimal status) ≡ true
digits_of_status status high = digits_pass is_ascii_digit (λ b low top. grind (arith, nat_tests)) (decimal status) (decimal_is_IsNumeral status (omega arith)).0.1

abbrev are_phrases : List (ℕ × List ℕ) → Bool
are_phrases rows = list_all (λ row. list_all is_value_byte row.1) rows

phrase_in_value : (rows : List (ℕ × List ℕ)) (status : ℕ) → are_phrases rows ≡ true → list_all is_value_byte (phrase_in rows status) ≡ true
phrase_in_value [] status all = refl
phrase_in_value (row ∷ rows) status all =
    let h = both_true (list_all is_value_byte row.1) (are_phrases rows) all in
    by_status (status == row.0) h.0 (phrase_in_value rows status h.1)
  where
    by_status : (t : Bool) → list_all is_value_byte row.1 ≡ true → list_all is_value_byte (phrase_in rows status) ≡ true
        → list_all is_value_byte (cond t row.1 (phrase_in rows status)) ≡ true
    by_status true here later = here
    by_status false here later = later

phrase_value : (status : ℕ) → list_all is_value_byte (phrase_of status) ≡ true
unfolding phrase_of
phrase_value status = phrase_in_value phrases status refl

-- ---- replies

abbrev pub response_of : ℕ → List NamedValue → ResponseHead
response_of status fields = record {
  blank = [];
  minor = 1;
  digits = decimal status;
  reason = Some (phrase_of status);
  line_end = crlf;
  fields = map as_field fields;
  last = crlf;
}

pub is_response_head : (status : ℕ) (fields : List NamedValue) → 100 ≤ status → status < 1000 → list_all is_sound fields ≡ true → IsResponseHead (response_of status fields)
is_response_head status fields low high sound = record {
  minor = lit≤ tt;
  digits = (three_digits status low high, AllPass-from_list_all is_ascii_digit (decimal status) (digits_of_status status high));
  reason = AllPass-from_list_all is_value_byte (phrase_of status) (phrase_value status);
  fields = all_fields fields sound;
}

pub response_bytes : (status : ℕ) (fields : List NamedValue) (body more : List ℕ)
    → message_bytes (status_line status) fields body ++ more ≡ print_response (response_of status fields) ++ (body ++ more)
unfolding message_bytes
response_bytes status fields body more =
    rw (print_response-append (response_of status fields) (body ++ more), print_fields fields) (simp append_assoc)

pub reply_reads : (status : ℕ) (fields : List NamedValue) (body more : List ℕ) → 100 ≤ status → status < 1000 → list_all is_sound fields ≡ true → Frames fields (length body)
    → ReadsAsReply (message_bytes (status_line status) fields body) status fields body more
reply_reads status fields body more low high sound framed =
    let is_head : IsHeadOfReply (response_of status fields) status fields = record {
      version = refl;
      status_is = (decimal_is_IsNumeral status (omega arith)).1;
      fields_are = all_values fields sound;
    } in
    let reads : ReadsResponse (message_bytes (status_line status) fields body ++ more) (response_of status fields) (body ++ more) =
    (is_response_head status fields low high sound, response_bytes status fields body more) in
    record {
      found = (response_of status fields, is_head, reads);
      only = λ head rest other.
          let same = response_unique _ (response_of status fields) head (body ++ more) rest reads other in
          rw (← same.0, ← same.1) (is_head, refl);
      framed = framed;
    }

-- ---- the fields of a reply

pub all_append : (fields more : List NamedValue) → list_all is_sound fields ≡ true → list_all is_sound more ≡ true → list_all is_sound (fields ++ more) ≡ true
all_append fields more a b = list_all-append is_sound fields more ∙ rw (a, b) refl

all_if : (b : Bool) (f : NamedValue) → is_sound f ≡ true → list_all is_sound (field_if b f) ≡ true
all_if true f sound = rw sound refl
all_if false f sound = refl

digits_seen : (n : ℕ) → n < 2 ^ 64 → list_all is_visible (decimal n) ≡ true
digits_seen n small = digits_pass is_visible (λ b low top. grind (arith, nat_tests)) (decimal n) (decimal_is_IsNumeral n small).0.1

-- the length of a body
pub length_sound : (len : ℕ) → len < 2 ^ 64 → is_sound (codes "Content-Length", decimal len) ≡ true
unfolding httparse_on_literals
length_sound len small = rw (digits_seen len small) refl

pub reply_fields_sound : (status : ℕ) (document : Bool) (len : ℕ) (last : Bool) → len < 2 ^ 64 → list_all is_sound (fields_by status document len last) ≡ true
unfolding httparse_on_literals
reply_fields_sound status document len last small =
    all_append (field_if document _ ++ field_if (status == 405) _ ++ (codes "Content-Length", decimal len) ∷ []) (field_if last (codes "Connection", codes "close"))
    (all_append (field_if document _ ++ field_if (status == 405) _) ((codes "Content-Length", decimal len) ∷ [])
    (all_append (field_if document (codes "Content-Type", codes "application/json")) (field_if (status == 405) (codes "Allow", codes "POST"))
    (all_if document _ refl) (all_if (status == 405) _ refl))
    (rw (length_sound len small) refl))
    (all_if last _ refl)

values_of-append : (name : List ℕ) (fields more : List NamedValue) → values_of name (fields ++ more) ≡ values_of name fields ++ values_of name more
values_of-append name [] more = refl
values_of-append name (f ∷ fields) more = by_name (values_of-append name fields more) (same_without_case f.0 name)
  where
    by_name : values_of name (fields ++ more) ≡ values_of name fields ++ values_of name more → (t : Bool)
        → cond t (f.1 ∷ values_of name (fields ++ more)) (values_of name (fields ++ more)) ≡ cond t (f.1 ∷ values_of name fields) (values_of name fields) ++ values_of name more
    by_name later true = rw later refl
    by_name later false = later

values_if : (name : List ℕ) (b : Bool) (f : NamedValue) → same_without_case f.0 name ≡ false → values_of name (field_if b f) ≡ []
values_if name true f other = rw other refl
values_if name false f other = refl

values_of_none : (name : List ℕ) (fields more : List NamedValue) → values_of name fields ≡ [] → values_of name more ≡ [] → values_of name (fields ++ more) ≡ []
values_of_none name fields more a b = values_of-append name fields more ∙ rw (a, b) refl

values_of_front : (name : List ℕ) (fields more : List NamedValue) (value : List ℕ) → values_of name fields ≡ value ∷ [] → values_of name more ≡ [] → values_of name (fields ++ more) ≡ value ∷ []
values_of_front name fields more value a b = values_of-append name fields more ∙ rw (a, b) refl

values_of_back : (name : List ℕ) (fields more : List NamedValue) (value : List ℕ) → values_of name fields ≡ [] → values_of name more ≡ value ∷ [] → values_of name (fields ++ more) ≡ value ∷ []
values_of_back name fields more value a b = values_of-append name fields more ∙ rw (a, b) refl

pub reply_framed : (status : ℕ) (document : Bool) (len : ℕ) (last : Bool) → Frames (fields_by status document len last) len
unfolding same_without_case
reply_framed status document len last =
    let kind : NamedValue = (codes "Content-Type", codes "application/json") in
    let allow : NamedValue = (codes "Allow", codes "POST") in
    let size : NamedValue = (codes "Content-Length", decimal len) in
    let close : NamedValue = (codes "Connection", codes "close") in
    record {
      one_length =
          let name = codes "Content-Length" in
          values_of_front name (field_if document kind ++ field_if (status == 405) allow ++ size ∷ []) (field_if last close) (decimal len)
          (values_of_back name (field_if document kind ++ field_if (status == 405) allow) (size ∷ []) (decimal len)
          (values_of_none name (field_if document kind) (field_if (status == 405) allow) (values_if name document kind refl) (values_if name (status == 405) allow refl)) refl)
          (values_if name last close refl);
      no_coding =
          let name = codes "Transfer-Encoding" in
          values_of_none name (field_if document kind ++ field_if (status == 405) allow ++ size ∷ []) (field_if last close)
          (values_of_none name (field_if document kind ++ field_if (status == 405) allow) (size ∷ [])
          (values_of_none name (field_if document kind) (field_if (status == 405) allow) (values_if name document kind refl) (values_if name (status == 405) allow refl)) refl)
          (values_if name last close refl);
    }

pub reply_reads_back : (status : ℕ) (document : Option (List ℕ)) (last : Bool) (more : List ℕ) → 100 ≤ status → status < 1000 → length (unwrap_or document []) < 2 ^ 64
    → ReadsAsReply (reply_bytes status document last) status (reply_fields status document last) (unwrap_or document []) more
reply_reads_back status document last more low high small =
    let typed = is_some document in
    let len = length (unwrap_or document []) in
    reply_reads status (reply_fields status document last) (unwrap_or document []) more low high (reply_fields_sound status typed len last small)
    (reply_framed status typed len last)

pub code_range : (code : Code) → (100 ≤ code_status code) × (code_status code < 1000)
code_range code.Canceled = (lit≤ tt, lit< tt)
code_range code.Unknown = (lit≤ tt, lit< tt)
code_range code.InvalidArgument = (lit≤ tt, lit< tt)
code_range code.DeadlineExceeded = (lit≤ tt, lit< tt)
code_range code.NotFound = (lit≤ tt, lit< tt)
code_range code.AlreadyExists = (lit≤ tt, lit< tt)
code_range code.PermissionDenied = (lit≤ tt, lit< tt)
code_range code.ResourceExhausted = (lit≤ tt, lit< tt)
code_range code.FailedPrecondition = (lit≤ tt, lit< tt)
code_range code.Aborted = (lit≤ tt, lit< tt)
code_range code.OutOfRange = (lit≤ tt, lit< tt)
code_range code.Unimplemented = (lit≤ tt, lit< tt)
code_range code.Internal = (lit≤ tt, lit< tt)
code_range code.Unavailable = (lit≤ tt, lit< tt)
code_range code.DataLoss = (lit≤ tt, lit< tt)
code_range code.Unauthenticated = (lit≤ tt, lit< tt)

pub bare_range : (status : ℕ) → is_bare_status status ≡ true → (100 ≤ status) × (status < 1000)
bare_range status bare = (grind (arith, nat_tests), grind (arith, nat_tests))

-- ---- branch requests

abbrev pub request_of : List ℕ → List NamedValue → RequestHead
request_of path fields = record {
  blank = [];
  method = codes "POST";
  target = path;
  minor = 1;
  line_end = crlf;
  fields = map as_field fields;
  last = crlf;
}

pub request_bytes : (path : List ℕ) (fields : List NamedValue) (body more : List ℕ)
    → message_bytes (request_line path) fields body ++ more ≡ print_request (request_of path fields) ++ (body ++ more)
unfolding message_bytes
request_bytes path fields body more =
    rw (print_request-append (request_of path fields) (body ++ more), print_fields fields) (simp append_assoc)

visible_uri : (b : ℕ) → is_visible b ≡ true → is_uri_byte b ≡ true
visible_uri b seen = grind (arith, nat_tests)

visible_small : (b : ℕ) → is_visible b ≡ true → b < 128
visible_small b seen = grind (arith, nat_tests)

pub is_request_head : (path : List ℕ) (fields : List NamedValue) → 0 < length path → AllPass is_visible path → All IsField (map as_field fields) → IsRequestHead (request_of path fields)
unfolding httparse_on_literals
is_request_head path fields some seen sound = record {
  method = sound_name (codes "POST") refl;
  target = (some, λ k d lt. visible_uri (get_or path k d) (seen k d lt));
  target_text = IsUtf8-from_ascii path (IsAscii-from_all path (λ k d lt. visible_small (get_or path k d) (seen k d lt)));
  minor = lit≤ tt;
  fields = sound;
}

-- ---- the fields of a branch request

all_of : (name : List ℕ) (found : Option (List ℕ)) → is_token name ≡ true → IfSome found (AllPass is_visible) → list_all is_sound (field_of name found) ≡ true
all_of name None token seen = refl
all_of name (Some value) token seen = rw (token, list_all-from_AllPass is_visible value seen) refl

timeout_seen : (remaining : Option ℕ) → IfSome (option_map timeout_text remaining) (AllPass is_visible)
timeout_seen None = tt
timeout_seen (Some n) = AllPass-from_list_all is_visible (decimal (min n MAX_DECIMAL)) (digits_seen (min n MAX_DECIMAL) (omega arith))

first_fields_sound : (call : BranchCall) → IsSendable call → list_all is_sound (first_fields call) ≡ true
unfolding httparse_on_literals
first_fields_sound call sendable =
    let front : List NamedValue =
    (codes "Host", call.address) ∷ (codes "Content-Type", codes "application/json") ∷ (codes "Content-Length", decimal (length call.body)) ∷ (codes "Connect-Protocol-Version", codes "1") ∷ [] in
    let time = field_of (codes "Connect-Timeout-Ms") (option_map timeout_text call.remaining) in
    let id = field_of (codes "X-Request-Id") call.request_id in
    all_append (front ++ time) id
    (all_append front time
    (rw (list_all-from_AllPass is_visible call.address sendable.address, digits_seen (length call.body) sendable.body) refl)
    (all_of (codes "Connect-Timeout-Ms") (option_map timeout_text call.remaining) refl (timeout_seen call.remaining)))
    (all_of (codes "X-Request-Id") call.request_id refl sendable.request_id)

-- the field that asks for the close, where it is due
abbrev close : BranchCall → List NamedValue
close call = field_if (not call.keeps) (codes "Connection", codes "close")

close_sound : (call : BranchCall) → list_all is_sound (close call) ≡ true
unfolding httparse_on_literals
close_sound call = all_if (not call.keeps) _ refl

branch_fields_are : (call : BranchCall) → IsSendable call → All IsField (map as_field (branch_fields call))
branch_fields_are call sendable =
    both_fields (first_fields call ++ call.passed) (close call)
    (both_fields (first_fields call) call.passed (all_fields (first_fields call) (first_fields_sound call sendable)) (found_fields call.passed sendable.passed))
    (all_fields (close call) (close_sound call))

branch_values_are : (call : BranchCall) → IsSendable call → map name_and_value (map as_field (branch_fields call)) ≡ branch_fields call
branch_values_are call sendable =
    both_values (first_fields call ++ call.passed) (close call)
    (both_values (first_fields call) call.passed (all_values (first_fields call) (first_fields_sound call sendable)) (found_values call.passed sendable.passed))
    (all_values (close call) (close_sound call))

values_of_other : (name other : List ℕ) (found : Option (List ℕ)) → same_without_case other name ≡ false → values_of name (field_of other found) ≡ []
values_of_other name other None e = refl
values_of_other name other (Some value) e = rw e refl

-- what stands behind the first four fields has none of the names that frame a message, if none that is passed on has
behind : (name : List ℕ) (call : BranchCall) → same_without_case (codes "Connect-Timeout-Ms") name ≡ false → same_without_case (codes "X-Request-Id") name ≡ false
    → same_without_case (codes "Connection") name ≡ false → NoneNamed name call.passed
    → values_of name (field_of (codes "Connect-Timeout-Ms") (option_map timeout_text call.remaining) ++ field_of (codes "X-Request-Id") call.request_id ++ call.passed ++ close call) ≡ []
behind name call a b c none =
    let time = field_of (codes "Connect-Timeout-Ms") (option_map timeout_text call.remaining) in
    let id = field_of (codes "X-Request-Id") call.request_id in
    values_of_none name (time ++ id ++ call.passed) (close call)
    (values_of_none name (time ++ id) call.passed
    (values_of_none name time id (values_of_other name _ (option_map timeout_text call.remaining) a) (values_of_other name _ call.request_id b)) none)
    (values_if name (not call.keeps) _ c)

pub branch_framed : (call : BranchCall) → IsSendable call → Frames (branch_fields call) (length call.body)
unfolding same_without_case
branch_framed call sendable = record {
  one_length = rw (behind (codes "Content-Length") call refl refl refl sendable.no_length) refl;
  no_coding = behind (codes "Transfer-Encoding") call refl refl refl sendable.no_coding;
}

pub branch_host : (call : BranchCall) → IsSendable call → values_of (codes "Host") (branch_fields call) ≡ call.address ∷ []
unfolding same_without_case
branch_host call sendable = rw (behind (codes "Host") call refl refl refl sendable.no_host) refl

pub call_reads_back : (call : BranchCall) (more : List ℕ) → IsSendable call → ReadsAsCall (branch_request call) call more
unfolding branch_request
call_reads_back call more sendable =
    let head = request_of call.path (branch_fields call) in
    let is_head : IsHeadOfCall head call = record {
      method = refl;
      target = refl;
      version = refl;
      fields_are = branch_values_are call sendable;
    } in
    let reads : ReadsRequest (message_bytes (request_line call.path) (branch_fields call) call.body ++ more) head (call.body ++ more) =
    (is_request_head call.path (branch_fields call) sendable.some_path sendable.path (branch_fields_are call sendable), request_bytes call.path (branch_fields call) call.body more) in
    record {
      found = (head, is_head, reads);
      only = λ other rest also.
          let same = request_unique _ head other (call.body ++ more) rest reads also in
          rw (← same.0, ← same.1) (is_head, refl);
      framed = branch_framed call sendable;
      one_host = branch_host call sendable;
    }
