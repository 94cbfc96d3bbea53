-- The requests of a stream whose bytes are written out: its head is found and read by tests that compute.
use Rattle.std.proofs.Common.{◌≡◌, ℕ, zero, suc, ◌+◌, ◌<◌, ◌≤◌, Bool, true, false, ◌&&◌, not, nat_lt, nat_le, nat_eq, List, [], ◌∷◌, ◌++◌, map, length, take, drop, refl, sym, ap, subst, ◌∙◌, arith, lit≤, get_or, length-append, length-take-le}
use Rattle.std.proofs.lemmas.Bool.{and_parts, eq-eqb, ne_eqb}
use Rattle.std.proofs.lemmas.Bool.Decides.{nat_tests}
use Rattle.std.proofs.lemmas.List.{take-append-drop, take-append-le}
use Rattle.std.proofs.Math.Seq.{drop-append_seam}
use Rattle.std.proofs.lemmas.List.Elements.{All-map}
use Rattle.std.proofs.lemmas.List.Sums.{AllPass-from_list_all}
use Rattle.std.proofs.lemmas.Str.{IsUtf8-from_ascii}
use Rattle.std.proofs.lemmas.Str.Ascii.{IsAscii-from_all}
use Rattle.std.specs.Prelude.{All}
use Rattle.std.specs.Bool.{MatchBool}
use Rattle.std.specs.List.{flat_map, list_all, range_with_len, starts_with}
use Rattle.httparse.proofs.OnLiterals.{httparse_on_literals}
use Rattle.httparse.proofs.GrammarLemmas.{request_unique}
use Rattle.httparse.specs.Grammar.{Field, crlf, is_token, is_token_byte, is_uri_byte, is_value_byte, IsField, IsToken, RequestHead, IsRequestHead, print_request, ReadsRequest}
use Rattle.http_pieces.specs.declared.refusal.Refusal.{Refusal}
use Rattle.http_pieces.specs.declared.refusal.Refusal.TheVariants.{NotAHead}
use Rattle.http_pieces.specs.declared.version.Version.{Version}
use Rattle.http_pieces.specs.declared.version.Version.TheVariants.{V10, V11}
use Rattle.http_pieces.specs.Cut.{Body, Refused, Complete, IsBlock, most_head, HasNoBlock, IsCut, IsCutText, with_head, without_block, without_head, cut_after}
use Rattle.http_pieces.specs.Fields.{NamedValue}
use Rattle.http_pieces.specs.Head.{request_asks, request_kind, most_fields}
use Rattle.http_pieces.specs.Request.{HttpRequest, closes}
use Rattle.http_pieces.specs.Requests.{Open, RefusedBy, Closed, broken, unfinished, Requests}
use Rattle.connect_codec.specs.Headers.{is_visible}
use Rattle.gateway_tests.specs.Rows.{get_request, head_text, text_of}
use Rattle.gateway_tests.proofs.OnLiterals.{replies_on_literals}

-- ---- the block

-- the end of a line, and an empty line
abbrev empty_line : List ℕ
empty_line = 13 ∷ 10 ∷ 13 ∷ 10 ∷ []

-- at none of the first n places an empty line begins
abbrev pub no_empty_line : ℕ → List ℕ → Bool
no_empty_line zero text = true
no_empty_line (suc n) text = not (starts_with nat_eq text empty_line) && no_empty_line n (drop 1 text)

-- such a text has no empty line there
not_there : (n : ℕ) (front rest : List ℕ) → no_empty_line n (front ++ empty_line ++ rest) ≡ true → length front < n → ⊥
not_there zero front rest none lt = omega (arith, lt)
not_there (suc n) [] rest none lt = cc
not_there (suc n) (b ∷ front) rest none lt =
    not_there n front rest (and_parts (not (starts_with nat_eq (b ∷ front ++ empty_line ++ rest) empty_line)) (no_empty_line n (front ++ empty_line ++ rest)) none).1 (omega (arith, lt))

-- the first n + 4 bytes are the block, where its empty line begins at place n and none before
pub block_at : (text : List ℕ) (n : ℕ) → nat_le (n + 4) (length text) ≡ true → nat_le (n + 4) most_head ≡ true
    → take (n + 4) text ≡ take n text ++ empty_line → no_empty_line n text ≡ true → IsBlock text (n + 4)
block_at text n within limit ends none = record {
  within = grind (arith, nat_tests);
  limit = grind (arith, nat_tests);
  ends = (take n text, ends);
  shortest = λ m lt also.
      let short : length (take m text) ≡ m = length-take-le m text (grind (arith, nat_tests)) in
      let whole : text ≡ also.0 ++ empty_line ++ drop m text =
      sym (take-append-drop m text) ∙ ap (λ t. t ++ drop m text) also.1 in
      not_there n also.0 (drop m text) (subst (λ t. no_empty_line n t ≡ true) whole none)
      (omega (arith, lt, short, ap length also.1, length-append also.0 empty_line));
}

-- the block stays where more follows
block_append : (text more : List ℕ) (n : ℕ) → IsBlock text n → IsBlock (text ++ more) n
block_append text more n b = record {
  within = omega (arith, b.within, length-append text more);
  limit = b.limit;
  ends = rw (take-append-le n text more b.within) b.ends;
  shortest = λ m lt ends. b.shortest m lt (rw (take-append-le m text more (omega (arith, b.within))) at ends);
}

-- ---- the head

-- the field as the grammar has it, where its value stands behind one space
abbrev pub as_field : NamedValue → Field
as_field f = record { name = f.0; raw = 32 ∷ f.1; end = crlf }

sound_name : (name : List ℕ) → is_token name ≡ true → IsToken name
sound_name name e =
    let h = and_parts (nat_lt 0 (length name)) (list_all is_token_byte name) e in
    let some = h.0 in
    (grind (arith, nat_tests), AllPass-from_list_all is_token_byte name h.1)

-- a version's second number
abbrev minor_of : Version → ℕ
minor_of V10 = 0
minor_of V11 = 1

-- the head of a request, where each value stands behind one space
abbrev pub head_of : HttpRequest → RequestHead
head_of q = record {
  blank = [];
  method = q.method;
  target = q.target;
  minor = minor_of q.version;
  line_end = crlf;
  fields = map as_field q.fields;
  last = crlf;
}

-- a name that is a token, and a value without control bytes
abbrev pub is_line : NamedValue → Bool
is_line f = is_token f.0 && list_all is_value_byte f.1

-- the text begins with this head, whose empty line begins at place n
pub record BeginsWith (text : List ℕ) (n : ℕ) (q : HttpRequest) : Type 0 where
  pub within : nat_le (n + 4) (length text) ≡ true
  pub limit : nat_le (n + 4) most_head ≡ true
  pub ends : take (n + 4) text ≡ take n text ++ empty_line
  pub none_before : no_empty_line n text ≡ true
  pub printed : take (n + 4) text ≡ print_request (head_of q) ++ []
  pub method : is_token q.method ≡ true
  pub target : nat_lt 0 (length q.target) ≡ true
  pub target_bytes : list_all is_visible q.target ≡ true
  pub fields : list_all is_line q.fields ≡ true

-- each is a field of the grammar
line_field : (f : NamedValue) → is_line f ≡ true → IsField (as_field f)
line_field f line =
    let both = and_parts (is_token f.0) (list_all is_value_byte f.1) line in
    record { name = sound_name f.0 both.0; raw = AllPass-from_list_all is_value_byte (32 ∷ f.1) both.1 }

line_fields : (fields : List NamedValue) → list_all is_line fields ≡ true → All IsField (map as_field fields)
line_fields fields lines = All-map IsField as_field fields (λ k d lt. line_field _ (AllPass-from_list_all is_line fields lines k d lt))

-- bytes that can be seen may stand in a target
visible_uri : (b : ℕ) → is_visible b ≡ true → is_uri_byte b ≡ true
visible_uri b seen = grind (arith, nat_tests)

visible_small : (b : ℕ) → is_visible b ≡ true → b < 128
visible_small b seen = grind (arith, nat_tests)

small_minor : (v : Version) → minor_of v ≤ 1
small_minor V10 = lit≤ tt
small_minor V11 = lit≤ tt

-- the head is one of the grammar
is_head : (text : List ℕ) (n : ℕ) (q : HttpRequest) → BeginsWith text n q → IsRequestHead (head_of q)
is_head text n q begins =
    let seen = AllPass-from_list_all is_visible q.target begins.target_bytes in
    let some = begins.target in
    record {
      method = sound_name q.method begins.method;
      target = (grind (arith, nat_tests), λ k d lt. visible_uri (get_or q.target k d) (seen k d lt));
      target_text = IsUtf8-from_ascii q.target (IsAscii-from_all q.target (λ k d lt. visible_small (get_or q.target k d) (seen k d lt)));
      minor = small_minor q.version;
      fields = line_fields q.fields begins.fields;
    }

-- the first bytes of the text are the head's, whatever follows
head_taken : (head after : List ℕ) (n : ℕ) → length head ≡ n + 4 → take (n + 4) (head ++ after) ≡ take (n + 4) head
head_taken head after n long = take-append-le (n + 4) head after (omega (arith, long))

-- the text is cut as its head asks, where its first bytes are the head's, and these follow
pub cut_by_head : (k : ℕ) (head after : List ℕ) (n : ℕ) (q : HttpRequest) → BeginsWith head n q → length head ≡ n + 4 → length (map as_field q.fields) ≤ most_fields
    → IsCutText (request_kind k) (head ++ after) (cut_after (request_asks k (head_of q)) after)
cut_by_head k head after n q begins long few =
    let rest : drop (n + 4) (head ++ after) ≡ after = ap (λ m. drop m (head ++ after)) (sym long) ∙ drop-append_seam head after in
    with_head (n + 4) (request_asks k (head_of q))
    (block_append head after (n + 4) (block_at head n begins.within begins.limit begins.ends begins.none_before))
    (record { head = head_of q; block_is = ((is_head head n q begins, head_taken head after n long ∙ begins.printed), few); asks_is = refl })
    (ap (cut_after (request_asks k (head_of q))) (sym rest))

-- a head of too many fields is none
pub not_a_head : (k : ℕ) (head after : List ℕ) (n : ℕ) (q : HttpRequest) → BeginsWith head n q → length head ≡ n + 4 → most_fields < length (map as_field q.fields)
    → IsCutText (request_kind k) (head ++ after) (Refused NotAHead)
not_a_head k head after n q begins long many =
    without_head (n + 4) (block_append head after (n + 4) (block_at head n begins.within begins.limit begins.ends begins.none_before))
    (λ a asking.
    let mine : ReadsRequest (take (n + 4) (head ++ after)) (head_of q) [] = (is_head head n q begins, head_taken head after n long ∙ begins.printed) in
    let same = request_unique (take (n + 4) (head ++ after)) (head_of q) asking.head [] [] mine asking.block_is.0 in
    omega (arith, many, asking.block_is.1, ap (λ h. length h.fields) same.0))
    refl

-- a text in which no empty line begins has no block
pub no_block : (text : List ℕ) → no_empty_line (length text) text ≡ true → HasNoBlock text
no_block text none n le ends =
    let whole : text ≡ ends.0 ++ empty_line ++ drop n text = sym (take-append-drop n text) ∙ ap (λ t. t ++ drop n text) ends.1 in
    not_there (length text) ends.0 (drop n text) (subst (λ t. no_empty_line (length text) t ≡ true) whole none)
    (omega (arith, ap length whole, length-append (ends.0 ++ empty_line) (drop n text), length-append ends.0 empty_line))

-- what follows a head that asks for n bytes, where as many follow
pub body_taken : {R V : Type 0} (n : ℕ) (message : List ℕ → V) (after : List ℕ) → n ≤ length after
    → cut_after {R = R} (Body n message) after ≡ Complete (message (take n after)) (drop n after)
body_taken n message after le =
    let enough : nat_lt (length after) n ≡ false = grind (arith, nat_tests) in
    rw enough refl

-- ---- the requests

-- a refusal stays, whatever follows
abbrev pub RefusedStays : Type 0
RefusedStays = (k : ℕ) (text more : List ℕ) (given : List HttpRequest) (r : Refusal) → Requests k text given (RefusedBy r) → Requests k (text ++ more) given (RefusedBy r)

-- so does a request that closes
abbrev pub ClosedStays : Type 0
ClosedStays = (k : ℕ) (text more : List ℕ) (given : List HttpRequest) → Requests k text given Closed → Requests k (text ++ more) given Closed

-- request number k, behind which more may come, and nothing has
pub request_at : (k : ℕ) (text : List ℕ) (q : HttpRequest) → IsCut (request_kind k) text (Complete q []) → closes q ≡ false → Requests k text (q ∷ []) (Open [])
request_at k text q cut on = (
  [],
  cut,
  subst (λ b. MatchBool b ((◌≡◌ {A = List HttpRequest} [] []) × (Open [] ≡ Closed)) (Requests (suc k) [] [] (Open []))) (sym on) (unfinished (without_block (no_block [] refl) refl) refl),
)

pub one_request : (text : List ℕ) (q : HttpRequest) → IsCut (request_kind 0) text (Complete q []) → closes q ≡ false → Requests 0 text (q ∷ []) (Open [])
one_request = request_at 0

-- one request that closes, and whatever follows
pub last_request : ClosedStays → (text : List ℕ) (q : HttpRequest) → IsCut (request_kind 0) text (Complete q []) → closes q ≡ true → (more : List ℕ) → Requests 0 (text ++ more) (q ∷ []) Closed
last_request stays text q cut last more =
    stays 0 text more (q ∷ []) ([], cut, subst (λ b. MatchBool b ((◌≡◌ {A = List HttpRequest} [] []) × (Closed ≡ Closed)) (Requests 1 [] [] Closed)) (sym last) (refl, refl))

-- a refusal, and whatever follows
pub refused_stream : RefusedStays → (text : List ℕ) (r : Refusal) → IsCut (request_kind 0) text (Refused r) → (more : List ℕ) → Requests 0 (text ++ more) [] (RefusedBy r)
refused_stream stays text r cut more = stays 0 text more [] r (broken r cut refl)

-- ---- a hundred requests

-- a request that is no call is read, whatever its number
get_begins : (k : ℕ) → BeginsWith (head_text (get_request k)) 40 (get_request k)
unfolding replies_on_literals httparse_on_literals
get_begins k = record { within = refl; limit = refl; ends = refl; none_before = refl; printed = refl; method = refl; target = refl; target_bytes = refl; fields = refl }

get_cut : (k : ℕ) (rest : List ℕ) → IsCut (request_kind k) (text_of (get_request k) ++ rest) (Complete (get_request k) rest)
unfolding replies_on_literals httparse_on_literals
get_cut k rest =
    subst (IsCut (request_kind k) (text_of (get_request k) ++ rest)) (body_taken 0 (λ body. record (get_request k) { body = body }) rest (omega arith))
    (cut_by_head k (head_text (get_request k)) rest 40 (get_request k) (get_begins k) refl (lit≤ tt))

-- those from number k to 99 are the last of their stream
pub gets_stream : (n k : ℕ) → k + n ≡ 99 → (more : List ℕ)
    → Requests k (flat_map (λ i. text_of (get_request i)) (range_with_len k (suc n)) ++ more) (map get_request (range_with_len k (suc n))) Closed
unfolding replies_on_literals
gets_stream zero k last more =
    let closes_now : closes (get_request k) ≡ true = eq-eqb (k + 1) 100 (omega (arith, last)) in
    (more, get_cut k more, subst (λ b. MatchBool b ((◌≡◌ {A = List HttpRequest} [] []) × (Closed ≡ Closed)) (Requests (suc k) more [] Closed)) (sym closes_now) (refl, refl))
gets_stream (suc n) k before more =
    let goes_on : closes (get_request k) ≡ false = ne_eqb (k + 1) 100 (λ e. omega (arith, e, before)) in
    let rest : List ℕ = flat_map (λ i. text_of (get_request i)) (range_with_len (k + 1) (suc n)) ++ more in
    let one : k + 1 ≡ suc k = omega arith in
    let others : Requests (suc k) rest (map get_request (range_with_len (k + 1) (suc n))) Closed =
    subst (λ j. Requests j rest (map get_request (range_with_len (k + 1) (suc n))) Closed) one (gets_stream n (k + 1) (omega (arith, before)) more) in
    (rest, get_cut k rest, subst (λ b. MatchBool b ((map get_request (range_with_len (k + 1) (suc n)) ≡ []) × (Closed ≡ Closed)) (Requests (suc k) rest (map get_request (range_with_len (k + 1) (suc n))) Closed)) (sym goes_on) others)
