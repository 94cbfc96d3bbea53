-- Rows of the definitions, by computation.
use Rattle.std.proofs.Common.{◌≡◌, ℕ, zero, suc, ◌&&◌, Bool, true, false, List, [], ◌∷◌, ◌++◌, codes, length, take, refl}
use Rattle.httparse.specs.Grammar.{is_token_byte, trim_ows}
use Rattle.http_pieces.specs.declared.chunk_parts.ChunkFault.{ChunkFault}
use Rattle.http_pieces.specs.declared.chunk_parts.ChunkFault.TheVariants.{Malformed, TooLarge}
use Rattle.http_pieces.specs.declared.framing.Framing.TheVariants.{Fixed, Any}
use Rattle.http_pieces.specs.Chunked.{Chunk, Chunked, SizeLine, body_of, print_chunked}
use Rattle.http_pieces.specs.Chunks.{cut_chunks, hexadecimal, is_field}
use Rattle.http_pieces.specs.Cut.{Cut, Incomplete, Refused, Complete}
use Rattle.http_pieces.specs.Fields.{same_without_case, has_option, lists_option}
use Rattle.http_pieces.specs.Names.{same_name}
use Rattle.http_pieces.specs.ReplyHead.{closes_after, takes_chunks}

-- ---- with which replies the connection ends: the minor version of HTTP/1, and the fields

http_1_0 : closes_after 0 [] ≡ true
http_1_0 = refl

http_1_0_keep_alive : closes_after 0 ((codes "Connection", codes "keep-alive") ∷ []) ≡ true
http_1_0_keep_alive = refl

http_1_1 : closes_after 1 ((codes "Content-Length", codes "2") ∷ []) ≡ false
unfolding same_without_case
http_1_1 = refl

http_1_1_keep_alive : closes_after 1 ((codes "Connection", codes "keep-alive") ∷ []) ≡ false
unfolding same_without_case has_option trim_ows
http_1_1_keep_alive = refl

http_1_1_close : closes_after 1 ((codes "Connection", codes "close") ∷ []) ≡ true
unfolding same_without_case has_option trim_ows
http_1_1_close = refl

without_case_in_a_list : closes_after 1 ((codes "CONNECTION", codes "Keep-Alive , CLOSE") ∷ []) ≡ true
unfolding same_without_case has_option trim_ows
without_case_in_a_list = refl

in_the_second_field : closes_after 1 ((codes "Connection", codes "upgrade") ∷ (codes "connection", codes "close") ∷ []) ≡ true
unfolding same_without_case has_option trim_ows
in_the_second_field = refl

of_a_longer_word : closes_after 1 ((codes "Connection", codes "closed, close;") ∷ (codes "Close", codes "close") ∷ []) ≡ false
unfolding same_without_case has_option trim_ows
of_a_longer_word = refl

-- ---- names that a server may take for one

without_case : same_name (codes "X-Tenant") (codes "x-tenant") ≡ true
unfolding same_name
without_case = refl

with_underscores : same_name (codes "X-Tenant-Id") (codes "X_Tenant_id") ≡ true
unfolding same_name
with_underscores = refl

of_another_length : same_name (codes "X-Tenant") (codes "X-Tenant-") ≡ false
unfolding same_name
of_another_length = refl

of_another_sign : same_name (codes "X.Tenant") (codes "X-Tenant") ≡ false
unfolding same_name
of_another_sign = refl

-- ---- what belongs to a connection

named_in_a_list : lists_option (codes "x-TENANT") ((codes "CONNECTION", codes "close , X-Tenant") ∷ []) ≡ true
unfolding same_without_case has_option trim_ows
named_in_a_list = refl

named_in_the_second : lists_option (codes "te") ((codes "connection", codes "close") ∷ (codes "Connection", codes "TE,") ∷ []) ≡ true
unfolding same_without_case has_option trim_ows
named_in_the_second = refl

named_elsewhere : lists_option (codes "x-tenant") ((codes "Connection", codes "x-tenants") ∷ (codes "Trailer", codes "x-tenant") ∷ []) ≡ false
unfolding same_without_case has_option trim_ows
named_elsewhere = refl

-- ---- which bodies are in chunks that are taken: the status, the minor version, and the fields

in_chunks : takes_chunks Any 200 1 ((codes "Transfer-Encoding", codes "chunked") ∷ []) ≡ true
unfolding same_without_case
in_chunks = refl

in_odd_case : takes_chunks Any 500 1 ((codes "transfer-encoding", codes "CHUNKED") ∷ []) ≡ true
unfolding same_without_case
in_odd_case = refl

only_where_any_is : takes_chunks Fixed 200 1 ((codes "Transfer-Encoding", codes "chunked") ∷ []) ≡ false
only_where_any_is = refl

not_in_http_1_0 : takes_chunks Any 200 0 ((codes "Transfer-Encoding", codes "chunked") ∷ []) ≡ false
not_in_http_1_0 = refl

not_without_content : takes_chunks Any 204 1 ((codes "Transfer-Encoding", codes "chunked") ∷ []) ≡ false
not_without_content = refl

not_beside_a_length : takes_chunks Any 200 1 ((codes "Transfer-Encoding", codes "chunked") ∷ (codes "Content-Length", codes "5") ∷ []) ≡ false
unfolding same_without_case
not_beside_a_length = refl

not_twice : takes_chunks Any 200 1 ((codes "Transfer-Encoding", codes "chunked") ∷ (codes "Transfer-Encoding", codes "chunked") ∷ []) ≡ false
unfolding same_without_case
not_twice = refl

not_in_a_list : takes_chunks Any 200 1 ((codes "Transfer-Encoding", codes "gzip, chunked") ∷ []) ≡ false
unfolding same_without_case
not_in_a_list = refl

-- ---- bodies in chunks

abbrev wiki : List ℕ
wiki = codes "4\r\nWiki\r\n7\r\npedia i\r\nB\r\nn \r\nchunks.\r\n0\r\n\r\n"

several : cut_chunks (wiki ++ codes "HTTP") ≡ Complete (codes "Wikipedia in \r\nchunks.") (codes "HTTP")
unfolding hexadecimal trim_ows is_field is_token_byte
several = refl

-- the same by the grammar
abbrev sized : List ℕ → SizeLine
sized digits = record { digits = digits; extension = [] }

abbrev chunk : List ℕ → List ℕ → Chunk
chunk digits octets = record { line = sized digits; octets = octets }

abbrev wiki_tree : Chunked
wiki_tree = record {
  chunks = chunk (codes "4") (codes "Wiki") ∷ chunk (codes "7") (codes "pedia i") ∷ chunk (codes "B") (codes "n \r\nchunks.") ∷ [];
  last = sized (codes "0");
  trailers = [];
}

wiki_written : print_chunked wiki_tree ≡ wiki
wiki_written = refl

wiki_body : body_of wiki_tree ≡ codes "Wikipedia in \r\nchunks."
wiki_body = refl

with_trailer : print_chunked (record { chunks = []; last = record { digits = codes "0"; extension = codes ";last" }; trailers = record { name = codes "X-Sum"; value = codes " 7" } ∷ [] })
    ≡ codes "0;last\r\nX-Sum: 7\r\n\r\n"
with_trailer = refl

abbrev is_incomplete : Cut ChunkFault (List ℕ) → Bool
is_incomplete Incomplete = true
is_incomplete (Refused f) = false
is_incomplete (Complete body rest) = false

abbrev incomplete_below : ℕ → Bool
incomplete_below zero = true
incomplete_below (suc n) = is_incomplete (cut_chunks (take n wiki)) && incomplete_below n

at_each_cut : incomplete_below (length wiki) ≡ true
unfolding hexadecimal trim_ows is_field is_token_byte
at_each_cut = refl

empty : cut_chunks (codes "0\r\n\r\n") ≡ Complete [] []
unfolding hexadecimal trim_ows is_field is_token_byte
empty = refl

in_either_case : cut_chunks (codes "0a\r\n0123456789\r\n0A\r\n0123456789\r\n000\r\n\r\n") ≡ Complete (codes "01234567890123456789") []
unfolding hexadecimal trim_ows is_field is_token_byte
in_either_case = refl

with_extensions : cut_chunks (codes "2;a=\"b;c\"\r\n{}\r\n0 ;last\r\n\r\n") ≡ Complete (codes "{}") []
unfolding hexadecimal trim_ows is_field is_token_byte
with_extensions = refl

with_trailers : cut_chunks (codes "2\r\n{}\r\n0\r\nContent-Length: 9\r\nX-Sum:\r\n\r\n{") ≡ Complete (codes "{}") (codes "{")
unfolding hexadecimal trim_ows is_field is_token_byte
with_trailers = refl

line_feed_alone : cut_chunks (codes "2\n{}\r\n0\r\n\r\n") ≡ Refused Malformed
unfolding hexadecimal trim_ows is_field is_token_byte
line_feed_alone = refl

blank_before_a_size : cut_chunks (codes " 2\r\n{}\r\n0\r\n\r\n") ≡ Refused Malformed
unfolding hexadecimal trim_ows is_field is_token_byte
blank_before_a_size = refl

blank_behind_a_size : cut_chunks (codes "2 \r\n{}\r\n0\r\n\r\n") ≡ Refused Malformed
unfolding hexadecimal trim_ows is_field is_token_byte
blank_behind_a_size = refl

signed : cut_chunks (codes "-2\r\n{}\r\n0\r\n\r\n") ≡ Refused Malformed
unfolding hexadecimal trim_ows is_field is_token_byte
signed = refl

no_size : cut_chunks (codes "\r\n{}\r\n0\r\n\r\n") ≡ Refused Malformed
unfolding hexadecimal trim_ows is_field is_token_byte
no_size = refl

sixteen_digits : cut_chunks (codes "0000000000000002\r\n{}\r\n0\r\n\r\n") ≡ Complete (codes "{}") []
unfolding hexadecimal trim_ows is_field is_token_byte
sixteen_digits = refl

seventeen_digits : cut_chunks (codes "00000000000000002\r\n{}\r\n0\r\n\r\n") ≡ Refused Malformed
unfolding hexadecimal trim_ows is_field is_token_byte
seventeen_digits = refl

longer_than_said : cut_chunks (codes "2\r\n{ }\r\n0\r\n\r\n") ≡ Refused Malformed
unfolding hexadecimal trim_ows is_field is_token_byte
longer_than_said = refl

no_field : cut_chunks (codes "0\r\ntrailer\r\n\r\n") ≡ Refused Malformed
unfolding hexadecimal trim_ows is_field is_token_byte
no_field = refl

the_largest : cut_chunks (codes "10000\r\n") ≡ Incomplete
unfolding hexadecimal trim_ows is_field is_token_byte
the_largest = refl

one_byte_larger : cut_chunks (codes "10001\r\n") ≡ Refused TooLarge
unfolding hexadecimal trim_ows is_field is_token_byte
one_byte_larger = refl

larger_by_two : cut_chunks (codes "1\r\n{\r\n10000\r\n") ≡ Refused TooLarge
unfolding hexadecimal trim_ows is_field is_token_byte
larger_by_two = refl
