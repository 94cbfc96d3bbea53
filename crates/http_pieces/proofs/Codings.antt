-- What the codings come to that heads ask for: requests have none, and replies have chunks.
use Rattle.std.proofs.Common.{◌≡◌, ℕ, ◌≤◌, Bool, true, false, List, ◌++◌, map, length, refl, sym, ap, subst, ◌∙◌, arith, Result, Ok, Err}
use Rattle.std.specs.Prelude.{if◌then◌else◌}
use Rattle.httparse.specs.Grammar.{ResponseHead, status_code}
use Rattle.httparse.specs.Spans.{name_and_value}
use Rattle.http_pieces.specs.declared.chunk_parts.ChunkFault.{ChunkFault}
use Rattle.http_pieces.specs.declared.framing.Framing.{Framing}
use Rattle.http_pieces.specs.declared.refusal.Refusal.{Refusal}
use Rattle.http_pieces.specs.declared.reply.HttpReply.{HttpReply}
use Rattle.http_pieces.specs.declared.reply_fault.ReplyFault.{ReplyFault}
use Rattle.http_pieces.specs.Chunks.{cut_chunks, cut_with, first_place}
use Rattle.http_pieces.specs.Cut.{Coded, Cut, Incomplete, Refused, Complete}
use Rattle.http_pieces.specs.Head.{asks_with, body_length, request_kind, request_with, version_of}
use Rattle.http_pieces.specs.ReplyHead.{asks_by_length, chunk_fault, cut_reply_chunks, reply_kind, reply_length, reply_with, takes_chunks}
use Rattle.http_pieces.specs.ReplyLayout.{Headed, asks_headed, headed_kind, headed_length}
use Rattle.http_pieces.specs.Request.{HttpRequest}
use Rattle.http_pieces.proofs.ChunkLemmas.{Stays, at_stays, IsRestWithin, at_rest}
use Rattle.http_pieces.proofs.CutLemmas.{IsCoding, HasCodings}

-- ---- requests, and replies up to their chunks

request_uncoded : (r : Result ℕ Refusal) (message : List ℕ → HttpRequest) (cut : List ℕ → Cut Refusal HttpRequest) → Coded cut ≡ asks_with r message → ⊥
request_uncoded (Err r) message cut e = cc
request_uncoded (Ok n) message cut e = cc

pub request_codings : (k : ℕ) → HasCodings (request_kind k)
request_codings k block cut h =
    absurd (request_uncoded (body_length (version_of h.head.minor) (map name_and_value h.head.fields)) (request_with k h.head) cut h.asks_is)

headed_uncoded : (t : Bool) (r : Result ℕ ReplyFault) (message : List ℕ → HttpReply) (cut : List ℕ → Cut ReplyFault Headed) → Coded cut ≡ asks_headed t r message → ⊥
headed_uncoded t (Err f) message cut e = cc
headed_uncoded t (Ok n) message cut e = cc

pub headed_codings : (framing : Framing) → HasCodings (headed_kind framing)
headed_codings framing block cut h =
    let t = takes_chunks framing (status_code h.head) h.head.minor (map name_and_value h.head.fields) in
    absurd (headed_uncoded t (headed_length t h.head) (reply_with h.head) cut h.asks_is)

-- ---- chunks

chunks_more : {R V : Type 0} (refusal : ChunkFault → R) (message : List ℕ → V) (c d : Cut ChunkFault (List ℕ)) (more : List ℕ) (v : V) (rest : List ℕ) → Stays c d more
    → ◌≡◌ {A = Cut R V} (Complete v rest) (cut_with refusal message c) → ◌≡◌ {A = Cut R V} (Complete v (rest ++ more)) (cut_with refusal message d)
chunks_more refusal message Incomplete d more v rest h e = absurd (cc)
chunks_more refusal message (Refused f) d more v rest h e = absurd (cc)
chunks_more {R = R} {V = V} refusal message (Complete body r) d more v rest h e =
    let v_is : v ≡ message body = cc in
    let rest_is : rest ≡ r = cc in
    let first : ◌≡◌ {A = Cut R V} (Complete v (rest ++ more)) (Complete (message body) (r ++ more)) = rw (v_is, rest_is) refl in
    first ∙ ap (cut_with refusal message) (sym h)

chunks_refused_more : {R V : Type 0} (refusal : ChunkFault → R) (message : List ℕ → V) (c d : Cut ChunkFault (List ℕ)) (more : List ℕ) (x : R) → Stays c d more
    → ◌≡◌ {A = Cut R V} (Refused x) (cut_with refusal message c) → ◌≡◌ {A = Cut R V} (Refused x) (cut_with refusal message d)
chunks_refused_more refusal message Incomplete d more x h e = absurd (cc)
chunks_refused_more refusal message (Refused f) d more x h e = e ∙ ap (cut_with refusal message) (sym h)
chunks_refused_more refusal message (Complete body r) d more x h e = absurd (cc)

chunks_within : {R V : Type 0} (refusal : ChunkFault → R) (message : List ℕ → V) (c : Cut ChunkFault (List ℕ)) (v : V) (rest : List ℕ) (most : ℕ) → IsRestWithin c most
    → ◌≡◌ {A = Cut R V} (Complete v rest) (cut_with refusal message c) → length rest ≤ most
chunks_within refusal message Incomplete v rest most h e = absurd (cc)
chunks_within refusal message (Refused f) v rest most h e = absurd (cc)
chunks_within refusal message (Complete body r) v rest most h e = let same : rest ≡ r = cc in omega (arith, h, ap length same)

reply_chunks : (h : ResponseHead) → IsCoding (cut_reply_chunks h)
reply_chunks h = record {
  complete = λ after more v rest e.
      chunks_more (chunk_fault (status_code h)) (reply_with h) (cut_chunks after) (cut_chunks (after ++ more)) more v rest (at_stays first_place after more) e;
  refused = λ after more r e.
      chunks_refused_more {V = HttpReply} (chunk_fault (status_code h)) (reply_with h) (cut_chunks after) (cut_chunks (after ++ more)) more r (at_stays first_place after more) e;
  within = λ after v rest e.
      chunks_within (chunk_fault (status_code h)) (reply_with h) (cut_chunks after) v rest (length after) (at_rest first_place after) e;
}

reply_uncoded : (r : Result ℕ ReplyFault) (message : List ℕ → HttpReply) (cut : List ℕ → Cut ReplyFault HttpReply) → Coded cut ≡ asks_by_length r message → ⊥
reply_uncoded (Err f) message cut e = cc
reply_uncoded (Ok n) message cut e = cc

reply_coded : (t : Bool) (h : ResponseHead) (cut : List ℕ → Cut ReplyFault HttpReply)
    → Coded cut ≡ (if t then Coded (cut_reply_chunks h) else asks_by_length (reply_length (status_code h) (map name_and_value h.fields)) (reply_with h)) → IsCoding cut
reply_coded true h cut e = let same : cut ≡ cut_reply_chunks h = cc in subst IsCoding (sym same) (reply_chunks h)
reply_coded false h cut e = absurd (reply_uncoded (reply_length (status_code h) (map name_and_value h.fields)) (reply_with h) cut e)

pub reply_codings : (framing : Framing) → HasCodings (reply_kind framing)
reply_codings framing block cut h =
    reply_coded (takes_chunks framing (status_code h.head) h.head.minor (map name_and_value h.head.fields)) h.head cut h.asks_is
