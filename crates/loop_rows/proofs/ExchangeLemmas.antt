-- What is known of each request, and of a job's counts.
use Rattle.std.proofs.Common.{◌≡◌, ℕ, zero, suc, ◌+◌, Bool, List, [], ◌∷◌, ◌++◌, All, cond, length, Option, Some, None, ap, append-nil, arith, inl, inr, refl, subst, sym, ◌∙◌}
use Rattle.std.specs.Prelude.{count_by, slice_index_or, take}
use Rattle.std.proofs.lemmas.List.{length-append}
use Rattle.std.proofs.lemmas.List.Elements.{All-cons, All-head, All-nil}
use Rattle.std.proofs.lemmas.List.Sums.{sum_by-cons}
use Rattle.connect_codec.specs.Outcome.{outcome_of}
use Rattle.connect_codec.specs.declared.answer.Outcome.{Outcome}
use Rattle.connect_codec.specs.declared.answer.Outcome.TheVariants.{Answer}
use Rattle.http_pieces.specs.Cut.{Complete, Cut, EndsInEmptyLine, Incomplete, IsCut, Refused, cut_unblocked, with_head, without_block, without_head}
use Rattle.http_pieces.specs.ReplyHead.{reply_kind}
use Rattle.http_pieces.specs.declared.framing.Framing.{Framing}
use Rattle.http_pieces.specs.declared.reply.HttpReply.{HttpReply}
use Rattle.http_pieces.specs.declared.reply_fault.ReplyFault.{ReplyFault}
use Rattle.connect_codec.specs.BranchRequest.{branch_request}
use Rattle.connect_codec.specs.Message.{message_bytes}
use Rattle.gateway_model.specs.Job.{JobValue}
use Rattle.gateway_model.specs.Queue.{IsPrefixOf}
use Rattle.std.specs.declared.net.socket_addr.SocketAddr.{SocketAddr}
use Rattle.loop_model.specs.Asking.{BeginsRequest, EndedValue, IsAddressed, IsFair, IsUntouched, peers_of, streams_for}
use Rattle.loop_model.specs.Requests.{request_of}
use Rattle.loop_model.specs.Shares.{AreShares, IsStreamFor, IsWhole}
use Rattle.loop_model.specs.Streams.{IsNew, ShareValue, StreamValue}
use Rattle.loop_model.specs.declared.manner.Manner.{Manner}
use Rattle.wires.specs.Turns.{BeginsQuietly, Turn, got_of}
use Rattle.std.proofs.lemmas.List.{map-append}
use Rattle.loop_rows.specs.LoopRows.{asked, ended, new_stream, talk}

pub some_is : (a b : Outcome) → Some a ≡ Some b → a ≡ b
some_is a b e = cc

pub no_some : (b : Outcome) → None ≡ Some b → ⊥
no_some b e = cc

pub all_one : {X : Type 0} (P : X → Type 0) (x : X) → P x → All P (x ∷ [])
all_one P x one = All-cons P x [] one (All-nil P)

-- its stream leads to the address that was found last
pub found_last : (a : SocketAddr) (j : JobValue) (tried : List StreamValue) (turns : List Turn) → IsAddressed (asked a j tried turns)
found_last a j tried turns = record {
  later = [];
  in_order = inr (append-nil (peers_of (streams_for (asked a j tried turns))) ∙ map-append (λ (s : StreamValue). s.peer) tried (new_stream a turns ∷ []));
}

-- no share is there
pub no_shares : (m : Manner) → AreShares m []
no_shares m = record { whole = All-nil (IsWhole m); quiet = All-nil (λ (x : ShareValue). BeginsQuietly x.turns) }

-- a new stream is one for any job
pub is_for_any : (m : Manner) (address : List ℕ) (a : SocketAddr) (turns : List Turn) → IsStreamFor m address (new_stream a turns)
is_for_any m address a turns = record {
  shares = no_shares m;
  same = All-nil (λ (x : ShareValue). x.job.address ≡ address);
  quiet = λ used. absurd (used refl);
  kept = λ off. refl;
}

-- it began so, over its first stream
pub begins_so : (m : Manner) (a : SocketAddr) (j : JobValue) (turns : List Turn) → IsPrefixOf (got_of turns) (request_of m j) → BeginsRequest m (asked a j [] turns)
begins_so m a j turns prefix = record {
  new = All-nil IsNew;
  untouched = All-nil IsUntouched;
  goes_over = all_one (IsStreamFor m j.address) (new_stream a turns) (is_for_any m j.address a turns);
  prefix = prefix;
  addressed = found_last a j [] turns;
}

-- .. with all of these bytes
pub prefix_of : (xs front more : List ℕ) → xs ≡ front ++ more → IsPrefixOf (front ++ []) xs
prefix_of xs front more is = (more, is ∙ ap (λ (l : List ℕ). l ++ more) (sym (append-nil front)))

-- each request begins with POST
pub begins_with_p : (m : Manner) (j : JobValue) → slice_index_or (request_of m j) 0 0 ≡ 80
unfolding branch_request message_bytes
begins_with_p m j = refl

pub is_something : (xs : List ℕ) → slice_index_or xs 0 0 ≡ 80 → length xs ≡ 0 → ⊥
is_something [] first none = omega (arith, first)
is_something (x ∷ xs) first none = omega (arith, none)

pub no_longer_than : (xs : List ℕ) → slice_index_or xs 0 0 ≡ 80 → IsPrefixOf (xs ++ xs) xs → ⊥
no_longer_than xs first p = is_something xs first (omega (arith, length-append (xs ++ xs) p.0, length-append xs xs, ap (λ (l : List ℕ). length l) p.1))

pub count_one : {X : Type 0} (p : X → Bool) (x : X) → count_by p (x ∷ []) ≡ cond (p x) 1 0 + 0
count_one p x = sum_by-cons (λ y. cond (p y) 1 0) x []

pub count_two : {X : Type 0} (p : X → Bool) (x y : X) → count_by p (x ∷ y ∷ []) ≡ cond (p x) 1 0 + (cond (p y) 1 0 + 0)
count_two p x y = sum_by-cons (λ z. cond (p z) 1 0) x (y ∷ []) ∙ ap (λ n. cond (p x) 1 0 + n) (count_one p y)

pub none_written : (xs : List ℕ) → slice_index_or xs 0 0 ≡ 80 → xs ≡ [] → ⊥
none_written xs first none = is_something xs first (ap (λ (l : List ℕ). length l) none)

pub first_of_all : {X : Type 0} (P : X → Type 0) (x : X) → All P (x ∷ []) → P x
first_of_all P x all = All-head P x [] all

pub never_lost : (body : List ℕ) → Answer body ≡ outcome_of None → ⊥
unfolding outcome_of
never_lost body e = cc

-- some more of it is to be written
pub no_more : (front more : List ℕ) (b : ℕ) → front ≡ front ++ b ∷ more → ⊥
no_more front more b e = omega (arith, ap (λ (l : List ℕ). length l) e, length-append front (b ∷ more))

pub not_whole : (reply : HttpReply) (rest : List ℕ) → ◌≡◌ {A = Cut ReplyFault HttpReply} Incomplete (Complete reply rest) → ⊥
not_whole reply rest e = cc

pub not_refused : (fault : ReplyFault) (reply : HttpReply) (rest : List ℕ) → ◌≡◌ {A = Cut ReplyFault HttpReply} (Refused fault) (Complete reply rest) → ⊥
not_refused fault reply rest e = cc

pub one_reply : (a b : HttpReply) (rest more : List ℕ) → ◌≡◌ {A = Cut ReplyFault HttpReply} (Complete a rest) (Complete b more) → a ≡ b
one_reply a b rest more e = cc

-- ---- no reply was read where nothing was

abbrev nothing : List ℕ
nothing = []

take_nothing : (n : ℕ) → take n nothing ≡ nothing
take_nothing zero = refl
take_nothing (suc n) = refl

ends_nowhere : (n : ℕ) → EndsInEmptyLine (take n nothing) → ⊥
ends_nowhere n e = omega (arith, ap (λ (l : List ℕ). length l) (sym (take_nothing n) ∙ e.1), length-append e.0 (13 ∷ 10 ∷ 13 ∷ 10 ∷ []))

not_incomplete : (framing : Framing) (reply : HttpReply) (rest : List ℕ) → Complete reply rest ≡ cut_unblocked (reply_kind framing) [] → ⊥
not_incomplete framing reply rest e = cc

no_refusal : (framing : Framing) (reply : HttpReply) (rest : List ℕ) → Complete reply rest ≡ Refused (reply_kind framing).no_head → ⊥
no_refusal framing reply rest e = cc

pub none_read : (framing : Framing) (reply : HttpReply) (rest : List ℕ) → IsCut (reply_kind framing) [] (Complete reply rest) → ⊥
none_read framing reply rest (without_block none is) = not_incomplete framing reply rest is
none_read framing reply rest (without_head n block none is) = no_refusal framing reply rest is
none_read framing reply rest (with_head n a block head is) = ends_nowhere n block.ends

-- ---- how it ends

-- a text is cut in one way
abbrev pub CutsOnce : Framing → Type 0
CutsOnce framing = (text : List ℕ) (c d : Cut ReplyFault HttpReply) → IsCut (reply_kind framing) text c → IsCut (reply_kind framing) text d → c ≡ d

module _ (m : Manner) (a : SocketAddr) (j : JobValue) (given : List ℕ) where
  -- all of the request was written, and these bytes were read
  begun : BeginsRequest m (asked a j [] (talk (request_of m j) given))
  begun = begins_so m a j (talk (request_of m j) given) (prefix_of (request_of m j) (request_of m j) [] (sym (append-nil (request_of m j))))

  -- by the reply that it began with
  pub answered_by : (reply : HttpReply) (rest : List ℕ) → IsCut (reply_kind m.framing) given (Complete reply rest)
      → IsFair m (ended a j [] (talk (request_of m j) given) (Some (outcome_of (Some reply))))
  answered_by reply rest cut = record {
    begun = begun;
    outcome = λ o is. inr (record {
      whole = append-nil (request_of m j);
      reply = reply;
      begins = (rest, subst (λ (t : List ℕ). IsCut (reply_kind m.framing) t (Complete reply rest)) (sym (append-nil given)) cut);
      own = refl;
      outcome_is = sym (some_is _ o is);
    });
  }

  -- by none, where it began with none
  pub lost_by : ((reply : HttpReply) (rest : List ℕ) → IsCut (reply_kind m.framing) given (Complete reply rest) → ⊥)
      → IsFair m (ended a j [] (talk (request_of m j) given) (Some (outcome_of None)))
  lost_by none = record {
    begun = begun;
    outcome = λ o same. inl (
      sym (some_is _ o same),
      λ whole. inl (λ reply begins.
          none reply begins.0 (subst (λ (t : List ℕ). IsCut (reply_kind m.framing) t (Complete reply begins.0)) (append-nil given) begins.1)),
    );
  }

  pub lost_by_refusal : CutsOnce m.framing → (fault : ReplyFault) → IsCut (reply_kind m.framing) given (Refused fault)
      → IsFair m (ended a j [] (talk (request_of m j) given) (Some (outcome_of None)))
  lost_by_refusal once fault cut = lost_by (λ reply rest whole. not_refused fault reply rest (once given _ _ cut whole))

-- ---- results

abbrev pub job_number : List (JobValue × Option Outcome) → ℕ
job_number [] = 0
job_number (r ∷ rest) = r.0.branch

abbrev pub first_outcome : List (JobValue × Option Outcome) → Option Outcome
first_outcome [] = None
first_outcome (r ∷ rest) = r.1

pub some_outcome : (o : Outcome) → Some o ≡ None → ⊥
some_outcome o e = cc

pub longer_than_none : (e : EndedValue) (more : List EndedValue) → [] ≡ (e ∷ []) ++ more → ⊥
longer_than_none e more is = omega (arith, ap (λ (l : List EndedValue). length l) is, length-append (e ∷ []) more)
