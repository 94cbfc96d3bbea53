-- What was read in an exchange.
use Rattle.std.specs.Prelude.{◌≡◌, ℕ, ◌⊎◌, List, [], ◌++◌, length, take, drop, Option, Some, None}
use Rattle.std.proofs.Common.{arith, subst, ap, refl, sym, ◌∙◌, append-nil, append_assoc, ⊎_elim}
use Rattle.http_pieces.specs.Cut.{Complete, Cut, Incomplete, IsCut, Refused}
use Rattle.http_pieces.specs.ReplyHead.{reply_kind}
use Rattle.http_pieces.specs.ReplyReader.{HasReadReply, HasReadReplyTo, ReplyReading, ReplyReaderValue, chunked_on, reader_framing, Partial, Decoding, Waiting, Stopped, Done, state_of_reply}
use Rattle.http_pieces.specs.declared.framing.Framing.{Framing}
use Rattle.http_pieces.specs.declared.reply.HttpReply.{HttpReply}
use Rattle.http_pieces.specs.declared.reply_fault.ReplyFault.{ReplyFault}
use Rattle.branch_exchange.specs.Exchange.{BeginsWithReply, HasNoReply, IsLostBy, IsReading, IsReplyAlone, loss_in}
use Rattle.std.proofs.lemmas.List.{take_all, take-append-drop}

-- a text is cut in one way
abbrev CutsOnce : Framing → Type 0
CutsOnce framing = (text : List ℕ) (c d : Cut ReplyFault HttpReply) → IsCut (reply_kind framing) text c → IsCut (reply_kind framing) text d → c ≡ d

no_more : (reply : HttpReply) (rest : List ℕ) → ◌≡◌ {A = Cut ReplyFault HttpReply} Incomplete (Complete reply rest) → ⊥
no_more reply rest e = cc

no_fault : (f : ReplyFault) (reply : HttpReply) (rest : List ℕ) → ◌≡◌ {A = Cut ReplyFault HttpReply} (Refused f) (Complete reply rest) → ⊥
no_fault f reply rest e = cc

none_is : (q : HttpReply) → None ≡ Some q → ⊥
none_is q e = cc

-- what was read has no whole reply where none waits to be taken
pub unanswered : (framing : Framing) → CutsOnce framing → (reading : ReplyReading) (text : List ℕ) → ((q : HttpReply) → reading ≡ Waiting q → ⊥)
    → HasReadReplyTo framing reading text None → HasNoReply framing text
unanswered framing once (Partial left) text waits h = λ reply b. no_more reply b.0 (once text Incomplete (Complete reply b.0) h.2 b.1)
unanswered framing once (Decoding chunks) text waits h = λ reply b.
    let open_still : IsCut (reply_kind framing) text Incomplete =
    subst (IsCut (reply_kind framing) text) h.1 (subst (λ t. IsCut (reply_kind framing) t (chunked_on chunks [])) (append-nil text) (h.2 [])) in
    no_more reply b.0 (once text Incomplete (Complete reply b.0) open_still b.1)
unanswered framing once (Waiting q) text waits h = absurd (waits q refl)
unanswered framing once (Stopped f) text waits h = λ reply b. no_fault f reply b.0 (once text (Refused f) (Complete reply b.0) h.1 b.1)
unanswered framing once Done text waits h = absurd (cc h.2)

not_waiting : (q : HttpReply) → ◌≡◌ {A = ReplyReading} (Partial []) (Waiting q) → ⊥
not_waiting q e = cc

-- a new reader has read nothing
pub fresh_reading : (framing : Framing) → CutsOnce framing → (reader : ReplyReaderValue) → reader ≡ reader_framing framing (Partial []) → HasReadReply reader [] None
    → IsReading framing reader []
fresh_reading framing once reader is h =
    let framed : reader.framing ≡ framing = ap (λ (r : ReplyReaderValue). r.framing) is in
    record {
      framing_is = framed;
      reads = h;
      unanswered =
          unanswered framing once reader.reading [] (λ q waits. not_waiting q (sym (ap (λ (r : ReplyReaderValue). r.reading) is) ∙ waits))
          (subst (λ f. HasReadReplyTo f reader.reading [] None) framed h.reads);
    }

-- a reader that has no reply took the whole piece
pub takes_none : (framing : Framing) → CutsOnce framing → (bytes piece : List ℕ) (n : ℕ) (pushed reader : ReplyReaderValue) → pushed.framing ≡ framing
    → (n ≡ length piece) ⊎ ((q : HttpReply) × (pushed.reading ≡ Waiting q)) → ((q : HttpReply) → pushed.reading ≡ Waiting q → None ≡ Some q) → reader ≡ pushed
    → HasReadReply reader (bytes ++ take n piece) None → IsReading framing reader (bytes ++ piece)
takes_none framing once bytes piece n pushed reader pushed_is all waits same h =
    ⊎_elim
    (λ e.
    let framed : reader.framing ≡ framing = ap (λ (r : ReplyReaderValue). r.framing) same ∙ pushed_is in
    let read = subst (λ xs. HasReadReply reader (bytes ++ xs) None) (take_all n piece (omega (arith, e))) h in
    record {
      framing_is = framed;
      reads = read;
      unanswered =
          unanswered framing once reader.reading _ (λ q is. none_is q (waits q (ap (λ (r : ReplyReaderValue). r.reading) (sym same) ∙ is)))
          (subst (λ f. HasReadReplyTo f reader.reading (bytes ++ piece) None) framed read.reads);
    })
    (λ w. absurd (none_is w.0 (waits w.0 w.1)))
    all

-- a reply that waits is all that was taken; and with more behind it a text begins with it
module _ (framing : Framing) (bytes piece : List ℕ) (n : ℕ) (pushed : ReplyReaderValue) (q : HttpReply) (framed : pushed.framing ≡ framing) (waits : pushed.reading ≡ Waiting q)
    (h : HasReadReply pushed (bytes ++ take n piece) None) where
  taken_cut : IsReplyAlone framing (bytes ++ take n piece) q
  taken_cut = (subst (λ r. HasReadReplyTo framing r (bytes ++ take n piece) None) waits (subst (λ f. HasReadReplyTo f pushed.reading (bytes ++ take n piece) None) framed h.reads)).1

  pub taken_begins : ((text more : List ℕ) (q : HttpReply) (rest : List ℕ) → IsCut (reply_kind framing) text (Complete q rest) → IsCut (reply_kind framing) (text ++ more) (Complete q (rest ++ more)))
      → BeginsWithReply framing (bytes ++ piece) q
  taken_begins stay =
      let whole : (bytes ++ take n piece) ++ drop n piece ≡ bytes ++ piece = append_assoc bytes (take n piece) (drop n piece) ∙ ap (λ xs. bytes ++ xs) (take-append-drop n piece) in
      (drop n piece, subst (λ text. IsCut (reply_kind framing) text (Complete q (drop n piece))) whole (stay (bytes ++ take n piece) (drop n piece) q [] taken_cut))

  pub taken_alone : n ≡ length piece → IsReplyAlone framing (bytes ++ piece) q
  taken_alone all = subst (λ xs. IsReplyAlone framing (bytes ++ xs) q) (take_all n piece (omega (arith, all))) taken_cut

-- a reader that has read no whole reply tells why none comes
pub lost_by : (framing : Framing) (reader : ReplyReaderValue) (text : List ℕ) → IsReading framing reader text → IsLostBy framing text (loss_in (state_of_reply reader.reading))
lost_by framing reader text h = by_reading reader.reading (subst (λ f. HasReadReplyTo f reader.reading text None) h.framing_is h.reads.reads)
  where
    by_reading : (reading : ReplyReading) → HasReadReplyTo framing reading text None → IsLostBy framing text (loss_in (state_of_reply reading))
    by_reading (Partial left) x = tt
    by_reading (Decoding chunks) x = tt
    by_reading (Waiting q) x = tt
    by_reading (Stopped f) x = x.1
    by_reading Done x = tt
