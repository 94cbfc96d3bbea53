-- What a push does to a reader of requests.
use Rattle.std.proofs.Common.{◌≡◌, ℕ, ◌+◌, ◌*◌, ◌<◌, ◌≤◌, ◌⊎◌, inl, inr, List, ◌++◌, length, take, refl, sym, ap, subst, ◌∙◌, arith, append-nil, Result, Ok, Err, false, true}
use Rattle.std.specs.Result.{IfOk, IsOk}
use Rattle.std.proofs.lemmas.Result.{IfOk-weaker}
use Rattle.http_pieces.specs.declared.refusal.Refusal.{Refusal}
use Rattle.http_pieces.specs.declared.head.Head.{Head}
use Rattle.http_pieces.specs.declared.phase.Phase.{Phase}
use Rattle.http_pieces.specs.declared.phase.Phase.TheVariants as phase
use Rattle.http_pieces.specs.Cut.{Complete, IsCut}
use Rattle.http_pieces.specs.Form.{IsPhaseSound, IsMore, Grows, Advances, Pushes, unread}
use Rattle.http_pieces.specs.Form as form
use Rattle.http_pieces.specs.Head.{request_kind}
use Rattle.http_pieces.specs.Request.{HttpRequest}
use Rattle.std.specs.Prelude.{Bool, if◌then◌else◌}
use Rattle.http_pieces.specs.Reader.{Partial, Waiting, Stopped, Done, Reading, ReaderValue, HasRead, IsShortest, TakesShortest, is_over, left_of}
use Rattle.http_pieces.specs.Looked.{Counts, HasLooked}
use Rattle.http_pieces.specs.Layout.{request_of, request_form, request_single, reading_of, value_of}
use Rattle.http_pieces.proofs.Codings.{request_codings}
use Rattle.http_pieces.proofs.PhaseLemmas.{advance_shortest}
use Rattle.http_pieces.proofs.ReaderLemmas.{ReadsTo, read_on, read_refusal, read_request, read_stopped, read_done}
use Rattle.http_pieces.proofs.LookedLemmas.{left_in, looked_push}

-- a reader of this number, bytes and phase, and what a push made of it
module _ (k : ℕ) (before piece after : List ℕ) (n : ℕ) where
  more_reads : IsMore request_form before piece after n → (bytes : List ℕ) (given : List HttpRequest) → ReadsTo k (Partial before) bytes given
      → ReadsTo k (Partial after) (bytes ++ take n piece) given
  more_reads m bytes given h = rw m.1 (read_on k before bytes (take n piece) given (m.2 k) h)

  grows_reads : (new : Phase Head Refusal) → Grows request_form before piece after n new → (bytes : List ℕ) (given : List HttpRequest)
      → ReadsTo k (Partial before) bytes given → ReadsTo k (reading_of after new k) (bytes ++ take n piece) given
  grows_reads (phase.Head matched) g bytes given h = more_reads g.to bytes given h
  grows_reads (phase.Body head body missing) g bytes given h = more_reads g.to bytes given h
  grows_reads (phase.Refused r) g bytes given h = read_refusal k before bytes (take n piece) given r (g.to.1 k) h
  grows_reads (phase.Complete head body) g bytes given h = read_request k before bytes (take n piece) given (request_of after head body k) (g.to k) h
  grows_reads phase.Ended g bytes given h = absurd g.to

  stays : (was new : Phase Head Refusal) → after ≡ before → new ≡ was → reading_of after new k ≡ reading_of before was k
  stays was new bytes_are phase_is = ap (λ x. reading_of after x k) phase_is ∙ ap (λ b. reading_of b was k) bytes_are

  reads_by : (was new : Phase Head Refusal) → Pushes request_form before was piece after new n → (bytes : List ℕ) (given : List HttpRequest)
      → ReadsTo k (reading_of before was k) bytes given → ReadsTo k (reading_of after new k) (bytes ++ take n piece) given
  reads_by (phase.Head matched) new p bytes given h = grows_reads new p.grows bytes given h
  reads_by (phase.Body head body missing) new p bytes given h = grows_reads new p.grows bytes given h
  reads_by (phase.Complete head body) new p bytes given h =
      let none : bytes ++ take n piece ≡ bytes = ap (λ m. bytes ++ take m piece) p.0 ∙ append-nil bytes in
      subst (λ b. ReadsTo k (reading_of after new k) b given) (sym none)
      (subst (λ x. ReadsTo k x bytes given) (sym (stays (phase.Complete head body) new p.1 p.2)) h)
  reads_by (phase.Refused r) new p bytes given h =
      subst (λ x. ReadsTo k x (bytes ++ take n piece) given) (sym (stays (phase.Refused r) new p.1 p.2)) (read_stopped k bytes (take n piece) given r h)
  reads_by phase.Ended new p bytes given h =
      subst (λ x. ReadsTo k x (bytes ++ take n piece) given) (sym (stays phase.Ended new p.1 p.2)) (read_done k bytes (take n piece) given h)

abbrev is_partial : Reading → Bool
is_partial (Partial left) = true
is_partial (Waiting q) = false
is_partial (Stopped r) = false
is_partial Done = false

left_is : (bytes : List ℕ) (w : Phase Head Refusal) (k : ℕ) → left_of (reading_of bytes w k) ≡ left_in bytes w
left_is bytes (phase.Head matched) k = refl
left_is bytes (phase.Body head body missing) k = refl
left_is bytes (phase.Complete head body) k = refl
left_is bytes (phase.Refused r) k = refl
left_is bytes phase.Ended k = refl

-- the clauses of `push`, by the reader's value before it
module _ (k looked more : ℕ) (before piece after : List ℕ) (self : ReaderValue) (was new : Phase Head Refusal) (view : value_of before was k looked ≡ self) where
  reading_is : self.reading ≡ reading_of before was k
  reading_is = sym (ap (λ x. x.reading) view)

  pub push_reads : {E : Type 0} (r : Result ℕ E) → IsPhaseSound request_form before was → IfOk r (Pushes request_form before was piece after new)
      → IfOk r (λ n. more + unread after new ≤ looked + unread before was + 2 * n) → (bytes : List ℕ) (given : List HttpRequest)
      → HasRead self bytes given → IfOk r (λ n. HasRead (value_of after new k more) (bytes ++ take n piece) given)
  push_reads (Err e) sound p le bytes given h = tt
  push_reads (Ok n) sound p le bytes given h =
      let had : HasRead (value_of before was k looked) bytes given = subst (λ x. HasRead x bytes given) (sym view) h in
      let reads = reads_by k before piece after n was new p bytes given (record { count = had.count; reads = had.reads }) in
      let left : HasLooked looked (left_in before was) bytes = subst (λ l. HasLooked looked l bytes) (left_is before was k) had.looked in
      let looks = looked_push request_form before piece after was new n looked more bytes sound p le left in
      record {
        count = reads.count;
        reads = reads.reads;
        looked = subst (λ l. HasLooked more l (bytes ++ take n piece)) (sym (left_is after new k)) looks;
      }

  push_shortest : {E : Type 0} (r : Result ℕ E) → IfOk r (Pushes request_form before was piece after new) → (left : List ℕ) → self.reading ≡ Partial left
      → IfOk r (IsShortest self left piece)
  push_shortest r p left is =
      IfOk-weaker r (Pushes request_form before was piece after new) (IsShortest self left piece) (λ n x. by_phase n was (sym reading_is ∙ is) x) p
    where
      number : self.taken ≡ k
      number = sym (ap (λ x. x.taken) view)

      shortest : (n : ℕ) → Advances request_form before piece after n new → left ≡ before → IsShortest self left piece n
      shortest n a same m q rest lt cut =
          advance_shortest request_form k (request_single k) (request_codings k) before piece after n new a m q rest lt
          (subst (λ x. IsCut (request_kind k) (x ++ take m piece) (Complete q rest)) same (subst (λ x. IsCut (request_kind x) (left ++ take m piece) (Complete q rest)) number cut))

      by_phase : (n : ℕ) (w : Phase Head Refusal) → reading_of before w k ≡ Partial left → Pushes request_form before w piece after new n → IsShortest self left piece n
      by_phase n (phase.Head matched) e a m q rest lt cut = shortest n a (let same : left ≡ before = cc in same) m q rest lt cut
      by_phase n (phase.Body head body missing) e a m q rest lt cut = shortest n a (let same : left ≡ before = cc in same) m q rest lt cut
      by_phase n (phase.Complete head body) e a m q rest lt cut = cc
      by_phase n (phase.Refused r) e a m q rest lt cut = cc
      by_phase n phase.Ended e a m q rest lt cut = cc

  push_all : (n : ℕ) → Pushes request_form before was piece after new n → (n ≡ length piece) ⊎ ((q : HttpRequest) × (reading_of after new k ≡ Waiting q))
  push_all n p = by_phase was new p
    where
      grown : (x : Phase Head Refusal) → Grows request_form before piece after n x → (n ≡ length piece) ⊎ ((q : HttpRequest) × (reading_of after x k ≡ Waiting q))
      grown (phase.Head matched) g = inl g.to.0
      grown (phase.Body head body missing) g = inl g.to.0
      grown (phase.Complete head body) g = inr (request_of after head body k, refl)
      grown (phase.Refused r) g = inl g.to.0
      grown phase.Ended g = absurd g.to

      by_phase : (w x : Phase Head Refusal) → Pushes request_form before w piece after x n → (n ≡ length piece) ⊎ ((q : HttpRequest) × (reading_of after x k ≡ Waiting q))
      by_phase (phase.Head matched) x p = grown x p.grows
      by_phase (phase.Body head body missing) x p = grown x p.grows
      by_phase (phase.Complete head body) x p = inr (request_of after head body k, ap (λ y. reading_of after y k) p.2)
      by_phase (phase.Refused r) x p = inl p.0
      by_phase phase.Ended x p = inl p.0

  pub push_takes : {E : Type 0} (r : Result ℕ E) → IfOk r (Pushes request_form before was piece after new) → IfOk r (TakesShortest self (value_of after new k more) piece)
  push_takes (Err e) p = tt
  push_takes {E = E} (Ok n) p = record { shortest = λ left is. push_shortest {E = E} (Ok n) p left is; all = push_all n p }

  pub push_looks : {E : Type 0} (r : Result ℕ E) → (form.is_more was ≡ true → IfOk r (λ n. Counts looked more before (before ++ take n piece)))
      → (left : List ℕ) → self.reading ≡ Partial left → IfOk r (λ n. Counts self.looked more left (left ++ take n piece))
  push_looks r counts left is = by_phase was (sym reading_is ∙ is) counts
    where
      at : (l : List ℕ) → l ≡ before → IfOk r (λ n. Counts looked more before (before ++ take n piece)) → IfOk r (λ n. Counts self.looked more l (l ++ take n piece))
      at l same h =
          let looked_is : looked ≡ self.looked = ap (λ x. x.looked) view in
          subst (λ m. IfOk r (λ n. Counts m more l (l ++ take n piece))) looked_is (subst (λ b. IfOk r (λ n. Counts looked more b (b ++ take n piece))) (sym same) h)

      by_phase : (w : Phase Head Refusal) → reading_of before w k ≡ Partial left → (form.is_more w ≡ true → IfOk r (λ n. Counts looked more before (before ++ take n piece)))
          → IfOk r (λ n. Counts self.looked more left (left ++ take n piece))
      by_phase (phase.Head matched) e h = at left (let same : left ≡ before = cc in same) (h refl)
      by_phase (phase.Body head body missing) e h = at left (let same : left ≡ before = cc in same) (h refl)
      by_phase (phase.Complete head body) e h = absurd (cc)
      by_phase (phase.Refused r') e h = absurd (cc)
      by_phase phase.Ended e h = absurd (cc)

  pub push_moves : {E : Type 0} (r : Result ℕ E) → IfOk r (Pushes request_form before was piece after new) → 0 < length piece
      → IfOk r (λ n. (0 < n) ⊎ ((q : HttpRequest) × (self.reading ≡ Waiting q)))
  push_moves r p some =
      IfOk-weaker r (Pushes request_form before was piece after new) (λ n. (0 < n) ⊎ ((q : HttpRequest) × (self.reading ≡ Waiting q))) (λ n x. by_phase n was reading_is x) p
    where
      by_phase : (n : ℕ) (w : Phase Head Refusal) → self.reading ≡ reading_of before w k → Pushes request_form before w piece after new n
          → (0 < n) ⊎ ((q : HttpRequest) × (self.reading ≡ Waiting q))
      by_phase n (phase.Head matched) e a = inl (a.moves some)
      by_phase n (phase.Body head body missing) e a = inl (a.moves some)
      by_phase n (phase.Complete head body) e a = inr (request_of before head body k, e)
      by_phase n (phase.Refused r) e a = inl (omega (arith, a.0, some))
      by_phase n phase.Ended e a = inl (omega (arith, a.0, some))

  kept : (w : Phase Head Refusal) → is_partial (reading_of before w k) ≡ false → form.is_more w ≡ false
  kept (phase.Head matched) e = e
  kept (phase.Body head body missing) e = e
  kept (phase.Complete head body) e = refl
  kept (phase.Refused r) e = refl
  kept phase.Ended e = refl

  -- in every phase but `More` nothing is kept, and nothing changes
  settled : (w : Phase Head Refusal) (n : ℕ) → Pushes request_form before w piece after new n → is_partial (reading_of before w k) ≡ false
      → (n ≡ (if is_over (reading_of before w k) then length piece else 0)) × (reading_of after new k ≡ reading_of before w k)
  settled (phase.Head matched) n a e = absurd (cc)
  settled (phase.Body head body missing) n a e = absurd (cc)
  settled (phase.Complete head body) n a e = (a.0, stays k before piece after n (phase.Complete head body) new a.1 a.2)
  settled (phase.Refused r) n a e = (a.0, stays k before piece after n (phase.Refused r) new a.1 a.2)
  settled phase.Ended n a e = (a.0, stays k before piece after n phase.Ended new a.1 a.2)

  push_settled : {E : Type 0} (r : Result ℕ E) → IfOk r (Pushes request_form before was piece after new) → (form.is_more was ≡ false → IsOk r) → (form.is_more was ≡ false → more ≡ looked) → is_partial self.reading ≡ false
      → (r ≡ Ok (if is_over self.reading then length piece else 0)) × (value_of after new k more ≡ self)
  push_settled (Err e) p fine idle e_is = absurd (let clash : false ≡ true = fine (kept was (sym (ap is_partial reading_is) ∙ e_is)) in cc)
  push_settled (Ok n) p fine idle e_is =
      let x = settled was n p (sym (ap is_partial reading_is) ∙ e_is) in
      (ap Ok (x.0 ∙ ap (λ y. if is_over y then length piece else 0) (sym reading_is)), (λ i. record { taken = k; reading = x.1 i; looked = idle (kept was (sym (ap is_partial reading_is) ∙ e_is)) i }) ∙ view)

  pub push_waits : {E : Type 0} (r : Result ℕ E) → IfOk r (Pushes request_form before was piece after new) → (form.is_more was ≡ false → IsOk r) → (form.is_more was ≡ false → more ≡ looked) → (q : HttpRequest)
      → self.reading ≡ Waiting q → (r ≡ Ok 0) × (value_of after new k more ≡ self)
  push_waits r p fine idle q is =
      let x = push_settled r p fine idle (ap is_partial is) in
      (x.0 ∙ ap (λ y. Ok (if is_over y then length piece else 0)) is, x.1)

  pub push_over : {E : Type 0} (r : Result ℕ E) → IfOk r (Pushes request_form before was piece after new) → (form.is_more was ≡ false → IsOk r) → (form.is_more was ≡ false → more ≡ looked) → is_over self.reading ≡ true
      → (r ≡ Ok (length piece)) × (value_of after new k more ≡ self)
  push_over r p fine idle over =
      let x = push_settled r p fine idle (over_whole self.reading over) in
      (x.0 ∙ ap (λ b. Ok (if b then length piece else 0)) over, x.1)
    where
      over_whole : (y : Reading) → is_over y ≡ true → is_partial y ≡ false
      over_whole (Partial left) e = absurd (cc)
      over_whole (Waiting q) e = refl
      over_whole (Stopped r) e = refl
      over_whole Done e = refl
