-- What a job that is asked for has begun.
use Rattle.branch_asking.proofs.Words.{◌≡◌, ℕ, Bool, true, false, List, [], ◌∷◌, ◌++◌, All, Option, None, Some, refl, sym, ap, ◌∙◌, subst, is_some, All-nil, HandedJob, IsPrefixOf, AsksOn, BeginsRequest, IsNew, IsStreamFor, IsUntouched, IsReadyFor, IsStill, IsWhole, Manner, Reuses, ShareValue, share_of, share_value, Quiet, Went, All-cons, BeginsQuietly, StreamValue, inl, inr, new_for, request_of, peers_of, stream_value, option_to_list, given_of, got_of, ended_of, given_by, got_by, GoesOverAgain, Turn, with_turns, SocketAddr, AddressesValue, AreOf, addresses_value, next_of, Asks, AskingState, AttemptValue, HasBegun, HasEnded, HasGrown, IsUntouchedAttempt, asked_for, asking_state, attempt_value, BackendValue}
use Rattle.std.proofs.lemmas.Bool.Decides.{nat_tests}
use Rattle.std.proofs.Common.{arith, append-nil, append_assoc, length, take, drop, ◌⊎◌, ⊎_elim}
use Rattle.std.specs.Option.{option_map_or}
use Rattle.std.specs.Prelude.{IfSome, MatchOption, ◌&&◌, ◌||◌, ◌==◌, if◌then◌else◌, not, option_map}
use Rattle.std.proofs.lemmas.List.{length-append, nil_from_length, take-append-drop}
use Rattle.gateway_theory.specs.lemmas.PastLemmas.{prefix-refl, prefix-trans}
use Rattle.http_pieces.specs.declared.framing.Framing.{Framing}
use Rattle.branch_exchange.specs.Exchange.{BeginsWithReply, ComesTo, ExchangeValue, HasNoReply, IsReading, IsReplyAlone, exchange_value}
use Rattle.branch_exchange.specs.Outcomes.{asked_of, outcome_of_asked}
use Rattle.branch_exchange.specs.declared.asked.Asked.{Asked}
use Rattle.branch_exchange.specs.declared.asked.Asked.TheVariants.{Lost}
use Rattle.connect_codec.specs.Outcome.{outcome_of}
use Rattle.connect_codec.specs.declared.answer.Outcome.{Outcome}
use Rattle.loop_model.specs.Asking.{AskingValue, IsAnswered, IsFair, IsUnanswered, ended_value, is_stray, is_used, is_used_by}
use Rattle.branch_asking.specs.Asking.{ended_by, noted_attempt, own_end, timed_attempt, watched_attempt}
use Rattle.branch_asking.proofs.StreamLemmas.{Follows, follows_another, goes_grown, grows_self, grows_then, kept_stream, new_follows, new_goes, news_of, none_new, peer_follows, peers_stay, ready_goes, same_self, still_given, still_got, still_open, streams_in, untouched_more}
use Rattle.wires.specs.declared.ready.Ready.{Ready}
use Rattle.wires.specs.Turns.{BringsWithin, TakesWithin, turns_of_read, turns_of_write}
use Rattle.wires.specs.declared.got.Got.TheVariants as got
use Rattle.wires.specs.declared.got.Sent.TheVariants as sent
use Rattle.wires.specs.lemmas.Turns.{ReadMakes, ended-append, given-append, got-append, read_makes, write_makes}
use Rattle.loop_model.specs.Whole.{IsSameIfThere}
use Rattle.branch_exchange.specs.declared.exchange_end.Loss.{Loss}
use Rattle.branch_exchange.specs.declared.exchange_end.Loss.TheVariants as loss
use Rattle.branch_exchange.specs.declared.exchange_end.ExchangeEnd.{ExchangeEnd}
use Rattle.branch_exchange.specs.declared.exchange_end.ExchangeEnd.TheVariants as ends
use Rattle.http_pieces.specs.declared.reply.HttpReply.{HttpReply}
use Rattle.branch_asking.proofs.AddressLemmas.{new_are, taken_are, tried_are}

begins_is : {A : Type 0} (xs ys : List A) → ys ≡ xs → IsPrefixOf xs ys
begins_is {A} xs ys is = subst (λ (l : List A). IsPrefixOf xs l) (sym is) (prefix-refl xs)

no_reply : (reply : HttpReply) → ends.NoMemory ≡ ends.Reply reply → ⊥
no_reply reply e = cc

no_loss : (loss : Loss) → ends.NoMemory ≡ ends.Lost loss → ⊥
no_loss loss e = cc

is_no_reply : (loss : Loss) (reply : HttpReply) → ends.Lost loss ≡ ends.Reply reply → ⊥
is_no_reply loss reply e = cc

is_no_loss : (reply : HttpReply) (loss : Loss) → ends.Reply reply ≡ ends.Lost loss → ⊥
is_no_loss reply loss e = cc

same_reply : (a b : HttpReply) → ends.Reply a ≡ ends.Reply b → a ≡ b
same_reply a b e = cc

and_false : (b : Bool) → (b && false) ≡ false
and_false true = refl
and_false false = refl

some_end : (a b : ExchangeEnd) → Some a ≡ Some b → a ≡ b
some_end a b e = cc

some_none : (a : ExchangeEnd) → Some a ≡ None → ⊥
some_none a e = cc

none_of : (end : Option ExchangeEnd) → is_some end ≡ false → end ≡ None
none_of end h1 = grind (arith, nat_tests)

none_tried : (items : List (BackendValue × Bool)) (stream : Option StreamValue) → items ≡ [] → stream ≡ None → streams_in items ++ news_of stream ≡ []
none_tried items stream none alone =
    ap (λ (l : List (BackendValue × Bool)). streams_in l ++ news_of stream) none ∙ ap (λ (o : Option StreamValue). news_of o) alone

module _ (manner : Manner) (job : HandedJob) (addresses : AddressesValue) (x : AttemptValue) where
  -- it begins, or there is no memory for its request
  pub new_begins : (end : Option ExchangeEnd) (items : List (BackendValue × Bool)) → items ≡ [] → addresses ≡ addresses_value None [] false [] → x.stream ≡ None → IsUntouchedAttempt x
      → (end ≡ Some ends.NoMemory) ⊎ ((end ≡ None) × Asks manner.framing (request_of manner job.job) x) → HasBegun (asking_state manner job addresses x end items)
  new_begins end items none new alone fresh begins = record {
    new = subst (λ (l : List (BackendValue × Bool)). All IsNew (streams_in l)) (sym none) (All-nil IsNew);
    goes_over = subst (λ (o : Option StreamValue). All (IsStreamFor manner job.job.address) (option_to_list o)) (sym alone) (All-nil (IsStreamFor manner job.job.address));
    given =
        subst (λ (v : AddressesValue). AreOf job.job.address (peers_of (streams_in items ++ news_of x.stream)) v) (sym new)
        (new_are job.job.address _ (ap peers_of (none_tried items x.stream none alone)));
    untouched = subst (λ (l : List (BackendValue × Bool)). All IsUntouched (streams_in l)) (sym none) (All-nil IsUntouched);
    asks = λ e. ⊎_elim (λ (starved : end ≡ Some ends.NoMemory). absurd (some_none ends.NoMemory (sym starved ∙ e))) (λ (goes : (end ≡ None) × Asks manner.framing (request_of manner job.job) x). goes.1) begins;
    ended = λ e is.
        ⊎_elim
        (λ (starved : end ≡ Some ends.NoMemory). record {
          prefix = (request_of manner job.job, ap (λ (t : List ℕ). t ++ request_of manner job.job) (sym fresh.0));
          whole = λ reply replies. absurd (no_reply reply (some_end ends.NoMemory e (sym starved ∙ is) ∙ replies));
          alone = λ reply replies whole. absurd (no_reply reply (some_end ends.NoMemory e (sym starved ∙ is) ∙ replies));
          unanswered = λ loss lost. absurd (no_loss loss (some_end ends.NoMemory e (sym starved ∙ is) ∙ lost));
        })
        (λ (goes : (end ≡ None) × Asks manner.framing (request_of manner job.job) x). absurd (some_none e (sym is ∙ goes.0)))
        begins;
  }

  -- it goes on
  pub begun_on : (y : AttemptValue) (end : Option ExchangeEnd) (items : List (BackendValue × Bool)) → is_some end ≡ false → HasGrown x y
      → (Asks manner.framing (request_of manner job.job) x → Asks manner.framing (request_of manner job.job) y)
      → HasBegun (asking_state manner job addresses x end items) → HasBegun (asking_state manner job addresses y end items)
  begun_on y end items off grown goes b = record {
    new = b.new;
    goes_over = goes_grown manner job.job.address x.stream y.stream grown.0 b.goes_over;
    given = tried_are job.job.address _ _ addresses (peers_stay (streams_in items) x.stream y.stream grown.0) b.given;
    untouched = b.untouched;
    asks = λ e. goes (b.asks e);
    ended = λ e is. absurd (some_none e (sym is ∙ none_of end off));
  }

  -- it ended
  pub begun_ends : (y : AttemptValue) (end now : Option ExchangeEnd) (e : ExchangeEnd) (items : List (BackendValue × Bool)) → is_some end ≡ false → now ≡ Some e
      → HasGrown x y → (Asks manner.framing (request_of manner job.job) x → HasEnded manner.framing (request_of manner job.job) e y)
      → HasBegun (asking_state manner job addresses x end items) → HasBegun (asking_state manner job addresses y now items)
  begun_ends y end now e items off is grown ends b = record {
    new = b.new;
    goes_over = goes_grown manner job.job.address x.stream y.stream grown.0 b.goes_over;
    given = tried_are job.job.address _ _ addresses (peers_stay (streams_in items) x.stream y.stream grown.0) b.given;
    untouched = b.untouched;
    asks = λ none. absurd (some_none e (sym is ∙ none));
    ended = λ f so. subst (λ (t : ExchangeEnd). HasEnded manner.framing (request_of manner job.job) t y) (some_end e f (sym is ∙ so)) (ends (b.asks (none_of end off)));
  }

-- something became known of its stream
pub begun_noted : (manner : Manner) (job : HandedJob) (addresses : AddressesValue) (x : AttemptValue) (ready : Ready) (end : Option ExchangeEnd) (items : List (BackendValue × Bool))
    → HasBegun (asking_state manner job addresses x end items) → HasBegun (asking_state manner job addresses (noted_attempt ready x) end items)
begun_noted manner job addresses x ready end items b = record {
  new = b.new;
  goes_over = b.goes_over;
  given = b.given;
  untouched = b.untouched;
  asks = λ e. let a = b.asks e in record { sends = a.sends; reads = a.reads; goes_on = a.goes_on };
  ended = λ e is. let h = b.ended e is in record { prefix = h.prefix; whole = h.whole; alone = h.alone; unanswered = h.unanswered };
}

-- its stream is watched so
pub begun_watched : (manner : Manner) (job : HandedJob) (addresses : AddressesValue) (x : AttemptValue) (watched : Option (ℕ × Bool)) (end : Option ExchangeEnd) (items : List (BackendValue × Bool))
    → HasBegun (asking_state manner job addresses x end items) → HasBegun (asking_state manner job addresses (watched_attempt watched x) end items)
begun_watched manner job addresses x watched end items b = record {
  new = b.new;
  goes_over = b.goes_over;
  given = b.given;
  untouched = b.untouched;
  asks = λ e. let a = b.asks e in record { sends = a.sends; reads = a.reads; goes_on = a.goes_on };
  ended = λ e is. let h = b.ended e is in record { prefix = h.prefix; whole = h.whole; alone = h.alone; unanswered = h.unanswered };
}

-- it has to take a byte until then
pub begun_timed : (manner : Manner) (job : HandedJob) (addresses : AddressesValue) (x : AttemptValue) (until : Option ℕ) (end : Option ExchangeEnd) (items : List (BackendValue × Bool))
    → HasBegun (asking_state manner job addresses x end items) → HasBegun (asking_state manner job addresses (timed_attempt until x) end items)
begun_timed manner job addresses x until end items b = record {
  new = b.new;
  goes_over = b.goes_over;
  given = b.given;
  untouched = b.untouched;
  asks = λ e. let a = b.asks e in record { sends = a.sends; reads = a.reads; goes_on = a.goes_on };
  ended = λ e is. let h = b.ended e is in record { prefix = h.prefix; whole = h.whole; alone = h.alone; unanswered = h.unanswered };
}

-- where nothing was written or read since it is lost
pub lost_ends : (framing : Framing) (request : List ℕ) (x y : AttemptValue) (loss : Loss) → got_by y.stream ≡ got_by x.stream → given_by y.stream ≡ given_by x.stream → Asks framing request x → HasEnded framing request (ends.Lost loss) y
lost_ends framing request x y loss same none a = record {
  prefix = (x.exchange.left, sym a.sends ∙ ap (λ (g : List ℕ). g ++ x.exchange.left) (sym same));
  whole = λ reply replies. absurd (is_no_reply loss reply replies);
  alone = λ reply replies whole. absurd (is_no_reply loss reply replies);
  unanswered = λ l is whole. inl (subst (λ (g : List ℕ). HasNoReply framing g) (sym none) a.reads.unanswered);
}

-- .. by turns that brought nothing, and took nothing
pub lost_by : (framing : Framing) (request : List ℕ) (e : ExchangeValue) (s t : BackendValue) (connected : Bool) (until : Option ℕ) (loss : Loss) (more : List Turn)
    → t.stream ≡ with_turns more s.stream → got_of more ≡ [] → given_of more ≡ []
    → Asks framing request (attempt_value e (Some s) connected until) → HasEnded framing request (ends.Lost loss) (attempt_value e (Some t) connected until)
lost_by framing request e s t connected until loss more is none_got none_given a =
    let old = s.stream.turns in
    lost_ends framing request (attempt_value e (Some s) connected until) (attempt_value e (Some t) connected until) loss
    (ap (λ (v : StreamValue). got_of v.turns) is ∙ got-append old more ∙ ap (λ (l : List ℕ). got_of old ++ l) none_got ∙ append-nil (got_of old))
    (ap (λ (v : StreamValue). given_of v.turns) is ∙ given-append old more ∙ ap (λ (l : List ℕ). given_of old ++ l) none_given ∙ append-nil (given_of old)) a

-- some more of the request was written
pub sent_asks : (framing : Framing) (request : List ℕ) (e f : ExchangeValue) (s t : BackendValue) (connected : Bool) (until : Option ℕ) (n : ℕ) (waiting : List ℕ) → waiting ≡ e.left
    → f ≡ exchange_value (drop n e.left) e.replies e.alone → t.stream ≡ with_turns (turns_of_write waiting (sent.Bytes n)) s.stream → TakesWithin waiting (sent.Bytes n)
    → Asks framing request (attempt_value e (Some s) connected until) → Asks framing request (attempt_value f (Some t) true until)
sent_asks framing request e f s t connected until n waiting all left is within a =
    let old = s.stream.turns in
    let w = write_makes old t.stream.turns waiting (sent.Bytes n) (ap (λ (v : StreamValue). v.turns) is) within in
    record {
      sends =
          ap (λ (g : List ℕ). g ++ f.left) w.got.2 ∙ ap (λ (w : List ℕ). (got_of old ++ take n w) ++ f.left) all ∙ ap (λ (v : ExchangeValue). (got_of old ++ take n e.left) ++ v.left) left
          ∙ append_assoc (got_of old) (take n e.left) (drop n e.left)
          ∙ ap (λ (l : List ℕ). got_of old ++ l) (take-append-drop n e.left)
          ∙ a.sends;
      reads =
          subst (λ (v : ExchangeValue). IsReading framing v.replies (given_of t.stream.turns)) (sym left)
          (subst (λ (g : List ℕ). IsReading framing e.replies g) (sym w.given) a.reads);
      goes_on = w.ended ∙ a.goes_on;
    }

-- a piece was read, and no reply is whole yet
pub read_asks : (framing : Framing) (request : List ℕ) (e f : ExchangeValue) (s t : BackendValue) (connected : Bool) (until : Option ℕ) (piece : List ℕ) (n : ℕ) → f.left ≡ e.left
    → t.stream ≡ with_turns (turns_of_read piece (got.Bytes n)) s.stream → BringsWithin piece (got.Bytes n) → IsReading framing f.replies (given_of s.stream.turns ++ take n piece)
    → Asks framing request (attempt_value e (Some s) connected until) → Asks framing request (attempt_value f (Some t) true until)
read_asks framing request e f s t connected until piece n left is within comes a =
    let r = read_makes s.stream.turns t.stream.turns piece (got.Bytes n) (ap (λ (v : StreamValue). v.turns) is) within in
    record {
      sends = ap (λ (l : List ℕ). got_of t.stream.turns ++ l) left ∙ ap (λ (g : List ℕ). g ++ e.left) r.got ∙ a.sends;
      reads = subst (λ (g : List ℕ). IsReading framing f.replies g) (sym r.given.2) comes;
      goes_on = r.ended ∙ a.goes_on;
    }

nothing_left : (got left : List ℕ) → got ++ left ≡ got → left ≡ []
nothing_left got left e = nil_from_length left (omega (arith, length-append got left, ap (λ (l : List ℕ). length l) e))

-- so it ended, whatever stream it goes over
record Came (framing : Framing) (request : List ℕ) (end : ExchangeEnd) (x : AttemptValue) : Type 0 where
  pub prefix : IsPrefixOf (got_by x.stream) request
  pub whole : (reply : HttpReply) → end ≡ ends.Reply reply → (got_by x.stream ≡ request) × BeginsWithReply framing (given_by x.stream) reply
  pub alone : (reply : HttpReply) → end ≡ ends.Reply reply → x.exchange.alone ≡ true → IsReplyAlone framing (given_by x.stream) reply
  pub unanswered : (loss : Loss) → end ≡ ends.Lost loss → got_by x.stream ≡ request → HasNoReply framing (given_by x.stream)

-- what that counts as over a stream that jobs went over before, or not
own_ends : (framing : Framing) (request : List ℕ) (used : Bool) (end : ExchangeEnd) (x : AttemptValue) → used ≡ is_used x.stream → Came framing request end x
    → HasEnded framing request (own_end used end) x
own_ends framing request used (ends.Reply reply) x same c = by_stray (used && (reply.status == 408)) refl
  where
    stray_is : (b : Bool) → (used && (reply.status == 408)) ≡ b → is_stray x.stream reply ≡ b
    stray_is b is = ap (λ (u : Bool). u && (reply.status == 408)) (sym same) ∙ is

    by_stray : (b : Bool) → (used && (reply.status == 408)) ≡ b → HasEnded framing request (own_end used (ends.Reply reply)) x
    by_stray true is = subst (λ (t : Bool). HasEnded framing request (if t then ends.Lost loss.Early else ends.Reply reply) x) (sym is) record {
      prefix = c.prefix;
      whole = λ r replies. absurd (is_no_reply loss.Early r replies);
      alone = λ r replies whole. absurd (is_no_reply loss.Early r replies);
      unanswered = λ l lost whole. inr (reply, (c.whole reply refl).1, stray_is true is);
    }
    by_stray false is = subst (λ (t : Bool). HasEnded framing request (if t then ends.Lost loss.Early else ends.Reply reply) x) (sym is) record {
      prefix = c.prefix;
      whole = λ r replies.
          let w = c.whole r replies in (w.0, w.1, subst (λ (q : HttpReply). is_stray x.stream q ≡ false) (same_reply reply r replies) (stray_is false is));
      alone = λ r replies whole. c.alone r replies whole;
      unanswered = λ l lost. absurd (is_no_loss reply l lost);
    }
own_ends framing request used (ends.Lost l) x same c = subst (λ (t : Bool). HasEnded framing request (if t then ends.Lost loss.Early else ends.Lost l) x) (sym (and_false used)) record {
  prefix = c.prefix;
  whole = λ r replies. absurd (is_no_reply l r replies);
  alone = λ r replies whole. absurd (is_no_reply l r replies);
  unanswered = λ m lost whole. inl (c.unanswered m lost whole);
}
own_ends framing request used ends.NoMemory x same c = subst (λ (t : Bool). HasEnded framing request (if t then ends.Lost loss.Early else ends.NoMemory) x) (sym (and_false used)) record {
  prefix = c.prefix;
  whole = λ r replies. absurd (no_reply r replies);
  alone = λ r replies whole. absurd (no_reply r replies);
  unanswered = λ m lost. absurd (no_loss m lost);
}

-- .. or it ended by that
came_by : (framing : Framing) (request : List ℕ) (e f : ExchangeValue) (s t : BackendValue) (connected : Bool) (until : Option ℕ) (piece : List ℕ) (n : ℕ) (end : ExchangeEnd)
    → t.stream ≡ with_turns (turns_of_read piece (got.Bytes n)) s.stream → BringsWithin piece (got.Bytes n) → f.left ≡ e.left → ComesTo framing f (given_of s.stream.turns ++ take n piece) (Some end)
    → Asks framing request (attempt_value e (Some s) connected until) → Came framing request end (attempt_value f (Some t) true until)
came_by framing request e f s t connected until piece n end is within same comes a = record {
  prefix = (e.left, sym (ap (λ (g : List ℕ). g ++ e.left) makes.got ∙ a.sends));
  whole = λ reply is. whole_by end comes reply is;
  alone = λ reply is alone. alone_by end comes reply is alone;
  unanswered = λ loss is whole. unanswered_by end comes loss is (same ∙ nothing_left (got_of s.stream.turns) e.left (a.sends ∙ sym whole ∙ makes.got));
}
  where
    makes : ReadMakes s.stream.turns t.stream.turns piece (got.Bytes n)
    makes = read_makes s.stream.turns t.stream.turns piece (got.Bytes n) (ap (λ (v : StreamValue). v.turns) is) within

    all_sent : f.left ≡ [] → got_of t.stream.turns ≡ request
    all_sent none = makes.got ∙ sym (append-nil (got_of s.stream.turns)) ∙ ap (λ (l : List ℕ). got_of s.stream.turns ++ l) (sym none ∙ same) ∙ a.sends

    whole_by : (end : ExchangeEnd) → ComesTo framing f (given_of s.stream.turns ++ take n piece) (Some end) → (reply : HttpReply) → end ≡ ends.Reply reply
        → (got_of t.stream.turns ≡ request) × BeginsWithReply framing (given_of t.stream.turns) reply
    whole_by (ends.Reply r) c reply is = (
      all_sent c.1,
      subst (λ (g : List ℕ). BeginsWithReply framing g reply) (sym makes.given.2) (subst (λ (q : HttpReply). BeginsWithReply framing (given_of s.stream.turns ++ take n piece) q) (same_reply r reply is) c.0),
    )
    whole_by (ends.Lost loss) c reply is = absurd (is_no_reply loss reply is)
    whole_by ends.NoMemory c reply is = absurd (no_reply reply is)

    alone_by : (end : ExchangeEnd) → ComesTo framing f (given_of s.stream.turns ++ take n piece) (Some end) → (reply : HttpReply) → end ≡ ends.Reply reply → f.alone ≡ true
        → IsReplyAlone framing (given_of t.stream.turns) reply
    alone_by (ends.Reply r) c reply is alone =
        subst (λ (g : List ℕ). IsReplyAlone framing g reply) (sym makes.given.2) (subst (λ (q : HttpReply). IsReplyAlone framing (given_of s.stream.turns ++ take n piece) q) (same_reply r reply is) (c.2 alone))
    alone_by (ends.Lost loss) c reply is alone = absurd (is_no_reply loss reply is)
    alone_by ends.NoMemory c reply is alone = absurd (no_reply reply is)

    unanswered_by : (end : ExchangeEnd) → ComesTo framing f (given_of s.stream.turns ++ take n piece) (Some end) → (loss : Loss) → end ≡ ends.Lost loss → f.left ≡ [] → HasNoReply framing (given_of t.stream.turns)
    unanswered_by (ends.Reply r) c loss is none = absurd (is_no_loss r loss is)
    unanswered_by (ends.Lost l) c loss is none = subst (λ (g : List ℕ). HasNoReply framing g) (sym makes.given.2) (c.1 none)
    unanswered_by ends.NoMemory c loss is none = absurd (no_loss loss is)

pub read_ends : (framing : Framing) (request : List ℕ) (e f : ExchangeValue) (s t : BackendValue) (connected : Bool) (until : Option ℕ) (piece : List ℕ) (n : ℕ) (used : Bool) (end : ExchangeEnd)
    → t.stream ≡ with_turns (turns_of_read piece (got.Bytes n)) s.stream → BringsWithin piece (got.Bytes n) → f.left ≡ e.left → used ≡ is_used_by s.stream.before
    → ComesTo framing f (given_of s.stream.turns ++ take n piece) (Some end)
    → Asks framing request (attempt_value e (Some s) connected until) → HasEnded framing request (own_end used end) (attempt_value f (Some t) true until)
read_ends framing request e f s t connected until piece n used end is within same jobs comes a =
    own_ends framing request used end (attempt_value f (Some t) true until) (jobs ∙ ap (λ (v : StreamValue). is_used_by v.before) (sym is))
    (came_by framing request e f s t connected until piece n end is within same comes a)

-- it is lost, or there is no memory for it
pub begun_lost : (manner : Manner) (job : HandedJob) (addresses : AddressesValue) (x : AttemptValue) (end : Option ExchangeEnd) (now : ExchangeEnd) (items : List (BackendValue × Bool)) (loss : Option Loss)
    → is_some end ≡ false → MatchOption loss (now ≡ ends.NoMemory) (λ l. now ≡ ends.Lost l)
    → HasBegun (asking_state manner job addresses x end items) → HasBegun (asking_state manner job addresses x (Some now) items)
begun_lost manner job addresses x end now items loss off told b =
    begun_ends manner job addresses x x end (Some now) now items off refl (grows_self x.stream, prefix-refl x.reported) (λ a. ends_by loss told a) b
  where
    ends_by : (loss : Option Loss) → MatchOption loss (now ≡ ends.NoMemory) (λ l. now ≡ ends.Lost l) → Asks manner.framing (request_of manner job.job) x → HasEnded manner.framing (request_of manner job.job) now x
    ends_by None is a = record {
      prefix = (x.exchange.left, sym a.sends);
      whole = λ reply replies. absurd (no_reply reply (sym is ∙ replies));
      alone = λ reply replies whole. absurd (no_reply reply (sym is ∙ replies));
      unanswered = λ l lost. absurd (no_loss l (sym is ∙ lost));
    }
    ends_by (Some l) is a = subst (λ (e : ExchangeEnd). HasEnded manner.framing (request_of manner job.job) e x) (sym is) (lost_ends manner.framing (request_of manner job.job) x x l refl refl a)

pub grown_then : (x y z : AttemptValue) → HasGrown x y → HasGrown y z → HasGrown x z
grown_then x y z p q = (grows_then x.stream y.stream z.stream p.0 q.0, prefix-trans x.reported y.reported z.reported p.1 q.1)

-- what was written of it begins its request
pub begins_request : (x : AskingState) → HasBegun x → BeginsRequest x.manner (asked_for x)
begins_request x b = record {
  new = b.new;
  untouched = b.untouched;
  goes_over = b.goes_over;
  prefix = begun_prefix x b;
  addressed = record { later = next_of x.addresses; in_order = b.given.in_order };
}
  where
    begun_prefix : (x : AskingState) → HasBegun x → IsPrefixOf (got_by x.attempt.stream) (request_of x.manner x.job.job)
    begun_prefix x b = search arith

-- ---- what is recorded of it

one_outcome : (a b : Outcome) → Some a ≡ Some b → a ≡ b
one_outcome a b e = cc

no_outcome : (b : Outcome) → None ≡ Some b → ⊥
no_outcome b e = cc

module _ (x : AskingState) (begun : HasBegun x) where
  ends_so : (e : ExchangeEnd) (o : Outcome) → HasEnded x.manner.framing (request_of x.manner x.job.job) e x.attempt → outcome_of_asked (asked_of e) ≡ Some o
      → ((o ≡ outcome_of None) × IsUnanswered x.manner (asked_for x)) ⊎ IsAnswered x.manner (asked_for x) o
  ends_so (ends.Reply reply) o h is =
      let w = h.whole reply refl in
      inr record { whole = w.0; reply = reply; begins = w.1; own = w.2; outcome_is = sym (one_outcome (outcome_of (Some reply)) o is) }
  ends_so (ends.Lost loss) o h is = inl (sym (one_outcome (outcome_of None) o is), h.unanswered loss refl)
  ends_so ends.NoMemory o h is = absurd (no_outcome o is)

  -- as it ended
  pub fair_end : (e : ExchangeEnd) (a : Asked) (o : Option Outcome) → x.end ≡ Some e → a ≡ asked_of e → IfSome o (λ outcome. outcome_of_asked a ≡ Some outcome)
      → IsFair x.manner (ended_value (asked_for x) o)
  fair_end e a None ended asked tells = record { begun = begins_request x begun; outcome = λ o is. absurd (no_outcome o is) }
  fair_end e a (Some out) ended asked tells = record {
    begun = begins_request x begun;
    outcome = λ o is. ends_so e o (begun.ended e ended) (ap outcome_of_asked (sym asked) ∙ tells ∙ is);
  }

  -- as one that is lost
  pub fair_loss : (o : Option Outcome) → x.end ≡ None → IfSome o (λ outcome. outcome_of_asked Lost ≡ Some outcome) → IsFair x.manner (ended_value (asked_for x) o)
  fair_loss None ended tells = record { begun = begins_request x begun; outcome = λ o is. absurd (no_outcome o is) }
  fair_loss (Some out) ended tells = record {
    begun = begins_request x begun;
    outcome = λ o is. inl (sym (one_outcome (outcome_of None) o (tells ∙ is)), λ whole. inl (begun.asks ended).reads.unanswered);
  }

-- how it ended is taken from it
pub begun_taken : (manner : Manner) (job : HandedJob) (addresses : AddressesValue) (x : AttemptValue) (end : Option ExchangeEnd) (items : List (BackendValue × Bool))
    → HasBegun (asking_state manner job addresses x end items) → HasBegun (asking_state manner job addresses x (Some ends.NoMemory) items)
begun_taken manner job addresses x end items b = record {
  new = b.new;
  goes_over = b.goes_over;
  given = b.given;
  untouched = b.untouched;
  asks = λ e. absurd (some_none ends.NoMemory e);
  ended = λ e is. subst (λ (t : ExchangeEnd). HasEnded manner.framing (request_of manner job.job) t x) (some_end ends.NoMemory e is) record {
    prefix = (begins_request (asking_state manner job addresses x end items) b).prefix;
    whole = λ reply replies. absurd (no_reply reply replies);
    alone = λ reply replies whole. absurd (no_reply reply replies);
    unanswered = λ loss lost. absurd (no_loss loss lost);
  };
}

-- its share of the stream is whole, if its reply came whole, with nothing behind it, and its connection stays
pub whole_end : (x : AskingState) → HasBegun x → (reply : HttpReply) (o : Option Outcome) → x.end ≡ Some (ends.Reply reply) → x.attempt.exchange.alone ≡ true → reply.closes ≡ false
    → o ≡ Some (outcome_of (Some reply)) → All (IsWhole x.manner) (share_of (ended_value (asked_for x) o))
whole_end x begun reply o is alone stays told = by_stream x.attempt.stream refl
  where
    by_stream : (s : Option StreamValue) → x.attempt.stream ≡ s
        → All (IsWhole x.manner) (option_map_or (λ (t : StreamValue). share_value x.job.job t.turns o ∷ []) s [])
    by_stream None none = All-nil (IsWhole x.manner)
    by_stream (Some s) some =
        let h = begun.ended (ends.Reply reply) is in
        All-cons (IsWhole x.manner) (share_value x.job.job s.turns o) [] record {
          sent = sym (ap (λ (t : Option StreamValue). got_by t) some) ∙ (h.whole reply refl).0;
          reply = reply;
          is = subst (λ (t : Option StreamValue). IsReplyAlone x.manner.framing (given_by t) reply) some (h.alone reply refl alone);
          stays = stays;
          outcome_is = told;
        } (All-nil (IsWhole x.manner))

pub whole_told : (x : AskingState) → HasBegun x → (reply : HttpReply) (o : Option Outcome) → x.end ≡ Some (ends.Reply reply)
    → IfSome o (λ outcome. outcome_of_asked (asked_of (ends.Reply reply)) ≡ Some outcome) → x.attempt.exchange.alone ≡ true → reply.closes ≡ false → is_some o ≡ true
    → All (IsWhole x.manner) (share_of (ended_value (asked_for x) o))
whole_told x begun reply None is told alone stays some = absurd (let f : ⊥ = cc in f)
whole_told x begun reply (Some out) is told alone stays some = whole_end x begun reply (Some out) is alone stays (sym told)

pub not_true : (b : Bool) → not b ≡ true → b ≡ false
not_true true e = absurd (let f : ⊥ = cc in f)
not_true false e = refl

pub no_yes : {A : Type 0} → false ≡ true → A
no_yes e = absurd (let f : ⊥ = cc in f)

-- it counts for nothing whether it is over
pub fair_over : (manner : Manner) (x : AskingValue) (over : Bool) (o : Option Outcome) → IsFair manner (ended_value x o) → IsFair manner (ended_value (record x { over = over }) o)
fair_over manner x over o f = record {
  begun =
      let b = f.begun in record {
        new = b.new;
        untouched = b.untouched;
        goes_over = b.goes_over;
        prefix = b.prefix;
        addressed = let a = b.addressed in record { later = a.later; in_order = a.in_order };
      };
  outcome = λ out is.
      ⊎_elim
      (λ (lost : (out ≡ outcome_of None) × IsUnanswered manner x). inl (lost.0, lost.1))
      (λ (a : IsAnswered manner x out). inr record { whole = a.whole; reply = a.reply; begins = a.begins; own = a.own; outcome_is = a.outcome_is })
      (f.outcome out is);
}

-- its addresses changed
pub begun_addresses : (manner : Manner) (job : HandedJob) (x y : AddressesValue) (s : AttemptValue) (end : Option ExchangeEnd) (items : List (BackendValue × Bool))
    → ((tried : List SocketAddr) → AreOf job.job.address tried x → AreOf job.job.address tried y)
    → HasBegun (asking_state manner job x s end items) → HasBegun (asking_state manner job y s end items)
begun_addresses manner job x y s end items are b = record { new = b.new; goes_over = b.goes_over; given = are _ b.given; untouched = b.untouched; asks = b.asks; ended = b.ended }

-- it goes over a stream to the next of its addresses
module _ (manner : Manner) (job : HandedJob) (x y : AddressesValue) (s t : AttemptValue) (address : SocketAddr) (items later : List (BackendValue × Bool)) where
  fresh_begins : (b : BackendValue) (end : Option ExchangeEnd) → is_some end ≡ false → next_of x ≡ address ∷ next_of y → y.found ≡ x.found → y.known ≡ x.known
      → Follows items later s.stream → IsUntouchedAttempt s → b.stream ≡ stream_value address [] []
      → HasBegun (asking_state manner job x s end items) → HasBegun (asking_state manner job y (attempt_value s.exchange (Some b) false None) end later)
  fresh_begins backend end off next same known follows touched is b = record {
    new = new_follows items later s follows touched b.new;
    goes_over = new_goes manner job.job.address backend.stream (ap (λ (v : StreamValue). v.before) is);
    given = taken_are job.job.address _ _ x y address next same known
        (peer_follows items later s backend.stream address follows touched (ap (λ (v : StreamValue). v.before) is) (ap (λ (v : StreamValue). v.peer) is)) b.given;
    untouched = untouched_more items later s follows touched b.untouched;
    asks = λ e. record {
      sends =
          ap (λ (v : StreamValue). got_of v.turns ++ s.exchange.left) is
          ∙ subst (λ (g : List ℕ). g ++ s.exchange.left ≡ request_of manner job.job) touched.0 (b.asks e).sends;
      reads =
          subst (λ (v : StreamValue). IsReading manner.framing s.exchange.replies (given_of v.turns)) (sym is)
          (subst (λ (g : List ℕ). IsReading manner.framing s.exchange.replies g) touched.1 (b.asks e).reads);
      goes_on = ap (λ (v : StreamValue). ended_of v.turns) is;
    };
    ended = λ e is. absurd (some_none e (sym is ∙ none_of end off));
  }

  pub begun_connects : (end : Option ExchangeEnd) (backend : BackendValue) → is_some end ≡ false → next_of x ≡ address ∷ next_of y
      → y.found ≡ x.found → y.known ≡ x.known → Follows items later s.stream → IsUntouchedAttempt s → backend.stream ≡ stream_value address [] [] → t ≡ attempt_value s.exchange (Some backend) false None
      → HasBegun (asking_state manner job x s end items) → HasBegun (asking_state manner job y t end later)
  begun_connects end backend off next same known follows touched is_stream is b =
      subst (λ (u : AttemptValue). HasBegun (asking_state manner job y u end later)) (sym is)
      (fresh_begins backend end off next same known follows touched is_stream b)

-- ---- over a stream over which jobs went before

pub no_stream : (o : Option BackendValue) → is_some o ≡ false → option_map (λ (b : BackendValue). b.stream) o ≡ None
no_stream None none = refl
no_stream (Some b) none = absurd (let f : ⊥ = cc in f)

pub none_back : (o : Option BackendValue) → is_some o ≡ false → o ≡ None
none_back None none = refl
none_back (Some b) none = absurd (let f : ⊥ = cc in f)

-- a read found nothing, and then some of the request was written
module _ (x y : AttemptValue) (s quiet now : StreamValue) (n : ℕ) (waiting : List ℕ) (still : IsStill s) (looked : quiet ≡ with_turns (Quiet ∷ []) s)
    (is : now ≡ with_turns (turns_of_write waiting (sent.Bytes n)) quiet) where
  turns_are : now.turns ≡ s.turns ++ Quiet ∷ Went (take n waiting) ∷ []
  turns_are =
      ap (λ (v : StreamValue). v.turns) is ∙ ap (λ (v : StreamValue). v.turns ++ Went (take n waiting) ∷ []) looked
      ∙ append_assoc s.turns (Quiet ∷ []) (Went (take n waiting) ∷ [])

  now_got : got_of now.turns ≡ take n waiting
  now_got =
      ap got_of turns_are ∙ got-append s.turns (Quiet ∷ Went (take n waiting) ∷ []) ∙ ap (λ (l : List ℕ). l ++ (take n waiting ++ [])) (still_got s.turns still)
      ∙ append-nil (take n waiting)

  now_given : given_of now.turns ≡ []
  now_given = ap given_of turns_are ∙ given-append s.turns (Quiet ∷ Went (take n waiting) ∷ []) ∙ ap (λ (l : List ℕ). l ++ []) (still_given s.turns still)

  now_open : ended_of now.turns ≡ false
  now_open = ap ended_of turns_are ∙ ended-append s.turns (Quiet ∷ Went (take n waiting) ∷ []) ∙ ap (λ (b : Bool). b || false) (still_open s.turns still)

  reuse_asks : x.stream ≡ None → y.stream ≡ Some now → waiting ≡ x.exchange.left → y.exchange ≡ exchange_value (drop n x.exchange.left) x.exchange.replies x.exchange.alone
      → (framing : Framing) (request : List ℕ) → Asks framing request x → Asks framing request y
  reuse_asks alone has all left framing request a = record {
    sends =
        ap (λ (o : Option StreamValue). got_by o ++ y.exchange.left) has ∙ ap (λ (g : List ℕ). g ++ y.exchange.left) now_got
        ∙ ap (λ (w : List ℕ). take n w ++ y.exchange.left) all ∙ ap (λ (v : ExchangeValue). take n x.exchange.left ++ v.left) left ∙ take-append-drop n x.exchange.left
        ∙ sym (ap (λ (o : Option StreamValue). got_by o ++ x.exchange.left) alone) ∙ a.sends;
    reads =
        subst (λ (v : ExchangeValue). IsReading framing v.replies (given_by y.stream)) (sym left)
        (subst (λ (g : List ℕ). IsReading framing x.exchange.replies g)
        (ap (λ (o : Option StreamValue). given_by o) alone ∙ sym (ap (λ (o : Option StreamValue). given_by o) has ∙ now_given)) a.reads);
    goes_on = ap (λ (o : Option StreamValue). ended_by o) has ∙ now_open;
  }

  pub reuses : x.stream ≡ None → y.stream ≡ Some now → y.connected ≡ true → waiting ≡ x.exchange.left
      → y.exchange ≡ exchange_value (drop n x.exchange.left) x.exchange.replies x.exchange.alone → Reuses s x y
  reuses alone has connected all left = record {
    alone = alone;
    now = now;
    stream = has;
    peer = ap (λ (v : StreamValue). v.peer) is ∙ ap (λ (v : StreamValue). v.peer) looked;
    before = ap (λ (v : StreamValue). v.before) is ∙ ap (λ (v : StreamValue). v.before) looked;
    quiet = record { idle = s.turns; first = take n waiting; after = []; quiet = still; are = turns_are };
    connected = connected;
    asks = reuse_asks alone has all left;
  }

-- it goes over such a stream from now on
module _ (manner : Manner) (job : HandedJob) (addresses : AddressesValue) (x y : AttemptValue) (end : Option ExchangeEnd) (items : List (BackendValue × Bool)) (s : StreamValue)
    (ready : IsReadyFor manner job.job.address s) (r : Reuses s x y) where
  none_more : news_of y.stream ≡ news_of x.stream
  none_more =
      ap (λ (o : Option StreamValue). news_of o) r.stream ∙ none_new r.now r.now.before (λ none. ready.used (sym r.before ∙ none))
      ∙ sym (ap (λ (o : Option StreamValue). news_of o) r.alone)

  pub begun_again : is_some end ≡ false → HasBegun (asking_state manner job addresses x end items) → HasBegun (asking_state manner job addresses y end items)
  begun_again off b = record {
    new = b.new;
    goes_over = subst (λ (o : Option StreamValue). All (IsStreamFor manner job.job.address) (option_to_list o)) (sym r.stream) (ready_goes manner job.job.address s r.now ready r.before r.quiet);
    given = tried_are job.job.address _ _ addresses (ap (λ (l : List StreamValue). peers_of (streams_in items ++ l)) none_more) b.given;
    untouched = b.untouched;
    asks = λ e. r.asks manner.framing (request_of manner job.job) (b.asks e);
    ended = λ e is. absurd (some_none e (sym is ∙ none_of end off));
  }

  pub goes_again : GoesOverAgain s (asked_for (asking_state manner job addresses x end items)) (asked_for (asking_state manner job addresses y end items))
  goes_again = record { alone = r.alone; now = r.now; stream = r.stream; peer = r.peer; before = r.before; tried = refl }

-- ---- what only grows

pub asks_grown : (manner : Manner) (job : HandedJob) (a : AddressesValue) (x y : AttemptValue) (end now : Option ExchangeEnd) (items : List (BackendValue × Bool)) → HasGrown x y
    → AsksOn (asked_for (asking_state manner job a x end items)) (asked_for (asking_state manner job a y now items))
asks_grown manner job a x y end now items g = record {
  job = refl;
  found = prefix-refl a.found;
  streams = inl record { tried = refl; stream = kept_stream x.stream y.stream g.0; reported = inr g.1 };
}

pub taken_on : (manner : Manner) (job : HandedJob) (a : AddressesValue) (x : AttemptValue) (end now : Option ExchangeEnd) (items : List (BackendValue × Bool))
    → AsksOn (asked_for (asking_state manner job a x end items)) (asked_for (asking_state manner job a x now items))
taken_on manner job a x end now items = asks_grown manner job a x x end now items (grows_self x.stream, prefix-refl x.reported)

pub asks_found : (manner : Manner) (job : HandedJob) (a b : AddressesValue) (x : AttemptValue) (end : Option ExchangeEnd) (items : List (BackendValue × Bool)) → IsPrefixOf a.found b.found
    → AsksOn (asked_for (asking_state manner job a x end items)) (asked_for (asking_state manner job b x end items))
asks_found manner job a b x end items more = record {
  job = refl;
  found = more;
  streams = inl record { tried = refl; stream = kept_stream x.stream x.stream (grows_self x.stream); reported = inr (prefix-refl x.reported) };
}

module _ (manner : Manner) (job : HandedJob) (a b : AddressesValue) (x y : AttemptValue) (end : Option ExchangeEnd) (items : List (BackendValue × Bool)) where
  -- its stream was given up
  pub asks_again : (later : List (BackendValue × Bool)) (before : BackendValue) → b.found ≡ a.found → later ≡ items ++ (before, true) ∷ [] → Some before.stream ≡ x.stream
      → AsksOn (asked_for (asking_state manner job a x end items)) (asked_for (asking_state manner job b y end later))
  asks_again later before same noted had = record {
    job = refl;
    found = begins_is a.found b.found same;
    streams = inr record {
      last = before.stream;
      others = [];
      tried_are = follows_another items later before (Some before.stream) noted refl;
      stream = subst (λ (o : Option StreamValue). IsSameIfThere o before.stream) had (same_self before.stream);
    };
  }

  -- it had none
  pub asks_first : b.found ≡ a.found → None ≡ x.stream → AsksOn (asked_for (asking_state manner job a x end items)) (asked_for (asking_state manner job b y end items))
  asks_first same alone = record {
    job = refl;
    found = begins_is a.found b.found same;
    streams = inl record { tried = refl; stream = inl (sym alone); reported = inl (sym alone) };
  }
