-- What more turns, and going over another stream, make of a job's streams.
use Rattle.branch_asking.proofs.Words.{◌≡◌, ℕ, Bool, false, true, List, [], ◌∷◌, ◌++◌, All, map, Option, Some, None, refl, sym, ap, ◌∙◌, subst, append-nil, map-append, option_to_list, inl, inr, SocketAddr, HandedJob, IsSameStream, IsNew, IsUntouched, ShareValue, StreamValue, stream_value, new_by, peers_of, given_by, got_by, Turn, Quiet, Went, BeginsQuietly, with_turns, went, came, is_over, given_of, got_of, ended_of, AddressesValue, AttemptValue, BackendValue, GrowsTo, HasLookedAt, IsStill, IsUntouchedAttempt, asked_for, asking_state, attempt_value, AreAt, AreShares, IsStreamFor, IsWhole, Manner, All-cons, All-head, All-nil, All-tail, IsPrefixOf, IsReadyFor}
use Rattle.std.proofs.Common.{◌⊎◌, append_assoc}
use Rattle.std.specs.Option.{option_map_or}
use Rattle.std.specs.Prelude.{◌||◌, option_map}
use Rattle.std.proofs.lemmas.List.Elements.{All-append}
use Rattle.wires.specs.lemmas.Turns.{got-append}
use Rattle.gateway_theory.specs.lemmas.PastLemmas.{prefix-refl, prefix-trans}
use Rattle.branch_exchange.specs.declared.exchange_end.ExchangeEnd.{ExchangeEnd}
use Rattle.loop_model.specs.Accounts.{NetworkValue}
use Rattle.loop_model.specs.Asking.{is_used_by}
use Rattle.loop_model.specs.Streams.{ClosedValue, closed_stream}
use Rattle.loop_model.specs.Whole.{IsSameIfThere}
use Rattle.branch_asking.specs.Streams.{GoesOver, without_turns}

-- ---- a stream with more turns

pub same_self : (s : StreamValue) → IsSameStream s s
same_self s = record { peer = refl; before = refl; turns = prefix-refl s.turns }

pub same_more : (s t : StreamValue) (more : List Turn) → t ≡ with_turns more s → IsSameStream s t
same_more s t more is = record {
  peer = ap (λ (v : StreamValue). v.peer) is;
  before = ap (λ (v : StreamValue). v.before) is;
  turns = (more, ap (λ (v : StreamValue). v.turns) is);
}

same_then : (s t u : StreamValue) → IsSameStream s t → IsSameStream t u → IsSameStream s u
same_then s t u p q = record {
  peer = q.peer ∙ p.peer;
  before = q.before ∙ p.before;
  turns = prefix-trans s.turns t.turns u.turns p.turns q.turns;
}

pub grows_self : (x : Option StreamValue) → GrowsTo x x
grows_self None = refl
grows_self (Some s) = (s, refl, same_self s)

pub grows_then : (x y z : Option StreamValue) → GrowsTo x y → GrowsTo y z → GrowsTo x z
grows_then None y z p q = subst (λ (o : Option StreamValue). GrowsTo o z) p q
grows_then (Some s) y z p q =
    let r = subst (λ (o : Option StreamValue). GrowsTo o z) p.1 q in
    (r.0, r.1, same_then s p.0 r.0 p.2 r.2)

-- ---- new streams, and others

-- where no job went over it before, it is among those
abbrev pub news_of : Option StreamValue → List StreamValue
news_of o = option_map_or (λ (s : StreamValue). new_by s s.before) o []

pub news_are : (o : Option StreamValue) → All IsNew (option_to_list o) → news_of o ≡ option_to_list o
news_are None all = refl
news_are (Some s) all = ap (λ (before : List ShareValue). new_by s before) (All-head IsNew s [] all)

-- .. and not if one did
pub none_new : (s : StreamValue) (before : List ShareValue) → (before ≡ [] → ⊥) → new_by s before ≡ []
none_new s [] used = absurd (used refl)
none_new s (x ∷ before) used = refl

-- it leads to the same address
news_lead : (s t : StreamValue) (before : List ShareValue) → t.peer ≡ s.peer → peers_of (new_by t before) ≡ peers_of (new_by s before)
news_lead s t [] same = ap (λ (a : SocketAddr). a ∷ []) same
news_lead s t (x ∷ before) same = refl

news_stay : (x y : Option StreamValue) → GrowsTo x y → peers_of (news_of y) ≡ peers_of (news_of x)
news_stay None y g = ap (λ (o : Option StreamValue). peers_of (news_of o)) g
news_stay (Some s) y g =
    ap (λ (o : Option StreamValue). peers_of (news_of o)) g.1 ∙ ap (λ (before : List ShareValue). peers_of (new_by g.0 before)) g.2.before ∙ news_lead s g.0 s.before g.2.peer

pub peers_stay : (tried : List StreamValue) (x y : Option StreamValue) → GrowsTo x y → peers_of (tried ++ news_of y) ≡ peers_of (tried ++ news_of x)
peers_stay tried x y g =
    map-append (λ (s : StreamValue). s.peer) tried (news_of y) ∙ ap (λ (l : List SocketAddr). peers_of tried ++ l) (news_stay x y g)
    ∙ sym (map-append (λ (s : StreamValue). s.peer) tried (news_of x))

-- more turns do not change how they began
quiet_more : (xs ys : List Turn) → IsPrefixOf xs ys → BeginsQuietly xs → BeginsQuietly ys
quiet_more xs ys p q = record {
  idle = q.idle;
  first = q.first;
  after = q.after ++ p.0;
  quiet = q.quiet;
  are = p.1 ∙ ap (λ (l : List Turn). l ++ p.0) q.are ∙ append_assoc q.idle (Quiet ∷ Went q.first ∷ q.after) p.0;
}

module _ (m : Manner) (a : List ℕ) where
  goes_on : (s t : StreamValue) → IsSameStream s t → IsStreamFor m a s → IsStreamFor m a t
  goes_on s t same f = record {
    shares = subst (λ (l : List ShareValue). AreShares m l) (sym same.before) f.shares;
    same = subst (λ (l : List ShareValue). AreAt a l) (sym same.before) f.same;
    quiet = λ used. quiet_more s.turns t.turns same.turns (f.quiet (λ none. used (same.before ∙ none)));
    kept = λ off. same.before ∙ f.kept off;
  }

  one_goes : (s : StreamValue) → IsStreamFor m a s → All (IsStreamFor m a) (s ∷ [])
  one_goes s f = All-cons (IsStreamFor m a) s [] f (All-nil (IsStreamFor m a))

  pub goes_grown : (x y : Option StreamValue) → GrowsTo x y → All (IsStreamFor m a) (option_to_list x) → All (IsStreamFor m a) (option_to_list y)
  goes_grown None y g all = subst (λ (o : Option StreamValue). All (IsStreamFor m a) (option_to_list o)) (sym g) all
  goes_grown (Some s) y g all =
      subst (λ (o : Option StreamValue). All (IsStreamFor m a) (option_to_list o)) (sym g.1)
      (one_goes g.0 (goes_on s g.0 g.2 (All-head (IsStreamFor m a) s [] all)))

  none_shared : AreShares m []
  none_shared = record { whole = All-nil (IsWhole m); quiet = All-nil (λ (x : ShareValue). BeginsQuietly x.turns) }

  -- a new one
  pub new_goes : (s : StreamValue) → IsNew s → All (IsStreamFor m a) (s ∷ [])
  new_goes s new = one_goes s record {
    shares = subst (λ (l : List ShareValue). AreShares m l) (sym new) none_shared;
    same = subst (λ (l : List ShareValue). AreAt a l) (sym new) (All-nil (λ (x : ShareValue). x.job.address ≡ a));
    quiet = λ used. absurd (used new);
    kept = λ off. new;
  }

  -- one that jobs of that address went over
  pub ready_goes : (s t : StreamValue) → IsReadyFor m a s → t.before ≡ s.before → BeginsQuietly t.turns → All (IsStreamFor m a) (t ∷ [])
  ready_goes s t ready same quiet = one_goes t record {
    shares = subst (λ (l : List ShareValue). AreShares m l) (sym same) ready.shares;
    same = subst (λ (l : List ShareValue). AreAt a l) (sym same) ready.same;
    quiet = λ used. quiet;
    kept = λ off. absurd (both (sym ready.keeps ∙ off));
  }
    where
      both : true ≡ false → ⊥
      both e = cc

-- ---- turns in which nothing was there

pub still_given : (turns : List Turn) → All (λ (turn : Turn). turn ≡ Quiet) turns → given_of turns ≡ []
still_given [] all = refl
still_given (t ∷ ts) all =
    ap (λ (u : Turn). came u ++ given_of ts) (All-head (λ (turn : Turn). turn ≡ Quiet) t ts all) ∙ still_given ts (All-tail (λ (turn : Turn). turn ≡ Quiet) t ts all)

pub still_got : (turns : List Turn) → All (λ (turn : Turn). turn ≡ Quiet) turns → got_of turns ≡ []
still_got [] all = refl
still_got (t ∷ ts) all =
    ap (λ (u : Turn). went u ++ got_of ts) (All-head (λ (turn : Turn). turn ≡ Quiet) t ts all) ∙ still_got ts (All-tail (λ (turn : Turn). turn ≡ Quiet) t ts all)

pub still_open : (turns : List Turn) → All (λ (turn : Turn). turn ≡ Quiet) turns → ended_of turns ≡ false
still_open [] all = refl
still_open (t ∷ ts) all =
    ap (λ (u : Turn). is_over u || ended_of ts) (All-head (λ (turn : Turn). turn ≡ Quiet) t ts all) ∙ still_open ts (All-tail (λ (turn : Turn). turn ≡ Quiet) t ts all)

-- nothing was done at it
pub looked_none : (s : StreamValue) → HasLookedAt s s
looked_none s = ([], ap (λ (l : List Turn). stream_value s.peer s.before l) (sym (append-nil s.turns)), refl)

-- .. nor since it was looked at
pub looked_then : (s t u : StreamValue) → HasLookedAt s t → u ≡ with_turns [] t → HasLookedAt s u
looked_then s t u l is =
    (l.0, is ∙ ap (λ (v : StreamValue). with_turns [] v) l.1 ∙ ap (λ (x : List Turn). stream_value s.peer s.before x) (append-nil (s.turns ++ l.0)), l.2)

-- it is the same but for its turns
pub same_grown : (x y : Option StreamValue) → GrowsTo x y → option_map without_turns y ≡ option_map without_turns x
same_grown None y g = ap (λ (o : Option StreamValue). option_map without_turns o) g
same_grown (Some s) y g =
    ap (λ (o : Option StreamValue). option_map without_turns o) g.1 ∙ ap (λ (a : SocketAddr). Some (stream_value a g.0.before [])) g.2.peer
    ∙ ap (λ (l : List ShareValue). Some (stream_value s.peer l [])) g.2.before

-- the same, or it is the first
pub kept_stream : (x y : Option StreamValue) → GrowsTo x y → (x ≡ None) ⊎ ((t : StreamValue) × (y ≡ Some t) × IsSameIfThere x t)
kept_stream None y g = inl refl
kept_stream (Some s) y g = inr g

-- ---- another stream

abbrev pub streams_in : List (BackendValue × Bool) → List StreamValue
streams_in items = map (λ (t : BackendValue × Bool). t.0.stream) items

-- the stream before, if there was one, is among those that were given up
abbrev pub Follows : List (BackendValue × Bool) → List (BackendValue × Bool) → Option StreamValue → Type 0
Follows items later was = streams_in later ≡ streams_in items ++ option_to_list was

pub follows_another : (items later : List (BackendValue × Bool)) (before : BackendValue) (was : Option StreamValue) → later ≡ items ++ (before, true) ∷ []
    → Some before.stream ≡ was → Follows items later was
follows_another items later before was is had =
    ap streams_in is ∙ map-append (λ (t : BackendValue × Bool). t.0.stream) items ((before, true) ∷ [])
    ∙ ap (λ (o : Option StreamValue). streams_in items ++ option_to_list o) had

pub follows_none : (items : List (BackendValue × Bool)) (was : Option StreamValue) → None ≡ was → Follows items items was
follows_none items was none = sym (append-nil (streams_in items)) ∙ ap (λ (o : Option StreamValue). streams_in items ++ option_to_list o) none

-- none of those that are given up was touched
untouched_one : (x : AttemptValue) (was : Option StreamValue) → x.stream ≡ was → IsUntouchedAttempt x → All IsUntouched (option_to_list was)
untouched_one x None is touched = All-nil IsUntouched
untouched_one x (Some s) is touched =
    All-cons IsUntouched s [] (sym (ap (λ (o : Option StreamValue). given_by o) is) ∙ touched.1, sym (ap (λ (o : Option StreamValue). got_by o) is) ∙ touched.0) (All-nil IsUntouched)

pub untouched_more : (items later : List (BackendValue × Bool)) (x : AttemptValue) → Follows items later x.stream → IsUntouchedAttempt x
    → All IsUntouched (streams_in items) → All IsUntouched (streams_in later)
untouched_more items later x follows touched all =
    subst (λ (l : List StreamValue). All IsUntouched l) (sym follows)
    (All-append IsUntouched (streams_in items) (option_to_list x.stream) all (untouched_one x x.stream refl touched))

-- .. and no job went over them before
pub new_follows : (items later : List (BackendValue × Bool)) (x : AttemptValue) → Follows items later x.stream → IsUntouchedAttempt x → All IsNew (streams_in items)
    → All IsNew (streams_in later)
new_follows items later x follows touched all =
    subst (λ (l : List StreamValue). All IsNew l) (sym follows) (All-append IsNew (streams_in items) (option_to_list x.stream) all touched.2)

-- the addresses of the new ones, where another new one follows
pub peer_follows : (items later : List (BackendValue × Bool)) (x : AttemptValue) (s : StreamValue) (a : SocketAddr) → Follows items later x.stream → IsUntouchedAttempt x → IsNew s → s.peer ≡ a
    → peers_of (streams_in later ++ new_by s s.before) ≡ peers_of (streams_in items ++ news_of x.stream) ++ a ∷ []
peer_follows items later x s a follows touched new leads =
    ap (λ (before : List ShareValue). peers_of (streams_in later ++ new_by s before)) new
    ∙ map-append (λ (t : StreamValue). t.peer) (streams_in later) (s ∷ []) ∙ ap (λ (l : List StreamValue). peers_of l ++ s.peer ∷ []) (follows ∙ ap (λ (l : List StreamValue). streams_in items ++ l) (sym (news_are x.stream touched.2)))
    ∙ ap (λ (p : SocketAddr). peers_of (streams_in items ++ news_of x.stream) ++ p ∷ []) leads

-- ---- what the network did for it

module _ (manner : Manner) (job : HandedJob) (a b : AddressesValue) (x y : AttemptValue) (end : Option ExchangeEnd) (items later : List (BackendValue × Bool)) (stream : BackendValue)
    (address : SocketAddr) (m mid n : NetworkValue) (fresh : stream.stream ≡ stream_value address [] []) (is : y ≡ attempt_value x.exchange (Some stream) false None)
    (made : mid ≡ record m { made = m.made ++ address ∷ [] }) (follows : Follows items later x.stream) (touched : IsUntouchedAttempt x) where
  stream_is : y.stream ≡ Some (stream_value address [] [])
  stream_is = ap (λ (t : AttemptValue). t.stream) is ∙ ap (λ (s : StreamValue). Some s) fresh

  -- the stream before was given up
  pub over_another : (before : StreamValue) (closed : ClosedValue) → Some before ≡ x.stream → closed ≡ closed_stream before → n ≡ record mid { closed = mid.closed ++ closed ∷ [] }
      → GoesOver address m n (asked_for (asking_state manner job a x end items)) (asked_for (asking_state manner job b y end later))
  over_another before closed had its net = record {
    net = net ∙ ap (λ (v : NetworkValue). record v { closed = v.closed ++ closed ∷ [] }) made
        ∙ ap (λ (l : List ClosedValue). record m { made = m.made ++ address ∷ []; closed = m.closed ++ l })
        (ap (λ (v : ClosedValue). v ∷ []) its ∙ ap (λ (o : Option StreamValue). map closed_stream (option_to_list o)) had);
    stream = stream_is;
    tried = follows;
    new = touched.2;
  }

  -- there was none
  pub over_first : None ≡ x.stream → n ≡ mid → GoesOver address m n (asked_for (asking_state manner job a x end items)) (asked_for (asking_state manner job b y end later))
  over_first none net = record {
    net = net ∙ made ∙ ap (λ (l : List ClosedValue). record m { made = m.made ++ address ∷ []; closed = l })
        (sym (append-nil m.closed) ∙ ap (λ (o : Option StreamValue). m.closed ++ map closed_stream (option_to_list o)) none);
    stream = stream_is;
    tried = follows;
    new = touched.2;
  }

-- a stream of which a job has had a share was used
pub used_more : (before : List ShareValue) (x : ShareValue) → is_used_by (before ++ x ∷ []) ≡ true
used_more [] x = refl
used_more (y ∷ before) x = refl
