-- What becomes of the stream that a job has left, and of those that are kept.
use Rattle.gateway_loop.proofs.Words.{◌≡◌, ◌⊎◌, ◌<◌, ℕ, zero, suc, ◌+◌, Bool, true, false, List, [], ◌∷◌, ◌++◌, All, All-nil, All-push, map, length, Option, None, Some, refl, sym, ap, ◌∙◌, subst, arith, append_assoc, append-nil, ⊎_elim, count_by, sum_by, sum_by-append, sum_by-cons, slice_index_or, option_map_or, option_to_list, is_some, map-append, Manner, Outcome, SocketAddr, AreAt, AreShares, AskingValue, BeginsRequest, ClosedValue, EndedValue, IsFair, IsKept, IsLeft, IsStreamFor, IsWhole, KeptValue, NetworkValue, ShareValue, StreamValue, closed_stream, count_own, count_shares, count_under_way, ended_value, kept_streams, peers_of, share_of, share_value, stream_value}
use Rattle.std.proofs.lemmas.List.Elements.{All-append, All-cons, All-head, All-pop, All-tail}
use Rattle.std.proofs.lemmas.List.{length-append}
use Rattle.std.specs.Prelude.{◌-◌, drop, remove, slice_set}
use Rattle.branch_asking.specs.Asking.{BackendValue, HasLookedAt, with_turns}
use Rattle.branch_asking.specs.Streams.{IsReadyFor, left_by}
use Rattle.gateway_loop.specs.Kept.{HasKept, IsQuietStill, Keeps, KeepsIf, LooksAt, OneIsQuiet, Takes, TakesAny, TakesAt, TakesOut}
use Rattle.gateway_loop.proofs.AccountLemmas.{count_append}
use Rattle.wires.specs.Turns.{BeginsQuietly, Quiet, Turn, got_of, went}
use Rattle.wires.specs.lemmas.Turns.{got-append}

true_false : {A : Type 0} → true ≡ false → A
true_false e = absurd (let f : ⊥ = cc in f)

abbrev IsQuiet : Turn → Type 0
IsQuiet turn = turn ≡ Quiet

still_got : (turns : List Turn) → All IsQuiet turns → got_of turns ≡ []
still_got [] all = refl
still_got (t ∷ ts) all = ap (λ (u : Turn). went u ++ got_of ts) (All-head IsQuiet t ts all) ∙ still_got ts (All-tail IsQuiet t ts all)

-- ---- counts

shares_one : (p : SocketAddr → ShareValue → Bool) (s : StreamValue) → count_shares p (s ∷ []) ≡ count_by (p s.peer) s.before
shares_one p s =
    let one = sum_by-cons (λ (t : StreamValue). count_by (p t.peer) t.before) s [] in
    let none : sum_by (λ (t : StreamValue). count_by (p t.peer) t.before) [] ≡ 0 = refl in
    omega (arith, one, none)

pub shares_append : (p : SocketAddr → ShareValue → Bool) (xs ys : List StreamValue) → count_shares p (xs ++ ys) ≡ count_shares p xs + count_shares p ys
shares_append p xs ys = sum_by-append (λ (t : StreamValue). count_by (p t.peer) t.before) xs ys

-- .. of those that are kept, where one stands among others
abbrev peers_in : (SocketAddr → Bool) → List KeptValue → ℕ
peers_in p kept = count_by p (peers_of (kept_streams kept))

peers_append : (p : SocketAddr → Bool) (xs ys : List KeptValue) → peers_in p (xs ++ ys) ≡ peers_in p xs + peers_in p ys
peers_append p xs ys =
    ap (λ (t : List StreamValue). count_by p (peers_of t)) (map-append (λ (k : KeptValue). k.stream) xs ys)
    ∙ ap (count_by p) (map-append (λ (s : StreamValue). s.peer) (kept_streams xs) (kept_streams ys)) ∙ count_append p (peers_of (kept_streams xs)) (peers_of (kept_streams ys))

shares_in_append : (p : SocketAddr → ShareValue → Bool) (xs ys : List KeptValue) → count_shares p (kept_streams (xs ++ ys)) ≡ count_shares p (kept_streams xs) + count_shares p (kept_streams ys)
shares_in_append p xs ys = ap (count_shares p) (map-append (λ (k : KeptValue). k.stream) xs ys) ∙ shares_append p (kept_streams xs) (kept_streams ys)

-- ---- the last of some shares

pub record EndsWith (xs : List ShareValue) : Type 0 where
  pub others : List ShareValue
  pub last : ShareValue
  pub are : xs ≡ others ++ last ∷ []

ends_with : (x : ShareValue) (xs : List ShareValue) → EndsWith (x ∷ xs)
ends_with x [] = record { others = []; last = x; are = refl }
ends_with x (y ∷ ys) = let e = ends_with y ys in record { others = x ∷ e.others; last = e.last; are = ap (λ (l : List ShareValue). x ∷ l) e.are }

some_end : (xs : List ShareValue) → (xs ≡ [] → ⊥) → EndsWith xs
some_end [] some = absurd (some refl)
some_end (x ∷ xs) some = ends_with x xs

no_end : (xs : List ShareValue) (x : ShareValue) → xs ++ x ∷ [] ≡ [] → ⊥
no_end [] x e = cc
no_end (y ∷ ys) x e = cc

abbrev Begins : ShareValue → Type 0
Begins x = BeginsQuietly x.turns

-- each but the first began on a quiet stream, and then one more did, if there was one before
quiet_push : (xs : List ShareValue) (x : ShareValue) → All Begins (drop 1 xs) → ((xs ≡ [] → ⊥) → Begins x) → All Begins (drop 1 (xs ++ x ∷ []))
quiet_push [] x all own = All-nil Begins
quiet_push (y ∷ ys) x all own = All-push Begins ys x all (own (λ e. let f : ⊥ = cc in f))

quiet_pop : (xs : List ShareValue) (x : ShareValue) → All Begins (drop 1 (xs ++ x ∷ [])) → All Begins (drop 1 xs) × ((xs ≡ [] → ⊥) → Begins x)
quiet_pop [] x all = (All-nil Begins, λ some. absurd (some refl))
quiet_pop (y ∷ ys) x all = let each = All-pop Begins (ys ++ x ∷ []) ys (Some x) refl all in (each.0, λ some. each.1)

-- ---- the stream that a job leaves

-- what stays of it, and what is gone: as many streams and shares as there were; and each is kept or left
pub record Parts (manner : Manner) (x : AskingValue) (o : Option Outcome) (stays : List KeptValue) (gone : List StreamValue) : Type 0 where
  pub peers : (p : SocketAddr → Bool) → peers_in p stays + count_by p (peers_of gone) ≡ count_by p (peers_of (option_to_list x.stream))
  pub shares : (p : SocketAddr → ShareValue → Bool) → count_shares p (kept_streams stays) + count_shares p gone ≡ count_under_way p (Some x) + count_own p (ended_value x o)
  pub stay : All (IsKept manner) stays
  pub are_left : All (IsLeft manner) gone

module _ (manner : Manner) (x : AskingValue) (o : Option Outcome) (begun : BeginsRequest manner x) where
  abbrev share : StreamValue → ShareValue
  share t = share_value x.job t.turns o

  abbrev as_left : StreamValue → StreamValue
  as_left t = stream_value t.peer (t.before ++ share t ∷ []) []

  module _ (t : StreamValue) (is : x.stream ≡ Some t) where
    goes : IsStreamFor manner x.job.address t
    goes = All-head (IsStreamFor manner x.job.address) t [] (subst (λ (s : Option StreamValue). All (IsStreamFor manner x.job.address) (option_to_list s)) is begun.goes_over)

    shares_are : share_of (ended_value x o) ≡ share t ∷ []
    shares_are = ap (λ (k : Option StreamValue). option_map_or (λ (s : StreamValue). share_value x.job s.turns o ∷ []) k []) is

    left_is : (v : StreamValue) (more : List Turn) → v ≡ with_turns more (as_left t) → got_of more ≡ [] → (manner.keeps ≡ false → more ≡ []) → IsLeft manner v
    left_is v more looked none quiet = record {
      others = t.before;
      last = share t;
      before_are = ap (λ (s : StreamValue). s.before) looked;
      shares = goes.shares;
      quiet = goes.quiet;
      unwritten = ap (λ (s : StreamValue). got_of s.turns) looked ∙ none;
      once = λ off. (goes.kept off, ap (λ (s : StreamValue). s.turns) looked ∙ quiet off);
    }

    kept_is : (k : KeptValue) (turns : List Turn) → manner.keeps ≡ true → IsWhole manner (share t) → k.address ≡ x.job.address → k.stream ≡ with_turns turns (as_left t) → All IsQuiet turns
        → k.reads ≡ false → is_some k.watched ≡ true → IsKept manner k
    kept_is k turns keeps whole address looked still unread watched =
        let before = ap (λ (s : StreamValue). s.before) looked in record {
          keeps = keeps;
          used = λ none. no_end t.before (share t) (sym before ∙ none);
          shares = subst (AreShares manner) (sym before) record {
            whole = All-push (IsWhole manner) t.before (share t) goes.shares.whole whole;
            quiet = quiet_push t.before (share t) goes.shares.quiet goes.quiet;
          };
          same = subst (λ (a : List ℕ). AreAt a k.stream.before) (sym address)
              (subst (AreAt x.job.address) (sym before) (All-push (λ (s : ShareValue). s.job.address ≡ x.job.address) t.before (share t) goes.same refl));
          still = subst (λ (s : StreamValue). All IsQuiet s.turns) (sym looked) still;
          watched = watched;
          unread = unread;
        }

    peers_counted : (p : SocketAddr → Bool) (v : StreamValue) → v.peer ≡ t.peer → count_by p (peers_of (v ∷ [])) ≡ count_by p (peers_of (option_to_list x.stream))
    peers_counted p v same = ap (λ (a : SocketAddr). count_by p (a ∷ [])) same ∙ sym (ap (λ (s : Option StreamValue). count_by p (peers_of (option_to_list s))) is)

    shares_counted : (p : SocketAddr → ShareValue → Bool) (v : StreamValue) → v.peer ≡ t.peer → v.before ≡ t.before ++ share t ∷ []
        → count_shares p (v ∷ []) ≡ count_under_way p (Some x) + count_own p (ended_value x o)
    shares_counted p v same before =
        let one = shares_one p v in
        let its : count_by (p v.peer) v.before ≡ count_by (p t.peer) (t.before ++ share t ∷ []) = ap (λ (a : SocketAddr). count_by (p a) v.before) same ∙ ap (count_by (p t.peer)) before in
        let both = count_append (p t.peer) t.before (share t ∷ []) in
        let under : count_under_way p (Some x) ≡ count_by (p t.peer) t.before = ap (λ (s : Option StreamValue). count_shares p (option_to_list s)) is ∙ shares_one p t in
        let own : count_own p (ended_value x o) ≡ count_by (p t.peer) (share t ∷ []) =
        ap (λ (k : Option StreamValue). option_map_or (λ (s : StreamValue). count_by (p s.peer) (share_of (ended_value x o))) k 0) is ∙ ap (count_by (p t.peer)) shares_are in
        omega (arith, one, its, both, under, own)

    left_parts : (v : StreamValue) (more : List Turn) → v ≡ with_turns more (as_left t) → got_of more ≡ [] → (manner.keeps ≡ false → more ≡ []) → Parts manner x o [] (v ∷ [])
    left_parts v more looked none quiet = record {
      peers = λ p. let its = peers_counted p v (ap (λ (s : StreamValue). s.peer) looked) in let zero : peers_in p [] ≡ 0 = refl in omega (arith, its, zero);
      shares = λ p.
          let its = shares_counted p v (ap (λ (s : StreamValue). s.peer) looked) (ap (λ (s : StreamValue). s.before) looked) in
          let zero : count_shares p (kept_streams []) ≡ 0 = refl in
          omega (arith, its, zero);
      stay = All-nil (IsKept manner);
      are_left = All-cons (IsLeft manner) v [] (left_is v more looked none quiet) (All-nil (IsLeft manner));
    }

    kept_parts : (k : KeptValue) (turns : List Turn) → manner.keeps ≡ true → IsWhole manner (share t) → k.address ≡ x.job.address → k.stream ≡ with_turns turns (as_left t) → All IsQuiet turns
        → k.reads ≡ false → is_some k.watched ≡ true → Parts manner x o (k ∷ []) []
    kept_parts k turns keeps whole address looked still unread watched = record {
      peers = λ p. let its = peers_counted p k.stream (ap (λ (s : StreamValue). s.peer) looked) in let zero : count_by p (peers_of []) ≡ 0 = refl in omega (arith, its, zero);
      shares = λ p.
          let its = shares_counted p k.stream (ap (λ (s : StreamValue). s.peer) looked) (ap (λ (s : StreamValue). s.before) looked) in
          let zero : count_shares p [] ≡ 0 = refl in
          omega (arith, its, zero);
      stay = All-cons (IsKept manner) k [] (kept_is k turns keeps whole address looked still unread watched) (All-nil (IsKept manner));
      are_left = All-nil (IsLeft manner);
    }

  -- it had none
  no_parts : x.stream ≡ None → Parts manner x o [] []
  no_parts none = record {
    peers = λ p.
        let zero : count_by p (peers_of (option_to_list x.stream)) ≡ 0 = ap (λ (s : Option StreamValue). count_by p (peers_of (option_to_list s))) none in
        let left : count_by p (peers_of []) ≡ 0 = refl in
        let kept : peers_in p [] ≡ 0 = refl in
        omega (arith, zero, left, kept);
    shares = λ p.
        let under : count_under_way p (Some x) ≡ 0 = ap (λ (s : Option StreamValue). count_shares p (option_to_list s)) none in
        let own : count_own p (ended_value x o) ≡ 0 = ap (λ (k : Option StreamValue). option_map_or (λ (s : StreamValue). count_by (p s.peer) (share_of (ended_value x o))) k 0) none in
        let left : count_shares p [] ≡ 0 = refl in
        let kept : count_shares p (kept_streams []) ≡ 0 = refl in
        omega (arith, under, own, left, kept);
    stay = All-nil (IsKept manner);
    are_left = All-nil (IsLeft manner);
  }

abbrev pub shown_streams : Option BackendValue → List StreamValue
shown_streams s = map (λ (b : BackendValue). b.stream) (option_to_list s)

-- what came of keeping it, if it may be kept
pub record Parted (manner : Manner) (x : AskingValue) (o : Option Outcome) (gone : List StreamValue) (kept kept' : List KeptValue) : Type 0 where
  pub stays : List KeptValue
  pub kept_are : kept' ≡ kept ++ stays
  pub parts : Parts manner x o stays gone

module _ (manner : Manner) (x : AskingValue) (o : Option Outcome) (begun : BeginsRequest manner x) (kept kept' : List KeptValue) where
  parted : (gone : List StreamValue) → kept' ≡ kept → Parts manner x o [] gone → Parted manner x o gone kept kept'
  parted gone same parts = record { stays = []; kept_are = same ∙ sym (append-nil kept); parts = parts }

  one_is : (u v : StreamValue) → u ∷ [] ≡ v ∷ [] → u ≡ v
  one_is u v e = cc

  cons_nil : (u : StreamValue) → u ∷ [] ≡ [] → ⊥
  cons_nil u e = cc

  nil_cons : (u : StreamValue) → [] ≡ u ∷ [] → ⊥
  nil_cons u e = cc

  back_is : (v : StreamValue) (back : Option BackendValue) (c : BackendValue) → back ≡ Some c → c.stream ≡ v → shown_streams back ≡ v ∷ []
  back_is v back c is its = ap shown_streams is ∙ ap (λ (s : StreamValue). s ∷ []) its

  module _ (t : StreamValue) (is : x.stream ≡ Some t) where
    kept_or : (s : BackendValue) (back : Option BackendValue) → s.stream ≡ as_left manner x o begun t → manner.keeps ≡ true → All (IsWhole manner) (share_of (ended_value x o))
        → Keeps x.job.address s.stream back kept kept' → Parted manner x o (shown_streams back) kept kept'
    kept_or s None own keeps whole h = record {
      stays = h.kept ∷ [];
      kept_are = h.after_are;
      parts = kept_parts manner x o begun t is h.kept h.turns keeps
          (All-head (IsWhole manner) (share manner x o begun t) [] (subst (λ (l : List ShareValue). All (IsWhole manner) l) (shares_are manner x o begun t is) whole))
          h.address_is (h.stream_is ∙ ap (λ (v : StreamValue). with_turns h.turns v) own) h.still h.unread h.watched;
    }
    kept_or s (Some b) own keeps whole h =
        let looked = h.1 in
        parted (b.stream ∷ []) h.0
        (left_parts manner x o begun t is b.stream looked.0 (looked.1 ∙ ap (λ (v : StreamValue). with_turns looked.0 v) own) looked.2 (λ off. true_false (sym keeps ∙ off)))

    as_it_is : (s : BackendValue) (back : Option BackendValue) → s.stream ≡ as_left manner x o begun t → kept' ≡ kept → (c : BackendValue) → back ≡ Some c → c.stream ≡ s.stream
        → Parted manner x o (shown_streams back) kept kept'
    as_it_is s back own same c is_back its =
        parted (shown_streams back) same
        (subst (λ (l : List StreamValue). Parts manner x o [] l) (sym (back_is (as_left manner x o begun t) back c is_back (its ∙ own)))
        (left_parts manner x o begun t is (as_left manner x o begun t) [] refl refl (λ off. refl)))

  -- by whether there is one, and whether it may be kept
  pub parts_of : (may : Bool) (stream back : Option BackendValue) → shown_streams stream ≡ left_by x o → (may ≡ true → manner.keeps ≡ true) → (may ≡ true → All (IsWhole manner) (share_of (ended_value x o)))
      → KeepsIf may x.job.address stream back kept kept' → Parted manner x o (shown_streams back) kept kept'
  parts_of may stream back own keeps whole h = by_stream x.stream refl stream own h
    where
      left_so : (t : Option StreamValue) → x.stream ≡ t → left_by x o ≡ option_map_or (λ (s : StreamValue). stream_value s.peer (s.before ++ share_of (ended_value x o)) [] ∷ []) t []
      left_so t is = ap (λ (k : Option StreamValue). option_map_or (λ (s : StreamValue). stream_value s.peer (s.before ++ share_of (ended_value x o)) [] ∷ []) k []) is

      left_one : (t : StreamValue) → x.stream ≡ Some t → left_by x o ≡ as_left manner x o begun t ∷ []
      left_one t is = left_so (Some t) is ∙ ap (λ (l : List ShareValue). stream_value t.peer (t.before ++ l) [] ∷ []) (shares_are manner x o begun t is)

      by_stream : (t : Option StreamValue) → x.stream ≡ t → (s : Option BackendValue) → shown_streams s ≡ left_by x o → KeepsIf may x.job.address s back kept kept'
          → Parted manner x o (shown_streams back) kept kept'
      by_stream None is None own h =
          subst (λ (b : Option BackendValue). Parted manner x o (shown_streams b) kept kept') (sym h.0) (parted [] h.1 (no_parts manner x o begun is))
      by_stream None is (Some s) own h = absurd (cons_nil s.stream (own ∙ left_so None is))
      by_stream (Some t) is None own h = absurd (nil_cons (as_left manner x o begun t) (own ∙ left_one t is))
      by_stream (Some t) is (Some s) own h = by_may may refl h
        where
          by_may : (b : Bool) → may ≡ b → KeepsIf b x.job.address (Some s) back kept kept' → Parted manner x o (shown_streams back) kept kept'
          by_may false off k = as_it_is t is s back (one_is s.stream _ (own ∙ left_one t is)) k.0 k.1.0 k.1.1 k.1.2
          by_may true on k = kept_or t is s back (one_is s.stream _ (own ∙ left_one t is)) (keeps on) (whole on) k

-- .. as it ended fairly, by how it was asked
pub record_parts : (manner m : Manner) (y : AskingValue) (o : Option Outcome) → m ≡ manner → IsFair m (ended_value y o) → (kept kept' : List KeptValue) (may is_whole : Bool) (stream back : Option BackendValue)
    (address : List ℕ) → shown_streams stream ≡ left_by y o → address ≡ y.job.address → (may ≡ true → (manner.keeps ≡ true) × (is_whole ≡ true))
    → (is_whole ≡ true → All (IsWhole m) (share_of (ended_value y o))) → KeepsIf may address stream back kept kept' → Parted manner y o (shown_streams back) kept kept'
record_parts manner m y o same fair kept kept' may is_whole stream back address own its allows whole h =
    parts_of manner y o (subst (λ (n : Manner). BeginsRequest n y) same fair.begun) kept kept' may stream back own (λ yes. (allows yes).0)
    (λ yes. subst (λ (n : Manner). All (IsWhole n) (share_of (ended_value y o))) same (whole (allows yes).1))
    (subst (λ (a : List ℕ). KeepsIf may a stream back kept kept') its h)

-- ---- streams that are kept no more

-- as many streams and shares as there were are kept, or gone
pub record Moves (manner : Manner) (kept kept' : List KeptValue) (gone : List StreamValue) : Type 0 where
  pub peers : (p : SocketAddr → Bool) → peers_in p kept' + count_by p (peers_of gone) ≡ peers_in p kept
  pub shares : (p : SocketAddr → ShareValue → Bool) → count_shares p (kept_streams kept') + count_shares p gone ≡ count_shares p (kept_streams kept)
  pub stay : All (IsKept manner) kept → All (IsKept manner) kept'
  pub are_left : All (IsKept manner) kept → All (IsLeft manner) gone

pub none_moves : (manner : Manner) (kept kept' : List KeptValue) → kept' ≡ kept → Moves manner kept kept' []
none_moves manner kept kept' same = record {
  peers = λ p. let is = ap (peers_in p) same in let zero : count_by p (peers_of []) ≡ 0 = refl in omega (arith, is, zero);
  shares = λ p. let is = ap (λ (k : List KeptValue). count_shares p (kept_streams k)) same in let zero : count_shares p [] ≡ 0 = refl in omega (arith, is, zero);
  stay = subst (λ (k : List KeptValue). All (IsKept manner) k) (sym same);
  are_left = λ all. All-nil (IsLeft manner);
}

-- the one that was, among others
each_of : (manner : Manner) (front back : List KeptValue) (x : KeptValue) → All (IsKept manner) (front ++ x ∷ back) → All (IsKept manner) front × IsKept manner x × All (IsKept manner) back
each_of manner [] back x all = (All-nil (IsKept manner), All-head (IsKept manner) x back all, All-tail (IsKept manner) x back all)
each_of manner (y ∷ front) back x all =
    let rest = each_of manner front back x (All-tail (IsKept manner) y (front ++ x ∷ back) all) in
    (All-cons (IsKept manner) y front (All-head (IsKept manner) y (front ++ x ∷ back) all) rest.0, rest.1, rest.2)

-- one that was kept is left
pub kept_left : (manner : Manner) (x : KeptValue) (v : StreamValue) → HasLookedAt x.stream v → IsKept manner x → IsLeft manner v
kept_left manner x v looked k =
    let e = some_end x.stream.before k.used in
    let all = subst (AreShares manner) e.are k.shares in
    let quiet = quiet_pop e.others e.last all.quiet in record {
      others = e.others;
      last = e.last;
      before_are = ap (λ (s : StreamValue). s.before) looked.1 ∙ e.are;
      shares = record { whole = (All-pop (IsWhole manner) (e.others ++ e.last ∷ []) e.others (Some e.last) refl all.whole).0; quiet = quiet.0 };
      quiet = quiet.1;
      unwritten = ap (λ (s : StreamValue). got_of s.turns) looked.1 ∙ got-append x.stream.turns looked.0 ∙ ap (λ (l : List ℕ). l ++ got_of looked.0) (still_got x.stream.turns k.still) ∙ looked.2;
      once = λ off. true_false (sym k.keeps ∙ off);
    }

-- nothing was done at it
pub looked_same : (s t : StreamValue) → t ≡ s → HasLookedAt s t
looked_same s t is = ([], is ∙ ap (λ (l : List Turn). stream_value s.peer s.before l) (sym (append-nil s.turns)), refl)

-- there is one less
pub one_fewer : (before after : List KeptValue) (x : KeptValue) → TakesOut x before after → length after ≡ length before - 1
one_fewer before after x out =
    let was = ap (λ (l : List KeptValue). length l) out.before_are ∙ length-append out.front (x ∷ out.back) in
    let now = ap (λ (l : List KeptValue). length l) out.after_are ∙ length-append out.front out.back in
    omega (arith, was, now)

pub none_fewer : (before after : List KeptValue) → before ≡ [] → after ≡ before → length after ≡ length before - 1
none_fewer before after none same =
    let was : length before ≡ 0 = ap (λ (l : List KeptValue). length l) none in
    let now = ap (λ (l : List KeptValue). length l) same in
    omega (arith, was, now)

module _ (manner : Manner) (before after : List KeptValue) (x : KeptValue) (out : TakesOut x before after) where
  peers_split : (p : SocketAddr → Bool) → peers_in p after + count_by p (x.stream.peer ∷ []) ≡ peers_in p before
  peers_split p =
      let was = ap (peers_in p) out.before_are ∙ peers_append p out.front (x ∷ out.back) in
      let its = peers_append p (x ∷ []) out.back in
      let now = ap (peers_in p) out.after_are ∙ peers_append p out.front out.back in
      omega (arith, was, its, now)

  shares_split : (p : SocketAddr → ShareValue → Bool) → count_shares p (kept_streams after) + count_shares p (x.stream ∷ []) ≡ count_shares p (kept_streams before)
  shares_split p =
      let was = ap (λ (k : List KeptValue). count_shares p (kept_streams k)) out.before_are ∙ shares_in_append p out.front (x ∷ out.back) in
      let its = shares_in_append p (x ∷ []) out.back in
      let now = ap (λ (k : List KeptValue). count_shares p (kept_streams k)) out.after_are ∙ shares_in_append p out.front out.back in
      omega (arith, was, its, now)

  pub out_each : All (IsKept manner) before → All (IsKept manner) after × IsKept manner x
  out_each all =
      let each = each_of manner out.front out.back x (subst (λ (k : List KeptValue). All (IsKept manner) k) out.before_are all) in
      (subst (λ (k : List KeptValue). All (IsKept manner) k) (sym out.after_are) (All-append (IsKept manner) out.front out.back each.0 each.2), each.1)

  pub out_moves : (v : StreamValue) → HasLookedAt x.stream v → Moves manner before after (v ∷ [])
  out_moves v looked = record {
    peers = λ p. let its = peers_split p in let same = ap (λ (s : StreamValue). count_by p (s.peer ∷ [])) looked.1 in omega (arith, its, same);
    shares = λ p.
        let its = shares_split p in
        let one = shares_one p v in
        let other = shares_one p x.stream in
        let same = ap (λ (s : StreamValue). count_by (p s.peer) s.before) looked.1 in
        omega (arith, its, one, other, same);
    stay = λ all. (out_each all).0;
    are_left = λ all. All-cons (IsLeft manner) v [] (kept_left manner x v looked (out_each all).1) (All-nil (IsLeft manner));
  }

  -- a job of its address may go over it
  pub ready : (address : List ℕ) (s : StreamValue) → x.address ≡ address → s ≡ x.stream → All (IsKept manner) before → IsReadyFor manner address s
  ready address s its is all =
      let k = (out_each all).1 in record {
        keeps = k.keeps;
        used = subst (λ (t : StreamValue). t.before ≡ [] → ⊥) (sym is) k.used;
        shares = subst (λ (t : StreamValue). AreShares manner t.before) (sym is) k.shares;
        same = subst (λ (t : StreamValue). AreAt address t.before) (sym is) (subst (λ (a : List ℕ). AreAt a x.stream.before) its k.same);
        still = subst (λ (t : StreamValue). All IsQuiet t.turns) (sym is) k.still;
      }

-- one of them was read, and nothing was there
quiet_kept : (manner : Manner) (x y : KeptValue) → IsQuietStill x y → IsKept manner x → IsKept manner y
quiet_kept manner x y q k =
    let before = ap (λ (s : StreamValue). s.before) q.stream_is in record {
      keeps = k.keeps;
      used = λ none. k.used (sym before ∙ none);
      shares = subst (AreShares manner) (sym before) k.shares;
      same = subst (λ (a : List ℕ). AreAt a y.stream.before) (sym q.address) (subst (AreAt x.address) (sym before) k.same);
      still = subst (λ (s : StreamValue). All IsQuiet s.turns) (sym q.stream_is) (All-push IsQuiet x.stream.turns Quiet k.still refl);
      watched = ap (λ (w : Option (ℕ × Bool)). is_some w) q.watched ∙ k.watched;
      unread = q.unread;
    }

pub quiet_moves : (manner : Manner) (before after : List KeptValue) → OneIsQuiet before after → Moves manner before after []
quiet_moves manner before after one = record {
  peers = λ p.
      let was = ap (peers_in p) one.before_are ∙ peers_append p one.front (one.x ∷ one.back) in
      let now = ap (peers_in p) one.after_are ∙ peers_append p one.front (one.y ∷ one.back) in
      let its = peers_append p (one.x ∷ []) one.back in
      let new = peers_append p (one.y ∷ []) one.back in
      let same = ap (λ (s : StreamValue). count_by p (s.peer ∷ [])) one.quiet.stream_is in
      let zero : count_by p (peers_of []) ≡ 0 = refl in
      omega (arith, was, now, its, new, same, zero);
  shares = λ p.
      let was = ap (λ (k : List KeptValue). count_shares p (kept_streams k)) one.before_are ∙ shares_in_append p one.front (one.x ∷ one.back) in
      let now = ap (λ (k : List KeptValue). count_shares p (kept_streams k)) one.after_are ∙ shares_in_append p one.front (one.y ∷ one.back) in
      let its = shares_in_append p (one.x ∷ []) one.back in
      let new = shares_in_append p (one.y ∷ []) one.back in
      let first = shares_one p one.x.stream in
      let second = shares_one p one.y.stream in
      let same = ap (λ (s : StreamValue). count_by (p s.peer) s.before) one.quiet.stream_is in
      let zero : count_shares p [] ≡ 0 = refl in
      omega (arith, was, now, its, new, first, second, same, zero);
  stay = λ all.
      let each = each_of manner one.front one.back one.x (subst (λ (k : List KeptValue). All (IsKept manner) k) one.before_are all) in
      subst (λ (k : List KeptValue). All (IsKept manner) k) (sym one.after_are)
      (All-append (IsKept manner) one.front (one.y ∷ one.back) each.0 (All-cons (IsKept manner) one.y one.back (quiet_kept manner one.x one.y one.quiet each.1) each.2));
  are_left = λ all. All-nil (IsLeft manner);
}

-- ---- places in the order

pub record Split (before : List KeptValue) (index : ℕ) (x : KeptValue) : Type 0 where
  pub front : List KeptValue
  pub back : List KeptValue
  pub are : before ≡ front ++ x ∷ back
  pub without : remove before index ≡ front ++ back
  pub with_other : (y : KeptValue) → slice_set before index y ≡ front ++ y ∷ back
  pub there : (y z : KeptValue) → slice_index_or (slice_set before index y) index z ≡ y
  pub still : (y : KeptValue) → remove (slice_set before index y) index ≡ front ++ back

pub split_at : (before : List KeptValue) (index : ℕ) (x : KeptValue) → index < length before → x ≡ slice_index_or before index x → Split before index x
split_at [] index x lt its = absurd (omega (arith, lt))
split_at (k ∷ rest) zero x lt its =
    record { front = []; back = rest; are = ap (λ (z : KeptValue). z ∷ rest) (sym its); without = refl; with_other = λ y. refl; there = λ y z. refl; still = λ y. refl }
split_at (k ∷ rest) (suc index) x lt its =
    let s = split_at rest index x (omega (arith, lt)) its in record {
      front = k ∷ s.front;
      back = s.back;
      are = ap (λ (l : List KeptValue). k ∷ l) s.are;
      without = ap (λ (l : List KeptValue). k ∷ l) s.without;
      with_other = λ y. ap (λ (l : List KeptValue). k ∷ l) (s.with_other y);
      there = λ y z. s.there y z;
      still = λ y. ap (λ (l : List KeptValue). k ∷ l) (s.still y);
    }

pub index_same : (xs : List KeptValue) (i : ℕ) (d e : KeptValue) → i < length xs → slice_index_or xs i d ≡ slice_index_or xs i e
index_same [] i d e lt = absurd (omega (arith, lt))
index_same (x ∷ xs) zero d e lt = refl
index_same (x ∷ xs) (suc i) d e lt = index_same xs i d e (omega (arith, lt))

-- the one at that place is one of this address
pub takes_of : (address : List ℕ) (before after : List KeptValue) (index : ℕ) (kept : KeptValue) (result : Option BackendValue) → kept ≡ slice_index_or before index kept → kept.address ≡ address
    → TakesAt index result before after → Takes address result before after
takes_of address before after index kept None its is t = t.0
takes_of address before after index kept (Some b) its is (x, there, lt, without, stream) =
    let s = split_at before index x lt there in (
      x,
      record { front = s.front; back = s.back; before_are = s.are; after_are = without ∙ s.without },
      ap (λ (k : KeptValue). k.address) (there ∙ index_same before index x kept lt ∙ sym its) ∙ is,
      stream,
    )

length_set : (xs : List KeptValue) (i : ℕ) (y : KeptValue) → length (slice_set xs i y) ≡ length xs
length_set [] i y = refl
length_set (x ∷ xs) zero y = refl
length_set (x ∷ xs) (suc i) y = ap suc (length_set xs i y)

-- nothing was there, or something was, at the one at that place
module _ (before : List KeptValue) (index : ℕ) (x y : KeptValue) (lt : index < length before) (its : x ≡ slice_index_or before index x) where
  pub set_same : slice_set before index x ≡ before
  set_same = let s = split_at before index x lt its in s.with_other x ∙ sym s.are

  pub one_is_quiet : IsQuietStill x y → OneIsQuiet before (slice_set before index y)
  one_is_quiet quiet = let s = split_at before index x lt its in record { x = x; y = y; front = s.front; back = s.back; before_are = s.are; after_are = s.with_other y; quiet = quiet }

  pub looks_out : (result : Option BackendValue) (after : List KeptValue) → HasLookedAt x.stream y.stream → TakesAt index result (slice_set before index y) after → LooksAt result before after
  looks_out None after looked t = absurd (let same = length_set before index y in let most = t.1 in omega (arith, lt, same, most))
  looks_out (Some b) after looked (z, there, lt', without, stream) =
      let s = split_at before index x lt its in
      let is : b.stream ≡ y.stream = stream ∙ ap (λ (k : KeptValue). k.stream) (there ∙ s.there y z) in (
        x,
        record { front = s.front; back = s.back; before_are = s.are; after_are = without ∙ s.still y },
        (looked.0, is ∙ looked.1, looked.2),
      )
