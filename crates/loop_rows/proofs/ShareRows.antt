-- What shares streams have that jobs left, and those that are kept.
use Rattle.std.proofs.Common.{◌≡◌, List, [], ◌∷◌, ◌++◌, All, Option, Some, None, Bool, ap, arith, refl, subst, sym, ◌∙◌}
use Rattle.std.proofs.lemmas.List.Elements.{All-cons, All-nil}
use Rattle.std.proofs.lemmas.List.Sums.{sum_by-cons}
use Rattle.std.specs.Option.{option_map_or}
use Rattle.std.specs.Prelude.{count_by, option_to_list, sum_by}
use Rattle.std.specs.declared.net.socket_addr.SocketAddr.{SocketAddr}
use Rattle.loop_model.specs.Asking.{AskingValue, EndedValue}
use Rattle.loop_model.specs.Shares.{AreShares, IsKept, IsLeft, IsWhole}
use Rattle.loop_model.specs.Streams.{IsNew, ShareValue, StreamValue, share_value, stream_value}
use Rattle.loop_model.specs.Whole.{AreShared, count_own, count_under_way, share_of}
use Rattle.loop_model.specs.declared.manner.Manner.{Manner}
use Rattle.wires.specs.Turns.{BeginsQuietly}
use Rattle.loop_rows.specs.LoopRows.{left_of}
use Rattle.loop_rows.proofs.ExchangeLemmas.{all_one, first_of_all, no_shares}

pub some_share : (x : ShareValue) (xs : List ShareValue) → x ∷ xs ≡ [] → ⊥
some_share x xs e = cc

-- no stream over which a job goes has a share
abbrev pub NoneUnderWay : List (Option AskingValue) → Type 0
NoneUnderWay asking = (p : SocketAddr → ShareValue → Bool) → sum_by (count_under_way p) asking ≡ 0

pub none_at_all : (m : Manner) (asking : List (Option AskingValue)) → NoneUnderWay asking → AreShared m asking [] [] []
none_at_all m asking none = record { shares = λ p. omega (arith, none p); kept_are = All-nil (IsKept m); left_are = All-nil (IsLeft m) }

-- a job that went over no stream left none
by_none : (m : Manner) (asking : List (Option AskingValue)) → NoneUnderWay asking → (e : EndedValue) → e.asking.stream ≡ None → AreShared m asking (e ∷ []) [] (left_of e ++ [])
by_none m asking none_goes e is = rw is record {
  shares = λ p.
      let one = sum_by-cons (count_own p) e [] in
      let none = ap (λ (o : Option StreamValue). option_map_or (λ (s : StreamValue). count_by (p s.peer) (share_of e)) o 0) is in
      omega (arith, none_goes p, one, none);
  kept_are = All-nil (IsKept m);
  left_are = All-nil (IsLeft m);
}

-- a new one is left with a share
left_with : (m : Manner) (a : SocketAddr) (x : ShareValue) → IsLeft m (stream_value a (x ∷ []) [])
left_with m a x =
    record { others = []; last = x; before_are = refl; shares = no_shares m; quiet = λ used. absurd (used refl); unwritten = refl; once = λ off. (refl, refl) }

-- one that went over a new one left it with its share
by_one : (m : Manner) (asking : List (Option AskingValue)) → NoneUnderWay asking → (e : EndedValue) (s : StreamValue) → e.asking.stream ≡ Some s → s.before ≡ []
    → AreShared m asking (e ∷ []) [] (left_of e ++ [])
by_one m asking none_goes e s is new =
    let x = share_value e.asking.job s.turns e.outcome in
    let own : share_of e ≡ x ∷ [] = ap (λ (o : Option StreamValue). option_map_or (λ (t : StreamValue). share_value e.asking.job t.turns e.outcome ∷ []) o []) is in
    let left = stream_value s.peer (x ∷ []) [] in
    let its : stream_value s.peer (s.before ++ share_of e) [] ≡ left =
    ap (λ (l : List ShareValue). stream_value s.peer (l ++ share_of e) []) new ∙ ap (λ (l : List ShareValue). stream_value s.peer l []) own in
    let none : left_of e ++ [] ≡ left ∷ [] =
    ap (λ (o : Option StreamValue). option_map_or (λ (t : StreamValue). stream_value t.peer (t.before ++ share_of e) [] ∷ []) o [] ++ []) is ∙ ap (λ (t : StreamValue). t ∷ []) its in
    subst (λ (l : List StreamValue). AreShared m asking (e ∷ []) [] l) (sym none) record {
      shares = λ p.
          let one = sum_by-cons (count_own p) e [] in
          let lefts = sum_by-cons (λ (t : StreamValue). count_by (p t.peer) t.before) left [] in
          let counted = ap (λ (o : Option StreamValue). option_map_or (λ (t : StreamValue). count_by (p t.peer) (share_of e)) o 0) is in
          let same = ap (λ (l : List ShareValue). count_by (p s.peer) l) own in
          omega (arith, none_goes p, one, lefts, counted, same);
      kept_are = All-nil (IsKept m);
      left_are = all_one (IsLeft m) left (left_with m s.peer x);
    }

pub one_shared : (m : Manner) (asking : List (Option AskingValue)) → NoneUnderWay asking → (e : EndedValue) → All IsNew (option_to_list e.asking.stream)
    → AreShared m asking (e ∷ []) [] (left_of e ++ [])
one_shared m asking none_goes e new = by_stream e.asking.stream refl new
  where
    by_stream : (o : Option StreamValue) → e.asking.stream ≡ o → All IsNew (option_to_list o) → AreShared m asking (e ∷ []) [] (left_of e ++ [])
    by_stream None is h = by_none m asking none_goes e is
    by_stream (Some s) is h = by_one m asking none_goes e s is (first_of_all IsNew s h)

-- ---- streams that are kept

abbrev pub BeginsSo : ShareValue → Type 0
BeginsSo x = BeginsQuietly x.turns

-- one share is whole
pub one_whole : (m : Manner) (x : ShareValue) → IsWhole m x → AreShares m (x ∷ [])
one_whole m x whole = record { whole = all_one (IsWhole m) x whole; quiet = All-nil BeginsSo }

-- .. or two
pub two_whole : (m : Manner) (x y : ShareValue) → IsWhole m x → IsWhole m y → BeginsQuietly y.turns → AreShares m (x ∷ y ∷ [])
two_whole m x y one two quiet = record { whole = All-cons (IsWhole m) x (y ∷ []) one (all_one (IsWhole m) y two); quiet = all_one BeginsSo y quiet }
