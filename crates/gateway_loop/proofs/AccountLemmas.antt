-- How each step changes what a loop's lists say of its streams.
use Rattle.gateway_loop.proofs.Words.{◌≡◌, ℕ, ◌+◌, Bool, cond, List, [], ◌∷◌, ◌++◌, length, map, Option, None, Some, refl, sym, ap, ◌∙◌, subst, arith, append_assoc, append-nil, ⊎_elim, count_by, sum_by, option_map, slice_index_or, option_map_or, map-append, sum_by-append, sum_by-cons, Outcome, SocketAddr, AskingState, AskingValue, ClientValue, EndedValue, LoopValue, StreamValue, asked_for, ended_value, whole_loop, Beside, FoundValue, beside, WholeLoop, Manner, KeptValue, kept_streams, Contains, option_to_list}
use Rattle.gateway_loop.specs.Loop.{StartsLoop}
use Rattle.std.proofs.lemmas.List.{length-append}
use Rattle.loop_model.specs.Accounts.{Account, AccountsFor, AccountsOn, NetworkValue, closed_client, count_dealt, count_left, count_made, first_account, streams_before, with_more}
use Rattle.loop_model.specs.Asking.{peers_of, streams_for}
use Rattle.loop_model.specs.Found.{Asked, Found, IsAwaited, LookUp, asked_in, found_in}
use Rattle.loop_model.specs.Standing.{count_clients}
use Rattle.loop_model.specs.Streams.{ClosedValue, StreamValue, closed_stream, stream_value}
use Rattle.branch_asking.specs.Streams.{Connects, GoesOver, GoesOverAgain, HasStreamsOf, stream_now, without_turns}
use Rattle.gateway_loop.specs.Clients.{HasCome, HasGone, IsStill, IsTold, IsTurnedAway, LetsGo, TakesIn}
use Rattle.gateway_loop.specs.Closing.{ClosesFrom}
use Rattle.gateway_loop.specs.Names.{AreSame, AsksFor, IsAskedFor, Leaves}
use Rattle.gateway_loop.proofs.NameLemmas.{asked_append, awaited_beside, awaited_now, awaited_still, found_append, none_there}
use Rattle.gateway_loop.proofs.Places.{Put}
use Rattle.gateway_loop.proofs.SumLemmas.{sum_map, sum_put}

pub count_append : {A : Type 0} (p : A → Bool) (xs ys : List A) → count_by p (xs ++ ys) ≡ count_by p xs + count_by p ys
count_append {A} p xs ys = sum_by-append (λ (x : A). cond (p x) 1 0) xs ys

-- ---- names

-- so many streams were dealt
abbrev with_dealt : ℕ → Account → Account
with_dealt dealt u = record u { dealt = u.dealt + dealt }

-- nothing was done with names
none_done : (dealt : ℕ) (u : Account) (b : NetworkValue) (w : WholeLoop) → AccountsFor (with_dealt dealt u) b w → (more : List LookUp) × (found_in more ≡ []) × AccountsFor (with_more dealt more u) b w
none_done dealt u b w f =
    ([], refl, subst (λ (l : List LookUp). AccountsFor (record { before = u.before; dealt = u.dealt + dealt; lookups = l }) b w) (sym (append-nil u.lookups)) f)

-- .. and no stream was dealt
pub done_alone : {a b : NetworkValue} (v w : WholeLoop) → ((u : Account) → AccountsFor u a v → AccountsFor u b w) → AccountsOn 0 [] a b v w
done_alone {a} {b} v w step u f =
    let none : u.dealt ≡ u.dealt + 0 = omega arith in
    none_done 0 u b w (subst (λ (d : ℕ). AccountsFor (record { before = u.before; dealt = d; lookups = u.lookups }) b w) none (step u f))

-- one after the other
pub done_then : {a b c : NetworkValue} (n m : ℕ) (first last : List FoundValue) (u v w : WholeLoop) → AccountsOn n first a b u v → AccountsOn m last b c v w → AccountsOn (n + m) (first ++ last) a c u w
done_then {a} {b} {c} n m first last u v w p q x f =
    let s = p x f in
    let t = q (with_more n s.0 x) s.2 in
    let dealt : (x.dealt + n) + m ≡ x.dealt + (n + m) = omega arith in (
      s.0 ++ t.0,
      found_append s.0 t.0 ∙ ap (λ (l : List FoundValue). l ++ found_in t.0) s.1 ∙ ap (λ (l : List FoundValue). first ++ l) t.1,
      subst (λ (l : List LookUp). AccountsFor (record { before = x.before; dealt = x.dealt + (n + m); lookups = l }) c w) (append_assoc x.lookups s.0 t.0)
          (subst (λ (d : ℕ). AccountsFor (record { before = x.before; dealt = d; lookups = (x.lookups ++ s.0) ++ t.0 }) c w) dealt t.2),
    )

-- ---- clients

count_mapped : (p : ClosedValue → Bool) (gone : List ClientValue) (x : ClientValue)
    → count_by (λ (c : ClientValue). p (closed_client c)) (gone ++ x ∷ []) ≡ count_by (λ (c : ClientValue). p (closed_client c)) gone + count_by p (closed_client x ∷ [])
count_mapped p gone x =
    let more = count_append (λ (c : ClientValue). p (closed_client c)) gone (x ∷ []) in
    let one : count_by (λ (c : ClientValue). p (closed_client c)) (x ∷ []) ≡ cond (p (closed_client x)) 1 0 + 0 = sum_by-cons (λ (c : ClientValue). cond (p (closed_client c)) 1 0) x [] in
    let same : count_by p (closed_client x ∷ []) ≡ cond (p (closed_client x)) 1 0 + 0 = sum_by-cons (λ (c : ClosedValue). cond (p c) 1 0) (closed_client x) [] in
    omega (arith, more, one, same)

module _ (manner : Manner) (asking : List (Option AskingState)) (ended : List (AskingState × Option Outcome)) (rest : Beside) (l m : LoopValue) where
  -- nobody came or went
  pub still_accounts : (a : NetworkValue) → IsStill l m → (u : Account) → AccountsFor u a (whole_loop manner l asking ended rest) → AccountsFor u a (whole_loop manner m asking ended rest)
  still_accounts a s u f = record {
    told = f.told ∙ ap (λ (t : List ℕ). u.before.told ++ t) (sym s.told);
    made = f.made;
    closed = λ p.
        let before = f.closed p in
        let gone = ap (count_by (λ (c : ClientValue). p (closed_client c))) s.gone in
        let away = ap (count_by p) s.unserved in
        omega (arith, before, gone, away);
    dealt =
        let before = f.dealt in
        let there = s.there in
        let gone = ap (λ (g : List ClientValue). length g) s.gone in
        let away = ap (λ (g : List ClosedValue). length g) s.unserved in
        omega (arith, before, there, gone, away);
    asked = f.asked;
    found = f.found;
    awaited = f.awaited;
  }

  -- a moment was told
  pub told_accounts : (a b : NetworkValue) → IsTold a b l m → (u : Account) → AccountsFor u a (whole_loop manner l asking ended rest) → AccountsFor u b (whole_loop manner m asking ended rest)
  told_accounts a b s u f = record {
    told = ap (λ (v : NetworkValue). v.told) s.net ∙ ap (λ (t : List ℕ). t ++ s.moment ∷ []) f.told ∙ append_assoc u.before.told l.told (s.moment ∷ []) ∙ ap (λ (t : List ℕ). u.before.told ++ t) (sym s.told);
    made = λ p. ap (λ (v : NetworkValue). count_by p v.made) s.net ∙ f.made p;
    closed = λ p.
        let before = f.closed p in
        let same = ap (λ (v : NetworkValue). count_by p v.closed) s.net in
        let gone = ap (count_by (λ (c : ClientValue). p (closed_client c))) s.gone in
        let away = ap (count_by p) s.unserved in
        omega (arith, before, same, gone, away);
    dealt =
        let before = f.dealt in
        let there = ap count_clients s.there in
        let gone = ap (λ (g : List ClientValue). length g) s.gone in
        let away = ap (λ (g : List ClosedValue). length g) s.unserved in
        omega (arith, before, there, gone, away);
    asked = ap (λ (v : NetworkValue). v.asked) s.net ∙ f.asked;
    found = f.found;
    awaited = f.awaited;
  }

  -- nobody was there to go
  none_goes : (a b : NetworkValue) → m.told ≡ l.told → m.unserved ≡ l.unserved → (b ≡ a) × (m.gone ≡ l.gone) × (count_clients m.clients ≡ count_clients l.clients)
      → (u : Account) → AccountsFor u a (whole_loop manner l asking ended rest) → AccountsFor u b (whole_loop manner m asking ended rest)
  none_goes a b told unserved (net, gone, there) u f =
      subst (λ (v : NetworkValue). AccountsFor u v (whole_loop manner m asking ended rest)) (sym net)
      (still_accounts a record { told = told; gone = gone; unserved = unserved; there = there } u f)

  one_goes : (a b : NetworkValue) → m.told ≡ l.told → m.unserved ≡ l.unserved → HasGone a b l m
      → (u : Account) → AccountsFor u a (whole_loop manner l asking ended rest) → AccountsFor u b (whole_loop manner m asking ended rest)
  one_goes a b told unserved (x, net, gone, there) u f = record {
    told = ap (λ (v : NetworkValue). v.told) net ∙ f.told ∙ ap (λ (t : List ℕ). u.before.told ++ t) (sym told);
    made = λ p. ap (λ (v : NetworkValue). count_by p v.made) net ∙ f.made p;
    closed = λ p.
        let before = f.closed p in
        let now = ap (λ (v : NetworkValue). count_by p v.closed) net ∙ count_append p a.closed (closed_client x ∷ []) in
        let left = ap (count_by (λ (c : ClientValue). p (closed_client c))) gone ∙ count_mapped p l.gone x in
        let away = ap (count_by p) unserved in
        omega (arith, before, now, left, away);
    dealt =
        let before = f.dealt in
        let more = ap (λ (g : List ClientValue). length g) gone ∙ length-append l.gone (x ∷ []) in
        let away = ap (λ (g : List ClosedValue). length g) unserved in
        omega (arith, before, there, more, away);
    asked = ap (λ (v : NetworkValue). v.asked) net ∙ f.asked;
    found = f.found;
    awaited = f.awaited;
  }

  -- a client has gone
  pub goes_accounts : (a b : NetworkValue) → LetsGo a b l m → (u : Account) → AccountsFor u a (whole_loop manner l asking ended rest) → AccountsFor u b (whole_loop manner m asking ended rest)
  goes_accounts a b s u f =
      ⊎_elim (λ (none : (b ≡ a) × (m.gone ≡ l.gone) × (count_clients m.clients ≡ count_clients l.clients)). none_goes a b s.told s.unserved none u f)
      (λ (gone : HasGone a b l m). one_goes a b s.told s.unserved gone u f) s.one

  one_comes : (a b : NetworkValue) → m.told ≡ l.told → m.gone ≡ l.gone → HasCome a b l m
      → (u : Account) → AccountsFor u a (whole_loop manner l asking ended rest) → AccountsFor (with_dealt 1 u) b (whole_loop manner m asking ended rest)
  one_comes a b told gone (net, unserved, there) u f = record {
    told = ap (λ (v : NetworkValue). v.told) net ∙ f.told ∙ ap (λ (t : List ℕ). u.before.told ++ t) (sym told);
    made = λ p. ap (λ (v : NetworkValue). count_by p v.made) net ∙ f.made p;
    closed = λ p.
        let before = f.closed p in
        let same = ap (λ (v : NetworkValue). count_by p v.closed) net in
        let left = ap (count_by (λ (c : ClientValue). p (closed_client c))) gone in
        let away = ap (count_by p) unserved in
        omega (arith, before, same, left, away);
    dealt =
        let before = f.dealt in
        let same = ap (λ (g : List ClientValue). length g) gone in
        let away = ap (λ (g : List ClosedValue). length g) unserved in
        omega (arith, before, there, same, away);
    asked = ap (λ (v : NetworkValue). v.asked) net ∙ f.asked;
    found = f.found;
    awaited = f.awaited;
  }

  one_away : (a b : NetworkValue) → m.told ≡ l.told → m.gone ≡ l.gone → IsTurnedAway a b l m
      → (u : Account) → AccountsFor u a (whole_loop manner l asking ended rest) → AccountsFor (with_dealt 1 u) b (whole_loop manner m asking ended rest)
  one_away a b told gone (s, net, unserved, there) u f = record {
    told = ap (λ (v : NetworkValue). v.told) net ∙ f.told ∙ ap (λ (t : List ℕ). u.before.told ++ t) (sym told);
    made = λ p. ap (λ (v : NetworkValue). count_by p v.made) net ∙ f.made p;
    closed = λ p.
        let before = f.closed p in
        let now = ap (λ (v : NetworkValue). count_by p v.closed) net ∙ count_append p a.closed (s ∷ []) in
        let left = ap (count_by (λ (c : ClientValue). p (closed_client c))) gone in
        let away = ap (count_by p) unserved ∙ count_append p l.unserved (s ∷ []) in
        omega (arith, before, now, left, away);
    dealt =
        let before = f.dealt in
        let same = ap (λ (g : List ClientValue). length g) gone in
        let away = ap (λ (g : List ClosedValue). length g) unserved ∙ length-append l.unserved (s ∷ []) in
        omega (arith, before, there, same, away);
    asked = ap (λ (v : NetworkValue). v.asked) net ∙ f.asked;
    found = f.found;
    awaited = f.awaited;
  }

  -- a stream was dealt
  pub admits_accounts : (a b : NetworkValue) → TakesIn a b l m → AccountsOn 1 [] a b (whole_loop manner l asking ended rest) (whole_loop manner m asking ended rest)
  admits_accounts a b s u f =
      none_done 1 u b (whole_loop manner m asking ended rest)
      (⊎_elim (λ (came : HasCome a b l m). one_comes a b s.told s.gone came u f) (λ (away : IsTurnedAway a b l m). one_away a b s.told s.gone away u f) s.one)

-- ---- jobs

abbrev show : Option AskingState → Option AskingValue
show o = option_map asked_for o

abbrev made_of : (SocketAddr → Bool) → Option AskingValue → ℕ
made_of p o = option_map_or (λ (x : AskingValue). count_by p (peers_of (streams_for x))) o 0

abbrev left_of : (ClosedValue → Bool) → Option AskingValue → ℕ
left_of p o = option_map_or (λ (x : AskingValue). count_by p (streams_before x)) o 0

-- one place changed
pub sum_of_put : (f : Option AskingValue → ℕ) → f None ≡ 0 → (old new : List (Option AskingState)) (i : ℕ) (o n : Option AskingState) → slice_index_or old i None ≡ o → Put old new i n
    → sum_by f (map show new) + f (show o) ≡ sum_by f (map show old) + f (show n)
sum_of_put f none old new i o n was put =
    let changed = sum_put (λ (s : Option AskingState). f (show s)) none old new i put.there in
    let before = ap (λ (s : Option AskingState). f (show s)) was in
    let after = ap (λ (s : Option AskingState). f (show s)) put.here in
    let shown = sum_map f show old in
    let later = sum_map f show new in
    omega (arith, changed, before, after, shown, later)

-- the addresses of all its streams
abbrev peer_of : StreamValue → SocketAddr
peer_of v = v.peer

peers_are : (x : AskingValue) → peers_of (streams_for x) ≡ peers_of x.tried ++ peers_of (option_to_list x.stream)
peers_are x = map-append peer_of x.tried (option_to_list x.stream)

-- where they are the same but for their turns
same_peers : (o n : Option StreamValue) → option_map without_turns n ≡ option_map without_turns o → peers_of (option_to_list n) ≡ peers_of (option_to_list o)
same_peers o n same = by_it n ∙ ap (λ (k : Option StreamValue). peers_of (option_to_list k)) same ∙ sym (by_it o)
  where
    by_it : (k : Option StreamValue) → peers_of (option_to_list k) ≡ peers_of (option_to_list (option_map without_turns k))
    by_it None = refl
    by_it (Some t) = refl

-- it goes over the same streams
same_made : (p : SocketAddr → Bool) (x y : AskingValue) → HasStreamsOf x y → made_of p (Some y) ≡ made_of p (Some x)
same_made p x y s =
    ap (count_by p) (peers_are y ∙ ap (λ (t : List StreamValue). peers_of t ++ peers_of (option_to_list y.stream)) s.tried
    ∙ ap (λ (l : List SocketAddr). peers_of x.tried ++ l) (same_peers x.stream y.stream s.stream) ∙ sym (peers_are x))

same_left : (p : ClosedValue → Bool) (x y : AskingValue) → HasStreamsOf x y → left_of p (Some y) ≡ left_of p (Some x)
same_left p x y s = ap (λ (t : List StreamValue). count_by p (map (λ (v : StreamValue). closed_stream v) t)) s.tried

-- streams more that are left, or kept
left_count : (p : SocketAddr → Bool) (left later gone : List StreamValue) → later ≡ left ++ gone → count_by p (peers_of later) ≡ count_by p (peers_of left) + count_by p (peers_of gone)
left_count p left later gone is = ap (λ (t : List StreamValue). count_by p (peers_of t)) is ∙ ap (count_by p) (map-append peer_of left gone) ∙ count_append p (peers_of left) (peers_of gone)

closed_count : (p : ClosedValue → Bool) (left later gone : List StreamValue) → later ≡ left ++ gone
    → count_by p (map closed_stream later) ≡ count_by p (map closed_stream left) + count_by p (map closed_stream gone)
closed_count p left later gone is =
    ap (λ (t : List StreamValue). count_by p (map closed_stream t)) is ∙ ap (count_by p) (map-append closed_stream left gone) ∙ count_append p (map closed_stream left) (map closed_stream gone)

kept_count : (p : SocketAddr → Bool) (kept later stays : List KeptValue) → later ≡ kept ++ stays
    → count_by p (peers_of (kept_streams later)) ≡ count_by p (peers_of (kept_streams kept)) + count_by p (peers_of (kept_streams stays))
kept_count p kept later stays is =
    ap (λ (t : List KeptValue). count_by p (peers_of (kept_streams t))) is ∙ ap (λ (t : List StreamValue). count_by p (peers_of t)) (map-append (λ (k : KeptValue). k.stream) kept stays)
    ∙ ap (count_by p) (map-append peer_of (kept_streams kept) (kept_streams stays)) ∙ count_append p (peers_of (kept_streams kept)) (peers_of (kept_streams stays))

module _ (manner : Manner) (l m : LoopValue) (old new : List (Option AskingState)) (ended : List (AskingState × Option Outcome)) (rest : Beside) (i : ℕ) where
  -- one went on over the same streams
  pub put_accounts : (a : NetworkValue) (x y : AskingState) → slice_index_or old i None ≡ Some x → Put old new i (Some y) → HasStreamsOf (asked_for x) (asked_for y)
      → (u : Account) → AccountsFor u a (whole_loop manner l old ended rest) → AccountsFor u a (whole_loop manner l new ended rest)
  put_accounts a x y was put s u f = record {
    told = f.told;
    made = λ p.
        let before = f.made p in
        let changed = sum_of_put (made_of p) refl old new i (Some x) (Some y) was put in
        let same = same_made p (asked_for x) (asked_for y) s in
        omega (arith, before, changed, same);
    closed = λ p.
        let before = f.closed p in
        let changed = sum_of_put (left_of p) refl old new i (Some x) (Some y) was put in
        let same = same_left p (asked_for x) (asked_for y) s in
        omega (arith, before, changed, same);
    dealt = f.dealt;
    asked = f.asked;
    found = f.found;
    awaited = f.awaited;
  }

  -- .. over another
  pub over_accounts : (a b : NetworkValue) (x y : AskingState) (address : SocketAddr) → slice_index_or old i None ≡ Some x → Put old new i (Some y) → GoesOver address a b (asked_for x) (asked_for y)
      → (u : Account) → AccountsFor u a (whole_loop manner l old ended rest) → AccountsFor u b (whole_loop manner l new ended rest)
  over_accounts a b x y address was put s u f = record {
    told = ap (λ (v : NetworkValue). v.told) s.net ∙ f.told;
    made = λ p.
        let before = f.made p in
        let changed = sum_of_put (made_of p) refl old new i (Some x) (Some y) was put in
        let net = ap (λ (v : NetworkValue). count_by p v.made) s.net ∙ count_append p a.made (address ∷ []) in
        let before_it = (asked_for x).tried ++ option_to_list (asked_for x).stream in
        let peers : made_of p (Some (asked_for y)) ≡ made_of p (Some (asked_for x)) + count_by p (address ∷ []) =
        ap (λ (t : List StreamValue). count_by p (peers_of (t ++ option_to_list (asked_for y).stream))) s.tried
        ∙ ap (λ (o : Option StreamValue). count_by p (peers_of (before_it ++ option_to_list o))) s.stream
        ∙ ap (count_by p) (map-append peer_of before_it (stream_value address [] [] ∷ []))
        ∙ count_append p (peers_of before_it) (address ∷ []) in
        omega (arith, before, changed, net, peers);
    closed = λ p.
        let before = f.closed p in
        let changed = sum_of_put (left_of p) refl old new i (Some x) (Some y) was put in
        let net = ap (λ (v : NetworkValue). count_by p v.closed) s.net ∙ count_append p a.closed (stream_now (asked_for x)) in
        let left : left_of p (Some (asked_for y)) ≡ left_of p (Some (asked_for x)) + count_by p (stream_now (asked_for x)) =
        ap (λ (t : List StreamValue). count_by p (map closed_stream t)) s.tried
        ∙ ap (count_by p) (map-append closed_stream (asked_for x).tried (option_to_list (asked_for x).stream))
        ∙ count_append p (streams_before (asked_for x)) (stream_now (asked_for x)) in
        omega (arith, before, changed, net, left);
    dealt = f.dealt;
    asked = ap (λ (v : NetworkValue). v.asked) s.net ∙ f.asked;
    found = f.found;
    awaited = f.awaited;
  }

  pub connects_accounts : (a b : NetworkValue) (x y : AskingState) → slice_index_or old i None ≡ Some x → Put old new i (Some y) → Connects a b (asked_for x) (asked_for y)
      → (u : Account) → AccountsFor u a (whole_loop manner l old ended rest) → AccountsFor u b (whole_loop manner l new ended rest)
  connects_accounts a b x y was put s u f =
      ⊎_elim
      (λ (same : (b ≡ a) × HasStreamsOf (asked_for x) (asked_for y)).
      subst (λ (v : NetworkValue). AccountsFor u v (whole_loop manner l new ended rest)) (sym same.0) (put_accounts a x y was put same.1 u f))
      (λ (over : (address : SocketAddr) × GoesOver address a b (asked_for x) (asked_for y)). over_accounts a b x y over.0 was put over.1 u f)
      s

  -- one began
  pub begin_accounts : (a : NetworkValue) (y : AskingState) → IsStill l m → slice_index_or old i None ≡ None → Put old new i (Some y) → (asked_for y).tried ≡ [] → (asked_for y).stream ≡ None
      → (u : Account) → AccountsFor u a (whole_loop manner l old ended rest) → AccountsFor u a (whole_loop manner m new ended rest)
  begin_accounts a y still vacant put none alone u f =
      let g = still_accounts manner old ended rest l m a still u f in record {
        told = g.told;
        made = λ p.
            let before = g.made p in
            let changed = sum_of_put (made_of p) refl old new i None (Some y) vacant put in
            let fresh : made_of p (Some (asked_for y)) ≡ 0 = ap (λ (t : List StreamValue). count_by p (peers_of (t ++ option_to_list (asked_for y).stream))) none ∙ ap (λ (o : Option StreamValue). count_by p (peers_of (option_to_list o))) alone in
            omega (arith, before, changed, fresh);
        closed = λ p.
            let before = g.closed p in
            let changed = sum_of_put (left_of p) refl old new i None (Some y) vacant put in
            let fresh : left_of p (Some (asked_for y)) ≡ 0 = ap (λ (t : List StreamValue). count_by p (map (λ (v : StreamValue). closed_stream v) t)) none in
            omega (arith, before, changed, fresh);
        dealt = g.dealt;
        asked = g.asked;
        found = g.found;
        awaited = g.awaited;
      }

  -- one ended, and its stream is kept, or left
  pub end_accounts : (a b : NetworkValue) (x y : AskingState) (o : Option Outcome) (ended' : List (AskingState × Option Outcome)) (kept' : List KeptValue) (left' : List StreamValue) (closing' : List ClosedValue)
      (stays : List KeptValue) (gone : List StreamValue) → IsStill l m → slice_index_or old i None ≡ Some x → Put old new i None
      → HasStreamsOf (asked_for x) (asked_for y) → ended' ≡ ended ++ (y, o) ∷ [] → kept' ≡ rest.kept ++ stays → left' ≡ rest.left ++ gone
      → ((p : SocketAddr → Bool) → count_by p (peers_of (kept_streams stays)) + count_by p (peers_of gone) ≡ count_by p (peers_of (option_to_list (asked_for y).stream)))
      → ClosesFrom a b (map closed_stream gone ++ rest.closing) closing'
      → (u : Account) → AccountsFor u a (whole_loop manner l old ended rest) → AccountsFor u b (whole_loop manner m new ended' (beside kept' left' closing' rest.looked_up rest.waits))
  end_accounts a b x y o ended' kept' left' closing' stays gone still was put same more stay leaves parts closes u f =
      let g = still_accounts manner old ended rest l m a still u f in
      let shown : AskingState × Option Outcome → EndedValue = λ (d : AskingState × Option Outcome). ended_value (asked_for d.0) d.1 in
      let ends : map shown ended' ≡ map shown ended ++ shown (y, o) ∷ [] = ap (map shown) more ∙ map-append shown ended ((y, o) ∷ []) in record {
        told = closes.told ∙ g.told;
        made = λ p.
            let of_ended : EndedValue → ℕ = λ (e : EndedValue). count_by p (peers_of e.asking.tried) in
            let before = g.made p in
            let net = ap (count_by p) closes.made in
            let changed = sum_of_put (made_of p) refl old new i (Some x) None was put in
            let alike = same_made p (asked_for x) (asked_for y) same in
            let total = ap (sum_by of_ended) ends ∙ sum_by-append of_ended (map shown ended) (shown (y, o) ∷ []) in
            let last = sum_by-cons of_ended (shown (y, o)) [] in
            let both = ap (count_by p) (peers_are (asked_for y)) ∙ count_append p (peers_of (asked_for y).tried) (peers_of (option_to_list (asked_for y).stream)) in
            let kept = kept_count p rest.kept kept' stays stay in
            let later = left_count p rest.left left' gone leaves in
            let its = parts p in
            omega (arith, before, net, changed, alike, total, last, both, kept, later, its);
        closed = λ p.
            let of_ended : EndedValue → ℕ = λ (e : EndedValue). count_by p (streams_before e.asking) in
            let before = g.closed p in
            let net = closes.each p in
            let both = count_append p (map closed_stream gone) rest.closing in
            let changed = sum_of_put (left_of p) refl old new i (Some x) None was put in
            let alike = same_left p (asked_for x) (asked_for y) same in
            let total = ap (sum_by of_ended) ends ∙ sum_by-append of_ended (map shown ended) (shown (y, o) ∷ []) in
            let last = sum_by-cons of_ended (shown (y, o)) [] in
            let later = closed_count p rest.left left' gone leaves in
            omega (arith, before, net, both, changed, alike, total, last, later);
        dealt = g.dealt;
        asked = closes.asked ∙ g.asked;
        found = g.found;
        awaited = g.awaited;
      }

  -- one goes over a stream that was kept
  pub again_accounts : (a : NetworkValue) (x y : AskingState) (s : StreamValue) (kept' : List KeptValue) → slice_index_or old i None ≡ Some x → Put old new i (Some y) → GoesOverAgain s (asked_for x) (asked_for y)
      → ((p : SocketAddr → Bool) → count_by p (peers_of (kept_streams kept')) + count_by p (s.peer ∷ []) ≡ count_by p (peers_of (kept_streams rest.kept)))
      → (u : Account) → AccountsFor u a (whole_loop manner l old ended rest) → AccountsFor u a (whole_loop manner l new ended (beside kept' rest.left rest.closing rest.looked_up rest.waits))
  again_accounts a x y s kept' was put again parts u f = record {
    told = f.told;
    made = λ p.
        let before = f.made p in
        let changed = sum_of_put (made_of p) refl old new i (Some x) (Some y) was put in
        let its = parts p in
        let alone : made_of p (Some (asked_for x)) ≡ count_by p (peers_of (asked_for x).tried) =
        ap (count_by p) (peers_are (asked_for x) ∙ ap (λ (o : Option StreamValue). peers_of (asked_for x).tried ++ peers_of (option_to_list o)) again.alone ∙ append-nil _) in
        let peers : made_of p (Some (asked_for y)) ≡ count_by p (peers_of (asked_for x).tried) + count_by p (s.peer ∷ []) =
        ap (count_by p) (peers_are (asked_for y) ∙ ap (λ (t : List StreamValue). peers_of t ++ peers_of (option_to_list (asked_for y).stream)) again.tried
        ∙ ap (λ (o : Option StreamValue). peers_of (asked_for x).tried ++ peers_of (option_to_list o)) again.stream
        ∙ ap (λ (q : SocketAddr). peers_of (asked_for x).tried ++ q ∷ []) again.peer)
        ∙ count_append p (peers_of (asked_for x).tried) (s.peer ∷ []) in
        omega (arith, before, changed, its, alone, peers);
    closed = λ p.
        let before = f.closed p in
        let changed = sum_of_put (left_of p) refl old new i (Some x) (Some y) was put in
        let same : left_of p (Some (asked_for y)) ≡ left_of p (Some (asked_for x)) = ap (λ (t : List StreamValue). count_by p (map closed_stream t)) again.tried in
        omega (arith, before, changed, same);
    dealt = f.dealt;
    asked = f.asked;
    found = f.found;
    awaited = f.awaited;
  }

-- streams that were kept are no more, and were closed
pub kept_accounts : (manner : Manner) (l : LoopValue) (asking : List (Option AskingState)) (ended : List (AskingState × Option Outcome)) (rest : Beside) (kept' : List KeptValue) (left' gone : List StreamValue) (a b : NetworkValue)
    → left' ≡ rest.left ++ gone → ((p : SocketAddr → Bool) → count_by p (peers_of (kept_streams kept')) + count_by p (peers_of gone) ≡ count_by p (peers_of (kept_streams rest.kept)))
    → b ≡ record a { closed = a.closed ++ map closed_stream gone }
    → (u : Account) → AccountsFor u a (whole_loop manner l asking ended rest) → AccountsFor u b (whole_loop manner l asking ended (beside kept' left' rest.closing rest.looked_up rest.waits))
kept_accounts manner l asking ended rest kept' left' gone a b leaves parts net u f = record {
  told = ap (λ (v : NetworkValue). v.told) net ∙ f.told;
  made = λ p.
      let before = f.made p in
      let same = ap (λ (v : NetworkValue). count_by p v.made) net in
      let its = parts p in
      let later = left_count p rest.left left' gone leaves in
      omega (arith, before, same, its, later);
  closed = λ p.
      let before = f.closed p in
      let now = ap (λ (v : NetworkValue). count_by p v.closed) net ∙ count_append p a.closed (map closed_stream gone) in
      let later = closed_count p rest.left left' gone leaves in
      omega (arith, before, now, later);
  dealt = f.dealt;
  asked = ap (λ (v : NetworkValue). v.asked) net ∙ f.asked;
  found = f.found;
  awaited = f.awaited;
}

-- streams that waited were closed
pub closes_accounts : (manner : Manner) (l : LoopValue) (asking : List (Option AskingState)) (ended : List (AskingState × Option Outcome)) (rest : Beside) (closing : List ClosedValue) (a b : NetworkValue) → ClosesFrom a b rest.closing closing
    → (u : Account) → AccountsFor u a (whole_loop manner l asking ended rest) → AccountsFor u b (whole_loop manner l asking ended (beside rest.kept rest.left closing rest.looked_up rest.waits))
closes_accounts manner l asking ended rest closing a b closes u f = record {
  told = closes.told ∙ f.told;
  made = λ p. ap (count_by p) closes.made ∙ f.made p;
  closed = λ p.
      let before = f.closed p in
      let net = closes.each p in
      omega (arith, before, net);
  dealt = f.dealt;
  asked = closes.asked ∙ f.asked;
  found = f.found;
  awaited = f.awaited;
}

-- a name was looked up, for which nobody waits any more
pub found_accounts : (manner : Manner) (l : LoopValue) (asking : List (Option AskingState)) (ended : List (AskingState × Option Outcome)) (rest : Beside) (later : List FoundValue) (waits : List (List ℕ)) (one : FoundValue) (a : NetworkValue)
    → later ≡ rest.looked_up ++ one ∷ [] → Leaves one.name rest.waits waits
    → AccountsOn 0 (one ∷ []) a a (whole_loop manner l asking ended rest) (whole_loop manner l asking ended (beside rest.kept rest.left rest.closing later waits))
found_accounts manner l asking ended rest later waits one a is left u f = (
  Found one ∷ [],
  refl,
  record {
    told = f.told;
    made = f.made;
    closed = f.closed;
    dealt = let before = f.dealt in omega (arith, before);
    asked = f.asked ∙ ap (λ (t : List (List ℕ)). u.before.asked ++ t) (sym (asked_append u.lookups (Found one ∷ []) ∙ append-nil (asked_in u.lookups)));
    found = found_append u.lookups (Found one ∷ []) ∙ ap (λ (t : List FoundValue). t ++ one ∷ []) f.found ∙ sym is;
    awaited = λ name there. let stayed = (left name).0 there in awaited_beside name one u.lookups stayed.1 (f.awaited name stayed.0);
  },
)

-- a name was asked for, or none
module _ (manner : Manner) (l : LoopValue) (asking : List (Option AskingState)) (ended : List (AskingState × Option Outcome)) (rest : Beside) (waits : List (List ℕ)) (name : List ℕ) (a b : NetworkValue) where
  abbrev unasked : WholeLoop
  unasked = whole_loop manner l asking ended rest

  abbrev asked_for_name : WholeLoop
  asked_for_name = whole_loop manner l asking ended (beside rest.kept rest.left rest.closing rest.looked_up waits)

  none_asked : (b ≡ a) × AreSame rest.waits waits → AccountsOn 0 [] a b unasked asked_for_name
  none_asked (net, same) = done_alone unasked asked_for_name (λ u f. subst (λ (n : NetworkValue). AccountsFor u n asked_for_name) (sym net) record {
    told = f.told;
    made = f.made;
    closed = f.closed;
    dealt = f.dealt;
    asked = f.asked;
    found = f.found;
    awaited = λ other there. f.awaited other ((same other).0 there);
  })

  one_asked : IsAskedFor name a b rest.waits waits → AccountsOn 0 [] a b unasked asked_for_name
  one_asked s u f = (
    Asked name ∷ [],
    refl,
    record {
      told = ap (λ (v : NetworkValue). v.told) s.net ∙ f.told;
      made = λ p. ap (λ (v : NetworkValue). count_by p v.made) s.net ∙ f.made p;
      closed = λ p. ap (λ (v : NetworkValue). count_by p v.closed + count_by p rest.closing) s.net ∙ f.closed p;
      dealt = let before = f.dealt in omega (arith, before);
      asked = ap (λ (v : NetworkValue). v.asked) s.net ∙ ap (λ (t : List (List ℕ)). t ++ name ∷ []) f.asked ∙ append_assoc u.before.asked (asked_in u.lookups) (name ∷ [])
          ∙ ap (λ (t : List (List ℕ)). u.before.asked ++ t) (sym (asked_append u.lookups (Asked name ∷ [])));
      found = found_append u.lookups (Asked name ∷ []) ∙ append-nil (found_in u.lookups) ∙ f.found;
      awaited = λ other there.
          ⊎_elim (λ (its : other ≡ name). subst (λ (n : List ℕ). IsAwaited n (u.lookups ++ Asked name ∷ [])) (sym its) (awaited_now name u.lookups))
          (λ (was : Contains rest.waits other). awaited_still other name u.lookups (f.awaited other was))
          ((s.adds.1 other).0 there);
    },
  )

  pub asks_accounts : AsksFor name a b rest.waits waits → AccountsOn 0 [] a b unasked asked_for_name
  asks_accounts asks = ⊎_elim none_asked one_asked asks

-- nothing was done yet
pub first_accounts : (w : WholeLoop) → StartsLoop w → (a : NetworkValue) → AccountsFor (first_account a) a w
first_accounts w s a = record {
  told = sym (ap (λ (t : List ℕ). a.told ++ t) s.side.none_told ∙ append-nil a.told);
  made = λ p.
      let none : count_made p w ≡ 0 = rw (s.none_asked, s.none_ended, s.none_kept, s.none_left) refl in
      omega (arith, none);
  closed = λ p.
      let none : count_left p w ≡ 0 = rw (s.side.none_gone, s.side.none_unserved, s.none_asked, s.none_ended, s.none_left) refl in
      let waits : count_by p w.closing ≡ 0 = rw s.none_closing refl in
      omega (arith, none, waits);
  dealt = let none : count_dealt w.side ≡ 0 = rw (s.side.none_there, s.side.none_gone, s.side.none_unserved) refl in sym none;
  asked = sym (append-nil a.asked);
  found = sym s.none_found;
  awaited = λ name there. absurd (none_there name (subst (λ (l : List (List ℕ)). Contains l name) s.none_waits there));
}
