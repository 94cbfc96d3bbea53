-- What each step makes of the jobs that are asked for, and of those that ended.
use Rattle.gateway_loop.proofs.Words.{◌≤◌, AreFoundFor, AreOfName, Beside, Contains, Contains-append_left, All-weaker, FoundValue, addresses_value, beside, take, true, ◌≡◌, ◌≢◌, ◌⊎◌, ℕ, zero, suc, ◌+◌, Bool, false, cond, List, [], ◌∷◌, ◌++◌, All, map, Option, None, Some, refl, sym, ap, ◌∙◌, subst, arith, append_assoc, inl, inr, ⊎_elim, count_by, sum_by, option_map, slice_index_or, option_map_or, cases_eq, map-append, All-push, sum_by-append, sum_by-cons, Outcome, JobValue, IsPrefixOf, HandedJob, Slab, Updates, AskingValue, BeginsRequest, EndedValue, IsFair, StreamValue, ended_value, Account, AccountsFor, AccountsOn, Admits, ClosedValue, IsStill, NetworkValue, LoopValue, Continues, HasTicked, AsksFairly, AsksOn, ContinuesLoop, GivesUpStream, HasEndedSince, KeepsStream, WholeLoop, asked_at, count_asked, AskingState, asked_for, HandsNothing, Onward, Goes, AreMannered, IsMannered, whole_loop, Manner, SocketAddr, prefix-refl, prefix-trans, peers_of, stream_value, length, All-nil, streams_for, option_to_list, KeptValue, AreShared, ShareValue, count_own, count_shares, count_under_way, kept_streams, IsKept, IsLeft, IsNew, closed_stream, stream_value}
use Rattle.std.proofs.lemmas.Bool.Decides.{nat_tests}
use Rattle.std.proofs.lemmas.List.{append-nil}
use Rattle.std.proofs.lemmas.Slice.Eq.{bytes_eq-Decides}
use Rattle.std.specs.Prelude.{◌&&◌, if◌then◌else◌, not}
use Rattle.std.specs.Str.{bytes_eq}
use Rattle.gateway_loop.specs.Loop.{found_asking}
use Rattle.branch_asking.specs.Asking.{Finds, got_by}
use Rattle.branch_asking.specs.Streams.{Connects, GoesOver, GoesOverAgain, HasStreamsOf, without_turns}
use Rattle.std.proofs.lemmas.List.Elements.{All-append, All-head}
use Rattle.loop_model.specs.Whole.{IsSameIfThere, IsSameStream}
use Rattle.gateway_loop.proofs.KeptLemmas.{Moves, Parted, shares_append}
use Rattle.gateway_loop.specs.Clients.{IsTold, LetsGo, TakesIn}
use Rattle.gateway_loop.specs.Closing.{ClosesFrom}
use Rattle.gateway_loop.specs.Names.{AsksFor, Leaves}
use Rattle.gateway_loop.proofs.AccountLemmas.{admits_accounts, again_accounts, asks_accounts, begin_accounts, closes_accounts, done_alone, done_then, found_accounts, connects_accounts, end_accounts, goes_accounts, kept_accounts, put_accounts, still_accounts, sum_of_put, told_accounts}
use Rattle.gateway_loop.proofs.GrowLemmas as grow
use Rattle.gateway_loop.proofs.Places.{Put}
use Rattle.gateway_loop.proofs.SumLemmas.{sum_map, sum_put}

-- ---- what only grows

same_stream : (s : StreamValue) → IsSameStream s s
same_stream s = record { peer = refl; before = refl; turns = prefix-refl s.turns }

stream_then : (s t u : StreamValue) → IsSameStream s t → IsSameStream t u → IsSameStream s u
stream_then s t u a b = record { peer = b.peer ∙ a.peer; before = b.before ∙ a.before; turns = prefix-trans s.turns t.turns u.turns a.turns b.turns }

there_then : (o : Option StreamValue) (t u : StreamValue) → IsSameIfThere o t → IsSameStream t u → IsSameIfThere o u
there_then None t u a b = tt
there_then (Some s) t u a b = stream_then s t u a b

-- a stream is there, or none is
abbrev IsThere : Option StreamValue → Option StreamValue → Type 0
IsThere o n = (o ≡ None) ⊎ ((t : StreamValue) × (n ≡ Some t) × IsSameIfThere o t)

is_there : (o : Option StreamValue) → IsThere o o
is_there None = inl refl
is_there (Some s) = inr (s, refl, same_stream s)

no_stream : {A : Type 0} (t : StreamValue) (o : Option StreamValue) → o ≡ None → o ≡ Some t → A
no_stream t o none some = absurd (let f : ⊥ = cc in f)

-- .. and then another
still_there : (o m n : Option StreamValue) → IsThere o m → IsThere m n → IsThere o n
still_there o m n a b =
    ⊎_elim inl
    (λ (s : (t : StreamValue) × (m ≡ Some t) × IsSameIfThere o t).
    ⊎_elim (λ (none : m ≡ None). no_stream s.0 m none s.1)
    (λ (r : (u : StreamValue) × (n ≡ Some u) × IsSameIfThere m u). inr (r.0, r.1, there_then o s.0 r.0 s.2 (subst (λ (k : Option StreamValue). IsSameIfThere k r.0) s.1 r.2)))
    b)
    a

-- .. and that is the last
there_last : (o m : Option StreamValue) (last : StreamValue) → IsThere o m → IsSameIfThere m last → IsSameIfThere o last
there_last o m last a b =
    ⊎_elim (λ (none : o ≡ None). subst (λ (k : Option StreamValue). IsSameIfThere k last) (sym none) tt)
    (λ (s : (t : StreamValue) × (m ≡ Some t) × IsSameIfThere o t). there_then o s.0 last s.2 (subst (λ (k : Option StreamValue). IsSameIfThere k last) s.1 b)) a

asks_same : (x : AskingValue) → AsksOn x x
asks_same x = record {
  job = refl;
  found = prefix-refl x.found;
  streams = inl record { tried = refl; stream = is_there x.stream; reported = inr (prefix-refl x.reported) };
}

module _ (x y z : AskingValue) where
  -- where the one had no stream, or the next has none
  reports_on : KeepsStream x y → KeepsStream y z → (x.stream ≡ None) ⊎ IsPrefixOf x.reported z.reported
  reports_on k l =
      ⊎_elim inl
      (λ (p : IsPrefixOf x.reported y.reported). ⊎_elim
      (λ (none : y.stream ≡ None). ⊎_elim inl (λ (s : (t : StreamValue) × (y.stream ≡ Some t) × IsSameIfThere x.stream t). no_stream s.0 y.stream none s.1) k.stream)
      (λ (q : IsPrefixOf y.reported z.reported). inr (prefix-trans x.reported y.reported z.reported p q))
      l.reported)
      k.reported

  keeps_keeps : KeepsStream x y → KeepsStream y z → KeepsStream x z
  keeps_keeps k l = record { tried = l.tried ∙ k.tried; stream = still_there x.stream y.stream z.stream k.stream l.stream; reported = reports_on k l }

  keeps_gives : KeepsStream x y → GivesUpStream y z → GivesUpStream x z
  keeps_gives k g = record {
    last = g.last;
    others = g.others;
    tried_are = g.tried_are ∙ ap (λ (t : List StreamValue). t ++ g.last ∷ g.others) k.tried;
    stream = there_last x.stream y.stream g.last k.stream g.stream;
  }

  gives_keeps : GivesUpStream x y → KeepsStream y z → GivesUpStream x z
  gives_keeps g k = record { last = g.last; others = g.others; tried_are = k.tried ∙ g.tried_are; stream = g.stream }

  gives_gives : GivesUpStream x y → GivesUpStream y z → GivesUpStream x z
  gives_gives g h = record {
    last = g.last;
    others = g.others ++ h.last ∷ h.others;
    tried_are = h.tried_are ∙ ap (λ (t : List StreamValue). t ++ h.last ∷ h.others) g.tried_are ∙ append_assoc x.tried (g.last ∷ g.others) (h.last ∷ h.others);
    stream = g.stream;
  }

  asks_then : AsksOn x y → AsksOn y z → AsksOn x z
  asks_then a b = record {
    job = b.job ∙ a.job;
    found = prefix-trans x.found y.found z.found a.found b.found;
    streams = ⊎_elim
        (λ (k : KeepsStream x y). ⊎_elim (λ (l : KeepsStream y z). inl (keeps_keeps k l)) (λ (g : GivesUpStream y z). inr (keeps_gives k g)) b.streams)
        (λ (g : GivesUpStream x y). ⊎_elim (λ (l : KeepsStream y z). inr (gives_keeps g l)) (λ (h : GivesUpStream y z). inr (gives_gives g h)) b.streams)
        a.streams;
  }

module _ (u v w : WholeLoop) (y : AskingValue) where
  since_then : HasEndedSince u v y → IsPrefixOf v.ended w.ended → HasEndedSince u w y
  since_then e p = grind (arith, nat_tests, append_assoc)

  then_since : IsPrefixOf u.ended v.ended → HasEndedSince v w y → HasEndedSince u w y
  then_since p e =
      let own = ended_value y e.outcome in record {
        before = p.0 ++ e.before;
        outcome = e.outcome;
        after = e.after;
        ended_are =
            e.ended_are ∙ ap (λ (t : List EndedValue). t ++ (e.before ++ own ∷ e.after)) p.1 ∙ append_assoc u.ended p.0 (e.before ++ own ∷ e.after)
            ∙ ap (λ (t : List EndedValue). u.ended ++ t) (sym (append_assoc p.0 e.before (own ∷ e.after)));
      }

pub continues_same : (v : WholeLoop) → ContinuesLoop v v
continues_same v = record { manner = refl; side = grow.continues_same v.side; asking = λ i x is. (x, inl is, asks_same x); ended = prefix-refl v.ended; left = prefix-refl v.left; looked_up = prefix-refl v.looked_up }

continues_then : (u v w : WholeLoop) → ContinuesLoop u v → ContinuesLoop v w → ContinuesLoop u w
continues_then u v w a b = record {
  manner = b.manner ∙ a.manner;
  side = grow.continues_then u.side v.side w.side a.side b.side;
  asking = λ i x is.
      let s = a.asking i x is in
      ⊎_elim
      (λ (here : asked_at i v.asking ≡ Some s.0).
      let t = b.asking i s.0 here in
      (t.0, ⊎_elim (λ (still : asked_at i w.asking ≡ Some t.0). inl still) (λ (e : HasEndedSince v w t.0). inr (then_since u v w t.0 a.ended e)) t.1, asks_then x s.0 t.0 s.2 t.2))
      (λ (e : HasEndedSince u v s.0). (s.0, inr (since_then u v w s.0 e b.ended), s.2))
      s.1;
  ended = prefix-trans u.ended v.ended w.ended a.ended b.ended;
  left = prefix-trans u.left v.left w.left a.left b.left;
  looked_up = prefix-trans u.looked_up v.looked_up w.looked_up a.looked_up b.looked_up;
}

pub moves : {a b : NetworkValue} (v w : WholeLoop) → ContinuesLoop v w → ((u : Account) → AccountsFor u a v → AccountsFor u b w) → w.side.drained ≡ v.side.drained → Goes a b v w
moves {a} {b} v w c accounts drained = record { on = λ u before. continues_then u v w before c; accounts = done_alone v w accounts; drained = drained }

pub goes_same : {a : NetworkValue} (v : WholeLoop) → Goes a a v v
goes_same {a} v = record { on = λ u c. c; accounts = done_alone v v (λ u f. f); drained = refl }

pub goes_then : {a b c : NetworkValue} (u v w : WholeLoop) → Goes a b u v → Goes b c v w → Goes a c u w
goes_then {a} {b} {c} u v w p q = record { on = λ t before. q.on t (p.on t before); accounts = done_then 0 0 [] [] u v w p.accounts q.accounts; drained = q.drained ∙ p.drained }

pub goes_on : {a b : NetworkValue} (v w : WholeLoop) → Goes a b v w → ContinuesLoop v w
goes_on {a} {b} v w p = p.on v (continues_same v)

-- what was found stays so
pub stays_found : {a b : NetworkValue} (v w : WholeLoop) (one : FoundValue) → Goes a b v w → Contains v.looked_up one → Contains w.looked_up one
stays_found {a} {b} v w one p there =
    let more = (goes_on v w p).looked_up in
    subst (λ (l : List FoundValue). Contains l one) (sym more.1) (Contains-append_left v.looked_up more.0 one there)

pub ruleset going = (goes_same, goes_then)

-- streams were dealt before or behind
pub goes_admits : {a b c : NetworkValue} (dealt : ℕ) (found : List FoundValue) (u v w : WholeLoop) → Goes a b u v → Admits dealt found b c v w → Admits dealt found a c u w
goes_admits {a} {b} {c} dealt found u v w p q =
    let none : 0 + dealt ≡ dealt = omega arith in record {
      on = λ t before. q.on t (p.on t before);
      accounts = subst (λ (n : ℕ). AccountsOn n found a c u w) none (done_then 0 dealt [] found u v w p.accounts q.accounts);
      drained = q.drained ∙ p.drained;
    }

pub admits_goes : {a b c : NetworkValue} (dealt : ℕ) (found : List FoundValue) (u v w : WholeLoop) → Admits dealt found a b u v → Goes b c v w → Admits dealt found a c u w
admits_goes {a} {b} {c} dealt found u v w p q =
    let none : dealt + 0 ≡ dealt = omega arith in record {
      on = λ t before. q.on t (p.on t before);
      accounts = subst (λ (n : ℕ). AccountsOn n found a c u w) none
          (subst (λ (l : List FoundValue). AccountsOn (dealt + 0) l a c u w) (append-nil found) (done_then dealt 0 found [] u v w p.accounts q.accounts));
      drained = q.drained ∙ p.drained;
    }

pub admits_on : {a b : NetworkValue} (dealt : ℕ) (found : List FoundValue) (v w : WholeLoop) → Admits dealt found a b v w → ContinuesLoop v w
admits_on {a} {b} dealt found v w p = p.on v (continues_same v)

pub admits_none : {a : NetworkValue} (v : WholeLoop) → Admits 0 [] a a v v
admits_none {a} v = record { on = λ u c. c; accounts = done_alone v v (λ u f. f); drained = refl }

pub admits_more : {a b c : NetworkValue} (n m : ℕ) (first last : List FoundValue) (u v w : WholeLoop) → Admits n first a b u v → Admits m last b c v w → Admits (n + m) (first ++ last) a c u w
admits_more {a} {b} {c} n m first last u v w p q = record {
  on = λ t before. q.on t (p.on t before);
  accounts = done_then n m first last u v w p.accounts q.accounts;
  drained = q.drained ∙ p.drained;
}

abbrev pub show_slot : Option AskingState → Option AskingValue
show_slot o = option_map asked_for o

pub shown_at : (slots : List (Option AskingState)) (i : ℕ) → asked_at i (map (λ (o : Option AskingState). show_slot o) slots) ≡ show_slot (slice_index_or slots i None)
shown_at [] i = refl
shown_at (o ∷ rest) zero = refl
shown_at (o ∷ rest) (suc i) = shown_at rest i

pub some_asked : (a b : AskingValue) → Some a ≡ Some b → a ≡ b
some_asked a b e = cc

pub none_asked : (b : AskingValue) → None ≡ Some b → ⊥
none_asked b e = cc

-- the clients' side went on, and the exchanges are the same
continues_side : (manner : Manner) (asking : List (Option AskingState)) (ended : List (AskingState × Option Outcome)) (rest : Beside) (l m : LoopValue) → Continues l m
    → ContinuesLoop (whole_loop manner l asking ended rest) (whole_loop manner m asking ended rest)
continues_side manner asking ended rest l m c = record { manner = refl; side = c; asking = λ i x is. (x, inl is, asks_same x); ended = prefix-refl (whole_loop manner l asking ended rest).ended; left = prefix-refl rest.left; looked_up = prefix-refl rest.looked_up }

module _ (manner : Manner) (asking : List (Option AskingState)) (ended : List (AskingState × Option Outcome)) (rest : Beside) (l m : LoopValue) where
  abbrev before : WholeLoop
  before = whole_loop manner l asking ended rest

  abbrev after : WholeLoop
  after = whole_loop manner m asking ended rest

  goes_side : {a b : NetworkValue} → Onward l m → ((u : Account) → AccountsFor u a before → AccountsFor u b after) → Goes a b before after
  goes_side {a} {b} o accounts = moves before after (continues_side manner asking ended rest l m (o.on l (grow.continues_same l))) accounts o.drained

  pub goes_still : {a : NetworkValue} → Onward l m → IsStill l m → Goes a a before after
  goes_still {a} o s = goes_side o (still_accounts manner asking ended rest l m a s)

  pub goes_told : {a b : NetworkValue} → Onward l m → IsTold a b l m → Goes a b before after
  goes_told {a} {b} o s = goes_side o (told_accounts manner asking ended rest l m a b s)

  pub goes_gone : {a b : NetworkValue} → Onward l m → LetsGo a b l m → Goes a b before after
  goes_gone {a} {b} o s = goes_side o (goes_accounts manner asking ended rest l m a b s)

  pub admits_one : {a b : NetworkValue} → Onward l m → TakesIn a b l m → Admits 1 [] a b before after
  admits_one {a} {b} o s = record {
    on = λ u c. continues_then u before after c (continues_side manner asking ended rest l m (o.on l (grow.continues_same l)));
    accounts = admits_accounts manner asking ended rest l m a b s;
    drained = o.drained;
  }

  -- .. it was told to drain
  pub drains_so : Continues l m → IsStill l m → (ContinuesLoop before after) × ((a : NetworkValue) → AccountsOn 0 [] a a before after)
  drains_so c s = (continues_side manner asking ended rest l m c, λ a. done_alone before after (still_accounts manner asking ended rest l m a s))

-- streams that waited were closed
pub goes_closes : {a b : NetworkValue} (manner : Manner) (l : LoopValue) (asking : List (Option AskingState)) (ended : List (AskingState × Option Outcome)) (rest : Beside) (closing : List ClosedValue) → ClosesFrom a b rest.closing closing
    → Goes a b (whole_loop manner l asking ended rest) (whole_loop manner l asking ended (beside rest.kept rest.left closing rest.looked_up rest.waits))
goes_closes {a} {b} manner l asking ended rest closing c =
    moves (whole_loop manner l asking ended rest) (whole_loop manner l asking ended (beside rest.kept rest.left closing rest.looked_up rest.waits))
    record { manner = refl; side = grow.continues_same l; asking = λ i x is. (x, inl is, asks_same x); ended = prefix-refl (whole_loop manner l asking ended rest).ended; left = prefix-refl rest.left; looked_up = prefix-refl rest.looked_up }
    (closes_accounts manner l asking ended rest closing a b c) refl

-- what the exchanges are beside is another
continues_beside : (manner : Manner) (l : LoopValue) (asking : List (Option AskingState)) (ended : List (AskingState × Option Outcome)) (rest later : Beside) → IsPrefixOf rest.left later.left → IsPrefixOf rest.looked_up later.looked_up
    → ContinuesLoop (whole_loop manner l asking ended rest) (whole_loop manner l asking ended later)
continues_beside manner l asking ended rest later stays more =
    record { manner = refl; side = grow.continues_same l; asking = λ i x at. (x, inl at, asks_same x); ended = prefix-refl (whole_loop manner l asking ended rest).ended; left = stays; looked_up = more }

-- a name was looked up, for which nobody waits any more
pub admits_found : (manner : Manner) (l : LoopValue) (asking : List (Option AskingState)) (ended : List (AskingState × Option Outcome)) (rest : Beside) (later : List FoundValue) (waits : List (List ℕ)) (one : FoundValue)
    → later ≡ rest.looked_up ++ one ∷ [] → Leaves one.name rest.waits waits
    → (a : NetworkValue) → Admits 0 (one ∷ []) a a (whole_loop manner l asking ended rest) (whole_loop manner l asking ended (beside rest.kept rest.left rest.closing later waits))
admits_found manner l asking ended rest later waits one is left a = record {
  on = λ u c. continues_then u (whole_loop manner l asking ended rest) (whole_loop manner l asking ended (beside rest.kept rest.left rest.closing later waits)) c
      (continues_beside manner l asking ended rest (beside rest.kept rest.left rest.closing later waits) (prefix-refl rest.left) (one ∷ [], is));
  accounts = found_accounts manner l asking ended rest later waits one a is left;
  drained = refl;
}

-- a name was asked for, or none
pub goes_asks : {a b : NetworkValue} (manner : Manner) (l : LoopValue) (asking : List (Option AskingState)) (ended : List (AskingState × Option Outcome)) (rest : Beside) (waits : List (List ℕ)) (name : List ℕ) → AsksFor name a b rest.waits waits
    → Goes a b (whole_loop manner l asking ended rest) (whole_loop manner l asking ended (beside rest.kept rest.left rest.closing rest.looked_up waits))
goes_asks {a} {b} manner l asking ended rest waits name asks = record {
  on = λ u c. continues_then u (whole_loop manner l asking ended rest) (whole_loop manner l asking ended (beside rest.kept rest.left rest.closing rest.looked_up waits)) c
      (continues_beside manner l asking ended rest (beside rest.kept rest.left rest.closing rest.looked_up waits) (prefix-refl rest.left) (prefix-refl rest.looked_up));
  accounts = asks_accounts manner l asking ended rest waits name a b asks;
  drained = refl;
}

module _ (old new : List (Option AskingState)) (i : ℕ) where
  -- what stands elsewhere stands there still
  stays_at : (o : Option AskingState) (j : ℕ) (z : AskingValue) → Put old new i o → j ≢ i → asked_at j (map (λ (s : Option AskingState). show_slot s) old) ≡ Some z
      → asked_at j (map (λ (s : Option AskingState). show_slot s) new) ≡ Some z
  stays_at o j z put other is = shown_at new j ∙ ap (λ (s : Option AskingState). show_slot s) (put.there j other) ∙ sym (shown_at old j) ∙ is

  -- what stood in that place
  pub stood_at : (o : Option AskingState) (j : ℕ) (z : AskingValue) → slice_index_or old i None ≡ o → j ≡ i → asked_at j (map (λ (s : Option AskingState). show_slot s) old) ≡ Some z
      → show_slot o ≡ Some z
  stood_at o j z was same is = grind (arith, nat_tests, shown_at)

  stands_at : (y : AskingState) (j : ℕ) → Put old new i (Some y) → j ≡ i → asked_at j (map (λ (s : Option AskingState). show_slot s) new) ≡ Some (asked_for y)
  stands_at y j put same = shown_at new j ∙ ap (λ (s : Option AskingState). show_slot s) (ap (λ (n : ℕ). slice_index_or new n None) same ∙ put.here)

  continues_put : (manner : Manner) (v : LoopValue) (ended : List (AskingState × Option Outcome)) (rest : Beside) (x y : AskingState) → slice_index_or old i None ≡ Some x → Put old new i (Some y)
      → AsksOn (asked_for x) (asked_for y) → ContinuesLoop (whole_loop manner v old ended rest) (whole_loop manner v new ended rest)
  continues_put manner v ended rest x y was put on = record {
    manner = refl;
    side = grow.continues_same v;
    asking = λ j z is.
        ⊎_elim
        (λ (same : j ≡ i).
        (asked_for y, inl (stands_at y j put same), subst (λ (t : AskingValue). AsksOn t (asked_for y)) (some_asked (asked_for x) z (stood_at (Some x) j z was same is)) on))
        (λ (other : j ≡ i → ⊥). (z, inl (stays_at (Some y) j z put other is), asks_same z))
        (cases_eq j i);
    ended = prefix-refl (whole_loop manner v old ended rest).ended;
    left = prefix-refl rest.left;
    looked_up = prefix-refl rest.looked_up;
  }

  -- one of them went on over the same streams
  pub goes_put : (manner : Manner) (v : LoopValue) (ended : List (AskingState × Option Outcome)) (rest : Beside) (x y : AskingState) → slice_index_or old i None ≡ Some x → Put old new i (Some y)
      → AsksOn (asked_for x) (asked_for y) → HasStreamsOf (asked_for x) (asked_for y) → (a : NetworkValue) → Goes a a (whole_loop manner v old ended rest) (whole_loop manner v new ended rest)
  goes_put manner v ended rest x y was put on same a =
      moves (whole_loop manner v old ended rest) (whole_loop manner v new ended rest) (continues_put manner v ended rest x y was put on) (put_accounts manner v v old new ended rest i a x y was put same) refl

  -- .. over these or another
  pub goes_over : {a b : NetworkValue} (manner : Manner) (v : LoopValue) (ended : List (AskingState × Option Outcome)) (rest : Beside) (x y : AskingState) → slice_index_or old i None ≡ Some x → Put old new i (Some y)
      → AsksOn (asked_for x) (asked_for y) → Connects a b (asked_for x) (asked_for y) → Goes a b (whole_loop manner v old ended rest) (whole_loop manner v new ended rest)
  goes_over {a} {b} manner v ended rest x y was put on connects =
      moves (whole_loop manner v old ended rest) (whole_loop manner v new ended rest) (continues_put manner v ended rest x y was put on) (connects_accounts manner v v old new ended rest i a b x y was put connects) refl

  -- .. began
  pub goes_begin : (manner : Manner) (v w : LoopValue) (ended : List (AskingState × Option Outcome)) (rest : Beside) (y : AskingState) → Onward v w → IsStill v w → slice_index_or old i None ≡ None
      → Put old new i (Some y) → (asked_for y).tried ≡ [] → (asked_for y).stream ≡ None → (a : NetworkValue) → Goes a a (whole_loop manner v old ended rest) (whole_loop manner w new ended rest)
  goes_begin manner v w ended rest y o still free put none alone a =
      moves (whole_loop manner v old ended rest) (whole_loop manner w new ended rest) record {
        manner = refl;
        side = o.on v (grow.continues_same v);
        asking = λ j z is.
            ⊎_elim
            (λ (same : j ≡ i). absurd (none_asked z (stood_at None j z free same is)))
            (λ (other : j ≡ i → ⊥). (z, inl (stays_at (Some y) j z put other is), asks_same z))
            (cases_eq j i);
        ended = prefix-refl (whole_loop manner v old ended rest).ended;
        left = prefix-refl rest.left;
        looked_up = prefix-refl rest.looked_up;
      }
      (begin_accounts manner v w old new ended rest i a y still free put none alone) o.drained

  -- .. ended
  pub goes_ended : {a b : NetworkValue} (manner : Manner) (v w : LoopValue) (ended ended' : List (AskingState × Option Outcome)) (rest : Beside) (kept' : List KeptValue) (left' gone : List StreamValue) (closing' : List ClosedValue) (x y : AskingState) (end : Option Outcome) → Onward v w → IsStill v w
      → slice_index_or old i None ≡ Some x → Put old new i None → ended' ≡ ended ++ (y, end) ∷ [] → AsksOn (asked_for x) (asked_for y) → HasStreamsOf (asked_for x) (asked_for y)
      → Parted manner (asked_for y) end gone rest.kept kept' → left' ≡ rest.left ++ gone → ClosesFrom a b (map closed_stream gone ++ rest.closing) closing'
      → Goes a b (whole_loop manner v old ended rest) (whole_loop manner w new ended' (beside kept' left' closing' rest.looked_up rest.waits))
  goes_ended {a} {b} manner v w ended ended' rest kept' left' gone closing' x y end o still was put is_now on same parted leaves closes =
      let show : AskingState × Option Outcome → EndedValue = λ (d : AskingState × Option Outcome). ended_value (asked_for d.0) d.1 in
      let more : map show ended' ≡ map show ended ++ show (y, end) ∷ [] = ap (map show) is_now ∙ map-append show ended ((y, end) ∷ []) in
      moves (whole_loop manner v old ended rest) (whole_loop manner w new ended' (beside kept' left' closing' rest.looked_up rest.waits)) record {
        manner = refl;
        side = o.on v (grow.continues_same v);
        asking = λ j z is.
            ⊎_elim
            (λ (same : j ≡ i).
            (asked_for y, inr record { before = []; outcome = end; after = []; ended_are = more }, subst (λ (t : AskingValue). AsksOn t (asked_for y)) (some_asked (asked_for x) z (stood_at (Some x) j z was same is)) on))
            (λ (other : j ≡ i → ⊥). (z, inl (stays_at None j z put other is), asks_same z))
            (cases_eq j i);
        ended = (show (y, end) ∷ [], more);
        left = (gone, leaves);
        looked_up = prefix-refl rest.looked_up;
      }
      (end_accounts manner v w old new ended rest i a b x y end ended' kept' left' closing' parted.stays gone still was put same is_now parted.kept_are leaves parted.parts.peers closes) o.drained

  -- .. goes over a stream that was kept
  pub goes_again : (manner : Manner) (v : LoopValue) (ended : List (AskingState × Option Outcome)) (rest : Beside) (kept' : List KeptValue) (x y : AskingState) (k : KeptValue) (s : StreamValue) → slice_index_or old i None ≡ Some x → Put old new i (Some y)
      → AsksOn (asked_for x) (asked_for y) → s ≡ k.stream → GoesOverAgain s (asked_for x) (asked_for y) → Moves manner rest.kept kept' (k.stream ∷ [])
      → (a : NetworkValue) → Goes a a (whole_loop manner v old ended rest) (whole_loop manner v new ended (beside kept' rest.left rest.closing rest.looked_up rest.waits))
  goes_again manner v ended rest kept' x y k s was put on is again moved a =
      moves (whole_loop manner v old ended rest) (whole_loop manner v new ended (beside kept' rest.left rest.closing rest.looked_up rest.waits))
      record {
        manner = refl;
        side = grow.continues_same v;
        asking = λ j z is.
            ⊎_elim
            (λ (same : j ≡ i).
            (asked_for y, inl (stands_at y j put same), subst (λ (t : AskingValue). AsksOn t (asked_for y)) (some_asked (asked_for x) z (stood_at (Some x) j z was same is)) on))
            (λ (other : j ≡ i → ⊥). (z, inl (stays_at (Some y) j z put other is), asks_same z))
            (cases_eq j i);
        ended = prefix-refl (whole_loop manner v old ended rest).ended;
        left = prefix-refl rest.left;
        looked_up = prefix-refl rest.looked_up;
      }
      (again_accounts manner v v old new ended rest i a x y s kept' was put again
      (λ p. let its = moved.peers p in let same = ap (λ (t : StreamValue). count_by p (t.peer ∷ [])) is in omega (arith, its, same)))
      refl

-- streams that were kept are no more, and were closed
pub goes_kept : {a b : NetworkValue} (manner : Manner) (l : LoopValue) (asking : List (Option AskingState)) (ended : List (AskingState × Option Outcome)) (rest : Beside) (kept' : List KeptValue) (left' gone : List StreamValue)
    → Moves manner rest.kept kept' gone → left' ≡ rest.left ++ gone → b ≡ record a { closed = a.closed ++ map closed_stream gone }
    → Goes a b (whole_loop manner l asking ended rest) (whole_loop manner l asking ended (beside kept' left' rest.closing rest.looked_up rest.waits))
goes_kept {a} {b} manner l asking ended rest kept' left' gone moved leaves net =
    moves (whole_loop manner l asking ended rest) (whole_loop manner l asking ended (beside kept' left' rest.closing rest.looked_up rest.waits))
    (continues_beside manner l asking ended rest (beside kept' left' rest.closing rest.looked_up rest.waits) (gone, leaves) (prefix-refl rest.looked_up))
    (kept_accounts manner l asking ended rest kept' left' gone a b leaves moved.peers net) refl

-- .. and none was closed
pub goes_unkept : {a : NetworkValue} (manner : Manner) (l : LoopValue) (asking : List (Option AskingState)) (ended : List (AskingState × Option Outcome)) (rest : Beside) (kept' : List KeptValue)
    → Moves manner rest.kept kept' [] → Goes a a (whole_loop manner l asking ended rest) (whole_loop manner l asking ended (beside kept' rest.left rest.closing rest.looked_up rest.waits))
goes_unkept {a} manner l asking ended rest kept' moved =
    goes_kept {a = a} {b = a} manner l asking ended rest kept' rest.left [] moved (sym (append-nil rest.left)) (ap (λ (c : List ClosedValue). record a { closed = c }) (sym (append-nil a.closed)))

pub ticked_on : (u v w : WholeLoop) → HasTicked u.side v.side → ContinuesLoop v w → HasTicked u.side w.side
ticked_on u v w t c =
    let told = c.side.told in
    (t.0, t.1 ++ told.0, told.1 ∙ ap (λ (l : List ℕ). l ++ told.0) t.2 ∙ append_assoc u.side.told (t.0 ∷ t.1) told.0)
