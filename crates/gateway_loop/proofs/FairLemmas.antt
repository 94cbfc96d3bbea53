-- What keeps a loop fair.
use Rattle.gateway_loop.proofs.Words.{◌≤◌, AreFoundFor, AreOfName, Beside, Contains, Contains-append_left, All-weaker, FoundValue, addresses_value, beside, take, true, ◌≡◌, ◌≢◌, ◌⊎◌, ℕ, zero, suc, ◌+◌, Bool, false, cond, List, [], ◌∷◌, ◌++◌, All, map, Option, None, Some, refl, sym, ap, ◌∙◌, subst, arith, append_assoc, inl, inr, ⊎_elim, count_by, sum_by, option_map, slice_index_or, option_map_or, cases_eq, map-append, All-push, sum_by-append, sum_by-cons, Outcome, JobValue, IsPrefixOf, HandedJob, Slab, Updates, AskingValue, BeginsRequest, EndedValue, IsFair, StreamValue, ended_value, Account, AccountsFor, AccountsOn, Admits, ClosedValue, IsStill, NetworkValue, LoopValue, Continues, HasTicked, AsksFairly, AsksOn, ContinuesLoop, GivesUpStream, HasEndedSince, KeepsStream, WholeLoop, asked_at, count_asked, AskingState, asked_for, HandsNothing, Onward, Goes, AreMannered, IsMannered, whole_loop, Manner, SocketAddr, prefix-refl, prefix-trans, peers_of, stream_value, length, All-nil, streams_for, option_to_list, KeptValue, AreShared, ShareValue, count_own, count_shares, count_under_way, kept_streams, IsKept, IsLeft, IsNew, closed_stream, stream_value}
use Rattle.std.proofs.lemmas.Bool.Decides.{nat_tests}
use Rattle.std.proofs.lemmas.List.{append-nil}
use Rattle.std.proofs.lemmas.Slice.Eq.{bytes_eq-Decides}
use Rattle.std.specs.Prelude.{◌&&◌, if◌then◌else◌, not}
use Rattle.std.specs.Str.{bytes_eq}
use Rattle.gateway_loop.specs.Loop.{found_asking}
use Rattle.branch_asking.specs.Asking.{Finds, got_by}
use Rattle.branch_asking.specs.Streams.{Connects, GoesOver, GoesOverAgain, HasStreamsOf, without_turns}
use Rattle.std.proofs.lemmas.List.Elements.{All-append, All-head}
use Rattle.loop_model.specs.Whole.{IsSameIfThere, IsSameStream}
use Rattle.gateway_loop.proofs.KeptLemmas.{Moves, Parted, shares_append}
use Rattle.gateway_loop.specs.Clients.{IsTold, LetsGo, TakesIn}
use Rattle.gateway_loop.specs.Closing.{ClosesFrom}
use Rattle.gateway_loop.specs.Names.{AsksFor, Leaves}
use Rattle.gateway_loop.proofs.AccountLemmas.{admits_accounts, again_accounts, asks_accounts, begin_accounts, closes_accounts, done_alone, done_then, found_accounts, connects_accounts, end_accounts, goes_accounts, kept_accounts, put_accounts, still_accounts, sum_of_put, told_accounts}
use Rattle.gateway_loop.proofs.GrowLemmas as grow
use Rattle.gateway_loop.proofs.Places.{Put}
use Rattle.gateway_loop.proofs.SumLemmas.{sum_map, sum_put}
use Rattle.gateway_loop.proofs.AskLemmas.{none_asked, show_slot, shown_at, some_asked, stood_at}

-- ---- how many are asked for

abbrev is_asked : (JobValue → Bool) → Option AskingState → Bool
is_asked p o = option_map_or (λ (x : AskingState). p x.job.job) o false

abbrev one_asked : (JobValue → Bool) → Option AskingState → ℕ
one_asked p o = cond (is_asked p o) 1 0

one_shown : (p : JobValue → Bool) (o : Option AskingState) → cond (option_map_or (λ (x : AskingValue). p x.job) (option_map asked_for o) false) 1 0 ≡ one_asked p o
one_shown p o = grind (arith, nat_tests)

sum_alike : {A : Type 0} (f g : A → ℕ) → ((x : A) → f x ≡ g x) → (xs : List A) → sum_by f xs ≡ sum_by g xs
sum_alike f g same [] = refl
sum_alike f g same (x ∷ xs) = search (arith, sum_alike f g same xs)

shown_count : (p : JobValue → Bool) (slots : List (Option AskingState))
    → count_asked p (map (λ (o : Option AskingState). option_map asked_for o) slots) ≡ sum_by (one_asked p) slots
shown_count p slots = grind (arith, nat_tests, sum_map, sum_alike, one_shown)

count_put : (p : JobValue → Bool) (old new : List (Option AskingState)) (i : ℕ) (o n : Option AskingState) → slice_index_or old i None ≡ o → Put old new i n
    → sum_by (one_asked p) new + one_asked p o ≡ sum_by (one_asked p) old + one_asked p n
count_put p old new i o n was put = grind (arith, nat_tests, sum_put)

-- ---- what is kept

-- the exchanges are the same
pub keeps_asking : (v w : WholeLoop) → w.manner ≡ v.manner → HandsNothing v.side w.side → w.asking ≡ v.asking → w.ended ≡ v.ended → w.kept ≡ v.kept → w.left ≡ v.left → w.looked_up ≡ v.looked_up → AsksFairly v → AsksFairly w
keeps_asking v w manner none asking ended kept left looked a = record {
  results = none.no_result ∙ a.results ∙ ap (map (λ (e : EndedValue). (e.asking.job, e.outcome))) (sym ended);
  fair = subst (λ (l : List EndedValue). All (IsFair w.manner) l) (sym ended) (subst (λ (f : Manner). All (IsFair f) v.ended) (sym manner) a.fair);
  begun = λ i x is. subst (λ (f : Manner). BeginsRequest f x) (sym manner) (a.begun i x (ap (λ l. asked_at i l) (sym asking) ∙ is));
  found = λ i x is. subst (λ (l : List FoundValue). AreOfName x.job.address x.found l) (sym looked) (a.found i x (ap (λ l. asked_at i l) (sym asking) ∙ is));
  found_ended = subst (λ (l : List EndedValue). All (λ (e : EndedValue). AreOfName e.asking.job.address e.asking.found w.looked_up) l) (sym ended)
      (subst (λ (l : List FoundValue). All (λ (e : EndedValue). AreOfName e.asking.job.address e.asking.found l) v.ended) (sym looked) a.found_ended);
  jobs = λ p. ap (count_by p) none.no_job ∙ a.jobs p ∙ ap (λ l. count_by (λ (e : EndedValue). p e.asking.job) l + count_asked p v.asking) (sym ended)
      ∙ ap (λ l. count_by (λ (e : EndedValue). p e.asking.job) w.ended + count_asked p l) (sym asking);
  shared = subst (λ (l : List StreamValue). AreShared w.manner w.asking w.ended w.kept l) (sym left)
      (subst (λ (l : List KeptValue). AreShared w.manner w.asking w.ended l v.left) (sym kept)
      (subst (λ (l : List EndedValue). AreShared w.manner w.asking l v.kept v.left) (sym ended)
      (subst (λ (l : List (Option AskingValue)). AreShared w.manner l v.ended v.kept v.left) (sym asking)
      (subst (λ (f : Manner). AreShared f v.asking v.ended v.kept v.left) (sym manner) a.shared))));
}

-- where one place changed, each is so if what stands there is
each_put : (P : AskingValue → Type 0) (old new : List (Option AskingState)) (i : ℕ) (o : Option AskingState) → Put old new i o → ((x : AskingValue) → show_slot o ≡ Some x → P x)
    → ((j : ℕ) (x : AskingValue) → asked_at j (map (λ (s : Option AskingState). show_slot s) old) ≡ Some x → P x)
    → (j : ℕ) (x : AskingValue) → asked_at j (map (λ (s : Option AskingState). show_slot s) new) ≡ Some x → P x
each_put P old new i o put own before j x is =
    ⊎_elim
    (λ (same : j ≡ i). own x (stood_at new new i o j x put.here same is))
    (λ (other : j ≡ i → ⊥). before j x (shown_at old j ∙ ap (λ (s : Option AskingState). show_slot s) (sym (put.there j other)) ∙ sym (shown_at new j) ∙ is))
    (cases_eq j i)

-- what was found for it was found for its name
abbrev IsNamed : List FoundValue → AskingValue → Type 0
IsNamed looked x = AreOfName x.job.address x.found looked

named_by : (looked : List FoundValue) (y : AskingState) → IsNamed looked (asked_for y) → (x : AskingValue) → show_slot (Some y) ≡ Some x → IsNamed looked x
named_by looked y named x is = subst (λ (t : AskingValue). IsNamed looked t) (some_asked (asked_for y) x is) named

-- .. where that is the same as before
named_same : (looked : List FoundValue) (x y : AskingState) → y.job ≡ x.job → y.addresses.found ≡ x.addresses.found → IsNamed looked (asked_for x) → IsNamed looked (asked_for y)
named_same looked x y job found named =
    subst (λ (l : List SocketAddr). AreOfName y.job.job.address l looked) (sym found) (subst (λ (j : HandedJob). AreOfName j.job.address x.addresses.found looked) (sym job) named)

-- .. or was found just now
pub named_found : (looked : List FoundValue) (x y : AskingState) (one : FoundValue) (more : List SocketAddr) → (y ≡ x) ⊎ (x.job.job.address ≡ one.name) → Finds one.name more x y → Contains looked one → more ≡ take 32 one.addresses
    → IsNamed looked (asked_for x) → IsNamed looked (asked_for y)
named_found looked x y one more own finds there first named =
    ⊎_elim (λ (same : y ≡ x). subst (λ (t : AskingState). IsNamed looked (asked_for t)) (sym same) named)
    (λ (its : x.job.job.address ≡ one.name). subst (λ (t : AskingState). IsNamed looked (asked_for t)) (sym (finds.0 its)) (by_it its x.addresses.known)) own
  where
    by_it : x.job.job.address ≡ one.name → (b : Bool) → AreOfName x.job.job.address (if b then x.addresses else addresses_value x.addresses.first more true more).found looked
    by_it its true = named
    by_it its false = inr record { one = one; there = there; its_name = sym its; first = first }

begun_by : (manner : Manner) (y : AskingState) → BeginsRequest manner (asked_for y) → (x : AskingValue) → show_slot (Some y) ≡ Some x → BeginsRequest manner x
begun_by manner y begun x is = subst (λ (t : AskingValue). BeginsRequest manner t) (some_asked (asked_for y) x is) begun

-- .. and the reply to each may be mannered so
mannered_put : (manner : Manner) (old new : List (Option AskingState)) (i : ℕ) (o : Option AskingState) → Put old new i o
    → ((x : AskingState) → o ≡ Some x → IsMannered manner x) → AreMannered manner old → AreMannered manner new
mannered_put manner old new i o put own before j x is =
    ⊎_elim
    (λ (same : j ≡ i). own x (sym put.here ∙ ap (λ (n : ℕ). slice_index_or new n None) (sym same) ∙ is))
    (λ (other : j ≡ i → ⊥). before j x (sym (put.there j other) ∙ is))
    (cases_eq j i)

some_state : (a b : AskingState) → Some a ≡ Some b → a ≡ b
some_state a b e = cc

none_state : (b : AskingState) → None ≡ Some b → ⊥
none_state b e = cc

-- nothing was written to a stream of it that has not taken a byte
abbrev pub HasUntouched : AskingState → Type 0
HasUntouched y = y.attempt.connected ≡ false → got_by y.attempt.stream ≡ []

mannered_by : (manner : Manner) (y : AskingState) → y.manner ≡ manner → HasUntouched y → (x : AskingState) → Some y ≡ Some x → IsMannered manner x
mannered_by manner y mannered untouched x is = subst (λ (t : AskingState). IsMannered manner t) (some_state y x is) ((mannered, untouched))

-- what holds of a loop with these clients, jobs and ends, the streams that are kept, those that were left, and what was found, whatever streams
-- wait to be closed
abbrev pub Keeps : Manner → List KeptValue → List StreamValue → List FoundValue → LoopValue → List (Option AskingState) → List (AskingState × Option Outcome) → Type 0
Keeps manner kept left looked v asking ended = AsksFairly (whole_loop manner v asking ended (beside kept left [] looked [])) × AreMannered manner asking

-- the clients' side went on with none of them
pub keeps_clients : (manner : Manner) (kept : List KeptValue) (left : List StreamValue) (looked : List FoundValue) (v w : LoopValue) (asking : List (Option AskingState)) (ended : List (AskingState × Option Outcome)) → HandsNothing v w
    → Keeps manner kept left looked v asking ended → Keeps manner kept left looked w asking ended
keeps_clients manner kept left looked v w asking ended hands k =
    (keeps_asking (whole_loop manner v asking ended (beside kept left [] looked [])) (whole_loop manner w asking ended (beside kept left [] looked [])) refl hands refl refl refl refl refl k.0, k.1)

-- the shares before are the same where the stream is, but for its turns
same_shares : (p : SocketAddr → ShareValue → Bool) (o n : Option StreamValue) → option_map without_turns n ≡ option_map without_turns o → count_shares p (option_to_list n) ≡ count_shares p (option_to_list o)
same_shares p o n same = by_it n ∙ ap (λ (k : Option StreamValue). count_shares p (option_to_list k)) same ∙ sym (by_it o)
  where
    by_it : (k : Option StreamValue) → count_shares p (option_to_list k) ≡ count_shares p (option_to_list (option_map without_turns k))
    by_it None = refl
    by_it (Some t) = refl

-- what has to be seen of one that went on
abbrev pub HasSameShares : AskingState → AskingState → Type 0
HasSameShares x y = (p : SocketAddr → ShareValue → Bool) → count_under_way p (Some (asked_for y)) ≡ count_under_way p (Some (asked_for x))

pub shares_stay : (x y : AskingState) → HasStreamsOf (asked_for x) (asked_for y) → HasSameShares x y
shares_stay x y s p = same_shares p (asked_for x).stream (asked_for y).stream s.stream

none_new : (p : SocketAddr → ShareValue → Bool) (o : Option StreamValue) → All IsNew (option_to_list o) → count_shares p (option_to_list o) ≡ 0
none_new p None all = refl
none_new p (Some t) all =
    let one = sum_by-cons (λ (v : StreamValue). count_by (p v.peer) v.before) t [] in
    let none : sum_by (λ (v : StreamValue). count_by (p v.peer) v.before) [] ≡ 0 = refl in
    let new : count_by (p t.peer) t.before ≡ 0 = ap (count_by (p t.peer)) (All-head IsNew t [] all) in
    omega (arith, one, none, new)

pub shares_over : {a b : NetworkValue} (x y : AskingState) → Connects a b (asked_for x) (asked_for y) → HasSameShares x y
shares_over {a} {b} x y connects p =
    ⊎_elim (λ (same : (b ≡ a) × HasStreamsOf (asked_for x) (asked_for y)). shares_stay x y same.1 p)
    (λ (over : (address : SocketAddr) × GoesOver address a b (asked_for x) (asked_for y)).
    let new : count_under_way p (Some (asked_for y)) ≡ 0 = ap (λ (o : Option StreamValue). count_shares p (option_to_list o)) over.1.stream in
    new ∙ sym (none_new p (asked_for x).stream over.1.new))
    connects

-- one of them went on with its job, and what was found for it is of its name
pub keeps_own : (manner : Manner) (kept : List KeptValue) (left : List StreamValue) (looked : List FoundValue) (v : LoopValue) (old new : List (Option AskingState)) (ended : List (AskingState × Option Outcome)) (i : ℕ) (x y : AskingState)
    → slice_index_or old i None ≡ Some x → y.job ≡ x.job → y.manner ≡ x.manner → Put old new i (Some y) → BeginsRequest y.manner (asked_for y) → HasUntouched y → HasSameShares x y → AreOfName y.job.job.address y.addresses.found looked
    → Keeps manner kept left looked v old ended → Keeps manner kept left looked v new ended
keeps_own manner kept left looked v old new ended i x y was job mannered put begun untouched under named k = (
  record {
    results = k.0.results;
    fair = k.0.fair;
    begun = each_put (λ (z : AskingValue). BeginsRequest manner z) old new i (Some y) put (begun_by manner y (subst (λ (m : Manner). BeginsRequest m (asked_for y)) (mannered ∙ (k.1 i x was).0) begun)) k.0.begun;
    found = each_put (IsNamed looked) old new i (Some y) put (named_by looked y named) k.0.found;
    found_ended = k.0.found_ended;
    shared = record {
      shares = λ p.
          let before = k.0.shared.shares p in
          let changed = sum_of_put (count_under_way p) refl old new i (Some x) (Some y) was put in
          let same = under p in
          omega (arith, before, changed, same);
      kept_are = k.0.shared.kept_are;
      left_are = k.0.shared.left_are;
    };
    jobs = λ p.
        let count = count_put p old new i (Some x) (Some y) was put in
        let same : one_asked p (Some y) ≡ one_asked p (Some x) = ap (λ (j : HandedJob). cond (p j.job) 1 0) job in
        let is : sum_by (one_asked p) new ≡ sum_by (one_asked p) old = omega (arith, count, same) in
        k.0.jobs p ∙ ap (λ n. count_by (λ (e : EndedValue). p e.asking.job) (whole_loop manner v old ended (beside kept left [] looked [])).ended + n) (shown_count p old ∙ sym is ∙ sym (shown_count p new));
  },
  mannered_put manner old new i (Some y) put (mannered_by manner y (mannered ∙ (k.1 i x was).0) untouched) k.1,
)

named_at : (manner : Manner) (kept : List KeptValue) (left : List StreamValue) (looked : List FoundValue) (v : LoopValue) (old : List (Option AskingState)) (ended : List (AskingState × Option Outcome)) (i : ℕ) (x : AskingState) → slice_index_or old i None ≡ Some x → Keeps manner kept left looked v old ended
    → AreOfName x.job.job.address x.addresses.found looked
named_at manner kept left looked v old ended i x was k = k.0.found i (asked_for x) (shown_at old i ∙ ap (λ (t : Option AskingState). show_slot t) was)

-- .. with what was found before
pub keeps_put : (manner : Manner) (kept : List KeptValue) (left : List StreamValue) (looked : List FoundValue) (v : LoopValue) (old new : List (Option AskingState)) (ended : List (AskingState × Option Outcome)) (i : ℕ) (x y : AskingState)
    → slice_index_or old i None ≡ Some x → y.job ≡ x.job → y.manner ≡ x.manner → y.addresses.found ≡ x.addresses.found → Put old new i (Some y) → BeginsRequest y.manner (asked_for y) → HasUntouched y → HasSameShares x y
    → Keeps manner kept left looked v old ended → Keeps manner kept left looked v new ended
keeps_put manner kept left looked v old new ended i x y was job mannered found put begun untouched under k =
    keeps_own manner kept left looked v old new ended i x y was job mannered put begun untouched under (named_same looked x y job found (named_at manner kept left looked v old ended i x was k)) k

pub same_streams : (x y : AskingState) → y.tried ≡ x.tried → y.attempt.stream ≡ x.attempt.stream → HasStreamsOf (asked_for x) (asked_for y)
same_streams x y tried stream = record { tried = tried; stream = ap (λ (o : Option StreamValue). option_map without_turns o) stream }

-- .. where more was found for it
pub finds_put : (manner : Manner) (kept : List KeptValue) (left : List StreamValue) (looked : List FoundValue) (v : LoopValue) (old new : List (Option AskingState)) (ended : List (AskingState × Option Outcome)) (i : ℕ) (x y : AskingState)
    → slice_index_or old i None ≡ Some x → y.job ≡ x.job → y.manner ≡ x.manner → (one : FoundValue) (more : List SocketAddr) → (y ≡ x) ⊎ (x.job.job.address ≡ one.name) → Finds one.name more x y → Contains looked one → more ≡ take 32 one.addresses
    → Put old new i (Some y) → BeginsRequest y.manner (asked_for y) → HasUntouched y → HasSameShares x y → Keeps manner kept left looked v old ended → Keeps manner kept left looked v new ended
finds_put manner kept left looked v old new ended i x y was job mannered one more own finds there first put begun untouched under a =
    keeps_own manner kept left looked v old new ended i x y was job mannered put begun untouched under (named_found looked x y one more own finds there first (named_at manner kept left looked v old ended i x was a)) a

-- what is seen of it then
pub found_asked : (name : List ℕ) (more : List SocketAddr) (x y : AskingState) → Finds name more x y → asked_for y ≡ found_asking name more (asked_for x)
found_asked name more x y finds = by_it (bytes_eq name x.job.job.address) refl
  where
    known_by : (b : Bool) → asked_for (record x { addresses = if b then x.addresses else addresses_value x.addresses.first more true more })
        ≡ (if true && not b then record (asked_for x) { known = true; found = more } else asked_for x)
    known_by true = refl
    known_by false = refl

    off_on : {A : Type 0} → false ≡ true → A
    off_on e = absurd (let f : ⊥ = cc in f)

    by_it : (b : Bool) → bytes_eq name x.job.job.address ≡ b → asked_for y ≡ (if b && not x.addresses.known then record (asked_for x) { known = true; found = more } else asked_for x)
    by_it true is = ap asked_for (finds.0 (sym ((bytes_eq-Decides name x.job.job.address).0 is))) ∙ known_by x.addresses.known
    by_it false is = ap asked_for (finds.1 (λ its. off_on (sym is ∙ (bytes_eq-Decides name x.job.job.address).1 (sym its))))

-- where no job waits, nothing was taken
pub takes_none : (manner : Manner) (kept : List KeptValue) (left : List StreamValue) (looked : List FoundValue) (v w : LoopValue) (old new : List (Option AskingState)) (ended : List (AskingState × Option Outcome))
    → w.results ≡ v.results → w.handed ≡ v.handed ++ [] → new ≡ old → Keeps manner kept left looked v old ended → Keeps manner kept left looked w new ended
takes_none manner kept left looked v w old new ended same more slots k =
    subst (λ (now : List (Option AskingState)). Keeps manner kept left looked w now ended) (sym slots) (
      record {
        results = same ∙ k.0.results;
        fair = k.0.fair;
        begun = k.0.begun;
        found = k.0.found;
        found_ended = k.0.found_ended;
        shared = k.0.shared;
        jobs = λ p. ap (count_by p) (more ∙ append-nil v.handed) ∙ k.0.jobs p;
      },
      k.1,
    )

-- a job was taken, and is asked for
pub takes_job : (manner : Manner) (kept : List KeptValue) (left : List StreamValue) (looked : List FoundValue) (v w : LoopValue) (old new : List (Option AskingState)) (ended : List (AskingState × Option Outcome)) (i : ℕ) (y : AskingState) (j : JobValue)
    → w.results ≡ v.results → w.handed ≡ v.handed ++ j ∷ [] → y.job.job ≡ j → y.manner ≡ manner → y.addresses.found ≡ [] → (asked_for y).stream ≡ None → slice_index_or old i None ≡ None → Put old new i (Some y)
    → BeginsRequest y.manner (asked_for y) → HasUntouched y → Keeps manner kept left looked v old ended → Keeps manner kept left looked w new ended
takes_job manner kept left looked v w old new ended i y j same more job mannered none alone free put begun untouched k = (
  record {
    results = same ∙ k.0.results;
    fair = k.0.fair;
    begun = each_put (λ (z : AskingValue). BeginsRequest manner z) old new i (Some y) put (begun_by manner y (subst (λ (m : Manner). BeginsRequest m (asked_for y)) mannered begun)) k.0.begun;
    found = each_put (IsNamed looked) old new i (Some y) put (named_by looked y (inl none)) k.0.found;
    found_ended = k.0.found_ended;
    shared = record {
      shares = λ p.
          let before = k.0.shared.shares p in
          let changed = sum_of_put (count_under_way p) refl old new i None (Some y) free put in
          let fresh : count_under_way p (Some (asked_for y)) ≡ 0 = ap (λ (o : Option StreamValue). count_shares p (option_to_list o)) alone in
          omega (arith, before, changed, fresh);
      kept_are = k.0.shared.kept_are;
      left_are = k.0.shared.left_are;
    };
    jobs = λ p.
        let count = count_put p old new i None (Some y) free put in
        let own : one_asked p (Some y) ≡ cond (p j) 1 0 = ap (λ (k : JobValue). cond (p k) 1 0) job in
        let handed : count_by p w.handed ≡ count_by p v.handed + count_by p (j ∷ []) = ap (count_by p) more ∙ sum_by-append (λ (k : JobValue). cond (p k) 1 0) v.handed (j ∷ []) in
        let one : count_by p (j ∷ []) ≡ cond (p j) 1 0 + 0 = sum_by-cons (λ (k : JobValue). cond (p k) 1 0) j [] in
        let before = k.0.jobs p in
        let shown = shown_count p old in
        let later = shown_count p new in
        omega (arith, count, own, handed, one, before, shown, later);
  },
  mannered_put manner old new i (Some y) put (mannered_by manner y mannered untouched) k.1,
)

-- one stream more was noted
pub left_push : {B : Type 0} (show : B → StreamValue) (left later : List (B × Unit {0})) (b : B) (own : List StreamValue) → later ≡ left ++ (b, tt) ∷ [] → show b ∷ [] ≡ own
    → map (λ (s : B × Unit {0}). show s.0) later ≡ map (λ (s : B × Unit {0}). show s.0) left ++ own
left_push {B} show left later b own is its =
    ap (map (λ (s : B × Unit {0}). show s.0)) is ∙ map-append (λ (s : B × Unit {0}). show s.0) left ((b, tt) ∷ [])
    ∙ ap (λ (l : List StreamValue). map (λ (s : B × Unit {0}). show s.0) left ++ l) its

-- one of them ended, and its result was handed in
pub ends_one : (manner : Manner) (kept : List KeptValue) (left : List StreamValue) (looked : List FoundValue) (v w : LoopValue) (old new : List (Option AskingState)) (ended ended' : List (AskingState × Option Outcome)) (kept' : List KeptValue) (left' gone : List StreamValue) (i : ℕ) (x y : AskingState) (o : Option Outcome) (j : HandedJob)
    → w.results ≡ v.results ++ (j.job, o) ∷ [] → w.handed ≡ v.handed → slice_index_or old i None ≡ Some x → y.job ≡ x.job → y.manner ≡ x.manner → y.addresses.found ≡ x.addresses.found → HasSameShares x y → j ≡ y.job → Put old new i None
    → ended' ≡ ended ++ (y, o) ∷ [] → Parted manner (asked_for y) o gone kept kept' → left' ≡ left ++ gone → IsFair y.manner (ended_value (asked_for y) o) → Keeps manner kept left looked v old ended → Keeps manner kept' left' looked w new ended'
ends_one manner kept left looked v w old new ended ended' kept' left' gone i x y o j results same was job mannered found under own put more parted leaves fair k =
    let show : AskingState × Option Outcome → EndedValue = λ (d : AskingState × Option Outcome). ended_value (asked_for d.0) d.1 in
    let shown : map show ended' ≡ map show ended ++ show (y, o) ∷ [] = ap (map show) more ∙ map-append show ended ((y, o) ∷ []) in
    let pair : EndedValue → JobValue × Option Outcome = λ (e : EndedValue). (e.asking.job, e.outcome) in (
      record {
        results =
            results ∙ ap (λ (l : List (JobValue × Option Outcome)). l ++ (j.job, o) ∷ []) k.0.results
            ∙ ap (λ (k : HandedJob). map pair (map show ended) ++ (k.job, o) ∷ []) own
            ∙ sym (map-append pair (map show ended) (show (y, o) ∷ []))
            ∙ ap (map pair) (sym shown);
        fair =
            subst (All (IsFair manner)) (sym shown)
            (All-push (IsFair manner) (map show ended) (show (y, o)) k.0.fair (subst (λ (f : Manner). IsFair f (show (y, o))) (mannered ∙ (k.1 i x was).0) fair));
        begun = each_put (λ (z : AskingValue). BeginsRequest manner z) old new i None put (λ (z : AskingValue) is. absurd (none_asked z is)) k.0.begun;
        found = each_put (IsNamed looked) old new i None put (λ (z : AskingValue) is. absurd (none_asked z is)) k.0.found;
        found_ended = subst (All (λ (e : EndedValue). IsNamed looked e.asking)) (sym shown)
            (All-push (λ (e : EndedValue). IsNamed looked e.asking) (map show ended) (show (y, o)) k.0.found_ended
            (named_same looked x y job found (k.0.found i (asked_for x) (shown_at old i ∙ ap (λ (t : Option AskingState). show_slot t) was))));
        jobs = λ p.
            let of_ended : EndedValue → Bool = λ (e : EndedValue). p e.asking.job in
            let count = count_put p old new i (Some x) None was put in
            let one : one_asked p (Some x) ≡ cond (p y.job.job) 1 0 = ap (λ (k : HandedJob). cond (p k.job) 1 0) (sym job) in
            let none : one_asked p None ≡ 0 = refl in
            let handed = ap (count_by p) same ∙ k.0.jobs p in
            let total : count_by of_ended (map show ended') ≡ count_by of_ended (map show ended) + count_by of_ended (show (y, o) ∷ []) =
            ap (count_by of_ended) shown ∙ sum_by-append (λ (e : EndedValue). cond (of_ended e) 1 0) (map show ended) (show (y, o) ∷ []) in
            let last : count_by of_ended (show (y, o) ∷ []) ≡ cond (p y.job.job) 1 0 + 0 = sum_by-cons (λ (e : EndedValue). cond (of_ended e) 1 0) (show (y, o)) [] in
            let before = shown_count p old in
            let later = shown_count p new in
            omega (arith, count, one, none, handed, total, last, before, later);
        shared = record {
          shares = λ p.
              let before = k.0.shared.shares p in
              let changed = sum_of_put (count_under_way p) refl old new i (Some x) None was put in
              let alike = under p in
              let total = ap (sum_by (count_own p)) shown ∙ sum_by-append (count_own p) (map show ended) (show (y, o) ∷ []) in
              let last = sum_by-cons (count_own p) (show (y, o)) [] in
              let none : sum_by (count_own p) [] ≡ 0 = refl in
              let its = parted.parts.shares p in
              let stay = ap (λ (t : List KeptValue). count_shares p (kept_streams t)) parted.kept_are ∙ ap (count_shares p) (map-append (λ (t : KeptValue). t.stream) kept parted.stays) ∙ shares_append p (kept_streams kept) (kept_streams parted.stays) in
              let later = ap (count_shares p) leaves ∙ shares_append p left gone in
              omega (arith, before, changed, alike, total, last, none, its, stay, later);
          kept_are = subst (λ (t : List KeptValue). All (IsKept manner) t) (sym parted.kept_are) (All-append (IsKept manner) kept parted.stays k.0.shared.kept_are parted.parts.stay);
          left_are = subst (λ (t : List StreamValue). All (IsLeft manner) t) (sym leaves) (All-append (IsLeft manner) left gone k.0.shared.left_are parted.parts.are_left);
        };
      },
      mannered_put manner old new i None put (λ (z : AskingState) is. absurd (none_state z is)) k.1,
    )

-- streams that were kept are no more
pub keeps_kept : (manner : Manner) (kept kept' : List KeptValue) (left left' gone : List StreamValue) (looked : List FoundValue) (v : LoopValue) (asking : List (Option AskingState)) (ended : List (AskingState × Option Outcome))
    → Moves manner kept kept' gone → left' ≡ left ++ gone → Keeps manner kept left looked v asking ended → Keeps manner kept' left' looked v asking ended
keeps_kept manner kept kept' left left' gone looked v asking ended moved leaves k = (
  record {
    results = k.0.results;
    fair = k.0.fair;
    begun = k.0.begun;
    found = k.0.found;
    found_ended = k.0.found_ended;
    jobs = k.0.jobs;
    shared = record {
      shares = λ p.
          let before = k.0.shared.shares p in
          let its = moved.shares p in
          let later = ap (count_shares p) leaves ∙ shares_append p left gone in
          omega (arith, before, its, later);
      kept_are = moved.stay k.0.shared.kept_are;
      left_are = subst (λ (t : List StreamValue). All (IsLeft manner) t) (sym leaves) (All-append (IsLeft manner) left gone k.0.shared.left_are (moved.are_left k.0.shared.kept_are));
    };
  },
  k.1,
)

-- .. and a job goes over one of them
pub keeps_again : (manner : Manner) (kept kept' : List KeptValue) (left : List StreamValue) (looked : List FoundValue) (v : LoopValue) (old new : List (Option AskingState)) (ended : List (AskingState × Option Outcome)) (i : ℕ) (x y : AskingState) (one : KeptValue) (s : StreamValue)
    → slice_index_or old i None ≡ Some x → y.job ≡ x.job → y.manner ≡ x.manner → y.addresses.found ≡ x.addresses.found → Put old new i (Some y) → BeginsRequest y.manner (asked_for y) → HasUntouched y
    → s ≡ one.stream → GoesOverAgain s (asked_for x) (asked_for y) → Moves manner kept kept' (one.stream ∷ []) → Keeps manner kept left looked v old ended → Keeps manner kept' left looked v new ended
keeps_again manner kept kept' left looked v old new ended i x y one s was job mannered found put begun untouched is again moved k = (
  record {
    results = k.0.results;
    fair = k.0.fair;
    begun = each_put (λ (z : AskingValue). BeginsRequest manner z) old new i (Some y) put (begun_by manner y (subst (λ (m : Manner). BeginsRequest m (asked_for y)) (mannered ∙ (k.1 i x was).0) begun)) k.0.begun;
    found = each_put (IsNamed looked) old new i (Some y) put (named_by looked y (named_same looked x y job found (named_at manner kept left looked v old ended i x was k))) k.0.found;
    found_ended = k.0.found_ended;
    jobs = λ p.
        let count = count_put p old new i (Some x) (Some y) was put in
        let same : one_asked p (Some y) ≡ one_asked p (Some x) = ap (λ (j : HandedJob). cond (p j.job) 1 0) job in
        let is : sum_by (one_asked p) new ≡ sum_by (one_asked p) old = omega (arith, count, same) in
        k.0.jobs p ∙ ap (λ n. count_by (λ (e : EndedValue). p e.asking.job) (whole_loop manner v old ended (beside kept left [] looked [])).ended + n) (shown_count p old ∙ sym is ∙ sym (shown_count p new));
    shared = record {
      shares = λ p.
          let before = k.0.shared.shares p in
          let changed = sum_of_put (count_under_way p) refl old new i (Some x) (Some y) was put in
          let its = moved.shares p in
          let alone : count_under_way p (Some (asked_for x)) ≡ 0 = ap (λ (o : Option StreamValue). count_shares p (option_to_list o)) again.alone in
          let now : count_under_way p (Some (asked_for y)) ≡ count_shares p (one.stream ∷ []) =
          ap (λ (o : Option StreamValue). count_shares p (option_to_list o)) again.stream
          ∙ same_but_turns p again.now one.stream (again.peer ∙ ap (λ (t : StreamValue). t.peer) is) (again.before ∙ ap (λ (t : StreamValue). t.before) is) in
          omega (arith, before, changed, its, alone, now);
      kept_are = moved.stay k.0.shared.kept_are;
      left_are = k.0.shared.left_are;
    };
  },
  mannered_put manner old new i (Some y) put (mannered_by manner y (mannered ∙ (k.1 i x was).0) untouched) k.1,
)
  where
    same_but_turns : (p : SocketAddr → ShareValue → Bool) (t u : StreamValue) → t.peer ≡ u.peer → t.before ≡ u.before → count_shares p (t ∷ []) ≡ count_shares p (u ∷ [])
    same_but_turns p t u peer before =
        ap (λ (a : SocketAddr). count_shares p (stream_value a t.before [] ∷ [])) peer ∙ ap (λ (l : List ShareValue). count_shares p (stream_value u.peer l [] ∷ [])) before

pub starts_fair : (manner : Manner) (looked : List FoundValue) (v : LoopValue) → v.results ≡ [] → v.handed ≡ [] → Keeps manner [] [] looked v [] []
starts_fair manner looked v no_results none_handed = (fair, λ i x is. absurd (none_state x is))
  where
    fair : AsksFairly (whole_loop manner v [] [] (beside [] [] [] looked []))
    fair = record {
      results = no_results;
      fair = All-nil (IsFair manner);
      begun = λ i x is. absurd (none_asked x is);
      found = λ i x is. absurd (none_asked x is);
      found_ended = All-nil (λ (e : EndedValue). IsNamed looked e.asking);
      jobs = λ p. ap (count_by p) none_handed;
      shared = record { shares = λ p. refl; kept_are = All-nil (IsKept manner); left_are = All-nil (IsLeft manner) };
    }

-- .. and whichever those are
pub fair_closing : (manner : Manner) (v : LoopValue) (asking : List (Option AskingState)) (ended : List (AskingState × Option Outcome)) (rest : Beside)
    → AsksFairly (whole_loop manner v asking ended (beside rest.kept rest.left [] rest.looked_up [])) → AsksFairly (whole_loop manner v asking ended rest)
fair_closing manner v asking ended rest a = record { results = a.results; fair = a.fair; begun = a.begun; found = a.found; found_ended = a.found_ended; jobs = a.jobs; shared = a.shared }

-- what was found before stays so where more is
pub fair_found : (manner : Manner) (kept : List KeptValue) (left : List StreamValue) (v : LoopValue) (asking : List (Option AskingState)) (ended : List (AskingState × Option Outcome)) (looked later : List FoundValue) (one : FoundValue) → later ≡ looked ++ one ∷ []
    → Keeps manner kept left looked v asking ended → Keeps manner kept left later v asking ended
fair_found manner kept left v asking ended looked later one is k = (
  record {
    results = k.0.results;
    fair = k.0.fair;
    begun = k.0.begun;
    found = λ i x at. more_found x.job.address x.found (k.0.found i x at);
    found_ended = All-weaker (λ (e : EndedValue). AreOfName e.asking.job.address e.asking.found looked) (λ (e : EndedValue). AreOfName e.asking.job.address e.asking.found later)
        (λ (e : EndedValue) named. more_found e.asking.job.address e.asking.found named) (whole_loop manner v asking ended (beside kept left [] looked [])).ended k.0.found_ended;
    jobs = k.0.jobs;
    shared = k.0.shared;
  },
  k.1,
)
  where
    more_found : (name : List ℕ) (addresses : List SocketAddr) → AreOfName name addresses looked → AreOfName name addresses later
    more_found name addresses named =
        ⊎_elim (λ (none : addresses ≡ []). inl none)
        (λ (f : AreFoundFor name addresses looked). inr record {
          one = f.one;
          there = subst (λ (l : List FoundValue). Contains l f.one) (sym is) (Contains-append_left looked (one ∷ []) f.one f.there);
          its_name = f.its_name;
          first = f.first;
        })
        named
