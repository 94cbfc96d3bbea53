-- What is done to all contexts is done to those of each connection.
use Rattle.std.specs.Prelude.{◌≡◌, ◌∷◌, ◌++◌, ◌==◌, if◌then◌else◌}
use Rattle.gateway_connection.specs.lemmas.Names.{ℕ, refl, sym, ap, ◌∙◌, List, [], Option, Some, None, Bool, true, false, ⊎_elim, map, subst, arith, not, filter, option_or, list_any, cases_Bool, eq-eqb, or_parts, filter-append, CallId, is_call, Trigger, Reached, HungUp, Drained, sym_eqb, ContextsValue, Ended, KeepsOthers, LifeValue, LivesApart, PeerValue, TimedBranch, by_drain, by_hang_up, closed, contexts_value, ended_peer, ending_life, ends_life, ends_of, ends_peer, expires_life, has_ended, is_life, is_over, is_peer, on_branches, opened, others, peer, told, with_branches, without, BringsHooks, DropsHooks, HookedContexts, Stocks, TakesAtMostOne, stock_in, ends_branch, LeavesContexts, LeavesOthers, other_peers, own_calls, own_contexts, own_peers, nat_tests}
use Rattle.std.proofs.lemmas.List.{append-nil}

-- ---- lists, of which some are one's own

module _ {A : Type 0} (number : A → ℕ) (c : ℕ) where
  -- what changes no number is done to one's own, and to the others
  pub own_mapped : (f : A → A) → ((x : A) → number (f x) ≡ number x) → (xs : List A) → filter (λ x. number x == c) (map f xs) ≡ map f (filter (λ x. number x == c) xs)
  own_mapped f same [] = refl
  own_mapped f same (x ∷ xs) = grind (arith, own_mapped f same xs)

  -- what changes one's own alone leaves the others
  pub others_mapped : (f : A → A) → ((x : A) → number (f x) ≡ number x) → ((x : A) → (number x == c) ≡ false → f x ≡ x) → (xs : List A)
      → filter (λ x. not (number x == c)) (map f xs) ≡ filter (λ x. not (number x == c)) xs
  others_mapped f same stays [] = refl
  others_mapped f same stays (x ∷ xs) = grind (arith, others_mapped f same stays xs)

  -- a test that passes one's own alone
  pub own_any : (p : A → Bool) → ((x : A) → (number x == c) ≡ false → p x ≡ false) → (xs : List A) → list_any p (filter (λ x. number x == c) xs) ≡ list_any p xs
  own_any p its_own [] = refl
  own_any p its_own (x ∷ xs) = grind (arith, own_any p its_own xs)

  -- where none of all passes, none of one's own does
  pub own_none : (p : A → Bool) (xs : List A) → list_any p xs ≡ false → list_any p (filter (λ x. number x == c) xs) ≡ false
  own_none p [] none = refl
  own_none p (x ∷ xs) none =
      let two = or_parts (p x) (list_any p xs) none in
      ⊎_elim
      (λ (its : (number x == c) ≡ true). rw (its, two.0) (own_none p xs two.1))
      (λ (far : (number x == c) ≡ false). rw far (own_none p xs two.1))
      (cases_Bool (number x == c))

  -- what leaves all that pass leaves one's own of them
  pub own_filtered : (p : A → Bool) (xs : List A) → filter (λ x. number x == c) (filter p xs) ≡ filter p (filter (λ x. number x == c) xs)
  own_filtered p [] = refl
  own_filtered p (x ∷ xs) = grind (arith, own_filtered p xs)

  -- what lets go of one's own alone leaves the others
  pub others_filtered : (p : A → Bool) → ((x : A) → (number x == c) ≡ false → p x ≡ true) → (xs : List A) → filter (λ x. not (number x == c)) (filter p xs) ≡ filter (λ x. not (number x == c)) xs
  others_filtered p stays [] = refl
  others_filtered p stays (x ∷ xs) = grind (arith, others_filtered p stays xs)

  -- of the others none is one's own
  pub none_own : (xs : List A) → filter (λ x. number x == c) (filter (λ x. not (number x == c)) xs) ≡ []
  none_own [] = refl
  none_own (x ∷ xs) = grind (arith, none_own xs)

  -- those of another number stand among the others
  pub own_others : (d : ℕ) → (d == c) ≡ false → (xs : List A) → filter (λ x. number x == d) (filter (λ x. not (number x == c)) xs) ≡ filter (λ x. number x == d) xs
  own_others d apart [] = refl
  own_others d apart (x ∷ xs) = grind (arith, own_others d apart xs)

-- ---- what is looked up

far_call : (id : CallId) (l : LifeValue) → (l.id.conn == id.conn) ≡ false → is_call l.id id ≡ false
far_call id l far = rw far refl

-- what ended its context
pub peer_own : (new : Ended) (c : ℕ) (ps : List PeerValue) → ended_peer new c (own_peers c ps) ≡ ended_peer new c ps
peer_own new c [] = refl
peer_own new c (p ∷ ps) = grind (arith, peer_own new c ps)

pub ends_own : (c : ℕ) (v : ContextsValue) → ends_of (own_contexts c v) c ≡ ends_of v c
ends_own c v = peer_own (by_drain v.drained) c v.conns

pub is_peer_own : (c : ℕ) (v : ContextsValue) → is_peer c (own_contexts c v).conns ≡ is_peer c v.conns
is_peer_own c v = own_any (λ (p : PeerValue). p.number) c (λ (p : PeerValue). p.number == c) (λ p far. far) v.conns

pub is_life_own : (id : CallId) (v : ContextsValue) → is_life id (own_contexts id.conn v).calls ≡ is_life id v.calls
is_life_own id v = own_any (λ (l : LifeValue). l.id.conn) id.conn (λ (l : LifeValue). is_call l.id id) (far_call id) v.calls

pub has_ended_own : (id : CallId) (v : ContextsValue) → list_any (has_ended id) (own_contexts id.conn v).calls ≡ list_any (has_ended id) v.calls
has_ended_own id v = own_any (λ (l : LifeValue). l.id.conn) id.conn (has_ended id) (λ l far. rw far refl) v.calls

pub ending_own : (moment : ℕ) (id : CallId) (v : ContextsValue) → ending_life moment id (own_contexts id.conn v).calls ≡ ending_life moment id v.calls
ending_own moment id v = by v.calls
  where
    by : (ls : List LifeValue) → ending_life moment id (own_calls id.conn ls) ≡ ending_life moment id ls
    by [] = refl
    by (l ∷ ls) = ⊎_elim
        (λ (its : (l.id.conn == id.conn) ≡ true). ⊎_elim
        (λ (y : (l.id.request == id.request) ≡ true). rw (its, its, y) refl)
        (λ (n : (l.id.request == id.request) ≡ false). rw (its, its, n) (by ls))
        (cases_Bool (l.id.request == id.request)))
        (λ (far : (l.id.conn == id.conn) ≡ false). rw far (by ls))
        (cases_Bool (l.id.conn == id.conn))

-- where none of all is over, none of its own is
pub none_over_own : (c : ℕ) (v : ContextsValue) → list_any is_over v.calls ≡ false → list_any is_over (own_contexts c v).calls ≡ false
none_over_own c v none = own_none (λ (l : LifeValue). l.id.conn) c is_over v.calls none

-- no two of its own are of one call
pub apart_own : (c : ℕ) (v : ContextsValue) → LivesApart v.calls → LivesApart (own_contexts c v).calls
apart_own c v apart = by v.calls apart
  where
    by : (ls : List LifeValue) → LivesApart ls → LivesApart (own_calls c ls)
    by [] all = all
    by (l ∷ ls) all = ⊎_elim
        (λ (its : (l.id.conn == c) ≡ true). rw its (own_none (λ (m : LifeValue). m.id.conn) c (λ m. is_call m.id l.id) ls all.0, by ls all.1))
        (λ (far : (l.id.conn == c) ≡ false). rw far (by ls all.1))
        (cases_Bool (l.id.conn == c))

-- ---- what is done to them

own_pushed : {A : Type 0} (p : A → Bool) (xs : List A) (x : A) → p x ≡ true → filter p (xs ++ x ∷ []) ≡ filter p xs ++ x ∷ []
own_pushed p xs x y = filter-append p xs (x ∷ []) ∙ rw y refl

others_pushed : {A : Type 0} (p : A → Bool) (xs : List A) (x : A) → p x ≡ false → filter p (xs ++ x ∷ []) ≡ filter p xs
others_pushed p xs x n = filter-append p xs (x ∷ []) ∙ rw n (append-nil (filter p xs))

pub opened_own : (c : ℕ) (v : ContextsValue) → own_contexts c (opened c v) ≡ opened c (own_contexts c v)
opened_own c v = ap (λ ps. contexts_value v.drained ps (own_calls c v.calls)) (own_pushed (λ (p : PeerValue). p.number == c) v.conns (peer c (by_drain v.drained)) (eq-eqb c c refl))

pub told_own : (t : Trigger) (c : ℕ) (v : ContextsValue) → own_contexts c (told t v) ≡ told t (own_contexts c v)
told_own (Reached now) c v = ap (contexts_value v.drained (own_peers c v.conns)) (own_mapped (λ (l : LifeValue). l.id.conn) c (expires_life now) (λ l. refl) v.calls)
told_own (HungUp n) c v =
    ap (λ ps. contexts_value v.drained ps (own_calls c (map (λ l. ends_life (by_hang_up (l.id.conn == n)) l) v.calls)))
    (own_mapped (λ (p : PeerValue). p.number) c (λ p. ends_peer (by_hang_up (p.number == n)) p) (λ p. refl) v.conns)
    ∙ ap (contexts_value v.drained (map (λ p. ends_peer (by_hang_up (p.number == n)) p) (own_peers c v.conns)))
    (own_mapped (λ (l : LifeValue). l.id.conn) c (λ l. ends_life (by_hang_up (l.id.conn == n)) l) (λ l. refl) v.calls)
told_own Drained c v =
    ap (λ ps. contexts_value true ps (own_calls c (map (λ l. ends_life (by_drain true) l) v.calls)))
    (own_mapped (λ (p : PeerValue). p.number) c (λ p. ends_peer (by_drain true) p) (λ p. refl) v.conns)
    ∙ ap (contexts_value true (map (λ p. ends_peer (by_drain true) p) (own_peers c v.conns)))
    (own_mapped (λ (l : LifeValue). l.id.conn) c (λ l. ends_life (by_drain true) l) (λ l. refl) v.calls)

same_number : (id : CallId) (f : LifeValue → List TimedBranch) (l : LifeValue) → (if is_call l.id id then with_branches (f l) l else l).id.conn ≡ l.id.conn
same_number id f l = grind arith

pub branches_own : (c : ℕ) (id : CallId) (f : LifeValue → List TimedBranch) (v : ContextsValue) → own_contexts c (on_branches id f v) ≡ on_branches id f (own_contexts c v)
branches_own c id f v = ap (contexts_value v.drained (own_peers c v.conns))
    (own_mapped (λ (l : LifeValue). l.id.conn) c (λ l. if is_call l.id id then with_branches (f l) l else l) (same_number id f) v.calls)

pub without_own : (c : ℕ) (id : CallId) (v : ContextsValue) → own_contexts c (without id v) ≡ without id (own_contexts c v)
without_own c id v = ap (contexts_value v.drained (own_peers c v.conns)) (own_filtered (λ (l : LifeValue). l.id.conn) c (λ l. not (is_call l.id id)) v.calls)

-- once a connection is closed, nothing is its own
pub closed_own : (c : ℕ) (v : ContextsValue) → own_contexts c (closed c v) ≡ contexts_value v.drained [] []
closed_own c v =
    ap (λ ps. contexts_value v.drained ps (own_calls c (others c v.calls))) (none_own (λ (p : PeerValue). p.number) c v.conns)
    ∙ ap (contexts_value v.drained []) (none_own (λ (l : LifeValue). l.id.conn) c v.calls)

-- ---- what it leaves

pub leaves_none : (c : ℕ) (v : ContextsValue) → LeavesContexts c v v
leaves_none c v = record { drained_is = refl; conns_are = refl; calls_are = refl }

pub leaves_then : (c : ℕ) (u v w : ContextsValue) → LeavesContexts c u v → LeavesContexts c v w → LeavesContexts c u w
leaves_then c u v w a b = record { drained_is = b.drained_is ∙ a.drained_is; conns_are = b.conns_are ∙ a.conns_are; calls_are = b.calls_are ∙ a.calls_are }

-- another connection's own are as they were
pub own_left : (c d : ℕ) (v w : ContextsValue) → (d == c) ≡ false → LeavesContexts c v w → own_contexts d w ≡ own_contexts d v
own_left c d v w apart leaves =
    ap (λ b. contexts_value b (own_peers d w.conns) (own_calls d w.calls)) leaves.drained_is
    ∙ ap (λ ps. contexts_value v.drained ps (own_calls d w.calls)) (sym (own_others (λ (p : PeerValue). p.number) c d apart w.conns) ∙ ap (own_peers d) leaves.conns_are ∙ own_others (λ (p : PeerValue). p.number) c d apart v.conns)
    ∙ ap (contexts_value v.drained (own_peers d v.conns)) (sym (own_others (λ (l : LifeValue). l.id.conn) c d apart w.calls) ∙ ap (own_calls d) leaves.calls_are ∙ own_others (λ (l : LifeValue). l.id.conn) c d apart v.calls)

pub keeps_leaves : (c : ℕ) (v w : ContextsValue) → KeepsOthers c v w → LeavesContexts c v w
keeps_leaves c v w keeps = record { drained_is = keeps.drained_is; conns_are = ap (other_peers c) keeps.conns_are; calls_are = keeps.others_are }

pub opened_leaves : (c : ℕ) (v : ContextsValue) → LeavesContexts c v (opened c v)
opened_leaves c v = grind (arith, nat_tests, others_pushed, eq-eqb)

pub without_leaves : (id : CallId) (v : ContextsValue) → LeavesContexts id.conn v (without id v)
without_leaves id v = record {
  drained_is = refl;
  conns_are = refl;
  calls_are = others_filtered (λ (l : LifeValue). l.id.conn) id.conn (λ l. not (is_call l.id id)) (λ l far. ap not (far_call id l far)) v.calls;
}

pub closed_leaves : (c : ℕ) (v : ContextsValue) → LeavesContexts c v (closed c v)
closed_leaves c v = record {
  drained_is = refl;
  conns_are = others_filtered (λ (p : PeerValue). p.number) c (λ p. not (p.number == c)) (λ p far. ap not far) v.conns;
  calls_are = others_filtered (λ (l : LifeValue). l.id.conn) c (λ l. not (l.id.conn == c)) (λ l far. ap not far) v.calls;
}

-- a hang-up is told to its connection alone
pub hung_leaves : (c : ℕ) (v : ContextsValue) → LeavesContexts c v (told (HungUp c) v)
hung_leaves c v = record {
  drained_is = refl;
  conns_are = others_mapped (λ (p : PeerValue). p.number) c (λ p. ends_peer (by_hang_up (p.number == c)) p) (λ p. refl)
      (λ p far. ap (λ b. ends_peer (by_hang_up b) p) far ∙ ap (λ e. peer p.number e) (or_nothing p.ended)) v.conns;
  calls_are = others_mapped (λ (l : LifeValue). l.id.conn) c (λ l. ends_life (by_hang_up (l.id.conn == c)) l) (λ l. refl)
      (λ l far. ap (λ b. ends_life (by_hang_up b) l) far ∙ life_stays l) v.calls;
}
  where
    or_nothing : {A : Type 0} (o : Option A) → option_or o None ≡ o
    or_nothing None = refl
    or_nothing (Some a) = refl

    branches_stay : (bs : List TimedBranch) → map (ends_branch None) bs ≡ bs
    branches_stay [] = refl
    branches_stay (b ∷ bs) = ap (λ e. record { branch = b.branch; deadline = b.deadline; ended = e } ∷ map (ends_branch None) bs) (or_nothing b.ended) ∙ ap (λ xs. b ∷ xs) (branches_stay bs)

    life_stays : (l : LifeValue) → ends_life None l ≡ l
    life_stays l =
        ap (λ e. record { id = l.id; deadline = l.deadline; request_id = l.request_id; ended = e; branches = map (ends_branch None) l.branches }) (or_nothing l.ended)
        ∙ ap (λ bs. with_branches bs l) (branches_stay l.branches)

-- ---- with the hooks

module _ {H : Type 0} where
  pub others_same : (c : ℕ) (v w : HookedContexts H) → LeavesContexts c v.standing w.standing → w.stocks ≡ v.stocks → LeavesOthers c v w
  others_same c v w leaves same = record { contexts = leaves; stocks = λ d stock apart is. ap (stock_in d) (sym same) ∙ is }

  pub others_taken : (c : ℕ) (v w : HookedContexts H) → LeavesContexts c v.standing w.standing → TakesAtMostOne c v w → LeavesOthers c v w
  others_taken c v w leaves takes = grind arith

  -- a connection's stock is dropped
  pub dropped_in : (c d : ℕ) (ss : Stocks H) → (d == c) ≡ false → stock_in d (filter (λ s. not (s.0 == c)) ss) ≡ stock_in d ss
  dropped_in c d [] far = refl
  dropped_in c d (s ∷ ss) far = grind (arith, dropped_in c d ss far)

  pub others_closed : (c : ℕ) (v w : HookedContexts H) → w.standing ≡ closed c v.standing → DropsHooks c v w → LeavesOthers c v w
  others_closed c v w is drops = record {
    contexts = subst (LeavesContexts c v.standing) (sym is) (closed_leaves c v.standing);
    stocks = λ d stock apart it. sym (dropped_in c d v.stocks apart) ∙ ap (stock_in d) (sym drops.stocks_are) ∙ it;
  }

  -- a connection brings its hooks
  pub brought_in : (c d : ℕ) (stock : List H) (ss : Stocks H) → (d == c) ≡ false → stock_in d (ss ++ (c, stock) ∷ []) ≡ stock_in d ss
  brought_in c d stock [] far = rw (sym_eqb c d ∙ far) refl
  brought_in c d stock (s ∷ ss) far = ap (λ o. if s.0 == d then Some s.1 else o) (brought_in c d stock ss far)

  pub others_opened : (c : ℕ) (stock : List H) (v w : HookedContexts H) → w.standing ≡ opened c v.standing → BringsHooks c stock v w → LeavesOthers c v w
  others_opened c stock v w is brings = grind (arith, nat_tests, opened_leaves, brought_in)

  pub others_none : (c : ℕ) (v : HookedContexts H) → LeavesOthers c v v
  others_none c v = record { contexts = leaves_none c v.standing; stocks = λ d stock apart is. is }

  pub others_then : (c : ℕ) (u v w : HookedContexts H) → LeavesOthers c u v → LeavesOthers c v w → LeavesOthers c u w
  others_then c u v w a b = record { contexts = leaves_then c u.standing v.standing w.standing a.contexts b.contexts; stocks = λ d stock apart is. a.stocks d stock apart (b.stocks d stock apart is) }
