-- The contexts when what may end them is told.
use Rattle.gateway_replies.proofs.Names.{◌≡◌, ℕ, refl, sym, ap, ◌∙◌, List, [], ◌∷◌, Option, Some, None, Bool, true, false, ⊎_elim, subst, map, arith, rules, is_some, IfSome, ◌&&◌, ◌==◌, All, is_none, nat_le, option_map, list_any, option_map_or, option_or, All-cons, All-head, All-map, All-nil, All-tail, All-weaker, Given, and_from, and_parts, cases_Bool, or_cases, or_from, or_left, or_parts, or_right, eqb-true, same_Some, Id, same, AreNoSooner, IsNoSooner, has_deadline, ended_call, ends_branch, ends_call, ends_conn, ended_branch, expires_branch, expires_call, if_cancelled, expired as standing_expired, cancelled as standing_cancelled, all_ended as standing_ended, CallId, is_call, is_due, HangUp, Drain, names_in, AllContexts, NoTwo, OnPeer, life_of, same_id, IsNotDue, CallContext, ConnContext, Ended, by_drain, by_hang_up, contexts_of, ContextsValue, IsTied, LifeValue, Peers, TimedBranch, contexts_value, ctx_of, ending_life, ends_life, event_of, expires_life, ends_peer, first_life, has_due, is_peer, peers_of, told, lives_of, nat_tests}
use Rattle.context_tree.specs.Tree.{IsNotAfter}
use Rattle.gateway_theory.specs.declared.trigger.Trigger.TheVariants.{Reached, HungUp, Drained}
use Rattle.gateway_replies.proofs.ListLemmas.{due_same, same_itself}
use Rattle.gateway_replies.proofs.PlaceLemmas.{rise_apart}
use Rattle.gateway_replies.proofs.PeerLemmas.{lives_stay, not_in, peers_drained, peers_hung, peers_stay, two_apart}

conns_told : (g : ConnContext → Ended) (cs : List ConnContext) → map (λ (c : ConnContext). c.id) (map (λ (c : ConnContext). ends_conn (g c) c) cs) ≡ map (λ (c : ConnContext). c.id) cs
conns_told g [] = refl
conns_told g (c ∷ cs) = ap (λ ids. c.id ∷ ids) (conns_told g cs)

-- a branch that has not ended has this deadline, or one that the moment has reached
abbrev pub any_at : ℕ → List TimedBranch → Bool
any_at at bs = list_any (λ (b : TimedBranch). is_none b.ended && (b.deadline == at)) bs

abbrev pub any_due : ℕ → List TimedBranch → Bool
any_due moment bs = list_any (λ (b : TimedBranch). is_none b.ended && nat_le b.deadline moment) bs

-- where none has one, no call or branch has a deadline that the moment has reached
pub not_one_due : (moment : ℕ) (ls : List LifeValue) → All (IsNotDue moment) ls → list_any (has_due moment) ls ≡ false
not_one_due moment [] all = refl
not_one_due moment (l ∷ ls) all =
    let here : IsNotDue moment l = All-head (IsNotDue moment) l ls all in
    or_from (has_due moment l) (list_any (has_due moment) ls)
    (or_from (is_none l.ended && is_due moment l.deadline) (list_any (λ (b : TimedBranch). is_none b.ended && nat_le b.deadline moment) l.branches)
    (gone_or l.ended (is_due moment l.deadline) here.call) (each l.branches here.each))
    (not_one_due moment ls (All-tail (IsNotDue moment) l ls all))
  where
    gone_or : (o : Ended) (b : Bool) → (o ≡ None → b ≡ false) → (is_none o && b) ≡ false
    gone_or None b on = on refl
    gone_or (Some e) b on = refl

    each : (bs : List TimedBranch) → All (λ (b : TimedBranch). b.ended ≡ None → nat_le b.deadline moment ≡ false) bs
        → list_any (λ (b : TimedBranch). is_none b.ended && nat_le b.deadline moment) bs ≡ false
    each [] all = refl
    each (b ∷ bs) all = or_from (is_none b.ended && nat_le b.deadline moment) (list_any (λ (b : TimedBranch). is_none b.ended && nat_le b.deadline moment) bs)
        (gone_or b.ended (nat_le b.deadline moment) (All-head (λ (b : TimedBranch). b.ended ≡ None → nat_le b.deadline moment ≡ false) b bs all))
        (each bs (All-tail (λ (b : TimedBranch). b.ended ≡ None → nat_le b.deadline moment ≡ false) b bs all))

module _ {V : Type 0} where
  -- told what may end it, a context stays that of its call, and of its connection
  abbrev pub Stays : (CallContext V → CallContext V) → Type 0
  Stays f = (c : CallContext V) → ((f c).name ≡ c.name) × ((f c).conn ≡ c.conn)

  pub names_stay : (f : CallContext V → CallContext V) → Stays f → (cs : List (CallContext V)) → names_in (map f cs) ≡ names_in cs
  names_stay f same_there [] = refl
  names_stay f same_there (c ∷ cs) = ap (λ i. i ∷ names_in (map f cs)) (same_there c).0 ∙ ap (λ is. c.name ∷ is) (names_stay f same_there cs)

  ids_stay : (f : CallContext V → CallContext V) → Stays f → (cs : List (CallContext V)) → NoTwo same_id cs → NoTwo same_id (map f cs)
  ids_stay f same_there [] apart = tt
  ids_stay f same_there (c ∷ cs) apart = (others cs apart.0, ids_stay f same_there cs apart.1)
    where
      others : (ds : List (CallContext V)) → list_any (same_id c) ds ≡ false → list_any (same_id (f c)) (map f ds) ≡ false
      others [] none = refl
      others (d ∷ ds) none =
          let two = or_parts (is_call d.name c.name) (list_any (same_id c) ds) none in
          or_from (is_call (f d).name (f c).name) (list_any (same_id (f c)) (map f ds))
          (ap (λ k. is_call k (f c).name) (same_there d).0 ∙ ap (is_call d.name) (same_there c).0 ∙ two.0) (others ds two.1)

  -- what becomes of each context becomes of its call
  lives_told : (text : V → List ℕ) (ps : Peers) (cs : List (CallContext V)) (f : CallContext V → CallContext V) (h : LifeValue → LifeValue)
      → ((c : CallContext V) → OnPeer ps c → life_of text (f c) ≡ h (life_of text c)) → All (OnPeer ps) cs
      → lives_of text (map f cs) ≡ map h (lives_of text cs)
  lives_told text ps [] f h each tied = refl
  lives_told text ps (c ∷ cs) f h each tied = search (arith, nat_tests, lives_told text ps cs f h each, All-head, All-tail)

  pub told_tied : (ps : Peers) (v w : AllContexts V) (f : CallContext V → CallContext V) → Stays f → w.drained ≡ by_drain (is_some w.drained) → w.calls ≡ map f v.calls
      → map (λ (c : ConnContext). c.id) w.conns ≡ map (λ (c : ConnContext). c.id) v.conns → IsTied ps v → IsTied ps w
  told_tied ps v w f same_there drained_is calls_is conns_is tied = record {
    drained_is = drained_is;
    conns_are = conns_is ∙ tied.conns_are;
    calls_are = subst (All (OnPeer ps)) (sym calls_is) (All-map (OnPeer ps) f v.calls (All-weaker (OnPeer ps) (λ c. OnPeer ps (f c))
        (λ c at. ap (λ k. ctx_of k.conn ps) (same_there c).0 ∙ at ∙ ap (λ x. Some x) (sym (same_there c).1)) v.calls tied.calls_are));
    numbers_rise = tied.numbers_rise;
    contexts_apart = tied.contexts_apart;
    calls_apart = subst (NoTwo same_id) (sym calls_is) (ids_stay f same_there v.calls tied.calls_apart);
  }

  -- a drain is what all were drained for
  pub drained_by : (ps : Peers) (v w : AllContexts V) → w ≡ standing_ended Drain v → IsTied ps v → w.drained ≡ by_drain (is_some w.drained)
  drained_by ps v w w_is tied = grind arith

  -- it stays what it was
  pub drained_stays : (ps : Peers) (v w : AllContexts V) → w.drained ≡ v.drained → IsTied ps v → w.drained ≡ by_drain (is_some w.drained)
  drained_stays ps v w same_drained tied = same_drained ∙ tied.drained_is ∙ ap (λ d. by_drain (is_some d)) (sym same_drained)

  pub reached_value : (text : V → List ℕ) (ps : Peers) (v w : AllContexts V) (u : ContextsValue) (now : ℕ) → w ≡ standing_expired now v → IsTied ps v
      → contexts_of text ps v ≡ u → contexts_of text ps w ≡ told (Reached now) u
  reached_value text ps v w u now w_is tied u_is = ap (contexts_of text ps) w_is
      ∙ ap (contexts_value (is_some v.drained) (peers_of ps v.conns))
      (lives_told text ps v.calls (expires_call now) (expires_life now)
      (λ c is. ap (λ e. record { id = c.name; deadline = c.deadline; request_id = option_map text c.request_id; ended = option_or c.ended e; branches = map (λ (b : TimedBranch). expires_branch now (ends_branch e b)) c.branches })
      (due_same now c.deadline)) tied.calls_are)
      ∙ ap (told (Reached now)) u_is

  pub hung_value : (text : V → List ℕ) (ps : Peers) (v w : AllContexts V) (u : ContextsValue) (number : ℕ) (x : Id) → w ≡ standing_cancelled x HangUp v → IsTied ps v
      → ctx_of number ps ≡ Some x → contexts_of text ps v ≡ u → contexts_of text ps w ≡ told (HungUp number) u
  hung_value text ps v w u number x w_is tied is u_is = ap (contexts_of text ps) w_is
      ∙ ap (λ cs. contexts_value (is_some v.drained) cs (lives_of text (map (λ c. ends_call (if_cancelled (same c.conn x) HangUp) c) v.calls)))
      (peers_hung number x ps v.conns tied.conns_are is (rise_apart ps tied.numbers_rise) tied.contexts_apart)
      ∙ ap (contexts_value (is_some v.drained) (map (λ p. ends_peer (by_hang_up (p.number == number)) p) (peers_of ps v.conns)))
      (lives_told text ps v.calls (λ c. ends_call (if_cancelled (same c.conn x) HangUp) c) (λ l. ends_life (by_hang_up (l.id.conn == number)) l)
      (λ c at. ap (λ e. ends_life e (life_of text c)) (ap by_hang_up (its c.name.conn c.conn at))) tied.calls_are)
      ∙ ap (told (HungUp number)) u_is
    where
      its : (m : ℕ) (y : Id) → ctx_of m ps ≡ Some y → same y x ≡ (m == number)
      its m y at = ⊎_elim
          (λ (e : (m == number) ≡ true). ap (λ z. same z x) (same_Some y x (sym at ∙ ap (λ k. ctx_of k ps) (eqb-true m number e) ∙ is)) ∙ same_itself x ∙ sym e)
          (λ (n : (m == number) ≡ false). two_apart m number ps y x tied.contexts_apart at is n ∙ sym n)
          (cases_Bool (m == number))

  pub drained_value : (text : V → List ℕ) (ps : Peers) (v w : AllContexts V) (u : ContextsValue) → w ≡ standing_ended Drain v → IsTied ps v
      → contexts_of text ps v ≡ u → contexts_of text ps w ≡ told Drained u
  drained_value text ps v w u w_is tied u_is = ap (contexts_of text ps) w_is
      ∙ ap (λ b. contexts_value b (peers_of ps (map (ends_conn (Some (Given Drain))) v.conns)) (lives_of text (map (λ c. ends_call (Some (Given Drain)) c) v.calls))) (is_there v.drained)
      ∙ ap (λ cs. contexts_value true cs (lives_of text (map (λ c. ends_call (Some (Given Drain)) c) v.calls))) (peers_drained ps v.conns)
      ∙ ap (contexts_value true (map (λ p. ends_peer (by_drain true) p) (peers_of ps v.conns)))
      (lives_told text ps v.calls (λ c. ends_call (Some (Given Drain)) c) (λ l. ends_life (by_drain true) l) (λ c at. refl) tied.calls_are)
      ∙ ap (told Drained) u_is
    where
      is_there : (d : Ended) → is_some (option_or d (Some (Given Drain))) ≡ true
      is_there None = refl
      is_there (Some e) = refl

  -- of a connection that is not there there is nothing to tell
  pub untold_value : (text : V → List ℕ) (ps : Peers) (v : AllContexts V) (u : ContextsValue) (number : ℕ) → IsTied ps v → ctx_of number ps ≡ None
      → contexts_of text ps v ≡ u → u ≡ told (HungUp number) u
  untold_value text ps v u number tied none u_is =
      let no_peer : is_peer number u.conns ≡ false = ap (λ (y : ContextsValue). is_peer number y.conns) (sym u_is) ∙ not_in number ps v.conns none in
      let no_life : first_life number u.calls ≡ None = ap (λ (y : ContextsValue). first_life number y.calls) (sym u_is) ∙ no_first v.calls tied.calls_are in
      ap (λ cs. contexts_value u.drained cs u.calls) (sym (peers_stay number u.conns no_peer))
      ∙ ap (contexts_value u.drained (map (λ p. ends_peer (by_hang_up (p.number == number)) p) u.conns)) (sym (lives_stay number u.calls no_life))
    where
      no_first : (cs : List (CallContext V)) → All (OnPeer ps) cs → first_life number (lives_of text cs) ≡ None
      no_first [] tied = refl
      no_first (c ∷ cs) tied = ⊎_elim
          (λ (y : (c.name.conn == number) ≡ true). let bad : None ≡ Some c.conn = sym none ∙ ap (λ k. ctx_of k ps) (sym (eqb-true c.name.conn number y)) ∙ All-head (OnPeer ps) c cs tied in cc)
          (λ (n : (c.name.conn == number) ≡ false). rw n (no_first cs (All-tail (OnPeer ps) c cs tied)))
          (cases_Bool (c.name.conn == number))

  pub conns_ended : (w : AllContexts V) (g : ConnContext → Ended) (cs : List ConnContext) → w.conns ≡ map (λ (c : ConnContext). ends_conn (g c) c) cs
      → map (λ (c : ConnContext). c.id) w.conns ≡ map (λ (c : ConnContext). c.id) cs
  conns_ended w g cs is = ap (map (λ (c : ConnContext). c.id)) is ∙ conns_told g cs

  -- the event by which a call ends, as its contexts tell it
  pub life_ended : (text : V → List ℕ) (moment : ℕ) (cs : List (CallContext V)) (id : CallId) → event_of moment (ended_call id cs) (ended_branch id cs) ≡ ending_life moment id (lives_of text cs)
  life_ended text moment [] id = refl
  life_ended text moment (c ∷ cs) id = grind (arith, life_ended text moment cs id)

  -- where the least deadline is not reached, none is
  pub none_due : (text : V → List ℕ) (cs : List (CallContext V)) (moment : ℕ) (first : Option ℕ) → option_map_or (λ at. nat_le at moment) first false ≡ false
      → All (IsNoSooner first) cs → All (AreNoSooner first) cs → All (IsNotDue moment) (lives_of text cs)
  none_due text [] moment first low all branches = All-nil (IsNotDue moment)
  none_due text (c ∷ cs) moment first low all branches = All-cons (IsNotDue moment) (life_of text c) (lives_of text cs)
      (record {
        call = λ on. by c.deadline refl on;
        each = All-weaker (λ (b : TimedBranch). b.ended ≡ None → IsNotAfter first b.deadline) (λ (b : TimedBranch). b.ended ≡ None → nat_le b.deadline moment ≡ false)
            (λ b after on. later first b.deadline low (after on)) c.branches (All-head (AreNoSooner first) c cs branches);
      })
      (none_due text cs moment first low (All-tail (IsNoSooner first) c cs all) (All-tail (AreNoSooner first) c cs branches))
    where
      later : (o : Option ℕ) (at : ℕ) → option_map_or (λ a. nat_le a moment) o false ≡ false → IsNotAfter o at → nat_le at moment ≡ false
      later None at none after = absurd after
      later (Some a) at none after = grind (arith, none, after)

      by : (d : Option ℕ) → c.deadline ≡ d → c.ended ≡ None → is_due moment d ≡ false
      by None d_is on = refl
      by (Some at) d_is on = later first at low (All-head (IsNoSooner first) c cs all at on d_is)

  -- where it is reached, the call or the branch is due that has it
  is_reached : (moment at : ℕ) (c : CallContext V) (text : V → List ℕ) → nat_le at moment ≡ true → has_deadline at c ≡ true → has_due moment (life_of text c) ≡ true
  is_reached moment at c text low has = ⊎_elim
      (λ (own : (is_none c.ended && option_map_or (λ d. d == at) c.deadline false) ≡ true).
      let two = and_parts (is_none c.ended) (option_map_or (λ d. d == at) c.deadline false) own in
      or_left (is_none c.ended && is_due moment c.deadline) (any_due moment c.branches) (and_from (is_none c.ended) (is_due moment c.deadline) two.0 (by c.deadline two.1)))
      (λ (one : any_at at c.branches ≡ true). or_right (is_none c.ended && is_due moment c.deadline) (any_due moment c.branches) (each c.branches one))
      (or_cases (is_none c.ended && option_map_or (λ d. d == at) c.deadline false) (any_at at c.branches) has)
    where
      same_low : (d : ℕ) → (d == at) ≡ true → nat_le d moment ≡ true
      same_low d is = grind (arith, rules, low, is)

      by : (o : Option ℕ) → option_map_or (λ d. d == at) o false ≡ true → is_due moment o ≡ true
      by None is = cc
      by (Some d) is = same_low d is

      each : (bs : List TimedBranch) → any_at at bs ≡ true → any_due moment bs ≡ true
      each [] one = cc
      each (b ∷ bs) one = ⊎_elim
          (λ (here : (is_none b.ended && (b.deadline == at)) ≡ true).
          let two = and_parts (is_none b.ended) (b.deadline == at) here in
          or_left (is_none b.ended && nat_le b.deadline moment) (any_due moment bs) (and_from (is_none b.ended) (nat_le b.deadline moment) two.0 (same_low b.deadline two.1)))
          (λ (there : any_at at bs ≡ true). or_right (is_none b.ended && nat_le b.deadline moment) (any_due moment bs) (each bs there))
          (or_cases (is_none b.ended && (b.deadline == at)) (any_at at bs) one)

  some_due : (text : V → List ℕ) (cs : List (CallContext V)) (moment at : ℕ) → nat_le at moment ≡ true → list_any (has_deadline at) cs ≡ true → list_any (has_due moment) (lives_of text cs) ≡ true
  some_due text [] moment at low has = cc
  some_due text (c ∷ cs) moment at low has = ⊎_elim
      (λ (here : has_deadline at c ≡ true). or_left (has_due moment (life_of text c)) (list_any (has_due moment) (lives_of text cs)) (is_reached moment at c text low here))
      (λ (there : list_any (has_deadline at) cs ≡ true). or_right (has_due moment (life_of text c)) (list_any (has_due moment) (lives_of text cs)) (some_due text cs moment at low there))
      (or_cases (has_deadline at c) (list_any (has_deadline at) cs) has)

  -- the moment has reached the least deadline where it has reached one
  pub due_is : (text : V → List ℕ) (cs : List (CallContext V)) (moment : ℕ) (first : Option ℕ)
      → All (IsNoSooner first) cs → All (AreNoSooner first) cs → IfSome first (λ at. list_any (has_deadline at) cs ≡ true)
      → option_map_or (λ at. nat_le at moment) first false ≡ list_any (has_due moment) (lives_of text cs)
  due_is text cs moment None all branches its = sym (not_one_due moment (lives_of text cs) (none_due text cs moment None refl all branches))
  due_is text cs moment (Some at) all branches its = ⊎_elim
      (λ (low : nat_le at moment ≡ true). low ∙ sym (some_due text cs moment at low its))
      (λ (high : nat_le at moment ≡ false). high ∙ sym (not_one_due moment (lives_of text cs) (none_due text cs moment (Some at) high all branches)))
      (cases_Bool (nat_le at moment))
