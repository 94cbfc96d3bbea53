-- The contexts of calls, beside those of the tree.
use Rattle.gateway_replies.proofs.Names.{◌≡◌, ℕ, ◌≤◌, ◌<◌, zero, suc, refl, sym, ap, ◌∙◌, List, [], ◌∷◌, ◌++◌, Option, Some, None, Bool, true, false, ⊎_elim, subst, length, arith, is_some, IfNone, IfSome, ◌||◌, ◌==◌, All, not, if◌then◌else◌, filter, option_map, slice_set, slice_index_or, list_any, cases_Bool, eq-eqb, or_parts, map_push, All-cons, All-filter, All-head, All-nil, All-push, All-tail, All-weaker, same_Some, Id, same, AreApart, call_for, ctx_for, first_of, is_conn, is_fresh, opened as standing_opened, begun as standing_begun, without as standing_without, CallId, ArrivedCall, is_call, Peer, peer_tie, peer_ties, AllContexts, OnPeer, life_of, CallContext, ConnContext, LivesApart, PeerValue, contexts_of, ContextsValue, IsTied, KeepsOthers, LifeValue, NoTwo, Peers, closed, contexts_value, ctx_of, first_life, has_ended, is_over, is_life, is_peer, peers_of, lives_of, others, same_id, same_context, without_calls, all_stay, nat_tests}
use Rattle.call_contexts.specs.Standing.{closed as standing_closed, is_call as is_standing, has_ended as standing_ended, is_over as is_standing_over}
use Rattle.gateway_replies.specs.Contexts.{begun, opened, without}
use Rattle.gateway_theory.specs.lemmas.LimitLemmas.{same_call}
use Rattle.gateway_replies.specs.Contexts.{IsNext}
use Rattle.gateway_replies.proofs.PlaceLemmas.{rise_apart, rising_left, rising_push}
use Rattle.gateway_replies.proofs.ListLemmas.{call_turned, context_turned, due_same, filter_map_both, no_two_pushed, any_map, no_two_kept, same_itself, same_true}
use Rattle.gateway_replies.proofs.PeerLemmas.{ctx_more, known_in, less_contexts, less_ctx, not_in, peer_ended, peer_in, peers_less, peers_pushed, two_apart}

pub neither : {A : Type 0} (p q : A → Bool) (xs : List A) → list_any p xs ≡ false → list_any q xs ≡ false → All (λ x. p x ≡ q x) xs
neither p q [] no_p no_q = All-nil (λ x. p x ≡ q x)
neither p q (x ∷ xs) no_p no_q =
    let a = or_parts (p x) (list_any p xs) no_p in
    let b = or_parts (q x) (list_any q xs) no_q in
    All-cons (λ y. p y ≡ q y) x xs (a.0 ∙ sym b.0) (neither p q xs a.1 b.1)

filters_agree : {A : Type 0} (p q : A → Bool) (xs : List A) → All (λ x. p x ≡ q x) xs → filter (λ x. not (p x)) xs ≡ filter (λ x. not (q x)) xs
filters_agree p q [] all = refl
filters_agree p q (x ∷ xs) all =
    let here : p x ≡ q x = All-head (λ y. p y ≡ q y) x xs all in
    rw here (ap (λ l. if not (q x) then x ∷ l else l) (filters_agree p q xs (All-tail (λ y. p y ≡ q y) x xs all)))

-- ---- calls

module _ {V : Type 0} where
  pub life_in : (text : V → List ℕ) (cs : List (CallContext V)) (id : CallId) → is_life id (lives_of text cs) ≡ list_any (λ c. is_call c.name id) cs
  life_in text cs id = any_map (λ (l : LifeValue). is_call l.id id) (life_of text) cs

  -- no call has two contexts
  pub lives_apart : (text : V → List ℕ) (cs : List (CallContext V)) → NoTwo same_id cs → LivesApart (lives_of text cs)
  lives_apart text [] apart = tt
  lives_apart text (c ∷ cs) apart = (life_in text cs c.name ∙ apart.0, lives_apart text cs apart.1)

  pub first_in : (text : V → List ℕ) (cs : List (CallContext V)) (number : ℕ) → first_life number (lives_of text cs) ≡ first_of number cs
  first_in text [] number = refl
  first_in text (c ∷ cs) number = grind (arith, first_in text cs number)

  pub no_ctx_for : (id : CallId) (cs : List (CallContext V)) → ctx_for id cs ≡ None → list_any (λ c. is_call c.name id) cs ≡ false
  no_ctx_for id [] is = refl
  no_ctx_for id (c ∷ cs) is = grind (arith, no_ctx_for id cs)

  -- the context of a call is that of one that stands
  pub stands_in : (cs : List (CallContext V)) (id : CallId) (x : Id) → ctx_for id cs ≡ Some x → is_standing x cs ≡ true
  stands_in [] id x is = cc
  stands_in (c ∷ cs) id x is = grind (arith, stands_in cs id x)

  -- the context is that of the call, or neither
  abbrev pub Agree : CallId → Id → List (CallContext V) → Type 0
  Agree id x cs = All (λ (c : CallContext V). same c.id x ≡ is_call c.name id) cs

  pub agree : (cs : List (CallContext V)) (id : CallId) (x : Id) → AreApart cs → NoTwo same_id cs → ctx_for id cs ≡ Some x → Agree id x cs
  agree [] id x apart ids is = All-nil (λ (c : CallContext V). same c.id x ≡ is_call c.name id)
  agree (c ∷ cs) id x apart ids is = ⊎_elim
      (λ (y : is_call c.name id ≡ true).
      let x_is : c.id ≡ x = same_Some c.id x (rw y at is) in
      let no_id : list_any (λ (d : CallContext V). is_call d.name id) cs ≡ false = subst (λ k. list_any (λ (d : CallContext V). is_call d.name k) cs ≡ false) (same_call c.name id y) ids.0 in
      All-cons (λ (d : CallContext V). same d.id x ≡ is_call d.name id) c cs (ap (λ z. same z x) x_is ∙ same_itself x ∙ sym y)
      (neither (λ d. same d.id x) (λ d. is_call d.name id) cs (subst (λ z. is_standing z cs ≡ false) x_is apart.0) no_id))
      (λ (n : is_call c.name id ≡ false).
      let there : ctx_for id cs ≡ Some x = rw n at is in
      let far : same c.id x ≡ false = ⊎_elim
      (λ (e : same c.id x ≡ true).
      let bad : is_standing x cs ≡ false = subst (λ z. is_standing z cs ≡ false) (same_true c.id x e) apart.0 in
      let clash : true ≡ false = sym (stands_in cs id x there) ∙ bad in cc)
      (λ (f : same c.id x ≡ false). f)
      (cases_Bool (same c.id x)) in
      All-cons (λ (d : CallContext V). same d.id x ≡ is_call d.name id) c cs (far ∙ sym n) (agree cs id x apart.1 ids.1 there))
      (cases_Bool (is_call c.name id))

  -- no call is of the connection
  pub none_of_it : (ps : Peers) (cs : List (CallContext V)) (number : ℕ) (x : Id) → All (OnPeer ps) cs → first_of number cs ≡ None → NoTwo same_context ps
      → ctx_of number ps ≡ Some x → list_any (λ c. same c.conn x) cs ≡ false
  none_of_it ps [] number x tied none apart is = refl
  none_of_it ps (c ∷ cs) number x tied none apart is = ⊎_elim
      (λ (y : (c.name.conn == number) ≡ true). let bad : Some c.name ≡ None = rw y at none in cc)
      (λ (n : (c.name.conn == number) ≡ false).
      let far : same c.conn x ≡ false = two_apart c.name.conn number ps c.conn x apart (All-head (OnPeer ps) c cs tied) is n in
      rw far (none_of_it ps cs number x (All-tail (OnPeer ps) c cs tied) (rw n at none) apart is))
      (cases_Bool (c.name.conn == number))

  tied_without : (ps : Peers) (cs : List (CallContext V)) (number : ℕ) → All (OnPeer ps) cs → first_of number cs ≡ None
      → All (OnPeer (filter (λ p. not (p.0 == number)) ps)) cs
  tied_without ps [] number tied none = All-nil (OnPeer (filter (λ p. not (p.0 == number)) ps))
  tied_without ps (c ∷ cs) number tied none = ⊎_elim
      (λ (y : (c.name.conn == number) ≡ true). let bad : Some c.name ≡ None = rw y at none in cc)
      (λ (n : (c.name.conn == number) ≡ false).
      All-cons (OnPeer (filter (λ p. not (p.0 == number)) ps)) c cs (less_ctx c.name.conn number ps n ∙ All-head (OnPeer ps) c cs tied)
      (tied_without ps cs number (All-tail (OnPeer ps) c cs tied) (rw n at none)))
      (cases_Bool (c.name.conn == number))

  -- ---- all of it

  tied_opened : (ps : Peers) (v : AllContexts V) (number : ℕ) (x : Id) → IsTied ps v → is_fresh x v ≡ true
      → IsNext number (peers_of ps v.conns) → IsTied (ps ++ (number, x) ∷ []) (standing_opened x v)
  tied_opened ps v number x tied fresh none = record {
    drained_is = tied.drained_is;
    conns_are = map_push (λ (c : ConnContext). c.id) v.conns (record { id = x; ended = v.drained }) ∙ ap (λ xs. xs ++ x ∷ []) tied.conns_are ∙ sym (map_push (λ (p : ℕ × Id). p.1) ps (number, x));
    calls_are = All-weaker (OnPeer ps) (OnPeer (ps ++ (number, x) ∷ [])) (λ c. ctx_more c.name.conn ps (number, x) c.conn) v.calls tied.calls_are;
    numbers_rise = rising_push (number, x) ps tied.numbers_rise (λ n le. sym (peer_in n ps v.conns tied.conns_are) ∙ none n le);
    contexts_apart = no_two_pushed same_context context_turned ps (number, x) tied.contexts_apart (sym (any_map (λ z. same z x) (λ (p : ℕ × Id). p.1) ps)
        ∙ ap (list_any (λ z. same z x)) (sym tied.conns_are) ∙ any_map (λ z. same z x) (λ (c : ConnContext). c.id) v.conns ∙ unknown (is_conn x v.conns) (is_standing x v.calls) fresh);
    calls_apart = tied.calls_apart;
  }
    where
      unknown : (a b : Bool) → not (a || b) ≡ true → a ≡ false
      unknown true b e = cc
      unknown false b e = refl

  pub known_conn : (ps : Peers) (v : AllContexts V) (number : ℕ) (x : Id) → IsTied ps v → ctx_of number ps ≡ Some x → is_conn x v.conns ≡ true
  known_conn ps v number x tied is =
      sym (any_map (λ z. same z x) (λ (c : ConnContext). c.id) v.conns) ∙ ap (list_any (λ z. same z x)) tied.conns_are ∙ known_in number ps x is

  tied_closed : (ps : Peers) (v : AllContexts V) (number : ℕ) (x : Id) → IsTied ps v → ctx_of number ps ≡ Some x → first_of number v.calls ≡ None
      → IsTied (filter (λ p. not (p.0 == number)) ps) (standing_closed x v)
  tied_closed ps v number x tied is none = record {
    drained_is = tied.drained_is;
    conns_are = filter_map_both (λ z. not (same z x)) (λ (c : ConnContext). c.id) v.conns ∙ ap (filter (λ z. not (same z x))) tied.conns_are
        ∙ less_contexts number ps x is (rise_apart ps tied.numbers_rise) tied.contexts_apart;
    calls_are = tied_without ps v.calls number tied.calls_are none;
    numbers_rise = rising_left (λ p. not (p.0 == number)) ps tied.numbers_rise;
    contexts_apart = no_two_kept same_context (λ p. not (p.0 == number)) ps tied.contexts_apart;
    calls_apart = tied.calls_apart;
  }

-- ---- the calls of a connection, one after another

pub others_stay : (number : ℕ) (ls : List LifeValue) → first_life number ls ≡ None → others number ls ≡ ls
others_stay number [] none = refl
others_stay number (l ∷ ls) none = grind (arith, others_stay number ls)

shorter : (id : CallId) (ls : List LifeValue) → length (filter (λ (l : LifeValue). not (is_call l.id id)) ls) ≤ length ls
shorter id [] = omega arith
shorter id (l ∷ ls) = grind (arith, shorter id ls)

-- without one of its calls the others are the same
same_others : (number : ℕ) (id : CallId) (ls : List LifeValue) → (id.conn == number) ≡ true → others number (filter (λ (l : LifeValue). not (is_call l.id id)) ls) ≡ others number ls
same_others number id [] its = refl
same_others number id (l ∷ ls) its = grind (arith, same_others number id ls its)

-- the context of a call goes, and those of other connections stay
pub without_others : (id : CallId) (x : ContextsValue) → KeepsOthers id.conn x (without id x)
without_others id x = record { drained_is = refl; conns_are = refl; others_are = same_others id.conn id x.calls (eq-eqb id.conn id.conn refl) }

pub fewer_gone : (id : CallId) (ls : List LifeValue) → is_life id ls ≡ true → length (filter (λ (l : LifeValue). not (is_call l.id id)) ls) < length ls
fewer_gone id [] is = cc
fewer_gone id (l ∷ ls) is = grind (arith, nat_tests, fewer_gone id ls, shorter)

-- one after another is dropped, until none is left
pub drops_one : (number : ℕ) (id : CallId) (v w u : ContextsValue) → KeepsOthers number v w → (id.conn == number) ≡ true → u ≡ without id w → KeepsOthers number v u
drops_one number id v w u keeps its u_is = subst (KeepsOthers number v) (sym u_is)
    (record { drained_is = keeps.drained_is; conns_are = keeps.conns_are; others_are = same_others number id w.calls its ∙ keeps.others_are })

pub drops_all : (number : ℕ) (v w : ContextsValue) → KeepsOthers number v w → first_life number w.calls ≡ None → w ≡ without_calls number v
drops_all number v w keeps none = grind (arith, nat_tests, others_stay)

-- ---- as the code keeps them

pub without_none : (id : CallId) (v : ContextsValue) → is_life id v.calls ≡ false → v ≡ without id v
without_none id v none = ap (contexts_value v.drained v.conns) (sym (all_stay (λ (l : LifeValue). is_call l.id id) v.calls none))

pub closed_stay : (number : ℕ) (v : ContextsValue) → is_peer number v.conns ≡ false → first_life number v.calls ≡ None → v ≡ closed number v
closed_stay number v none no_call = ap (λ cs. contexts_value v.drained cs v.calls) (sym (all_stay (λ (p : PeerValue). p.number == number) v.conns none))
    ∙ ap (contexts_value v.drained (filter (λ p. not (p.number == number)) v.conns)) (sym (others_stay number v.calls no_call))

pub not_known : (number : ℕ) (v : ContextsValue) (ps : Peers) (cs : List ConnContext) → peers_of ps cs ≡ v.conns → ctx_of number ps ≡ None → is_peer number v.conns ≡ false
not_known number v ps cs is none = ap (is_peer number) (sym is) ∙ not_in number ps cs none

module _ {V : Type 0} where
  pub no_life : (text : V → List ℕ) (ps : Peers) (v : AllContexts V) (u : ContextsValue) (id : CallId) → contexts_of text ps v ≡ u
      → ctx_for id v.calls ≡ None → is_life id u.calls ≡ false
  no_life text ps v u id is none = ap (λ (x : ContextsValue). is_life id x.calls) (sym is) ∙ life_in text v.calls id ∙ no_ctx_for id v.calls none

  no_call_for : (id : CallId) (cs : List (CallContext V)) → list_any (λ c. is_call c.name id) cs ≡ false → call_for id cs ≡ None
  no_call_for id [] none = refl
  no_call_for id (c ∷ cs) none = let two = or_parts (is_call c.name id) (list_any (λ d. is_call d.name id) cs) none in rw two.0 (no_call_for id cs two.1)

  -- a call that has a context is one that stands
  life_for : (id : CallId) (cs : List (CallContext V)) → is_some (call_for id cs) ≡ true → list_any (λ c. is_call c.name id) cs ≡ true
  life_for id [] is = cc
  life_for id (c ∷ cs) is = grind (arith, life_for id cs)

  pub has_life : (text : V → List ℕ) (ps : Peers) (v : AllContexts V) (u : ContextsValue) (id : CallId) → contexts_of text ps v ≡ u → is_some (call_for id v.calls) ≡ true → is_life id u.calls ≡ true
  has_life text ps v u id is some = ap (λ (x : ContextsValue). is_life id x.calls) (sym is) ∙ life_in text v.calls id ∙ life_for id v.calls some

  -- a call that has no context is none that stands
  pub not_begun : (text : V → List ℕ) (ps : Peers) (v : AllContexts V) (u : ContextsValue) (id : CallId) → contexts_of text ps v ≡ u → is_life id u.calls ≡ false → call_for id v.calls ≡ None
  not_begun text ps v u id is none = no_call_for id v.calls (sym (life_in text v.calls id) ∙ ap (λ (x : ContextsValue). is_life id x.calls) is ∙ none)

  pub left_tied : (ps : Peers) (v w : AllContexts V) (x : Id) → w ≡ standing_without x v → IsTied ps v → IsTied ps w
  left_tied ps v w x w_is tied = subst (IsTied ps) (sym w_is) (record {
    drained_is = tied.drained_is;
    conns_are = tied.conns_are;
    calls_are = All-filter (λ c. not (same c.id x)) (OnPeer ps) v.calls tied.calls_are;
    numbers_rise = tied.numbers_rise;
    contexts_apart = tied.contexts_apart;
    calls_apart = no_two_kept same_id (λ c. not (same c.id x)) v.calls tied.calls_apart;
  })

  pub left_value : (text : V → List ℕ) (ps : Peers) (v w : AllContexts V) (u : ContextsValue) (id : CallId) (x : Id) → w ≡ standing_without x v
      → Agree id x v.calls → contexts_of text ps v ≡ u → contexts_of text ps w ≡ without id u
  left_value text ps v w u id x w_is all u_is =
      ap (contexts_of text ps) w_is
      ∙ ap (λ cs. contexts_value (is_some v.drained) (peers_of ps v.conns) (lives_of text cs)) (filters_agree (λ c. same c.id x) (λ c. is_call c.name id) v.calls all)
      ∙ ap (contexts_value (is_some v.drained) (peers_of ps v.conns)) (filter_map_both (λ (l : LifeValue). not (is_call l.id id)) (life_of text) v.calls)
      ∙ ap (without id) u_is

  pub peer_gone : {H : Type 0} (peers left : List (Peer H)) (v w : AllContexts V) (number : ℕ) (x : Id) → left ≡ filter (λ p. not (p.number == number)) peers
      → w ≡ standing_closed x v → IsTied (peer_ties peers) v → ctx_of number (peer_ties peers) ≡ Some x → first_of number v.calls ≡ None → IsTied (peer_ties left) w
  peer_gone peers left v w number x then_is w_is tied is none =
      subst (IsTied (peer_ties left)) (sym w_is)
      (subst (λ ps. IsTied ps (standing_closed x v)) (sym (ap peer_ties then_is ∙ filter_map_both (λ t. not (t.0 == number)) peer_tie peers))
      (tied_closed (peer_ties peers) v number x tied is none))

  pub peer_gone_value : {H : Type 0} (text : V → List ℕ) (peers left : List (Peer H)) (v w : AllContexts V) (u : ContextsValue) (number : ℕ) (x : Id)
      → left ≡ filter (λ p. not (p.number == number)) peers → w ≡ standing_closed x v → IsTied (peer_ties peers) v → ctx_of number (peer_ties peers) ≡ Some x
      → contexts_of text (peer_ties peers) v ≡ u → first_life number u.calls ≡ None → contexts_of text (peer_ties left) w ≡ closed number u
  peer_gone_value text peers left v w u number x then_is w_is tied is u_is none =
      ap (contexts_of text (peer_ties left)) w_is
      ∙ ap (λ ps. contexts_of text ps (standing_closed x v)) (ap peer_ties then_is ∙ filter_map_both (λ t. not (t.0 == number)) peer_tie peers)
      ∙ ap (λ cs. contexts_value (is_some v.drained) cs (lives_of text v.calls)) (peers_less number x (peer_ties peers) v.conns tied.conns_are is (rise_apart (peer_ties peers) tied.numbers_rise) tied.contexts_apart)
      ∙ ap (λ (y : ContextsValue). contexts_value y.drained (filter (λ p. not (p.number == number)) y.conns) y.calls) u_is
      ∙ ap (contexts_value u.drained (filter (λ p. not (p.number == number)) u.conns)) (sym (others_stay number u.calls none))

pub closed_both : (number : ℕ) (v : ContextsValue) → closed number (without_calls number v) ≡ closed number v
closed_both number v = ap (contexts_value v.drained (filter (λ p. not (p.number == number)) v.conns)) (twice v.calls)
  where
    twice : (ls : List LifeValue) → others number (others number ls) ≡ others number ls
    twice [] = refl
    twice (l ∷ ls) = ⊎_elim
        (λ (y : (l.id.conn == number) ≡ true). rw y (twice ls))
        (λ (n : (l.id.conn == number) ≡ false). rw (n, n) (ap (λ k. l ∷ k) (twice ls)))
        (cases_Bool (l.id.conn == number))

module _ {H : Type 0} where
  pub ties_set : (peers : List (Peer H)) (i : ℕ) (x y : Peer H) → peer_tie y ≡ peer_tie x → x ≡ slice_index_or peers i x → peer_ties (slice_set peers i y) ≡ peer_ties peers
  ties_set [] i x y same is = refl
  ties_set (p ∷ ps) zero x y same is = ap (λ t. t ∷ peer_ties ps) (same ∙ ap peer_tie is)
  ties_set (p ∷ ps) (suc i) x y same is = ap (λ ts. peer_tie p ∷ ts) (ties_set ps i x y same is)

module _ {V : Type 0} where
  pub begun_tied : (text : V → List ℕ) (ps qs : Peers) (v w : AllContexts V) (u : ContextsValue) (id : CallId) (x conn : Id) (deadline : Option ℕ) (now : ℕ) (request_id : Option V) → qs ≡ ps
      → w ≡ standing_begun x id conn deadline now request_id v → IsTied ps v → ctx_of id.conn ps ≡ Some conn
      → contexts_of text ps v ≡ u → is_life id u.calls ≡ false → IsTied qs w
  begun_tied text ps qs v w u id x conn deadline now request_id qs_are w_is tied known u_is none =
      subst (λ xs. IsTied xs w) (sym qs_are)
      (subst (IsTied ps) (sym w_is)
      (record {
        drained_is = tied.drained_is;
        conns_are = tied.conns_are;
        calls_are = All-push (OnPeer ps) v.calls _ tied.calls_are known;
        numbers_rise = tied.numbers_rise;
        contexts_apart = tied.contexts_apart;
        calls_apart = no_two_pushed same_id call_turned v.calls _ tied.calls_apart
            (sym (life_in text v.calls id) ∙ ap (λ (y : ContextsValue). is_life id y.calls) u_is ∙ none);
      }))

  pub begun_value : (text : V → List ℕ) (ps qs : Peers) (v w : AllContexts V) (u : ContextsValue) (a : ArrivedCall) (id : CallId) (x conn : Id) (deadline : Option ℕ) (now : ℕ)
      (request_id : Option V) → qs ≡ ps → w ≡ standing_begun x id conn deadline now request_id v → IsTied ps v → ctx_of id.conn ps ≡ Some conn
      → contexts_of text ps v ≡ u → deadline ≡ a.deadline → option_map text request_id ≡ a.request_id → contexts_of text qs w ≡ begun now id a u
  begun_value text ps qs v w u a id x conn deadline now request_id qs_are w_is tied known u_is deadline_is id_is = grind (arith, nat_tests, map_push, peer_ended, due_same)

  pub opened_tied : {H : Type 0} (peers more : List (Peer H)) (v w : AllContexts V) (u : ContextsValue) (text : V → List ℕ) (p : Peer H) → more ≡ peers ++ p ∷ []
      → w ≡ standing_opened p.ctx v → IsTied (peer_ties peers) v → is_fresh p.ctx v ≡ true → contexts_of text (peer_ties peers) v ≡ u → IsNext p.number u.conns
      → IsTied (peer_ties more) w
  opened_tied peers more v w u text p more_is w_is tied fresh u_is none =
      subst (IsTied (peer_ties more)) (sym w_is)
      (subst (λ ps. IsTied ps (standing_opened p.ctx v)) (sym (ap peer_ties more_is ∙ map_push peer_tie peers p))
      (tied_opened (peer_ties peers) v p.number p.ctx tied fresh (λ n le. ap (λ (y : ContextsValue). is_peer n y.conns) u_is ∙ none n le)))

  pub opened_value : {H : Type 0} (peers more : List (Peer H)) (v w : AllContexts V) (u : ContextsValue) (text : V → List ℕ) (p : Peer H) → more ≡ peers ++ p ∷ []
      → w ≡ standing_opened p.ctx v → IsTied (peer_ties peers) v → contexts_of text (peer_ties peers) v ≡ u → contexts_of text (peer_ties more) w ≡ opened p.number u
  opened_value peers more v w u text p more_is w_is tied u_is = grind (arith, nat_tests, map_push, peers_pushed)

-- ---- what is over

module _ {V : Type 0} where
  pub over_found : (text : V → List ℕ) (cs : List (CallContext V)) (o : Option CallId) → IfSome o (λ id. list_any (standing_ended id) cs ≡ true)
      → IfSome o (λ id. list_any (has_ended id) (lives_of text cs) ≡ true)
  over_found text cs None its = tt
  over_found text cs (Some id) its = any_map (has_ended id) (life_of text) cs ∙ its

  pub none_over : (text : V → List ℕ) (cs : List (CallContext V)) (o : Option CallId) → IfNone o (list_any is_standing_over cs ≡ false) → IfNone o (list_any is_over (lives_of text cs) ≡ false)
  none_over text cs None none = any_map is_over (life_of text) cs ∙ none
  none_over text cs (Some id) none = tt
