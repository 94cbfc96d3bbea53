-- What is seen after a moment, a cancel and a drain.
use Rattle.call_contexts.proofs.Names.{◌≡◌, refl, sym, ap, ◌∙◌, arith, ℕ, ◌≤◌, List, [], ◌∷◌, Option, Some, None, Bool, true, false, ⊎_elim, ◌&&◌, ◌||◌, min, map, All, option_map, option_and_then, unwrap_or, option_or, All-head, All-map, All-tail, All-weaker, cases_Bool, or-true, Kind, Background, Cancel, Deadline, Value, Id, Ended, same, Makes, Cancels, Advances, held, chain, deadline, sooner, has_cancel, ending, TreeValue, StandsFor, IsFirstDeadline, IsNotAfter, IsLawful, is_among, is_ended_by_cancel, AfterFuncs, CallId, Life, Twig, Conn, Call, IsNoSooner, AreNoSooner, Slots, cause_in, value_in, seen, seen_conn, seen_call, Branch, seen_branch, seen_branches, call_for, ctx_for, ends_call, ends_branch, expires_branch, expires_call, ends_conn, if_cancelled, if_due, is_conn, ended_conn, expired, all_ended, Op, TreeLaws, IsSound, IsLife, IsConn, IsHolder, IsTwig, kind_of, life_for, IsUnhanded, why, WithHooks, nat_tests}
use Rattle.context_tree.specs.declared.error.Cause.{Cause}
use Rattle.context_tree.specs.declared.error.Cause.TheVariants.{Given}
use Rattle.gateway_model.specs.Past.{is_call}
use Rattle.after_funcs.specs.Stands.{StandsFor as HooksStand}
use Rattle.call_contexts.proofs.Trees.{same_refl, same_turned, shown, advanced, due_on, base_chain, conn_chain, call_deadline, call_hit, call_due, twig_hit, twig_due, twig_deadline, made_held}
use Rattle.call_contexts.proofs.Family.{among_in}
use Rattle.call_contexts.proofs.Making.{or_none}

pub maps_agree : {A B : Type 0} (f g : A → B) (xs : List A) → All (λ x. f x ≡ g x) xs → map f xs ≡ map g xs
maps_agree f g [] all = refl
maps_agree f g (x ∷ xs) all = search (arith, nat_tests, maps_agree f g xs, All-head, All-tail)

map_twice : {A B C : Type 0} (f : B → C) (g : A → B) (xs : List A) → map (λ x. f (g x)) xs ≡ map f (map g xs)
map_twice f g [] = refl
map_twice f g (x ∷ xs) = ap (λ l. f (g x) ∷ l) (map_twice f g xs)

pub maps_to : {A B C : Type 0} (f : A → C) (g : B → C) (h : A → B) (xs : List A) → All (λ x. f x ≡ g (h x)) xs → map f xs ≡ map g (map h xs)
maps_to f g h xs all = maps_agree f (λ x. g (h x)) xs all ∙ map_twice g h xs

pub or_or : {A : Type 0} (a b c : Option A) → option_or a (option_or b c) ≡ option_or (option_or a b) c
or_or None b c = refl
or_or (Some a) b c = refl

pub hit_base : (b r : Bool) → b ≡ false → ((b && true) || ((r && false) || false)) ≡ false
hit_base b r h2 = grind (arith, nat_tests)

pub hit_conn : (a b r : Bool) → b ≡ false → ((a && true) || ((b && true) || ((r && false) || false))) ≡ a
hit_conn true b r is = refl
hit_conn false b r is = hit_base b r is

pub hit_call : (x a b r : Bool) → x ≡ false → b ≡ false → ((x && true) || ((a && true) || ((b && true) || ((r && false) || false)))) ≡ a
hit_call true a b r is none = cc
hit_call false a b r is none = hit_conn a b r none

-- a cancel that ends nothing leaves the slots
pub same_slots : {C V : Type 0} (new old : TreeValue C V) → new ≡ record old { visits = 0 } → new.slots ≡ old.slots
same_slots new old same = ap (λ (t : TreeValue _ _). t.slots) same

none_ended : {C : Type 0} (o : Option (Ended C)) → option_map (λ e. e.cause) o ≡ None → o ≡ None
none_ended None is = refl
none_ended (Some e) is = cc

-- what is not after the least of two is not after the first
not_after : (first : Option ℕ) (at : ℕ) (o : Option ℕ) → ((d : ℕ) → sooner (Some at) o ≡ Some d → IsNotAfter first d) → IsNotAfter first at
not_after first at None each = each at refl
not_after None at (Some e) each = each (min at e) refl
not_after (Some x) at (Some e) each = let low : x ≤ min at e = each (min at e) refl in omega (arith, low)

module _ {C V : Type 0} where
  pub conn_among : (slots : Slots C V) (conns : List Id) (id : Id) → is_conn id (map (seen_conn slots) conns) ≡ is_among id conns
  conn_among slots [] id = refl
  conn_among slots (c ∷ cs) id = ap (λ b. b || is_conn id (map (seen_conn slots) cs)) (same_turned c id) ∙ ap (λ b. same id c || b) (conn_among slots cs id)

  -- a connection that is seen has its context
  pub conn_held : (base : Id) (past : List (Op C V)) (slots : Slots C V) (conns : List Id) (id : Id) → All (IsConn base past) conns → is_conn id (map (seen_conn slots) conns) ≡ true
      → held id past ≡ Some (Cancel base)
  conn_held base past slots conns id all is = among_in (IsConn base past) id conns all (sym (conn_among slots conns id) ∙ is)

  pub ended_found : (slots : Slots C V) (conns : List Id) (id : Id) → is_among id conns ≡ true → ended_conn id (map (seen_conn slots) conns) ≡ cause_in slots id
  ended_found slots [] id is = cc
  ended_found slots (c ∷ cs) id is = grind (arith, ended_found slots cs id)

  pub seen_as : (slots : Slots C V) (base : Id) (conns : List Id) (calls : List Life) (d : Option (Cause C)) (cs : List (Conn C)) (ls : List (Call C V))
      → cause_in slots base ≡ d → map (seen_conn slots) conns ≡ cs → map (seen_call slots) calls ≡ ls
      → seen slots base conns calls ≡ record { drained = d; conns = cs; calls = ls }
  seen_as slots base conns calls d cs ls b c l = cc

  -- what is asked of a call that is seen is asked of the one that is kept
  pub asked : {A : Type 0} (slots : Slots C V) (q : Call C V → Option A) (id : CallId) (ls : List Life)
      → option_and_then q (call_for id (map (seen_call slots) ls)) ≡ option_and_then (λ l. q (seen_call slots l)) (life_for id ls)
  asked slots q id [] = refl
  asked slots q id (l ∷ ls) = ⊎_elim (λ (y : is_call l.id id ≡ true). rw y refl) (λ (n : is_call l.id id ≡ false). rw n (asked slots q id ls)) (cases_Bool (is_call l.id id))

  pub ctx_kept : (slots : Slots C V) (id : CallId) (ls : List Life) → ctx_for id (map (seen_call slots) ls) ≡ option_map (λ l. l.ctx) (life_for id ls)
  ctx_kept slots id [] = refl
  ctx_kept slots id (l ∷ ls) = ⊎_elim (λ (y : is_call l.id id ≡ true). rw y refl) (λ (n : is_call l.id id ≡ false). rw n (ctx_kept slots id ls)) (cases_Bool (is_call l.id id))

  pub conn_as : (slots : Slots C V) (x : Id) (e : Option (Cause C)) → cause_in slots x ≡ e → seen_conn slots x ≡ record { id = x; ended = e }
  conn_as slots x e is = ap (λ b. record { id = x; ended = b }) is

  pub branch_as : (slots : Slots C V) (t : Twig) (e : Option (Cause C)) → cause_in slots t.ctx ≡ e → seen_branch slots t ≡ record { branch = t.branch; deadline = t.at; ended = e }
  branch_as slots t e is = ap (λ b. record { branch = t.branch; deadline = t.at; ended = b }) is

  pub call_as : (slots : Slots C V) (l : Life) (r : Option V) (e : Option (Cause C)) (bs : List (Branch C)) → option_and_then (value_in slots) l.holder ≡ r → cause_in slots l.ctx ≡ e
      → seen_branches slots l.twigs ≡ bs → seen_call slots l ≡ record { name = l.id; id = l.ctx; conn = l.conn; deadline = l.deadline; request_id = r; ended = e; branches = bs }
  call_as slots l r e bs rs es bss = cc

  -- a request id is seen as before, where its context is still held
  pub request_stays : (old new : TreeValue C V) (past later : List (Op C V)) (conn : Id) → StandsFor old past → StandsFor new later → (holder : Option Id)
      → ((x : Id) (r : V) → holder ≡ Some x → held x past ≡ Some (Value conn 0 r) → held x later ≡ Some (Value conn 0 r))
      → IsHolder past conn holder → option_and_then (value_in new.slots) holder ≡ option_and_then (value_in old.slots) holder
  request_stays old new past later conn h5 h6 holder h8 h9 = grind (arith, nat_tests)

-- one that is seen is kept
pub conn_stands : {C V H : Type 0} {v w : WithHooks C V H} (slots : Slots C V) (conns : List Id) (conn : Id) → v ≡ w → v.standing.conns ≡ map (seen_conn slots) conns
    → is_conn conn w.standing.conns ≡ true → is_among conn conns ≡ true
conn_stands slots conns conn is seen_is known = sym (conn_among slots conns conn) ∙ ap (is_conn conn) (sym seen_is) ∙ ap (λ x. is_conn conn x.standing.conns) is ∙ known

-- ---- a new tree

module _ {C V : Type 0} (laws : TreeLaws C V) (root base : Id) (t : TreeValue C V) (st : StandsFor t (Makes base (Cancel root) 0 ∷ Makes root Background 0 ∷ [])) where
  pub base_live : cause_in t.slots base ≡ None
  base_live =
      shown t _ base (Cancel root) st (made_held (Makes root Background 0 ∷ []) base (Cancel root) 0) ∙ rw (same_refl base, same_refl root) refl

  pub new_sound : {H : Type 0} (f : AfterFuncs H) → HooksStand f [] → IsSound t f base [] []
  new_sound f hs = search arith

module _ {C V H : Type 0} (laws : TreeLaws C V) {f : AfterFuncs H} {base : Id} {conns : List Id} {calls : List Life} {old : TreeValue C V} (s : IsSound old f base conns calls) where
  pub lawful : IsLawful s.past
  lawful = s.tree_is.contexts.lawful

  -- what of a call stays, as no context is made or let go of
  request_kept : (new : TreeValue C V) (later : List (Op C V)) → StandsFor new later → ((x : Id) → held x later ≡ held x s.past)
      → (l : Life) → IsLife s.past base l → option_and_then (value_in new.slots) l.holder ≡ option_and_then (value_in old.slots) l.holder
  request_kept new later st same_held l is = request_stays old new s.past later l.conn s.tree_is st l.holder (λ x r e h. same_held x ∙ h) is.holder_is

  -- ---- no context is made or let go of

  module _ (later : List (Op C V)) (same_held : (x : Id) → held x later ≡ held x s.past) where
    pub sound_held : (f' : AfterFuncs H) → HooksStand f' s.hooks → (new : TreeValue C V) → StandsFor new later
        → All (IsUnhanded later) calls → IsSound new f' base conns calls
    sound_held f' hs new st unhanded = grind arith

  -- ---- a moment

  module _ (new : TreeValue C V) (now : ℕ) (st : StandsFor new (Advances now ∷ s.past)) where
    -- the slots show what the moment ended
    one_advanced : (x : Id) (kind : Kind C V) (d : Option (Cause C)) → held x s.past ≡ Some kind → due_on now (chain x s.past) ≡ d → cause_in new.slots x ≡ option_or (cause_in old.slots x) d
    one_advanced x kind d is at = shown new (Advances now ∷ s.past) x kind st is ∙ advanced s.past x now ∙ ap (option_or (why x s.past)) at ∙ ap (λ o. option_or o d) (sym (shown old s.past x kind s.tree_is is))

    untouched : (x : Id) (kind : Kind C V) → held x s.past ≡ Some kind → due_on now (chain x s.past) ≡ None → cause_in new.slots x ≡ cause_in old.slots x
    untouched x kind is at = one_advanced x kind None is at ∙ or_none _

    -- a branch ends with its call or by its own deadline
    one_expired : (l : Life) → IsLife s.past base l → (t : Twig) → IsTwig s.past l.ctx t
        → seen_branch new.slots t ≡ expires_branch now (ends_branch (if_due now l.deadline) (seen_branch old.slots t))
    one_expired l is t t_is = branch_as new.slots t _
        (one_advanced t.ctx (Deadline l.ctx t.at None) (option_or (if_due now l.deadline) (if_due now (Some t.at))) t_is
        (twig_due laws s.past lawful l.ctx t t_is now l.deadline
        (call_due laws s.past lawful s.root base s.root_is s.base_is l.conn is.conn_is l.ctx l.holder is.holder_is now l.deadline is.call_is))
        ∙ or_or (cause_in old.slots t.ctx) (if_due now l.deadline) (if_due now (Some t.at)))

    branches_expired : (l : Life) → IsLife s.past base l
        → seen_branches new.slots l.twigs ≡ map (λ b. expires_branch now (ends_branch (if_due now l.deadline) b)) (seen_branches old.slots l.twigs)
    branches_expired l is = maps_to (seen_branch new.slots) (λ b. expires_branch now (ends_branch (if_due now l.deadline) b)) (seen_branch old.slots) l.twigs
        (All-weaker (IsTwig s.past l.ctx) (λ t. seen_branch new.slots t ≡ expires_branch now (ends_branch (if_due now l.deadline) (seen_branch old.slots t))) (one_expired l is) l.twigs is.twigs_are)

    pub seen_expired : seen new.slots base conns calls ≡ expired now (seen old.slots base conns calls)
    seen_expired =
        let b : cause_in new.slots base ≡ cause_in old.slots base = untouched base (Cancel s.root) s.base_is (ap (due_on now) (base_chain laws s.past lawful s.root base s.root_is s.base_is)) in
        let cs : map (seen_conn new.slots) conns ≡ map (seen_conn old.slots) conns =
        maps_agree (seen_conn new.slots) (seen_conn old.slots) conns
        (All-weaker (IsConn base s.past) (λ c. seen_conn new.slots c ≡ seen_conn old.slots c)
        (λ c is. conn_as new.slots c _ (untouched c (Cancel base) is (ap (due_on now) (conn_chain laws s.past lawful s.root base s.root_is s.base_is c is)))) conns s.conns_are) in
        let ls : map (seen_call new.slots) calls ≡ map (expires_call now) (map (seen_call old.slots) calls) =
        maps_to (seen_call new.slots) (expires_call now) (seen_call old.slots) calls
        (All-weaker (IsLife s.past base) (λ l. seen_call new.slots l ≡ expires_call now (seen_call old.slots l))
        (λ l is. call_as new.slots l _ _ _ (request_kept new (Advances now ∷ s.past) st (λ x. refl) l is)
        (one_advanced l.ctx (kind_of (unwrap_or l.holder l.conn) l.deadline) (if_due now l.deadline) is.call_is
        (call_due laws s.past lawful s.root base s.root_is s.base_is l.conn is.conn_is l.ctx l.holder is.holder_is now l.deadline is.call_is)) (branches_expired l is)) calls s.calls_are) in
        seen_as new.slots base conns calls _ _ _ b cs ls

    pub sound_expired : IsSound new f base conns calls
    sound_expired = sound_held (Advances now ∷ s.past) (λ x. refl) f s.hooks_are new st s.unhanded

  -- ---- a cancel

  -- what the chain of a context says of a cancel, the new tree shows
  abbrev pub IsStruck : C → TreeValue C V → Id → Id → Type 0
  IsStruck cause new id x = cause_in new.slots x ≡ option_or (cause_in old.slots x) (if_cancelled (has_cancel id (chain x s.past)) cause)

  module _ (cause : C) (new : TreeValue C V) (answer : Bool) (id parent : Id) (id_is : held id s.past ≡ Some (Cancel parent))
      (answer_is : answer ≡ is_ended_by_cancel id s.past) (ends : answer ≡ true → StandsFor new (Cancels id (Some cause) ∷ s.past)) (stays : answer ≡ false → new.slots ≡ old.slots) where
    pub struck_after : (x : Id) (kind : Kind C V) → held x s.past ≡ Some kind → IsStruck cause new id x
    struck_after x kind is = search arith

    pub request_after : (l : Life) → IsLife s.past base l → option_and_then (value_in new.slots) l.holder ≡ option_and_then (value_in old.slots) l.holder
    request_after l is = search arith

    -- a cancel leaves all sound
    pub sound_after_cancel : (answer ≡ false → StandsFor new s.past) → IsSound new f base conns calls
    sound_after_cancel keeps = ⊎_elim
        (λ (y : answer ≡ true). sound_held (Cancels id (Some cause) ∷ s.past) (λ x. refl) f s.hooks_are new (ends y) s.unhanded)
        (λ (n : answer ≡ false). sound_held s.past (λ x. refl) f s.hooks_are new (keeps n) s.unhanded)
        (cases_Bool answer)

  -- ---- the base is cancelled

  module _ (cause : C) (new : TreeValue C V) (answer : Bool)
      (answer_is : answer ≡ is_ended_by_cancel base s.past) (ends : answer ≡ true → StandsFor new (Cancels base (Some cause) ∷ s.past)) (stays : answer ≡ false → new.slots ≡ old.slots) where
    -- a context with the base on its chain
    all_struck : (x : Id) (kind : Kind C V) → held x s.past ≡ Some kind → has_cancel base (chain x s.past) ≡ true → cause_in new.slots x ≡ option_or (cause_in old.slots x) (Some (Given cause))
    all_struck x kind is hit = struck_after cause new answer base s.root s.base_is answer_is ends stays x kind is ∙ ap (λ b. option_or (cause_in old.slots x) (if_cancelled b cause)) hit

    conn_hit : (c : Id) → IsConn base s.past c → has_cancel base (chain c s.past) ≡ true
    conn_hit c is = rw (conn_chain laws s.past lawful s.root base s.root_is s.base_is c is, same_refl base) (or-true _)

    all_conn : (c : Id) → IsConn base s.past c → seen_conn new.slots c ≡ ends_conn (Some (Given cause)) (seen_conn old.slots c)
    all_conn c is = conn_as new.slots c _ (all_struck c (Cancel base) is (conn_hit c is))

    life_hit : (l : Life) → IsLife s.past base l → has_cancel base (chain l.ctx s.past) ≡ true
    life_hit l is = call_hit laws s.past lawful s.root base s.root_is s.base_is l.conn is.conn_is l.ctx l.holder is.holder_is l.deadline is.call_is base
        ∙ ap (λ b. (same l.ctx base && true) || b) (conn_hit l.conn is.conn_is) ∙ or-true _

    all_branches : (l : Life) → IsLife s.past base l → seen_branches new.slots l.twigs ≡ map (ends_branch (Some (Given cause))) (seen_branches old.slots l.twigs)
    all_branches l is = maps_to (seen_branch new.slots) (ends_branch (Some (Given cause))) (seen_branch old.slots) l.twigs
        (All-weaker (IsTwig s.past l.ctx) (λ t. seen_branch new.slots t ≡ ends_branch (Some (Given cause)) (seen_branch old.slots t))
        (λ t t_is. branch_as new.slots t _ (all_struck t.ctx (Deadline l.ctx t.at None) t_is
        (twig_hit laws s.past lawful l.ctx t t_is base ∙ ap (λ b. (same t.ctx base && true) || b) (life_hit l is) ∙ or-true _))) l.twigs is.twigs_are)

    all_call : (l : Life) → IsLife s.past base l → seen_call new.slots l ≡ ends_call (Some (Given cause)) (seen_call old.slots l)
    all_call l is = call_as new.slots l _ _ _ (request_after cause new answer base s.root s.base_is answer_is ends stays l is)
        (all_struck l.ctx (kind_of (unwrap_or l.holder l.conn) l.deadline) is.call_is (life_hit l is)) (all_branches l is)

    pub seen_drained : seen new.slots base conns calls ≡ all_ended cause (seen old.slots base conns calls)
    seen_drained = seen_as new.slots base conns calls _ _ _
        (all_struck base (Cancel s.root) s.base_is (rw (base_chain laws s.past lawful s.root base s.root_is s.base_is, same_refl base) refl))
        (maps_to (seen_conn new.slots) (ends_conn (Some (Given cause))) (seen_conn old.slots) conns
        (All-weaker (IsConn base s.past) (λ c. seen_conn new.slots c ≡ ends_conn (Some (Given cause)) (seen_conn old.slots c)) all_conn conns s.conns_are))
        (maps_to (seen_call new.slots) (ends_call (Some (Given cause))) (seen_call old.slots) calls
        (All-weaker (IsLife s.past base) (λ l. seen_call new.slots l ≡ ends_call (Some (Given cause)) (seen_call old.slots l)) all_call calls s.calls_are))

  -- ---- the least deadline

  pub no_sooner : (first : Option ℕ) → IsFirstDeadline first s.past → All (IsNoSooner first) (map (seen_call old.slots) calls)
  no_sooner first sooner = All-map (IsNoSooner first) (seen_call old.slots) calls
      (All-weaker (IsLife s.past base) (λ l. IsNoSooner first (seen_call old.slots l))
      (λ l is at on due. sooner l.ctx (kind_of (unwrap_or l.holder l.conn) l.deadline) at is.call_is
      (none_ended (ending l.ctx s.past) (sym (shown old s.past l.ctx (kind_of (unwrap_or l.holder l.conn) l.deadline) s.tree_is is.call_is) ∙ on))
      (call_deadline laws s.past lawful s.root base s.root_is s.base_is l.conn is.conn_is l.ctx l.holder is.holder_is l.deadline is.call_is ∙ due)) calls s.calls_are)

  pub branches_no_sooner : (first : Option ℕ) → IsFirstDeadline first s.past → All (AreNoSooner first) (map (seen_call old.slots) calls)
  branches_no_sooner first sooner = All-map (AreNoSooner first) (seen_call old.slots) calls
      (All-weaker (IsLife s.past base) (λ l. AreNoSooner first (seen_call old.slots l)) (λ l is. of l.ctx l.twigs is.twigs_are) calls s.calls_are)
    where
      of : (call : Id) (ts : List Twig) → All (IsTwig s.past call) ts → All (λ b. b.ended ≡ None → IsNotAfter first b.deadline) (seen_branches old.slots ts)
      of call ts all = All-map (λ b. b.ended ≡ None → IsNotAfter first b.deadline) (seen_branch old.slots) ts
          (All-weaker (IsTwig s.past call) (λ t. cause_in old.slots t.ctx ≡ None → IsNotAfter first t.at)
          (λ t is on. not_after first t.at (deadline call s.past) (λ d at. sooner t.ctx (Deadline call t.at None) d is
          (none_ended (ending t.ctx s.past) (sym (shown old s.past t.ctx (Deadline call t.at None) s.tree_is is) ∙ on))
          (twig_deadline laws s.past lawful call t is ∙ at))) ts all)
