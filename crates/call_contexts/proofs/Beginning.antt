-- A connection that opens, and a call that begins.
use Rattle.call_contexts.proofs.Names.{◌≡◌, refl, sym, ap, ◌∙◌, ℕ, ◌≤◌, ◌<◌, List, [], ◌∷◌, ◌++◌, Option, Some, None, true, false, ⊎_elim, arith, subst, is_some, All, map, option_and_then, unwrap_or, option_or, list_any_none as none_any, cases_Bool, append-nil, map-append, All-nil, All-push, All-weaker, or-false, Kind, Cancel, Value, Id, same, Makes, held, handed, IsLawful, TreeValue, StandsFor, is_among, AfterFuncs, AfterFunc, registered, waiting, Life, Standing, cause_in, ended_conn, if_due, seen, seen_conn, seen_call, value_in, is_conn, is_call, is_fresh, seen_branch, opened, begun, Op, TreeLaws, IsSound, IsLife, IsConn, Touches, kind_of, moment_of, with_call, contexts, hook_of, kept_of, Distinct, IsTwig, IsUnhanded, all_ids, ids_in, ids_of, let_go, Rising, makes, numbers_of, twig_ids, nat_tests}
use Rattle.std.proofs.lemmas.List.{append_assoc}
use Rattle.after_funcs.specs.Stands.{StandsFor as HooksStand}
use Rattle.call_contexts.proofs.Trees.{same_turned, shown, shown_request, far_one, far_new, touch_made, made_held}
use Rattle.call_contexts.proofs.Making.{born_ended, or_none, call_new, call_touches, call_held, holder_held, call_ended}
use Rattle.call_contexts.proofs.Seeing.{call_as, ended_found}
use Rattle.call_contexts.proofs.Lists.{any_map}
use Rattle.call_contexts.proofs.Order.{rising_push}
use Rattle.call_contexts.proofs.Framing.{all_far, all_seen, calls_kept, conns_kept, framed_sound}
use Rattle.call_contexts.proofs.Distinct.{Far, between, distinct_more}
use Rattle.call_contexts.proofs.Family.{among_in, among_left}

-- one that was not held is of no connection and no call
module _ {C V H : Type 0} {f : AfterFuncs H} {base : Id} {conns : List Id} {calls : List Life} {old : TreeValue C V} (s : IsSound old f base conns calls)
    (id : Id) (none : held id s.past ≡ None) where
  pub is_new : is_fresh id (seen old.slots base conns calls) ≡ true
  is_new =
      let no_conn : is_conn id (map (seen_conn old.slots) conns) ≡ false = any_map (λ c. same c.id id) (seen_conn old.slots) conns
      ∙ none_any (λ c. same c id) conns (All-weaker (IsConn base s.past) (λ c. same c id ≡ false) (λ c is. same_turned c id ∙ far_new id c (Cancel base) s.past none is) conns s.conns_are) in
      let no_call : is_call id (map (seen_call old.slots) calls) ≡ false = any_map (λ c. same c.id id) (seen_call old.slots) calls
      ∙ none_any (λ l. same l.ctx id) calls (All-weaker (IsLife s.past base) (λ l. same l.ctx id ≡ false) (λ l is. same_turned l.ctx id ∙ far_new id l.ctx (kind_of (unwrap_or l.holder l.conn) l.deadline) s.past none is.call_is) calls s.calls_are) in
      rw (no_conn, no_call) refl

-- ---- a connection opens

module _ {C V H : Type 0} (laws : TreeLaws C V) {f : AfterFuncs H} {base : Id} {conns : List Id} {calls : List Life} {old : TreeValue C V} (s : IsSound old f base conns calls)
    (id : Id) (new : TreeValue C V) (st : StandsFor new (Makes id (Cancel base) 0 ∷ s.past)) where
  abbrev later : List (Op C V)
  later = Makes id (Cancel base) 0 ∷ s.past

  pub open_unheld : held id s.past ≡ None
  open_unheld = laws.new_unheld s.past id (Cancel base) 0 st.contexts.lawful

  open_far : Far (all_ids s.root base conns calls) (id ∷ [])
  open_far = all_far s (id ∷ []) (λ x kind is. far_one x id (far_new id x kind s.past open_unheld is))

  open_touches : Touches (id ∷ []) s.past (Makes id (Cancel base) 0 ∷ s.past)
  open_touches = touch_made id (Cancel base) 0 s.past

  -- where it stands among all
  opened_ids : all_ids s.root base (conns ++ id ∷ []) calls ≡ (s.root ∷ base ∷ conns) ++ ((id ∷ []) ++ ids_in calls)
  opened_ids = ap (λ xs. s.root ∷ base ∷ xs) (append_assoc conns (id ∷ []) (ids_in calls))

  open_else : (x : Id) → is_among x (all_ids s.root base (conns ++ id ∷ []) calls) ≡ false → held x (Makes id (Cancel base) 0 ∷ s.past) ≡ None
  open_else x none =
      let two = between x (s.root ∷ base ∷ conns) (id ∷ []) (ids_in calls) (sym (ap (is_among x) opened_ids) ∙ none) in
      open_touches.held_is x two.0 ∙ s.none_else x two.1

  pub sound_opened : IsSound new f base (conns ++ id ∷ []) calls
  sound_opened =
      framed_sound laws s (id ∷ []) later new st open_touches conns calls s.conns_are s.calls_are s.known open_far
      f s.hooks (conns ++ id ∷ []) calls s.hooks_are
      (All-push (IsConn base later) conns id (conns_kept laws s (id ∷ []) later new st open_touches conns calls s.conns_are s.calls_are s.known open_far) (made_held s.past id (Cancel base) 0))
      (calls_kept laws s (id ∷ []) later new st open_touches conns calls s.conns_are s.calls_are s.known open_far)
      (All-weaker (λ l. is_among l.conn conns ≡ true) (λ l. is_among l.conn (conns ++ id ∷ []) ≡ true) (λ l k. among_left l.conn conns (id ∷ []) k) calls s.known)
      open_else (subst Distinct (sym opened_ids) (distinct_more (s.root ∷ base ∷ conns) (id ∷ []) (ids_in calls) s.distinct (refl, tt) open_far))
      s.hook_waits s.none_due s.unhanded

  pub seen_opened : seen new.slots base (conns ++ id ∷ []) calls ≡ opened id (seen old.slots base conns calls)
  seen_opened =
      let e = all_seen laws s (id ∷ []) later new st open_touches conns calls s.conns_are s.calls_are s.known open_far in
      let ended : cause_in new.slots id ≡ cause_in old.slots base =
      shown new later id (Cancel base) st (made_held s.past id (Cancel base) 0) ∙ born_ended s.past id base None 0 ∙ or_none _ ∙ sym (shown old s.past base (Cancel s.root) s.tree_is s.base_is) in
      ap (λ cs. record { drained = cause_in new.slots base; conns = cs; calls = map (seen_call new.slots) calls }) (map-append (seen_conn new.slots) conns (id ∷ []))
      ∙ ap (λ (v : Standing C V). record { drained = v.drained; conns = v.conns ++ record { id = id; ended = cause_in new.slots id } ∷ []; calls = v.calls }) e
      ∙ ap (λ o. record { drained = cause_in old.slots base; conns = map (seen_conn old.slots) conns ++ record { id = id; ended = o } ∷ []; calls = map (seen_call old.slots) calls }) ended

-- ---- a call begins

module _ {C V H : Type 0} (laws : TreeLaws C V) {f : AfterFuncs H} {base : Id} {conns : List Id} {calls : List Life} {old : TreeValue C V} (s : IsSound old f base conns calls)
    (l : Life) (bare : l.twigs ≡ []) (now : ℕ) (request_id : Option V) (agree : is_some l.holder ≡ is_some request_id) (new : TreeValue C V) (conn_known : is_among l.conn conns ≡ true)
    (st : StandsFor new (with_call l.ctx l.holder l.conn l.deadline now request_id s.past)) where
  abbrev after : List (Op C V)
  after = with_call l.ctx l.holder l.conn l.deadline now request_id s.past

  abbrev ids : List Id
  ids = contexts l.ctx l.holder

  conn_is : held l.conn s.past ≡ Some (Cancel base)
  conn_is = among_in (IsConn base s.past) l.conn conns s.conns_are conn_known

  begin_new : (x : Id) (kind : Kind C V) → held x s.past ≡ Some kind → is_among x (contexts l.ctx l.holder) ≡ false
  begin_new = call_new laws l.ctx l.conn l.deadline now s.past l.holder request_id agree st.contexts.lawful

  begin_far : Far (all_ids s.root base conns calls) (contexts l.ctx l.holder)
  begin_far = all_far s (contexts l.ctx l.holder) begin_new

  begin_touches : Touches (contexts l.ctx l.holder) s.past (with_call l.ctx l.holder l.conn l.deadline now request_id s.past)
  begin_touches = call_touches laws l.ctx l.conn l.deadline now s.past l.holder request_id agree

  -- where it stands among all
  begun_ids : all_ids s.root base conns (calls ++ l ∷ []) ≡ all_ids s.root base conns calls ++ (contexts l.ctx l.holder ++ [])
  begun_ids = ap (λ xs. s.root ∷ base ∷ conns ++ xs) (ids_pushed calls) ∙ sym (append_assoc (s.root ∷ base ∷ conns) (ids_in calls) (contexts l.ctx l.holder ++ []))
    where
      ids_pushed : (ls : List Life) → ids_in (ls ++ l ∷ []) ≡ ids_in ls ++ (contexts l.ctx l.holder ++ [])
      ids_pushed [] = ap (λ xs. xs ++ []) (ap (λ ts. contexts l.ctx l.holder ++ twig_ids ts) bare ∙ append-nil (contexts l.ctx l.holder))
      ids_pushed (m ∷ ms) = ap (λ xs. ids_of m ++ xs) (ids_pushed ms) ∙ sym (append_assoc (ids_of m) (ids_in ms) (contexts l.ctx l.holder ++ []))

  -- its two contexts are different
  two_ids : Distinct (contexts l.ctx l.holder)
  two_ids = grind (arith, nat_tests, or-false, far_new, made_held)

  begin_else : (x : Id) → is_among x (all_ids s.root base conns (calls ++ l ∷ [])) ≡ false → held x (with_call l.ctx l.holder l.conn l.deadline now request_id s.past) ≡ None
  begin_else x none = grind (arith, nat_tests, between, begun_ids, begin_touches, append-nil)

  unhanded_begun : (holder : Option Id) (r : Option V) (m : Life) → IsUnhanded s.past m → IsUnhanded (with_call l.ctx holder l.conn l.deadline now r s.past) m
  unhanded_begun holder r m h3 = grind (arith, nat_tests)

  new_unhanded : handed l.ctx s.past ≡ false
  new_unhanded = by l.holder request_id st.contexts.lawful
    where
      by : (holder : Option Id) (r : Option V) → IsLawful (with_call l.ctx holder l.conn l.deadline now r s.past) → handed l.ctx s.past ≡ false
      by None r lawful = laws.new_unhanded s.past l.ctx (kind_of l.conn l.deadline) (moment_of l.deadline now) lawful
      by (Some h) None lawful = laws.new_unhanded s.past l.ctx (kind_of h l.deadline) (moment_of l.deadline now) lawful
      by (Some h) (Some r) lawful = laws.new_unhanded (Makes h (Value l.conn 0 r) 0 ∷ s.past) l.ctx (kind_of h l.deadline) (moment_of l.deadline now) lawful

  pub sound_begun : (hook : H) (f' : AfterFuncs H) → HooksStand f' (AfterFunc l.ctx false hook ∷ s.hooks) → l.hook ≡ registered s.hooks → IsSound new f' base conns (calls ++ l ∷ [])
  sound_begun hook f' hs numbered =
      framed_sound laws s ids after new st begin_touches conns calls s.conns_are s.calls_are s.known begin_far
      f' (AfterFunc l.ctx false hook ∷ s.hooks) conns (calls ++ l ∷ []) hs
      (conns_kept laws s ids after new st begin_touches conns calls s.conns_are s.calls_are s.known begin_far)
      (All-push (IsLife after base) calls l (calls_kept laws s ids after new st begin_touches conns calls s.conns_are s.calls_are s.known begin_far)
      (record {
        call_is = call_held laws l.ctx l.conn l.deadline now s.past l.holder request_id;
        holder_is = holder_held laws l.ctx l.conn l.deadline now s.past l.holder request_id agree st.contexts.lawful;
        conn_is = begin_touches.held_is l.conn (begin_new l.conn (Cancel base) conn_is) ∙ conn_is;
        twigs_are = subst (All (IsTwig after l.ctx)) (sym bare) (All-nil (IsTwig after l.ctx));
      }))
      (All-push (λ m. is_among m.conn conns ≡ true) calls l s.known conn_known)
      begin_else
      (subst Distinct (sym begun_ids) (distinct_more (all_ids s.root base conns calls) (contexts l.ctx l.holder) [] (subst Distinct (sym (append-nil (all_ids s.root base conns calls))) s.distinct) two_ids
      (subst (λ xs. Far xs (contexts l.ctx l.holder)) (sym (append-nil (all_ids s.root base conns calls))) begin_far)))
      (map-append hook_of (waiting s.hooks) (record { id = registered s.hooks; ctx = l.ctx; hook = hook } ∷ [])
      ∙ ap (λ ps. ps ++ (registered s.hooks, l.ctx) ∷ []) s.hook_waits
      ∙ ap (λ n. map kept_of calls ++ (n, l.ctx) ∷ []) (sym numbered)
      ∙ sym (map-append kept_of calls (l ∷ [])))
      s.none_due
      (All-push (IsUnhanded after) calls l (All-weaker (IsUnhanded s.past) (IsUnhanded after) (unhanded_begun l.holder request_id) calls s.unhanded)
      (unhanded_begun l.holder request_id l (new_unhanded, subst (All (λ t. handed t.ctx s.past ≡ false)) (sym bare) (All-nil (λ t. handed t.ctx s.past ≡ false)))))

  made_later : (holder : Option Id) (r : Option V) → IsLawful (with_call l.ctx holder l.conn l.deadline now r s.past) → makes s.past ≤ l.ctx.0
  made_later None r lawful = omega (arith, lawful.0)
  made_later (Some h) None lawful = omega (arith, lawful.0)
  made_later (Some h) (Some r) lawful = omega (arith, lawful.0)

  -- its context is the last by its number
  pub begun_rises : Rising (numbers_of calls) → Rising (numbers_of (calls ++ l ∷ []))
  begun_rises rising = rising_push calls l rising (All-weaker (IsLife s.past base) (λ m. m.ctx.0 < l.ctx.0)
      (λ m is. omega (arith, laws.held_below s.past m.ctx (kind_of (unwrap_or m.holder m.conn) m.deadline) s.tree_is.contexts.lawful is.call_is, made_later l.holder request_id st.contexts.lawful))
      calls s.calls_are)

  request_begun : (holder : Option Id) (r : Option V) → is_some holder ≡ is_some r → (t : StandsFor new (with_call l.ctx holder l.conn l.deadline now r s.past)) → option_and_then (value_in new.slots) holder ≡ r
  request_begun None None same_there t = refl
  request_begun None (Some r) same_there t = cc
  request_begun (Some h) None same_there t = cc
  request_begun (Some h) (Some r) same_there t =
      let mid : List (Op C V) = Makes h (Value l.conn 0 r) 0 ∷ s.past in
      let was : held h mid ≡ Some (Value l.conn 0 r) = made_held s.past h (Value l.conn 0 r) 0 in
      let far : same l.ctx h ≡ false = far_new l.ctx h (Value l.conn 0 r) mid (laws.new_unheld mid l.ctx (kind_of h l.deadline) (moment_of l.deadline now) t.contexts.lawful) was in
      shown_request new (with_call l.ctx (Some h) l.conn l.deadline now (Some r) s.past) h l.conn r t (rw far was)

  pub begun_unheld : held l.ctx s.past ≡ None
  begun_unheld = unheld l.holder request_id agree st
    where
      unheld : (holder : Option Id) (r : Option V) → is_some holder ≡ is_some r → StandsFor new (with_call l.ctx holder l.conn l.deadline now r s.past) → held l.ctx s.past ≡ None
      unheld None r same_there t = laws.new_unheld s.past l.ctx (kind_of l.conn l.deadline) (moment_of l.deadline now) t.contexts.lawful
      unheld (Some h) None same_there t = cc
      unheld (Some h) (Some r) same_there t = before h r (laws.new_unheld (Makes h (Value l.conn 0 r) 0 ∷ s.past) l.ctx (kind_of h l.deadline) (moment_of l.deadline now) t.contexts.lawful)
        where
          before : (h : Id) (r : V) → held l.ctx (Makes h (Value l.conn 0 r) 0 ∷ s.past) ≡ None → held l.ctx s.past ≡ None
          before h r none = ⊎_elim
              (λ (y : same h l.ctx ≡ true). let k : Kind C V = Value l.conn 0 r in let bad : Some k ≡ None = rw y at none in cc)
              (λ (n : same h l.ctx ≡ false). rw n at none)
              (cases_Bool (same h l.ctx))

  pub seen_begun : seen new.slots base conns (calls ++ l ∷ []) ≡ begun l.ctx l.id l.conn l.deadline now request_id (seen old.slots base conns calls)
  seen_begun =
      let e = all_seen laws s ids after new st begin_touches conns calls s.conns_are s.calls_are s.known begin_far in
      let ended : cause_in new.slots l.ctx ≡ option_or (ended_conn l.conn (map (seen_conn old.slots) conns)) (if_due now l.deadline) =
      shown new after l.ctx (kind_of (unwrap_or l.holder l.conn) l.deadline) st (call_held laws l.ctx l.conn l.deadline now s.past l.holder request_id)
      ∙ call_ended laws l.ctx l.conn l.deadline now s.past l.holder request_id agree
      ∙ ap (λ o. option_or o (if_due now l.deadline)) (sym (shown old s.past l.conn (Cancel base) s.tree_is conn_is) ∙ sym (ended_found old.slots conns l.conn conn_known)) in
      ap (λ cs. record { drained = cause_in new.slots base; conns = map (seen_conn new.slots) conns; calls = cs }) (map-append (seen_call new.slots) calls (l ∷ []))
      ∙ ap (λ (v : Standing C V). record { drained = v.drained; conns = v.conns; calls = v.calls ++ seen_call new.slots l ∷ [] }) e
      ∙ ap (λ c. record { drained = cause_in old.slots base; conns = map (seen_conn old.slots) conns; calls = map (seen_call old.slots) calls ++ c ∷ [] })
      (call_as new.slots l request_id _ [] (request_begun l.holder request_id agree st) ended (ap (map (seen_branch new.slots)) bare))

-- ---- a call that is not begun

module _ {C V H : Type 0} (laws : TreeLaws C V) {f : AfterFuncs H} {base : Id} {conns : List Id} {calls : List Life} {old : TreeValue C V} (s : IsSound old f base conns calls)
    (past : List (Op C V)) (new : TreeValue C V) (st : StandsFor new past) (t : Touches [] s.past past) where
  nothing_far : Far (all_ids s.root base conns calls) []
  nothing_far = all_far s [] (λ x kind is. refl)

  pub sound_alike : ((x : Id) → handed x past ≡ handed x s.past) → (f' : AfterFuncs H) → HooksStand f' s.hooks → IsSound new f' base conns calls
  sound_alike same_handed f' hs = grind arith

  pub seen_alike : seen new.slots base conns calls ≡ seen old.slots base conns calls
  seen_alike = all_seen laws s [] past new st t conns calls s.conns_are s.calls_are s.known nothing_far

pub handed_back : {C V : Type 0} (ctx conn : Id) (at : Option ℕ) (now : ℕ) (past : List (Op C V)) (holder : Option Id) (r : Option V) (x : Id)
    → handed x (let_go ctx holder (with_call ctx holder conn at now r past)) ≡ handed x past
handed_back ctx conn at now past holder r x = grind (arith, nat_tests)
