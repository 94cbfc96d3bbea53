-- A call or a connection that is gone.
use Rattle.call_contexts.proofs.Names.{◌≡◌, refl, sym, ap, ◌∙◌, append_assoc, List, [], ◌∷◌, ◌++◌, Option, Some, None, true, false, ⊎_elim, subst, is_some, arith, not, map, filter, All, unwrap_or, option_map, list_any, cases_Bool, or_right, All-filter, All-weaker, or-false, or-true, same_Some, Kind, Cancel, Value, Id, same, Releases, held, nearest, line, parent_of, TreeValue, StandsFor, is_among, AfterFuncs, CallId, Operation, waiting, due, Life, seen, seen_conn, seen_call, cause_in, ended_call, without, closed, request_for, AreApart, TreeLaws, Distinct, IsSound, IsLife, IsConn, IsHolder, IsUnhanded, IsFree, AreFree, Touches, all_ids, ids_in, ids_of, twig_ids, kind_of, contexts, let_go, hook_of, kept_of, life_at, life_for, NoTwo, same_ctx, why, nat_tests}
use Rattle.std.proofs.Common.{append-nil}
use Rattle.after_funcs.specs.Stands.{StandsFor as HooksStand}
use Rattle.call_contexts.proofs.Trees.{same_refl, same_true, not_both, shown, touch_released, released_held, call_value}
use Rattle.call_contexts.proofs.Making.{go_touches, gone_unheld}
use Rattle.call_contexts.proofs.Lists.{found_for, any_map, all_stay, all_none, both_all, found_in}
use Rattle.call_contexts.proofs.Hooking.{filter_map_swap}
use Rattle.call_contexts.proofs.Distinct.{ConnPlace, Far, LifePlace, among_rest, calls_apart, conn_place, conns_part, distinct_less, gone_from, life_place, none_between}
use Rattle.call_contexts.proofs.Seeing.{asked}
use Rattle.call_contexts.proofs.Family.{among_in, among_left, childless, kind_parent, own_first, owned}
use Rattle.call_contexts.proofs.Framing.{framed_sound, conns_kept, calls_kept, all_seen}

pub seen_apart : {C V : Type 0} (slots : _) (ls : List Life) → NoTwo same_ctx ls → AreApart (map (seen_call {C = C} {V = V} slots) ls)
seen_apart slots [] distinct = tt
seen_apart slots (l ∷ ls) distinct = (any_map (λ c. same c.id l.ctx) (seen_call slots) ls ∙ distinct.0, seen_apart slots ls distinct.1)

module _ {C V H : Type 0} {f : AfterFuncs H} {base : Id} {conns : List Id} {calls : List Life} {old : TreeValue C V} (s : IsSound old f base conns calls) (id : Id) where
  -- nothing is gone where no call has that context
  pub none_gone : list_any (λ l. same l.ctx id) calls ≡ false → seen old.slots base conns calls ≡ without id (seen old.slots base conns calls)
  none_gone none = ap (λ cs. record { drained = cause_in old.slots base; conns = map (seen_conn old.slots) conns; calls = cs })
      (sym (all_stay (λ c. same c.id id) (map (seen_call old.slots) calls) (any_map (λ c. same c.id id) (seen_call old.slots) calls ∙ none)))

-- ---- a call is gone

module _ {C V H : Type 0} (laws : TreeLaws C V) {f : AfterFuncs H} {base : Id} {conns : List Id} {calls : List Life} {old : TreeValue C V} (s : IsSound old f base conns calls)
    (id : Id) (l : Life) (found : life_at id calls ≡ Some l) (bare : All (λ m. same m.ctx id ≡ true → m.twigs ≡ []) calls) where
  one : IsLife s.past base l × (l.ctx ≡ id)
  one = found_in id (IsLife s.past base) l calls s.calls_are found

  is : IsLife s.past base l
  is = one.0

  abbrev ids : List Id
  ids = contexts l.ctx l.holder

  abbrev rest : List Life
  rest = filter (λ m. not (same m.ctx id)) calls

  place : LifePlace id l calls
  place = life_place id l calls (calls_apart s.root base conns calls s.distinct) found

  its_ids : ids_of l ≡ contexts l.ctx l.holder
  its_ids = ap (λ ts. contexts l.ctx l.holder ++ twig_ids ts) ((found_in id (λ m. same m.ctx id ≡ true → m.twigs ≡ []) l calls bare found).0 (rw one.1 (same_refl id))) ∙ append-nil (contexts l.ctx l.holder)

  was_ids : all_ids s.root base conns calls ≡ (s.root ∷ base ∷ conns ++ place.before) ++ (contexts l.ctx l.holder ++ place.after)
  was_ids = ap (λ xs. s.root ∷ base ∷ conns ++ xs) (place.was ∙ ap (λ ys. place.before ++ (ys ++ place.after)) its_ids)
      ∙ sym (append_assoc (s.root ∷ base ∷ conns) place.before (contexts l.ctx l.holder ++ place.after))

  now_ids : all_ids s.root base conns (filter (λ m. not (same m.ctx id)) calls) ≡ (s.root ∷ base ∷ conns ++ place.before) ++ place.after
  now_ids = ap (λ xs. s.root ∷ base ∷ conns ++ xs) place.now ∙ sym (append_assoc (s.root ∷ base ∷ conns) place.before place.after)

  less : Distinct ((s.root ∷ base ∷ conns ++ place.before) ++ place.after) × (Distinct (contexts l.ctx l.holder) × Far ((s.root ∷ base ∷ conns ++ place.before) ++ place.after) (contexts l.ctx l.holder))
  less = distinct_less (s.root ∷ base ∷ conns ++ place.before) ids place.after (subst Distinct was_ids s.distinct)

  far : Far (all_ids s.root base conns (filter (λ m. not (same m.ctx id)) calls)) (contexts l.ctx l.holder)
  far = subst (λ xs. Far xs ids) (sym now_ids) less.1.1

  still : (P : Life → Type 0) → All P calls → All P (filter (λ m. not (same m.ctx id)) calls)
  still P all = All-filter (λ m. not (same m.ctx id)) P calls all

  rest_are : All (IsLife s.past base) (filter (λ m. not (same m.ctx id)) calls)
  rest_are = still (IsLife s.past base) s.calls_are

  rest_known : All (λ m. is_among m.conn conns ≡ true) (filter (λ m. not (same m.ctx id)) calls)
  rest_known = still (λ m. is_among m.conn conns ≡ true) s.known

  none_more : (x : Id) → is_among x (contexts l.ctx l.holder) ≡ false → is_among x (all_ids s.root base conns (filter (λ m. not (same m.ctx id)) calls)) ≡ false → is_among x (all_ids s.root base conns calls) ≡ false
  none_more x n off = ap (is_among x) was_ids ∙ none_between x (s.root ∷ base ∷ conns ++ place.before) ids place.after (sym (ap (is_among x) now_ids) ∙ off) n

  -- ---- they can be let go of

  -- its connection's context is none of them
  conn_off : (x : Id) → is_among x (contexts l.ctx l.holder) ≡ true → l.conn ≡ x → ⊥
  conn_off x there e = not_both (is_among x ids) there (subst (λ z. is_among z ids ≡ false) e (among_in (λ z. is_among z ids ≡ false) l.conn (all_ids s.root base conns rest) far conn_kept))
    where
      conn_kept : is_among l.conn (all_ids s.root base conns rest) ≡ true
      conn_kept = or_right (same l.conn s.root) (is_among l.conn (base ∷ conns ++ ids_in rest)) (or_right (same l.conn base) (is_among l.conn (conns ++ ids_in rest))
          (among_left l.conn conns (ids_in rest) (found_in id (λ m. is_among m.conn conns ≡ true) l calls s.known found).0))

  -- a child of one of them
  no_child_of : (x : Id) → is_among x (contexts l.ctx l.holder) ≡ true → (y : Id) (k : Kind C V) → held y s.past ≡ Some k → parent_of k ≡ Some x → (y ≡ l.ctx → ⊥) → ⊥
  no_child_of x there y k y_is derives other = childless s conns rest s.conns_are rest_are rest_known ids none_more x (gone_from x (all_ids s.root base conns rest) ids far there) y k y_is derives
      (λ m. ⊎_elim other (λ (h : l.holder ≡ Some y). by l.holder is.holder_is h) (owned y l.ctx l.holder m))
    where
      by : (holder : Option Id) → IsHolder s.past l.conn holder → holder ≡ Some y → ⊥
      by None hs h = cc
      by (Some z) hs h = conn_off x there (same_Some l.conn x (ap parent_of (same_Some (Value l.conn 0 hs.0) k (sym (subst (λ w. held w s.past ≡ Some (Value l.conn 0 hs.0)) (same_Some z y h) hs.1) ∙ y_is)) ∙ derives))

  -- the call's own context derives from none of them but the one that has its request id
  own_parent : (k : Kind C V) → held l.ctx s.past ≡ Some k → parent_of k ≡ Some l.ctx → ⊥
  own_parent k k_is derives = by l.holder less.1.0 (λ e. conn_off l.ctx (own_first l.ctx l.holder) e)
      (same_Some (unwrap_or l.holder l.conn) l.ctx (sym (kind_parent C V (unwrap_or l.holder l.conn) l.deadline)
      ∙ ap parent_of (same_Some (kind_of (unwrap_or l.holder l.conn) l.deadline) k (sym is.call_is ∙ k_is)) ∙ derives))
    where
      by : (holder : Option Id) → Distinct (contexts l.ctx holder) → (l.conn ≡ l.ctx → ⊥) → unwrap_or holder l.conn ≡ l.ctx → ⊥
      by None d off e = off e
      by (Some h) d off e = not_both (is_among l.ctx (h ∷ [])) (rw e (rw (same_refl l.ctx) refl)) d.0

  own_free : IsFree l.ctx s.past
  own_free = record {
    is_held = ap is_some is.call_is;
    childless = λ c. no_child_of l.ctx (own_first l.ctx l.holder) c.child c.kind c.is_held c.derives
        (λ e. own_parent c.kind (subst (λ z. held z s.past ≡ Some c.kind) e c.is_held) c.derives);
  }

  pub call_frees : AreFree l.ctx l.holder s.past
  call_frees = by l.holder refl is.holder_is less.1.0
    where
      by : (holder : Option Id) → l.holder ≡ holder → IsHolder s.past l.conn holder → Distinct (contexts l.ctx holder) → AreFree l.ctx holder s.past
      by None h_is hs d = own_free
      by (Some h) h_is hs d = (
        own_free,
        record {
          is_held = rw (sym (or-false (same l.ctx h)) ∙ d.0) (ap is_some hs.1);
          childless = λ c. ⊎_elim
              (λ (y : same l.ctx c.child ≡ true). let bad : None ≡ Some c.kind = rw y at c.is_held in cc)
              (λ (n : same l.ctx c.child ≡ false). no_child_of h (subst (λ o. is_among h (contexts l.ctx o) ≡ true) (sym h_is) (rw (same_refl h) (or-true (same h l.ctx)))) c.child c.kind (rw n at c.is_held) c.derives
              (λ e. not_both (same l.ctx c.child) (rw e (same_refl l.ctx)) n))
              (cases_Bool (same l.ctx c.child));
        },
      )

  -- a release under the call's own name does it
  pub call_let_go : (new : TreeValue C V) → (AreFree id l.holder s.past → StandsFor new (let_go id l.holder s.past)) → StandsFor new (let_go l.ctx l.holder s.past)
  call_let_go new goes = subst (λ z. AreFree z l.holder s.past → StandsFor new (let_go z l.holder s.past)) (sym one.1) goes call_frees

  module _ (new : TreeValue C V) (st : StandsFor new (let_go l.ctx l.holder s.past)) where
    touches : Touches (contexts l.ctx l.holder) s.past (let_go l.ctx l.holder s.past)
    touches = go_touches l.ctx s.past l.holder

    gone_else : (x : Id) → is_among x (all_ids s.root base conns (filter (λ m. not (same m.ctx id)) calls)) ≡ false → held x (let_go l.ctx l.holder s.past) ≡ None
    gone_else x none = ⊎_elim
        (λ (y : is_among x (contexts l.ctx l.holder) ≡ true). gone_unheld l.ctx s.past l.holder x y)
        (λ (n : is_among x (contexts l.ctx l.holder) ≡ false). touches.held_is x n ∙ s.none_else x (none_more x n none))
        (cases_Bool (is_among x (contexts l.ctx l.holder)))

    unhanded_left : (holder : Option Id) (m : Life) → IsUnhanded s.past m → IsUnhanded (let_go l.ctx holder s.past) m
    unhanded_left None m m_is = m_is
    unhanded_left (Some h) m m_is = m_is

    pub sound_left : (f' : AfterFuncs H) (hooks' : List (Operation H)) → HooksStand f' hooks' → map hook_of (waiting hooks') ≡ map kept_of (filter (λ m. not (same m.ctx id)) calls) → due hooks' ≡ []
        → IsSound new f' base conns (filter (λ m. not (same m.ctx id)) calls)
    sound_left f' hooks' hs waits none = framed_sound laws s ids (let_go l.ctx l.holder s.past) new st touches conns rest s.conns_are rest_are rest_known far f' hooks' conns rest hs
        (conns_kept laws s ids (let_go l.ctx l.holder s.past) new st touches conns rest s.conns_are rest_are rest_known far)
        (calls_kept laws s ids (let_go l.ctx l.holder s.past) new st touches conns rest s.conns_are rest_are rest_known far)
        rest_known gone_else (subst Distinct (sym now_ids) less.0) waits none
        (All-weaker (IsUnhanded s.past) (IsUnhanded (let_go l.ctx l.holder s.past)) (unhanded_left l.holder) rest (still (IsUnhanded s.past) s.unhanded))

    pub seen_left : seen new.slots base conns (filter (λ m. not (same m.ctx id)) calls) ≡ without id (seen old.slots base conns calls)
    seen_left = all_seen laws s ids (let_go l.ctx l.holder s.past) new st touches conns rest s.conns_are rest_are rest_known far
        ∙ ap (λ cs. record { drained = cause_in old.slots base; conns = map (seen_conn old.slots) conns; calls = cs }) (sym (filter_map_swap (seen_call old.slots) (λ c. not (same c.id id)) calls))

-- ---- a connection is gone

module _ {C V H : Type 0} (laws : TreeLaws C V) {f : AfterFuncs H} {base : Id} {conns : List Id} {calls : List Life} {old : TreeValue C V} (s : IsSound old f base conns calls) (id : Id)
    (there : is_among id conns ≡ true) (none : list_any (λ c. same c.conn id) (map (seen_call old.slots) calls) ≡ false) where
  abbrev left : List Id
  left = filter (λ c. not (same c id)) conns

  id_is : held id s.past ≡ Some (Cancel base)
  id_is = among_in (IsConn base s.past) id conns s.conns_are there

  conn_at : ConnPlace id conns
  conn_at = conn_place id conns (conns_part s.root base conns calls s.distinct) there

  were_ids : all_ids s.root base conns calls ≡ (s.root ∷ base ∷ conn_at.before) ++ ((id ∷ []) ++ (conn_at.after ++ ids_in calls))
  were_ids = ap (λ cs. s.root ∷ base ∷ cs ++ ids_in calls) conn_at.was ∙ ap (λ xs. s.root ∷ base ∷ xs) (append_assoc conn_at.before (id ∷ conn_at.after) (ids_in calls))

  left_ids : all_ids s.root base (filter (λ c. not (same c id)) conns) calls ≡ (s.root ∷ base ∷ conn_at.before) ++ (conn_at.after ++ ids_in calls)
  left_ids = ap (λ cs. s.root ∷ base ∷ cs ++ ids_in calls) conn_at.now ∙ ap (λ xs. s.root ∷ base ∷ xs) (append_assoc conn_at.before conn_at.after (ids_in calls))

  fewer : Distinct ((s.root ∷ base ∷ conn_at.before) ++ (conn_at.after ++ ids_in calls)) × (Distinct (id ∷ []) × Far ((s.root ∷ base ∷ conn_at.before) ++ (conn_at.after ++ ids_in calls)) (id ∷ []))
  fewer = distinct_less (s.root ∷ base ∷ conn_at.before) (id ∷ []) (conn_at.after ++ ids_in calls) (subst Distinct were_ids s.distinct)

  off_left : Far (all_ids s.root base (filter (λ c. not (same c id)) conns) calls) (id ∷ [])
  off_left = subst (λ xs. Far xs (id ∷ [])) (sym left_ids) fewer.1.1

  conns_left : All (IsConn base s.past) (filter (λ c. not (same c id)) conns)
  conns_left = All-filter (λ c. not (same c id)) (IsConn base s.past) conns s.conns_are

  known_left : All (λ m. is_among m.conn (filter (λ c. not (same c id)) conns) ≡ true) calls
  known_left = All-weaker (λ m. (is_among m.conn conns ≡ true) × (same m.conn id ≡ false)) (λ m. is_among m.conn (filter (λ c. not (same c id)) conns) ≡ true) (λ m k. among_rest m.conn id conns k.1 k.0) calls
      (both_all (λ m. is_among m.conn conns ≡ true) (λ m. same m.conn id ≡ false) calls s.known (all_none (λ m. same m.conn id) calls (sym (any_map (λ c. same c.conn id) (seen_call old.slots) calls) ∙ none)))

  none_other : (x : Id) → is_among x (id ∷ []) ≡ false → is_among x (all_ids s.root base (filter (λ c. not (same c id)) conns) calls) ≡ false → is_among x (all_ids s.root base conns calls) ≡ false
  none_other x n off = ap (is_among x) were_ids ∙ none_between x (s.root ∷ base ∷ conn_at.before) (id ∷ []) (conn_at.after ++ ids_in calls) (sym (ap (is_among x) left_ids) ∙ off) n

  id_gone : is_among id (all_ids s.root base (filter (λ c. not (same c id)) conns) calls) ≡ false
  id_gone = gone_from id (all_ids s.root base left calls) (id ∷ []) off_left (rw (same_refl id) refl)

  pub conn_free : IsFree id s.past
  conn_free = record {
    is_held = ap is_some id_is;
    childless = λ c. childless s left calls conns_left s.calls_are known_left (id ∷ []) none_other id id_gone c.child c.kind c.is_held c.derives
        (λ m.
        let e : c.child ≡ id = same_true c.child id (sym (or-false (same c.child id)) ∙ m) in
        let b : base ≡ id = same_Some base id (ap parent_of (same_Some (Cancel base) c.kind (sym id_is ∙ subst (λ z. held z s.past ≡ Some c.kind) e c.is_held)) ∙ c.derives) in
        not_both (is_among id (all_ids s.root base left calls)) (subst (λ z. is_among z (all_ids s.root base left calls) ≡ true) b
        (or_right (same base s.root) (is_among base (base ∷ left ++ ids_in calls)) (rw (same_refl base) refl))) id_gone);
  }

  module _ (new : TreeValue C V) (st : StandsFor new (Releases id ∷ s.past)) where
    close_touches : Touches (id ∷ []) s.past (Releases id ∷ s.past)
    close_touches = touch_released id s.past

    close_else : (x : Id) → is_among x (all_ids s.root base (filter (λ c. not (same c id)) conns) calls) ≡ false → held x (Releases id ∷ s.past) ≡ None
    close_else x gone = grind (arith, nat_tests, same_true, released_held, or-false, close_touches, none_other)

    pub sound_closed : IsSound new f base (filter (λ c. not (same c id)) conns) calls
    sound_closed = framed_sound laws s (id ∷ []) (Releases id ∷ s.past) new st close_touches left calls conns_left s.calls_are known_left off_left f s.hooks left calls s.hooks_are
        (conns_kept laws s (id ∷ []) (Releases id ∷ s.past) new st close_touches left calls conns_left s.calls_are known_left off_left)
        (calls_kept laws s (id ∷ []) (Releases id ∷ s.past) new st close_touches left calls conns_left s.calls_are known_left off_left)
        known_left close_else (subst Distinct (sym left_ids) fewer.0) s.hook_waits s.none_due s.unhanded

    pub seen_closed : seen new.slots base (filter (λ c. not (same c id)) conns) calls ≡ closed id (seen old.slots base conns calls)
    seen_closed = all_seen laws s (id ∷ []) (Releases id ∷ s.past) new st close_touches left calls conns_left s.calls_are known_left off_left
        ∙ ap (λ cs. record { drained = cause_in old.slots base; conns = cs; calls = map (seen_call old.slots) calls }) (sym (filter_map_swap (seen_conn old.slots) (λ c. not (same c.id id)) conns))

-- ---- what is asked of a call

module _ {C V H : Type 0} {f : AfterFuncs H} {base : Id} {conns : List Id} {calls : List Life} {old : TreeValue C V} (s : IsSound old f base conns calls)
    (id : CallId) (l : Life) (found : life_for id calls ≡ Some l) where
  pub life_is : IsLife s.past base l
  life_is = found_for (IsLife s.past base) id l calls s.calls_are found

  pub call_known : is_some (held l.ctx s.past) ≡ true
  call_known = ap is_some life_is.call_is

  -- the request id that the tree tells is the one that is seen
  pub request_told : nearest 0 (line l.ctx s.past) ≡ request_for id (map (seen_call old.slots) calls)
  request_told = grind (arith, nat_tests, call_value, life_is, asked)

  -- the tree tells what ended the call as it is seen
  pub ended_told : why l.ctx s.past ≡ ended_call id (map (seen_call old.slots) calls)
  ended_told = grind (arith, nat_tests, shown, life_is, asked)

-- the answer about a context that is held
pub asked_held : {K A : Type 0} (o : Option K) (a : A) → is_some o ≡ true → option_map (λ kind. a) o ≡ Some a
asked_held None a is = cc
asked_held (Some k) a is = refl

pub none_is_some : {A : Type 0} {a : A} → None ≡ Some a → ⊥
none_is_some is = cc
