-- A branch that starts, and one that is let go of.
use Rattle.call_contexts.proofs.Names.{◌≡◌, refl, sym, ap, ◌∙◌, ℕ, ◌<◌, length, slice_set, List, [], ◌∷◌, ◌++◌, Some, None, true, false, ⊎_elim, subst, is_some, arith, slice_index_or, map, All, unwrap_or, option_or, cases_Bool, append-nil, map-append, set-get_or, All-cons, All-head, All-tail, All-map, All-push, All-weaker, or-false, same_Some, Deadline, Id, same, Makes, Releases, held, handed, parent_of, TreeValue, StandsFor, is_among, AfterFuncs, Life, Twig, Branch, Call, Slots, cause_in, if_due, drop_branch, seen, seen_conn, seen_call, seen_branch, seen_branches, branched, on_branches, Op, TreeLaws, Distinct, IsSound, IsLife, IsTwig, IsUnhanded, IsFree, IsPlaced, IsStarted, IsWithout, Touches, all_ids, twig_ids, kind_of, kept_of, drop_twig, with_twigs, life_at, NoTwo, same_ctx, why, nat_tests}
use Rattle.call_contexts.proofs.Trees.{same_refl, same_true, not_both, shown, far_one, far_new, touch_made, touch_released, made_held, released_held}
use Rattle.call_contexts.proofs.Making.{born_ended}
use Rattle.call_contexts.proofs.Seeing.{branch_as}
use Rattle.call_contexts.proofs.Lists.{found_in, map_same}
use Rattle.call_contexts.proofs.Branches.{only_one, placed_call, seen_still, turn_seen}
use Rattle.call_contexts.proofs.Distinct.{Far, TwigPlace, between, calls_apart, distinct_less, distinct_more, gone_from, ids_between, none_between, twig_place}
use Rattle.call_contexts.proofs.Family.{among_in, among_left, among_right, childless}
use Rattle.call_contexts.proofs.Framing.{all_far, all_seen, calls_kept, conns_kept, framed_sound}

-- ---- one of a list

middle_all : (t : Twig) (P : Twig → Type 0) (front back : List Twig) → All P (front ++ t ∷ back) → P t × All P (front ++ back)
middle_all t P [] back all = (All-head P t back all, All-tail P t back all)
middle_all t P (u ∷ us) back all =
    let rest = middle_all t P us back (All-tail P u (us ++ t ∷ back) all) in
    (rest.0, All-cons P u (us ++ back) (All-head P u (us ++ t ∷ back) all) rest.1)

pub dropped_seen : {C V : Type 0} (slots : Slots C V) (n : ℕ) (ts : List Twig) → drop_branch n (seen_branches slots ts) ≡ seen_branches slots (drop_twig n ts)
dropped_seen slots n [] = refl
dropped_seen slots n (t ∷ ts) = grind (arith, dropped_seen slots n ts)

-- ---- the call has other branches

module _ {C V : Type 0} (id : Id) (base : Id) (ts : List Twig) (past : List (Op C V)) where
  with_lives : (ls : List Life) → All (IsLife past base) ls → All (IsTwig past id) ts → All (IsLife past base) (map (with_twigs id ts) ls)
  with_lives ls all are = All-map (IsLife past base) (with_twigs id ts) ls
      (All-weaker (IsLife past base) (λ m. IsLife past base (with_twigs id ts m))
      (λ m is. record {
        call_is = is.call_is;
        holder_is = is.holder_is;
        conn_is = is.conn_is;
        twigs_are = ⊎_elim
            (λ (y : same m.ctx id ≡ true). rw y (subst (λ z. All (IsTwig past z) ts) (sym (same_true m.ctx id y)) are))
            (λ (n : same m.ctx id ≡ false). rw n is.twigs_are)
            (cases_Bool (same m.ctx id));
      }) ls all)

  with_unhanded : (ls : List Life) → All (IsUnhanded past) ls → All (λ t. handed t.ctx past ≡ false) ts → All (IsUnhanded past) (map (with_twigs id ts) ls)
  with_unhanded ls all are = All-map (IsUnhanded past) (with_twigs id ts) ls
      (All-weaker (IsUnhanded past) (λ m. IsUnhanded past (with_twigs id ts m))
      (λ m is. (is.0, ⊎_elim (λ (y : same m.ctx id ≡ true). rw y are) (λ (n : same m.ctx id ≡ false). rw n is.1) (cases_Bool (same m.ctx id)))) ls all)

-- ---- a branch starts

module _ {C V H : Type 0} (laws : TreeLaws C V) {f : AfterFuncs H} {base : Id} {conns : List Id} {calls : List Life} {old : TreeValue C V} (s : IsSound old f base conns calls)
    (id : Id) (l : Life) (found : life_at id calls ≡ Some l) (t : Twig) (now : ℕ) (new : TreeValue C V) (st : StandsFor new (Makes t.ctx (Deadline id t.at None) now ∷ s.past)) where
  abbrev later : List (Op C V)
  later = Makes t.ctx (Deadline id t.at None) now ∷ s.past

  abbrev more : List Twig
  more = l.twigs ++ t ∷ []

  differ : NoTwo same_ctx calls
  differ = calls_apart s.root base conns calls s.distinct

  unheld : held t.ctx s.past ≡ None
  unheld = laws.new_unheld s.past t.ctx (Deadline id t.at None) now st.contexts.lawful

  new_far : Far (all_ids s.root base conns calls) (t.ctx ∷ [])
  new_far = all_far s (t.ctx ∷ []) (λ x kind is. far_one x t.ctx (far_new t.ctx x kind s.past unheld is))

  made_touches : Touches (t.ctx ∷ []) s.past (Makes t.ctx (Deadline id t.at None) now ∷ s.past)
  made_touches = touch_made t.ctx (Deadline id t.at None) now s.past

  kept : All (IsLife later base) calls
  kept = calls_kept laws s (t.ctx ∷ []) later new st made_touches conns calls s.conns_are s.calls_are s.known new_far

  its : IsLife later base l × (l.ctx ≡ id)
  its = found_in id (IsLife later base) l calls kept found

  -- where it stands among all
  stands : TwigPlace id l calls
  stands = twig_place id l calls differ found

  plain_ids : all_ids s.root base conns calls ≡ (s.root ∷ base ∷ conns ++ (stands.before ++ twig_ids l.twigs)) ++ stands.after
  plain_ids = ap (λ xs. s.root ∷ base ∷ conns ++ xs) (stands.was ∙ ap (λ xs. stands.before ++ (xs ++ stands.after)) (sym (append-nil (twig_ids l.twigs))))
      ∙ ids_between (s.root ∷ base ∷ conns) stands.before (twig_ids l.twigs) [] [] stands.after

  more_ids : all_ids s.root base conns (map (with_twigs id (l.twigs ++ t ∷ [])) calls) ≡ (s.root ∷ base ∷ conns ++ (stands.before ++ twig_ids l.twigs)) ++ ((t.ctx ∷ []) ++ stands.after)
  more_ids = ap (λ xs. s.root ∷ base ∷ conns ++ xs) (stands.now more ∙ ap (λ xs. stands.before ++ (xs ++ stands.after)) (map-append (λ (u : Twig). u.ctx) l.twigs (t ∷ [])))
      ∙ ids_between (s.root ∷ base ∷ conns) stands.before (twig_ids l.twigs) (t.ctx ∷ []) [] stands.after

  made_else : (x : Id) → is_among x (all_ids s.root base conns (map (with_twigs id (l.twigs ++ t ∷ [])) calls)) ≡ false → held x (Makes t.ctx (Deadline id t.at None) now ∷ s.past) ≡ None
  made_else x none =
      let two = between x (s.root ∷ base ∷ conns ++ (stands.before ++ twig_ids l.twigs)) (t.ctx ∷ []) stands.after (sym (ap (is_among x) more_ids) ∙ none) in
      made_touches.held_is x two.0 ∙ s.none_else x (ap (is_among x) plain_ids ∙ two.1)

  pub sound_branched : IsSound new f base conns (map (with_twigs id (l.twigs ++ t ∷ [])) calls)
  sound_branched = framed_sound laws s (t.ctx ∷ []) later new st made_touches conns calls s.conns_are s.calls_are s.known new_far f s.hooks conns (map (with_twigs id more) calls) s.hooks_are
      (conns_kept laws s (t.ctx ∷ []) later new st made_touches conns calls s.conns_are s.calls_are s.known new_far)
      (with_lives id base more later calls kept
      (All-push (IsTwig later id) l.twigs t (subst (λ z. All (IsTwig later z) l.twigs) its.1 its.0.twigs_are) (made_held s.past t.ctx (Deadline id t.at None) now)))
      (All-map (λ m. is_among m.conn conns ≡ true) (with_twigs id more) calls s.known)
      made_else
      (subst Distinct (sym more_ids) (distinct_more (s.root ∷ base ∷ conns ++ (stands.before ++ twig_ids l.twigs)) (t.ctx ∷ []) stands.after (subst Distinct plain_ids s.distinct) (refl, tt)
      (subst (λ xs. Far xs (t.ctx ∷ [])) plain_ids new_far)))
      (s.hook_waits ∙ map_same kept_of (with_twigs id more) calls (λ m. refl)) s.none_due
      (with_unhanded id base more later calls s.unhanded
      (All-push (λ u. handed u.ctx s.past ≡ false) l.twigs t (found_in id (IsUnhanded s.past) l calls s.unhanded found).0.1
      (laws.new_unhanded s.past t.ctx (Deadline id t.at None) now st.contexts.lawful)))

  same_seen : seen new.slots base conns calls ≡ seen old.slots base conns calls
  same_seen = all_seen laws s (t.ctx ∷ []) later new st made_touches conns calls s.conns_are s.calls_are s.known new_far

  -- it has ended by what had ended its call, or where its deadline is reached
  born : seen_branch new.slots t ≡ record { branch = t.branch; deadline = t.at; ended = option_or (cause_in new.slots l.ctx) (if_due now (Some t.at)) }
  born = branch_as new.slots t _
      (shown new later t.ctx (Deadline id t.at None) st (made_held s.past t.ctx (Deadline id t.at None) now)
      ∙ born_ended s.past t.ctx id (Some t.at) now
      ∙ ap (λ x. option_or (why x s.past) (if_due now (Some t.at))) (sym its.1)
      ∙ ap (λ e. option_or e (if_due now (Some t.at)))
      (sym (made_touches.ending_is l.ctx (kind_of (unwrap_or l.holder l.conn) l.deadline) off was.call_is) ∙ sym (shown new later l.ctx (kind_of (unwrap_or l.holder l.conn) l.deadline) st its.0.call_is)))
    where
      was : IsLife s.past base l
      was = (found_in id (IsLife s.past base) l calls s.calls_are found).0

      off : is_among l.ctx (t.ctx ∷ []) ≡ false
      off = far_one l.ctx t.ctx (far_new t.ctx l.ctx (kind_of (unwrap_or l.holder l.conn) l.deadline) s.past unheld was.call_is)

  abbrev started_on : Call C V → List (Branch C)
  started_on c = c.branches ++ record { branch = t.branch; deadline = t.at; ended = option_or c.ended (if_due now (Some t.at)) } ∷ []

  pub seen_branched : seen new.slots base conns (map (with_twigs id (l.twigs ++ t ∷ [])) calls) ≡ branched id t.branch t.at now (seen old.slots base conns calls)
  seen_branched =
      ap (λ cs. record { drained = cause_in new.slots base; conns = map (seen_conn new.slots) conns; calls = cs })
      (turn_seen new.slots id started_on more calls
      (All-weaker (λ m. same m.ctx id ≡ true → m ≡ l) (λ m. same m.ctx id ≡ true → started_on (seen_call new.slots m) ≡ seen_branches new.slots (l.twigs ++ t ∷ []))
      (λ m one y. ap (λ (k : Life). started_on (seen_call new.slots k)) (one y)
      ∙ ap (λ b. seen_branches new.slots l.twigs ++ b ∷ []) (sym born)
      ∙ sym (map-append (seen_branch new.slots) l.twigs (t ∷ []))) calls (only_one id l calls differ found)))
      ∙ ap (branched id t.branch t.at now) same_seen

-- ---- a branch is let go of

module _ {C V H : Type 0} (laws : TreeLaws C V) {f : AfterFuncs H} {base : Id} {conns : List Id} {calls : List Life} {old : TreeValue C V} (s : IsSound old f base conns calls)
    (id : Id) (l : Life) (found : life_at id calls ≡ Some l) (t : Twig) (front back : List Twig) (was : l.twigs ≡ front ++ t ∷ back) where
  abbrev left : List Life
  left = map (with_twigs id (front ++ back)) calls

  own : IsLife s.past base l × (l.ctx ≡ id)
  own = found_in id (IsLife s.past base) l calls s.calls_are found

  split : IsTwig s.past l.ctx t × All (IsTwig s.past l.ctx) (front ++ back)
  split = middle_all t (IsTwig s.past l.ctx) front back (subst (All (IsTwig s.past l.ctx)) was own.0.twigs_are)

  at : TwigPlace id l calls
  at = twig_place id l calls (calls_apart s.root base conns calls s.distinct) found

  was_ids : all_ids s.root base conns calls ≡ (s.root ∷ base ∷ conns ++ (at.before ++ twig_ids front)) ++ ((t.ctx ∷ []) ++ (twig_ids back ++ at.after))
  was_ids = ap (λ xs. s.root ∷ base ∷ conns ++ xs) (at.was ∙ ap (λ ts. at.before ++ (twig_ids ts ++ at.after)) was ∙ ap (λ xs. at.before ++ (xs ++ at.after)) (map-append (λ (u : Twig). u.ctx) front (t ∷ back)))
      ∙ ids_between (s.root ∷ base ∷ conns) at.before (twig_ids front) (t.ctx ∷ []) (twig_ids back) at.after

  left_ids : all_ids s.root base conns (map (with_twigs id (front ++ back)) calls) ≡ (s.root ∷ base ∷ conns ++ (at.before ++ twig_ids front)) ++ (twig_ids back ++ at.after)
  left_ids = ap (λ xs. s.root ∷ base ∷ conns ++ xs) (at.now (front ++ back) ∙ ap (λ xs. at.before ++ (xs ++ at.after)) (map-append (λ (u : Twig). u.ctx) front back))
      ∙ ids_between (s.root ∷ base ∷ conns) at.before (twig_ids front) [] (twig_ids back) at.after

  less : Distinct ((s.root ∷ base ∷ conns ++ (at.before ++ twig_ids front)) ++ (twig_ids back ++ at.after)) × (Distinct (t.ctx ∷ []) × Far ((s.root ∷ base ∷ conns ++ (at.before ++ twig_ids front)) ++ (twig_ids back ++ at.after)) (t.ctx ∷ []))
  less = distinct_less (s.root ∷ base ∷ conns ++ (at.before ++ twig_ids front)) (t.ctx ∷ []) (twig_ids back ++ at.after) (subst Distinct was_ids s.distinct)

  far : Far (all_ids s.root base conns (map (with_twigs id (front ++ back)) calls)) (t.ctx ∷ [])
  far = subst (λ xs. Far xs (t.ctx ∷ [])) (sym left_ids) less.1.1

  left_are : All (IsLife s.past base) (map (with_twigs id (front ++ back)) calls)
  left_are = with_lives id base (front ++ back) s.past calls s.calls_are (subst (λ z. All (IsTwig s.past z) (front ++ back)) own.1 split.1)

  left_known : All (λ m. is_among m.conn conns ≡ true) (map (with_twigs id (front ++ back)) calls)
  left_known = All-map (λ m. is_among m.conn conns ≡ true) (with_twigs id (front ++ back)) calls s.known

  none_more : (x : Id) → is_among x (t.ctx ∷ []) ≡ false → is_among x (all_ids s.root base conns (map (with_twigs id (front ++ back)) calls)) ≡ false → is_among x (all_ids s.root base conns calls) ≡ false
  none_more x n off = ap (is_among x) was_ids
      ∙ none_between x (s.root ∷ base ∷ conns ++ (at.before ++ twig_ids front)) (t.ctx ∷ []) (twig_ids back ++ at.after) (sym (ap (is_among x) left_ids) ∙ off) n

  -- none derives from it: its call's context is another
  pub twig_free : IsFree t.ctx s.past
  twig_free = record {
    is_held = ap is_some split.0;
    childless = λ c. childless s conns left s.conns_are left_are left_known (t.ctx ∷ []) none_more t.ctx (gone_from t.ctx (all_ids s.root base conns left) (t.ctx ∷ []) far (rw (same_refl t.ctx) refl))
        c.child c.kind c.is_held c.derives
        (λ m.
        let e : c.child ≡ t.ctx = same_true c.child t.ctx (sym (or-false (same c.child t.ctx)) ∙ m) in
        let p : l.ctx ≡ t.ctx = same_Some l.ctx t.ctx (ap parent_of (same_Some (Deadline l.ctx t.at None) c.kind (sym split.0 ∙ subst (λ z. held z s.past ≡ Some c.kind) e c.is_held)) ∙ c.derives) in
        not_both (is_among l.ctx (t.ctx ∷ [])) (rw p (rw (same_refl t.ctx) refl)) (among_in (λ z. is_among z (t.ctx ∷ []) ≡ false) l.ctx (all_ids s.root base conns left) far call_kept));
  }
    where
      call_kept : is_among l.ctx (all_ids s.root base conns (map (with_twigs id (front ++ back)) calls)) ≡ true
      call_kept = ap (is_among l.ctx) left_ids ∙ among_left l.ctx (s.root ∷ base ∷ conns ++ (at.before ++ twig_ids front)) (twig_ids back ++ at.after)
          (among_right l.ctx (s.root ∷ base ∷ conns) (at.before ++ twig_ids front) (among_left l.ctx at.before (twig_ids front) at.own))

  module _ (new : TreeValue C V) (st : StandsFor new (Releases t.ctx ∷ s.past)) where
    touches : Touches (t.ctx ∷ []) s.past (Releases t.ctx ∷ s.past)
    touches = touch_released t.ctx s.past

    dropped_else : (x : Id) → is_among x (all_ids s.root base conns (map (with_twigs id (front ++ back)) calls)) ≡ false → held x (Releases t.ctx ∷ s.past) ≡ None
    dropped_else x none = grind (arith, nat_tests, same_true, released_held, or-false, touches, none_more)

    pub sound_unbranched : IsSound new f base conns (map (with_twigs id (front ++ back)) calls)
    sound_unbranched = framed_sound laws s (t.ctx ∷ []) (Releases t.ctx ∷ s.past) new st touches conns left s.conns_are left_are left_known far f s.hooks conns left s.hooks_are
        (conns_kept laws s (t.ctx ∷ []) (Releases t.ctx ∷ s.past) new st touches conns left s.conns_are left_are left_known far)
        (calls_kept laws s (t.ctx ∷ []) (Releases t.ctx ∷ s.past) new st touches conns left s.conns_are left_are left_known far)
        left_known dropped_else (subst Distinct (sym left_ids) less.0)
        (s.hook_waits ∙ map_same kept_of (with_twigs id (front ++ back)) calls (λ m. refl)) s.none_due
        (with_unhanded id base (front ++ back) (Releases t.ctx ∷ s.past) calls s.unhanded
        (middle_all t (λ u. handed u.ctx s.past ≡ false) front back (subst (All (λ u. handed u.ctx s.past ≡ false)) was (found_in id (IsUnhanded s.past) l calls s.unhanded found).0.1)).1)

    pub seen_unbranched : (g : Call C V → List (Branch C)) → g (seen_call old.slots l) ≡ seen_branches old.slots (front ++ back)
        → seen new.slots base conns (map (with_twigs id (front ++ back)) calls) ≡ on_branches id g (seen old.slots base conns calls)
    seen_unbranched g is =
        all_seen laws s (t.ctx ∷ []) (Releases t.ctx ∷ s.past) new st touches conns left s.conns_are left_are left_known far
        ∙ ap (λ cs. record { drained = cause_in old.slots base; conns = map (seen_conn old.slots) conns; calls = cs })
        (turn_seen old.slots id g (front ++ back) calls
        (All-weaker (λ m. same m.ctx id ≡ true → m ≡ l) (λ m. same m.ctx id ≡ true → g (seen_call old.slots m) ≡ seen_branches old.slots (front ++ back))
        (λ m one y. ap (λ (k : Life). g (seen_call old.slots k)) (one y) ∙ is) calls (only_one id l calls (calls_apart s.root base conns calls s.distinct) found)))

-- ---- the call stands at a place, with these branches now

module _ {C V H : Type 0} {f : AfterFuncs H} {base : Id} {conns : List Id} {calls : List Life} {old : TreeValue C V} (s : IsSound old f base conns calls)
    (id : Id) (i : ℕ) (l : Life) (ts : List Twig) (lt : i < length calls) (placed : IsPlaced id i calls) (l_is : l ≡ slice_index_or calls i l) (new : TreeValue C V) where
  at_place : (us : List Twig) → (life_at id calls ≡ Some l) × (slice_set calls i (record l { twigs = us }) ≡ map (with_twigs id us) calls)
  at_place us = placed_call id i l us calls (calls_apart s.root base conns calls s.distinct) lt placed l_is

  -- the same branches
  pub same_set : ts ≡ l.twigs → slice_set calls i (record l { twigs = ts }) ≡ calls
  same_set is = ap (λ us. slice_set calls i (record l { twigs = us })) is ∙ ap (slice_set calls i) l_is ∙ set-get_or calls i l

  -- one more
  module _ (branch at now : ℕ) (m : IsStarted id branch at now l.twigs ts old new) where
    more_set : slice_set calls i (record l { twigs = ts }) ≡ map (with_twigs id (l.twigs ++ record { ctx = m.ctx; branch = branch; at = at } ∷ [])) calls
    more_set = (at_place ts).1 ∙ ap (λ us. map (with_twigs id us) calls) m.is

    pub sound_started : IsSound new f base conns (slice_set calls i (record l { twigs = ts }))
    sound_started = subst (IsSound new f base conns) (sym more_set)
        (sound_branched s.laws s id l (at_place ts).0 (record { ctx = m.ctx; branch = branch; at = at }) now new (m.stands s.past s.tree_is))

    pub seen_started : seen new.slots base conns (slice_set calls i (record l { twigs = ts })) ≡ branched id branch at now (seen old.slots base conns calls)
    seen_started = ap (seen new.slots base conns) more_set
        ∙ seen_branched s.laws s id l (at_place ts).0 (record { ctx = m.ctx; branch = branch; at = at }) now new (m.stands s.past s.tree_is)

  -- one fewer
  module _ (t : Twig) (w : IsWithout t l.twigs ts) (frees : (past : List (Op C V)) → StandsFor old past → IsFree t.ctx past → StandsFor new (Releases t.ctx ∷ past)) where
    fewer_set : slice_set calls i (record l { twigs = ts }) ≡ map (with_twigs id (w.front ++ w.back)) calls
    fewer_set = (at_place ts).1 ∙ ap (λ us. map (with_twigs id us) calls) w.is

    freed : StandsFor new (Releases t.ctx ∷ s.past)
    freed = frees s.past s.tree_is (twig_free s.laws s id l (at_place ts).0 t w.front w.back w.was)

    pub sound_taken : IsSound new f base conns (slice_set calls i (record l { twigs = ts }))
    sound_taken = subst (IsSound new f base conns) (sym fewer_set) (sound_unbranched s.laws s id l (at_place ts).0 t w.front w.back w.was new freed)

    pub seen_taken : (g : Call C V → List (Branch C)) → g (seen_call old.slots l) ≡ seen_branches old.slots ts
        → seen new.slots base conns (slice_set calls i (record l { twigs = ts })) ≡ on_branches id g (seen old.slots base conns calls)
    seen_taken g is = ap (seen new.slots base conns) fewer_set
        ∙ seen_unbranched s.laws s id l (at_place ts).0 t w.front w.back w.was new freed g (is ∙ ap (seen_branches old.slots) w.is)

  -- nothing changes where it has the branches that are asked for
  pub seen_same : (g : Call C V → List (Branch C)) → g (seen_call old.slots l) ≡ seen_branches old.slots l.twigs → seen old.slots base conns calls ≡ on_branches id g (seen old.slots base conns calls)
  seen_same g is = seen_still old.slots id g base conns calls
      (All-weaker (λ m. same m.ctx id ≡ true → m ≡ l) (λ m. same m.ctx id ≡ true → g (seen_call old.slots m) ≡ seen_branches old.slots m.twigs)
      (λ m one y. subst (λ (k : Life). g (seen_call old.slots k) ≡ seen_branches old.slots k.twigs) (sym (one y)) is) calls (only_one id l calls (calls_apart s.root base conns calls s.distinct) (at_place ts).0))
