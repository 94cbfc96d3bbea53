-- What a tree stands for after each call.
use Rattle.std.proofs.Common.{◌≡◌, refl, sym, ap, subst, ◌∙◌, arith, rules, ℕ, ◌+◌, ◌<◌, ◌≤◌, List, [], ◌∷◌, ◌++◌, Option, Some, None, true, false, inl, inr, ⊎_elim, option_map}
use Rattle.std.specs.Prelude.{Result, Ok, Err, option_copied, ◌==◌, if◌then◌else◌, is_some, is_none, not, filter, option_and_then}
use Rattle.std.specs.Borrow.{Bor}
use Rattle.std.specs.Result.{OnOk, is_err}
use Rattle.std.specs.Option.{IfSome, option_or, option_to_list}
use Rattle.std.proofs.lemmas.Bool.{cases_Bool, eq-eqb, eqb-true}
use Rattle.std.proofs.lemmas.Option.{same_Some}
use Rattle.slab.specs.Slab.{Slab, get}
use Rattle.timer_heap.specs.Timers.{Timing, without}
use Rattle.context_tree.specs.declared.node.Ending.{Ending}
use Rattle.context_tree.specs.declared.node.Kind.{Kind}
use Rattle.context_tree.specs.declared.node.Node.{Node}
use Rattle.context_tree.specs.Context.{Id, same, TreeOp, Makes, HandsOut, Releases, Ended, held, parent_of, follows, line, nearest, value, ending, deadline, expiry, own_due, own_deadline, sooner, IsFirstDone}
use Rattle.context_tree.specs.Links.{no_links, bare, slot_of, KeepsOthers}
use Rattle.context_tree.specs.Tree.{TreeValue, numbered, node_at, ending_in, deadline_in, is_live, told, context, IsLawful, IsReached, ParentHeld, Keeps, if_held, KnowsContexts, QueuesDone, StandsFor, most_visits}
use Rattle.context_tree.specs.Timed.{Timed, with_timer, if_sooner, deadline_above, time_of}
use Rattle.context_tree.proofs.Lineage.{same_refl}
use Rattle.context_tree.proofs.Bare.{bare_numbered, bare_ending, bare_there, same_there}
use Rattle.context_tree.proofs.Linking.{apart}
use Rattle.context_tree.proofs.Marking.{in_slot}
use Rattle.context_tree.proofs.Ordering.{among_first}
use Rattle.context_tree.proofs.Queueing.{first_done, make_queue, hand_queue, release_queue}
use Rattle.context_tree.proofs.Standing.{deadline_there, follows_held, keeps_of, new_known, put_known, told_none}
use Rattle.context_tree.proofs.Timing.{hand_timed, make_timed, make_untimed, new_timed, release_timed}

pub unless_err : {T E : Type 0} (r : Result T E) (P : Type 0) → OnOk r P → is_err r ≡ false → P
unless_err (Ok t) P p is = p
unless_err (Err e) P p is = cc

pub copied_some : {A : Type 0} (o : Option (Bor A)) → is_some o ≡ true → (a : A) × (option_copied o ≡ Some a)
copied_some None is = cc
copied_some (Some b) is = (b.now, refl)

pub no_room : (C V : Type 0) (room k : ℕ) → is_some (slot_of {C = C} {V = V} [] k) ≡ true → k < room
no_room C V room k is = cc

module _ {C V : Type 0} where
  pub new_stands : (timers : Timing) → timers.entries ≡ [] → timers.sets ≡ 0 → StandsFor {C = C} {V = V} (record { slots = []; done = []; timers = timers; made = 0; visits = 0 }) []
  new_stands timers none zero' =
      let empty : timers ≡ record { entries = []; sets = 0 } = ap (λ e. record { entries = e; sets = timers.sets }) none ∙ ap (λ n. record { entries = []; sets = n }) zero' in
      rw empty (record { contexts = new_known; queue = record { are_waiting = λ x. refl; in_order = tt }; timers = new_timed; visits_few = omega arith })

  -- where keys that have a node are below some room, so they are with a key put in that is below it
  pub room_with : (old new : List (Option (Node C V))) (room more key : ℕ) → ((k : ℕ) → is_some (slot_of old k) ≡ true → k < room) → room ≤ more → KeepsOthers old new key → key < more
      → (k : ℕ) → is_some (slot_of new k) ≡ true → k < more
  room_with old new room more key low le others here k is = ⊎_elim
      (λ (same : k ≡ key). rw same here)
      (λ (other : k ≡ key → ⊥). let was : k < room = low k (sym (same_there (slot_of new k) (slot_of old k) (others k other)) ∙ is) in omega (arith, was, le))
      (apart k key)

  -- and with one taken out
  pub room_without : (old new : List (Option (Node C V))) (room key : ℕ) → ((k : ℕ) → is_some (slot_of old k) ≡ true → k < room) → KeepsOthers old new key → slot_of new key ≡ None
      → (k : ℕ) → is_some (slot_of new k) ≡ true → k < room
  room_without old new room key low others gone k is = ⊎_elim
      (λ (same : k ≡ key). let bad : false ≡ true = sym (ap is_some (ap (slot_of new) same ∙ gone)) ∙ is in cc)
      (λ (other : k ≡ key → ⊥). low k (sym (same_there (slot_of new k) (slot_of old k) (others k other)) ∙ is))
      (apart k key)

  -- ---- a context is made

  -- a node that is there tells how its context is ended
  told_ending : (t : TreeValue C V) (past : List (TreeOp C V)) (x : Id) (n : Node C V) (kind : Kind C V) → KnowsContexts t past → bare (node_at t.slots x) ≡ Some n → held x past ≡ Some kind → n.ending ≡ option_map told (ending x past)
  told_ending t past x n kind s is held_is =
      let here : Some n ≡ Some (record { number = x.0; kind = kind; ending = option_map told (ending x past); deadline = deadline x past; links = no_links }) = sym is ∙ s.nodes_are x ∙ rw held_is refl in
      ap (λ (m : Node C V). m.ending) (same_Some n _ here)

  -- the timer of a new context
  timer_made : (t : Timing) (past : List (TreeOp C V)) (id : Id) (kind : Kind C V) (now : ℕ) → IsLawful (Makes id kind now ∷ past) → Timed t past → (e : Option (Ended C)) → ending id (Makes id kind now ∷ past) ≡ e
      → (own : Option ℕ) → time_of kind past ≡ own → Timed (with_timer (if is_none e then own else None) id.1 t) (Makes id kind now ∷ past)
  timer_made t past id kind now lawful timed (Some e) e_is own own_is = make_untimed t past id kind now lawful timed (inr (λ none. let bad : Some e ≡ None = sym e_is ∙ none in cc))
  timer_made t past id kind now lawful timed None e_is None own_is = make_untimed t past id kind now lawful timed (inl own_is)
  timer_made t past id kind now lawful timed None e_is (Some at) own_is = make_timed t past id kind now at lawful timed own_is e_is

  pub put_stands : (t u : TreeValue C V) (past : List (TreeOp C V)) → StandsFor t past → (roomy put : Slab (Node C V)) (slot key : ℕ) (done : List Id) (kind : Kind C V) (now : ℕ) (e : Option (Ending C)) (d above : Option ℕ)
      → roomy.slots ≡ t.slots → done ≡ t.done → key ≡ slot → get roomy slot ≡ None
      → bare (slot_of put.slots key) ≡ Some (record { number = t.made; kind = kind; ending = e; deadline = d; links = no_links }) → KeepsOthers roomy.slots put.slots key
      → ParentHeld (parent_of kind) past
      → e ≡ option_or (option_and_then (λ p. ending_in roomy.slots p) (follows kind)) (option_map (λ x. told (expiry 0 x)) (own_due now ((t.made, slot), kind)))
      → d ≡ sooner (own_deadline kind) (option_and_then (λ p. deadline_in roomy.slots p) (follows kind))
      → above ≡ option_and_then (λ p. deadline_in roomy.slots p) (follows kind)
      → u.slots ≡ put.slots → u.done ≡ (if is_none e then done else done ++ (t.made, slot) ∷ []) → u.made ≡ t.made + 1 → u.visits ≡ t.visits
      → u.timers ≡ with_timer (if is_none e then if_sooner (own_deadline kind) above else None) slot t.timers
      → StandsFor u (Makes (t.made, slot) kind now ∷ past)
  put_stands t u past s roomy put slot key done kind now e d above slots_are done_is key_is vacant here others parent e_is d_is above_is put_is queued made_is visits_is timed_is =
      let id : Id = (t.made, slot) in
      let known = put_known t u past s.contexts roomy put slot key kind now e d slots_are key_is vacant here others parent e_is d_is put_is made_is in
      let n : Node C V = record { number = t.made; kind = kind; ending = e; deadline = d; links = no_links } in
      let in_the_slot : bare (slot_of u.slots slot) ≡ Some n = rw (put_is, ← key_is) here in
      let node_is : bare (node_at u.slots id) ≡ Some n = bare_numbered t.made (slot_of u.slots slot) ∙ ap (numbered t.made) in_the_slot ∙ rw (eq-eqb t.made t.made refl) refl in
      let told_is : e ≡ option_map told (ending id (Makes id kind now ∷ past)) = told_ending u (Makes id kind now ∷ past) id n kind known node_is (rw (same_refl id) refl) in
      let same_case : is_none e ≡ is_none (ending id (Makes id kind now ∷ past)) = ap is_none told_is ∙ told_none (ending id (Makes id kind now ∷ past)) in
      let same_above : above ≡ deadline_above kind past = above_is ∙ ap (λ l. option_and_then (λ p. deadline_in l p) (follows kind)) slots_are ∙ deadline_there t past s.contexts (follows kind) (follows_held kind past parent) in
      let same_time : if_sooner (own_deadline kind) above ≡ time_of kind past = ap (if_sooner (own_deadline kind)) same_above in
      record {
        contexts = known;
        queue = subst (λ q. QueuesDone q (Makes id kind now ∷ past)) (sym (queued ∙ ap (λ b. if b then done else done ++ id ∷ []) same_case))
            (make_queue past id kind now known.lawful done (subst (λ q. QueuesDone q past) (sym done_is) s.queue));
        timers = subst (λ q. Timed q (Makes id kind now ∷ past)) (sym (timed_is ∙ ap (λ b. with_timer (if b then if_sooner (own_deadline kind) above else None) slot t.timers) same_case))
            (timer_made t.timers past id kind now known.lawful s.timers (ending id (Makes id kind now ∷ past)) refl (if_sooner (own_deadline kind) above) (sym same_time));
        visits_few = let low : t.visits ≤ most_visits past = s.visits_few in rw visits_is low;
      }

  pub live_told : (u : TreeValue C V) (past : List (TreeOp C V)) (x : Id) → KnowsContexts u past → is_some (held x past) ≡ true → is_live u.slots x ≡ is_none (ending x past)
  live_told u past x s held_is =
      ap is_none (sym (bare_ending (node_at u.slots x)) ∙ ap (option_and_then (λ (n : Node C V). n.ending)) (s.nodes_are x)) ∙ by_kind (held x past) held_is (ending x past)
    where
      by_kind : (o : Option (Kind C V)) → is_some o ≡ true → (e : Option (Ended C))
          → is_none (option_and_then (λ (n : Node C V). n.ending) (option_map (λ kind. record { number = x.0; kind = kind; ending = option_map told e; deadline = deadline x past; links = no_links }) o)) ≡ is_none e
      by_kind None is e = cc
      by_kind (Some k) is e = told_none e

  -- ---- one is handed out

  pub hand_stands : (t u : TreeValue C V) (past : List (TreeOp C V)) (id : Id) (rest : List Id) → StandsFor t past → t.done ≡ id ∷ rest → u ≡ record t { done = rest } → StandsFor u (HandsOut id ∷ past)
  hand_stands t u past id rest s done_is u_is =
      let q = subst (λ d. QueuesDone d past) done_is s.queue in
      rw u_is (record {
        contexts = record {
          lawful = (sym (q.are_waiting id) ∙ among_first id rest, s.contexts.lawful);
          made_is = s.contexts.made_is;
          nodes_are = s.contexts.nodes_are;
        };
        queue = hand_queue past id rest q;
        timers = hand_timed t.timers past id s.timers;
        visits_few = s.visits_few;
      })

  -- what is taken from the front of the queue, if anything is
  pub popped_first : (o : Option Id) (t : TreeValue C V) (rest : List Id) → t.done ≡ option_to_list o ++ rest → IfSome o (λ id. (past : List (TreeOp C V)) → StandsFor t past → IsFirstDone id past)
  popped_first None t rest is = tt
  popped_first (Some id) t rest is = λ past s. first_done past id rest (subst (λ d. QueuesDone d past) is s.queue)

  -- what stands in front
  pub first_waits : (o : Option Id) (t : TreeValue C V) → IfSome o (λ id. (rest : List Id) × (t.done ≡ id ∷ rest)) → IfSome o (λ id. (past : List (TreeOp C V)) → StandsFor t past → IsFirstDone id past)
  first_waits None t is = tt
  first_waits (Some id) t is = popped_first (Some id) t is.0 is.1

  pub popped_stands : (o : Option Id) (t : TreeValue C V) (rest : List Id) → t.done ≡ option_to_list o ++ rest
      → IfSome o (λ id. (past : List (TreeOp C V)) → StandsFor t past → StandsFor (record t { done = rest }) (HandsOut id ∷ past))
  popped_stands None t rest is = tt
  popped_stands (Some id) t rest is = λ past s. hand_stands t (record t { done = rest }) past id rest s is refl

  pub popped_reached : (o : Option Id) (t : TreeValue C V) (rest : List Id) → t.done ≡ option_to_list o ++ rest → IsReached t → IsReached (record t { done = rest })
  popped_reached None t rest is r = (r.0, subst (λ d. StandsFor (record t { done = d }) r.0) is r.1)
  popped_reached (Some id) t rest is r = (HandsOut id ∷ r.0, hand_stands t (record t { done = rest }) r.0 id rest r.1 is refl)

  -- ---- one is released

  -- what an id finds after the node of one was taken out
  node_gone : (old new : ℕ → Option (Node C V)) (id : Id) (n : Node C V) → old id.1 ≡ Some n → n.number ≡ id.0 → new id.1 ≡ None
      → ((k : ℕ) → (k ≡ id.1 → ⊥) → new k ≡ old k) → (x : Id) → numbered x.0 (new x.1) ≡ (if same id x then None else numbered x.0 (old x.1))
  node_gone old new id n here number gone others x = ⊎_elim
      (λ (slot : (id.1 == x.1) ≡ true).
      let e : id.1 ≡ x.1 = eqb-true _ _ slot in
      let new_is : new x.1 ≡ None = rw (← e) gone in
      let old_is : old x.1 ≡ Some n = rw (← e) here in
      ⊎_elim
      (λ (num : (id.0 == x.0) ≡ true). rw (new_is, num, slot) refl)
      (λ (num : (id.0 == x.0) ≡ false). let ne : (n.number == x.0) ≡ false = rw number num in rw (new_is, num, old_is, ne) refl)
      (cases_Bool (id.0 == x.0)))
      (λ (slot : (id.1 == x.1) ≡ false).
      let other : x.1 ≡ id.1 → ⊥ = λ e. let same_slot : (id.1 == x.1) ≡ true = rw e (grind (arith, rules)) in let bad : true ≡ false = sym same_slot ∙ slot in cc in
      let differ : same id x ≡ false = ⊎_elim (λ (a : (id.0 == x.0) ≡ true). rw (a, slot) refl) (λ (a : (id.0 == x.0) ≡ false). rw a refl) (cases_Bool (id.0 == x.0)) in
      rw (differ, others x.1 other) refl)
      (cases_Bool (id.1 == x.1))

  -- the kind of a node that is there is that of its context
  pub kind_held : (t : TreeValue C V) (past : List (TreeOp C V)) (x : Id) (n : Node C V) → KnowsContexts t past → node_at t.slots x ≡ Some n → held x past ≡ Some n.kind
  kind_held t past x n s is = by_kind (held x past) (sym (s.nodes_are x) ∙ ap bare is)
    where
      by_kind : (o : Option (Kind C V)) → option_map (λ kind. record { number = x.0; kind = kind; ending = option_map told (ending x past); deadline = deadline x past; links = no_links }) o ≡ bare (Some n) → o ≡ Some n.kind
      by_kind None bad = cc
      by_kind (Some k) e = ap (λ (m : Node C V). Some m.kind) (same_Some _ (record n { links = no_links }) e)

  pub node_there : (t : TreeValue C V) (past : List (TreeOp C V)) (x : Id) (k : Kind C V) → KnowsContexts t past → held x past ≡ Some k → (n : Node C V) × (node_at t.slots x ≡ Some n) × (n.kind ≡ k)
  node_there t past x k s is =
      bare_there (node_at t.slots x) (record { number = x.0; kind = k; ending = option_map told (ending x past); deadline = deadline x past; links = no_links }) (s.nodes_are x ∙ rw is refl)

  -- two that are held have not the same slot
  pub one_slot : (t : TreeValue C V) (past : List (TreeOp C V)) (x y : Id) (k l : Kind C V) → KnowsContexts t past → held x past ≡ Some k → held y past ≡ Some l → x.1 ≡ y.1 → x ≡ y
  one_slot t past x y k l s hx hy slot =
      let a = node_there t past x k s hx in
      let b = node_there t past y l s hy in
      let in_x = in_slot t.slots x a.0 a.1 in
      let in_y = in_slot t.slots y b.0 b.1 in
      let same_node : a.0 ≡ b.0 = same_Some a.0 b.0 (sym in_x.slot_is ∙ ap (λ z. slot_of t.slots z) slot ∙ in_y.slot_is) in
      let number : x.0 ≡ y.0 = sym in_x.number_is ∙ ap (λ (m : Node C V). m.number) same_node ∙ in_y.number_is in
      ap (λ z. (z, x.1)) number ∙ ap (λ z. (y.0, z)) slot

  pub release_stands : (t u : TreeValue C V) (past : List (TreeOp C V)) (id : Id) (n : Node C V) → StandsFor t past → node_at t.slots id ≡ Some n
      → ((child : Id) (node : Node C V) → node_at t.slots child ≡ Some node → parent_of node.kind ≡ Some id → ⊥)
      → slot_of u.slots id.1 ≡ None → KeepsOthers t.slots u.slots id.1
      → u.done ≡ filter (λ x. not (same x id)) t.done
      → u.timers ≡ record { entries = without id.1 t.timers.entries; sets = t.timers.sets } → u.made ≡ t.made → u.visits ≡ t.visits → StandsFor u (Releases id ∷ past)
  release_stands t u past id n s here childless gone others done_is timers_are made_is visits_is =
      let known = s.contexts in
      record {
        contexts = record {
          lawful = (λ x kind held_is derives. let there = node_there t past x kind known held_is in childless x there.0 there.1 (ap parent_of there.2 ∙ derives), known.lawful);
          made_is = made_is ∙ known.made_is;
          nodes_are = λ x. bare_numbered x.0 (slot_of u.slots x.1) ∙ node_gone (λ k. bare (slot_of t.slots k)) (λ k. bare (slot_of u.slots k)) id (record n { links = no_links })
              (ap bare (in_slot t.slots id n here).slot_is) (in_slot t.slots id n here).number_is (ap bare gone) others x ∙ left_context x;
        };
        queue = rw done_is (release_queue past id t.done s.queue);
        timers = rw timers_are (release_timed t.timers past id (λ x k is slot. one_slot t past x id k n.kind known is (kind_held t past id n known here) slot) s.timers);
        visits_few = let low : t.visits ≤ most_visits past = s.visits_few in rw visits_is low;
      }
    where
      left_context : (x : Id) → (if same id x then None else numbered x.0 (bare (slot_of t.slots x.1))) ≡ context x (Releases id ∷ past)
      left_context x = ⊎_elim
          (λ (yes' : same id x ≡ true). rw yes' refl)
          (λ (no' : same id x ≡ false). rw no' (sym (bare_numbered x.0 (slot_of t.slots x.1)) ∙ s.contexts.nodes_are x))
          (cases_Bool (same id x))

  -- the value of a context that is known, where the nearest one of its line is told
  pub value_told : (t : TreeValue C V) (past : List (TreeOp C V)) → StandsFor t past → (id : Id) (n : Node C V) (key : ℕ) (found : Option V) → Some n ≡ node_at t.slots id
      → ((past : List (TreeOp C V)) → Keeps t.slots past → found ≡ nearest key (line id past)) → Some found ≡ if_held id past (value id key past)
  value_told t past s id n key found here is = rw (kind_held t past id n s.contexts (sym here)) (ap Some (is past (keeps_of t past s.contexts)))
