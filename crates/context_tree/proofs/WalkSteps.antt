-- A walk goes on by one context.
use Rattle.std.proofs.Common.{◌≡◌, refl, sym, ap, subst, ◌∙◌, arith, ℕ, zero, suc, ◌+◌, ◌-◌, ◌^◌, ◌<◌, ◌≤◌, List, [], ◌∷◌, ◌++◌, length, map, Option, Some, None, Bool, true, false, inl, inr, ⊎_elim, option_map, slice_set, append_assoc, length-append}
use Rattle.std.specs.Prelude.{◌||◌, ◌&&◌, ◌==◌, not, is_some, is_none, if◌then◌else◌, filter, option_and_then}
use Rattle.std.specs.Option.{option_map_or}
use Rattle.std.proofs.lemmas.Bool.{cases_Bool, cases_lt, eqb-true, eq-eqb, ne_eqb}
use Rattle.std.proofs.lemmas.List.{append-nil, get_or-set_same, get_or-set_other}
use Rattle.std.proofs.Math.Bool.{or-false}
use Rattle.std.proofs.lemmas.Option.{same_Some}
use Rattle.timer_heap.specs.Timers.{Timer, Timing, without}
use Rattle.context_tree.specs.declared.node.Ending.{Ending}
use Rattle.context_tree.specs.declared.node.Links.{Links}
use Rattle.context_tree.specs.declared.node.Node.{Node}
use Rattle.context_tree.specs.Context.{Id, parent_of, follows}
use Rattle.context_tree.specs.Links.{slot_of, parent_in, number_in, links_in, child_at, no_links, IsLinked}
use Rattle.context_tree.specs.Walks.{is_in, keys_of, with_end, is_live_at, is_ended_with, id_in, EndsAt, IsReady, Start, IsVisited, IsReachedBy, IsWalk, IsWalkingOn}
use Rattle.context_tree.proofs.Keys.{apart_push, in_append, in_last, in_left, in_one, in_push, not_in}
use Rattle.context_tree.proofs.Marking.{in_range}
use Rattle.context_tree.proofs.Linking.{apart, all_reached, only_children, places_rise, same_linked}
use Rattle.context_tree.proofs.Tests.{not_both}

pub keys_append : (xs : List Id) (x : Id) → keys_of (xs ++ x ∷ []) ≡ keys_of xs ++ x.1 ∷ []
keys_append [] x = refl
keys_append (y ∷ ys) x = ap (λ l. y.1 ∷ l) (keys_append ys x)

map_append : {A B : Type 0} (f : A → B) (xs : List A) (x : A) → map f (xs ++ x ∷ []) ≡ map f xs ++ f x ∷ []
map_append f [] x = refl
map_append f (y ∷ ys) x = ap (λ l. f y ∷ l) (map_append f ys x)

none_some : {A : Type 0} (a : A) → None ≡ Some a → ⊥
none_some a is = cc

pub map_both : {A B : Type 0} (f : A → B) (xs ys : List A) → map f (xs ++ ys) ≡ map f xs ++ map f ys
map_both f [] ys = refl
map_both f (x ∷ xs) ys = ap (λ l. f x ∷ l) (map_both f xs ys)

not_or : (a b : Bool) → not (a || b) ≡ (not a && not b)
not_or true b = refl
not_or false b = refl

filter_ext : {X : Type 0} (p q : X → Bool) (xs : List X) → ((x : X) → p x ≡ q x) → filter p xs ≡ filter q xs
filter_ext p q [] agree = refl
filter_ext p q (x ∷ xs) agree = rw (agree x, filter_ext p q xs agree) refl

filter_twice : {X : Type 0} (p q : X → Bool) (xs : List X) → filter q (filter p xs) ≡ filter (λ x. p x && q x) xs
filter_twice p q [] = refl
filter_twice p q (x ∷ xs) = ⊎_elim
    (λ (kept : p x ≡ true). rw kept (⊎_elim (λ (both : q x ≡ true). rw both (ap (λ l. x ∷ l) (filter_twice p q xs))) (λ (one : q x ≡ false). rw one (filter_twice p q xs)) (cases_Bool (q x))))
    (λ (left : p x ≡ false). rw left (filter_twice p q xs))
    (cases_Bool (p x))

module _ {C V : Type 0} where
  -- ---- what an ending leaves

  parent_told : (e : Ending C) (o : Option (Node C V)) → option_and_then (λ (n : Node C V). option_map (λ p. p.1) (parent_of n.kind)) (with_end e o) ≡ option_and_then (λ (n : Node C V). option_map (λ p. p.1) (parent_of n.kind)) o
  parent_told e None = refl
  parent_told e (Some n) = refl

  number_told : (e : Ending C) (o : Option (Node C V)) → option_map_or (λ (n : Node C V). n.number) (with_end e o) 0 ≡ option_map_or (λ (n : Node C V). n.number) o 0
  number_told e None = refl
  number_told e (Some n) = refl

  links_told : (e : Ending C) (o : Option (Node C V)) → option_map_or (λ (n : Node C V). n.links) (with_end e o) no_links ≡ option_map_or (λ (n : Node C V). n.links) o no_links
  links_told e None = refl
  links_told e (Some n) = refl

  there_told : (e : Ending C) (o : Option (Node C V)) → is_some (with_end e o) ≡ is_some o
  there_told e None = refl
  there_told e (Some n) = refl

  live_told : (e : Ending C) (o : Option (Node C V)) → option_map_or (λ (n : Node C V). is_none n.ending) (with_end e o) false ≡ false
  live_told e None = refl
  live_told e (Some n) = refl

  goes_told : (e : Ending C) (o : Option (Node C V)) → option_map_or (λ (n : Node C V). is_none n.ending && is_some (follows n.kind)) (with_end e o) false ≡ false
  goes_told e None = refl
  goes_told e (Some n) = refl

  -- a fact of a node that its ending leaves, where the node may be ended
  either : {A : Type 0} (f : Option (Node C V) → A) (e : Ending C) → ((o : Option (Node C V)) → f (with_end e o) ≡ f o) → (b : Bool) (a o : Option (Node C V)) → a ≡ (if b then with_end e o else o) → f a ≡ f o
  either f e same true a o is = ap f is ∙ same o
  either f e same false a o is = ap f is

  module _ (old new : List (Option (Node C V))) (test : ℕ → Bool) (e : Ending C) (is : (k : ℕ) → slot_of new k ≡ (if test k then with_end e (slot_of old k) else slot_of old k)) where
    pub same_parent : (k : ℕ) → parent_in new k ≡ parent_in old k
    same_parent k = either (λ o. option_and_then (λ (n : Node C V). option_map (λ p. p.1) (parent_of n.kind)) o) e (parent_told e) (test k) (slot_of new k) (slot_of old k) (is k)

    pub same_number : (k : ℕ) → number_in new k ≡ number_in old k
    same_number k = either (λ o. option_map_or (λ (n : Node C V). n.number) o 0) e (number_told e) (test k) (slot_of new k) (slot_of old k) (is k)

    pub same_links : (k : ℕ) → links_in new k ≡ links_in old k
    same_links k = either (λ o. option_map_or (λ (n : Node C V). n.links) o no_links) e (links_told e) (test k) (slot_of new k) (slot_of old k) (is k)

    pub same_there : (k : ℕ) → is_some (slot_of new k) ≡ is_some (slot_of old k)
    same_there k = either (λ o. is_some o) e (there_told e) (test k) (slot_of new k) (slot_of old k) (is k)

    pub keeps_linked : IsLinked old → IsLinked new
    keeps_linked linked = same_linked (parent_in old) (parent_in new) (number_in old) (number_in new) (links_in old) (links_in new) same_parent same_number same_links linked

    pub was_linked : IsLinked new → IsLinked old
    was_linked linked = same_linked (parent_in new) (parent_in old) (number_in new) (number_in old) (links_in new) (links_in old) (λ k. sym (same_parent k)) (λ k. sym (same_number k)) (λ k. sym (same_links k)) linked

    pub now_dead : (k : ℕ) → test k ≡ true → is_live_at new k ≡ false
    now_dead k hit = ap (λ o. option_map_or (λ (n : Node C V). is_none n.ending) o false) (is k ∙ ap (λ b. if b then with_end e (slot_of old k) else slot_of old k) hit) ∙ live_told e (slot_of old k)

    pub now_gone : (k : ℕ) → test k ≡ true → is_ended_with new k ≡ false
    now_gone k hit = ap (λ o. option_map_or (λ (n : Node C V). is_none n.ending && is_some (follows n.kind)) o false) (is k ∙ ap (λ b. if b then with_end e (slot_of old k) else slot_of old k) hit) ∙ goes_told e (slot_of old k)

    pub stays : (k : ℕ) → test k ≡ false → slot_of new k ≡ slot_of old k
    stays k miss = is k ∙ ap (λ b. if b then with_end e (slot_of old k) else slot_of old k) miss

  pub live_there : (o : Option (Node C V)) → option_map_or (λ (n : Node C V). is_none n.ending) o false ≡ true → is_some o ≡ true
  live_there None is = cc
  live_there (Some n) is = refl

  -- ---- one is ended

  pub not_done : (slots : List (Option (Node C V))) (done : List Id) (room key : ℕ) → IsReady slots done room → is_live_at slots key ≡ true → is_in key (keys_of done) ≡ false
  not_done slots done room key r live = not_in key (keys_of done) (λ is. not_both (is_live_at slots key) live (r.ended key is).0)

  pub live_room : (slots : List (Option (Node C V))) (done : List Id) (room key : ℕ) → IsReady slots done room → is_live_at slots key ≡ true → key < room
  live_room slots done room key r live = r.within key (live_there (slot_of slots key) live)

  -- one that comes into a vacant slot does not wait
  pub not_there : (slots : List (Option (Node C V))) (done : List Id) (room key : ℕ) → IsReady slots done room → slot_of slots key ≡ None → is_in key (keys_of done) ≡ false
  not_there slots done room key r vacant = not_in key (keys_of done) (λ is. let there : is_some (slot_of slots key) ≡ true = (r.ended key is).1 in not_both (is_some (slot_of slots key)) there (ap is_some vacant))

  pub ready_step : (slots new : List (Option (Node C V))) (done : List Id) (room : ℕ) (id : Id) (e : Ending C) → IsReady slots done room → is_live_at slots id.1 ≡ true → EndsAt slots new id.1 e → IsReady new (done ++ id ∷ []) room
  ready_step slots new done room id e r live ends =
      let test : ℕ → Bool = λ k. k == id.1 in
      record {
        linked = keeps_linked slots new test e ends r.linked;
        few = λ k q is. let was : number_in slots k < 2 ^ 62 = r.few k q (sym (same_parent slots new test e ends k) ∙ is) in rw (same_number slots new test e ends k) was;
        apart = rw (keys_append done id) (apart_push (keys_of done) id.1 r.apart (not_done slots done room id.1 r live));
        ended = λ k is. in_push k id.1 (keys_of done) _ (rw (keys_append done id) at is)
            (λ old. let was = r.ended k old in (
              ⊎_elim
                  (λ (hit : (k == id.1) ≡ true). now_dead slots new test e ends k hit)
                  (λ (miss : (k == id.1) ≡ false). ap (λ o. option_map_or (λ (n : Node C V). is_none n.ending) o false) (stays slots new test e ends k miss) ∙ was.0)
                  (cases_Bool (k == id.1)),
              same_there slots new test e ends k ∙ was.1,
            ))
            (λ same. (
              now_dead slots new test e ends k (eq-eqb k id.1 same),
              same_there slots new test e ends k ∙ rw same (live_there (slot_of slots id.1) live),
            ));
        within = λ k is. r.within k (sym (same_there slots new test e ends k) ∙ is);
      }

  pub end_set : (slots : List (Option (Node C V))) (key : ℕ) (n : Node C V) (e : Ending C) → slot_of slots key ≡ Some n → EndsAt slots (slice_set slots key (Some (record n { ending = Some e }))) key e
  end_set slots key n e is = λ k. ⊎_elim
      (λ (same : k ≡ key).
      rw (same, eq-eqb key key refl, is) (get_or-set_same slots key (Some (record n { ending = Some e })) None (in_range slots key n is)))
      (λ (other : k ≡ key → ⊥). rw (ne_eqb k key other) (get_or-set_other slots key k (Some (record n { ending = Some e })) None other))
      (apart k key)

  pub end_shown : (slots : List (Option (Node C V))) (shown id : Id) (n : Node C V) (e : Ending C) → shown ≡ id → slot_of slots shown.1 ≡ Some n → EndsAt slots (slice_set slots shown.1 (Some (record n { ending = Some e }))) id.1 e
  end_shown slots shown id n e same is = subst (λ (x : Id). EndsAt slots (slice_set slots shown.1 (Some (record n { ending = Some e }))) x.1 e) same (end_set slots shown.1 n e is)

  -- ---- the walk

  module _ (s : Start C V) (slots : List (Option (Node C V))) (done : List Id) (timers : Timing) (keys visited front : List ℕ) (p place : ℕ) (w : IsWalk s slots done timers keys visited front p place) where
    -- one that is not ended now is none of those that the walk ended
    live_out : (k : ℕ) → is_live_at slots k ≡ true → is_in k keys ≡ false
    live_out k live = not_in k keys (λ is. not_both (is_live_at slots k) live (now_dead s.slots slots (λ j. is_in j keys) s.ending w.slots_are k is))

    out_same : (k : ℕ) → is_in k keys ≡ false → slot_of slots k ≡ slot_of s.slots k
    out_same k out = stays s.slots slots (λ j. is_in j keys) s.ending w.slots_are k out

    -- one that ended with its parent already, or does not end with it
    passed : (k : ℕ) → is_ended_with slots k ≡ false → is_ended_with s.slots k ≡ true → is_in k keys ≡ true
    passed k no' was = ⊎_elim
        (λ (yes' : is_in k keys ≡ true). yes')
        (λ (out : is_in k keys ≡ false). absurd (not_both (is_ended_with s.slots k) was (sym (ap (λ o. option_map_or (λ (n : Node C V). is_none n.ending && is_some (follows n.kind)) o false) (out_same k out)) ∙ no')))
        (cases_Bool (is_in k keys))

    start_linked : IsLinked slots → IsLinked s.slots
    start_linked linked = was_linked s.slots slots (λ j. is_in j keys) s.ending w.slots_are linked

    -- the next child was not looked at before
    fresh : IsLinked slots → is_in p front ≡ false → (k : ℕ) → child_at (links_in s.slots) p place ≡ Some k → is_in k visited ≡ false
    fresh linked out k child = not_in k visited (λ is.
        let v = w.visited_are k is in
        let old = start_linked linked in
        let up : parent_in s.slots k ≡ Some p = only_children (parent_in s.slots) (number_in s.slots) (links_in s.slots) old p place k child in
        let same : v.parent ≡ p = same_Some v.parent p (sym v.derives ∙ up) in
        ⊎_elim
        (λ (left : is_in v.parent front ≡ true). not_both (is_in p front) (rw (← same) left) out)
        (λ (before : (i : ℕ) × (i < place) × (v.parent ≡ p) × (child_at (links_in s.slots) p i ≡ Some k)).
        let less : number_in s.slots k < number_in s.slots k = places_rise (parent_in s.slots) (number_in s.slots) (links_in s.slots) old p before.0 place k k before.1 before.3 child in
        absurd (omega (arith, less)))
        v.how)

    visited_on : (more : List ℕ) (k : ℕ) → IsVisited s keys front p place k → IsVisited s (keys ++ more) front p (suc place) k
    visited_on more k v = record {
      parent = v.parent;
      derives = v.derives;
      parent_ended = in_left v.parent keys more v.parent_ended;
      how = ⊎_elim (λ left. inl left) (λ (before : (i : ℕ) × (i < place) × (v.parent ≡ p) × (child_at (links_in s.slots) p i ≡ Some k)). inr (before.0, let lt = before.1 in omega (arith, lt), before.2, before.3)) v.how;
    }

    visited_new : IsLinked slots → is_in p keys ≡ true → (more : List ℕ) (k : ℕ) → child_at (links_in s.slots) p place ≡ Some k → IsVisited s (keys ++ more) front p (suc place) k
    visited_new linked here more k child = record {
      parent = p;
      derives = only_children (parent_in s.slots) (number_in s.slots) (links_in s.slots) (start_linked linked) p place k child;
      parent_ended = in_left p keys more here;
      how = inr (place, omega arith, refl, child);
    }

    -- a child is looked at and not ended
    pub look : IsLinked slots → is_in p keys ≡ true → is_in p front ≡ false → (k : ℕ) → child_at (links_in s.slots) p place ≡ Some k → is_ended_with slots k ≡ false
        → IsWalk s slots done timers (keys ++ []) (visited ++ k ∷ []) front p (suc place)
    look linked here out k child no' = record {
      slots_are = λ j. rw (append-nil keys) (w.slots_are j);
      done_is = rw (append-nil keys) w.done_is;
      timers_are = rw (append-nil keys) w.timers_are;
      begins = rw (append-nil keys) w.begins;
      apart = rw (append-nil keys) w.apart;
      target_live = w.target_live;
      reached = rw (append-nil keys) w.reached;
      closed = rw (append-nil keys) w.closed;
      closed_in = λ i j lt at ends. in_left j keys [] (⊎_elim
          (λ (earlier : i < place). w.closed_in i j earlier at ends)
          (λ (last : place ≤ i).
          let same_place : i ≡ place = omega (arith, lt, last) in
          let same : j ≡ k = same_Some j k (sym at ∙ ap (child_at (links_in s.slots) p) same_place ∙ child) in
          rw same (passed k no' (rw (← same) ends)))
          (cases_lt i place));
      visited_apart = apart_push visited k w.visited_apart (fresh linked out k child);
      visited_are = λ j is. in_push j k visited _ is
          (λ old. visited_on [] j (w.visited_are j old))
          (λ same. subst (λ z. IsVisited s (keys ++ []) front p (suc place) z) (sym same) (visited_new linked here [] k child));
    }

    -- ---- one more is ended

    ended_slots : (k : ℕ) (new : List (Option (Node C V))) → EndsAt slots new k s.ending → is_in k keys ≡ false
        → (j : ℕ) → slot_of new j ≡ (if is_in j (keys ++ k ∷ []) then with_end s.ending (slot_of s.slots j) else slot_of s.slots j)
    ended_slots k new ends out j = ⊎_elim
        (λ (same : (j == k) ≡ true).
        let e : j ≡ k = eqb-true j k same in
        let all : is_in j (keys ++ k ∷ []) ≡ true = rw e (in_last k keys) in
        ends j ∙ rw (same, all, e) (ap (with_end s.ending) (out_same k out)))
        (λ (other : (j == k) ≡ false).
        let all : is_in j (keys ++ k ∷ []) ≡ is_in j keys = in_append j keys (k ∷ []) ∙ ap (λ b. is_in j keys || (b || false)) other ∙ or-false (is_in j keys) in
        ends j ∙ rw (other, all) (w.slots_are j))
        (cases_Bool (j == k))

    ended_timers : (k : ℕ) (timers2 : Timing) → timers2 ≡ record timers { entries = without k timers.entries } → timers2 ≡ record s.timers { entries = filter (λ t. not (is_in t.id (keys ++ k ∷ []))) s.timers.entries }
    ended_timers k timers2 is = is ∙ rw w.timers_are (ap (λ es. record s.timers { entries = es }) (
        filter_twice (λ (t : Timer). not (is_in t.id keys)) (λ (t : Timer). not (t.id == k)) s.timers.entries ∙ filter_ext _ _ s.timers.entries same_left))
      where
        same_left : (t : Timer) → (not (is_in t.id keys) && not (t.id == k)) ≡ not (is_in t.id (keys ++ k ∷ []))
        same_left t = sym (ap not (in_append t.id keys (k ∷ []) ∙ ap (λ b. is_in t.id keys || b) (or-false (t.id == k))) ∙ not_or (is_in t.id keys) (t.id == k))

    ended_done : (k : ℕ) (done2 : List Id) → done2 ≡ done ++ (number_in slots k, k) ∷ [] → done2 ≡ s.done ++ map (id_in s.slots) (keys ++ k ∷ [])
    ended_done k done2 is =
        is ∙ rw (map_append (id_in s.slots) keys k, w.done_is, same_number s.slots slots (λ j. is_in j keys) s.ending w.slots_are k)
        (append_assoc s.done (map (id_in s.slots) keys) ((number_in s.slots k, k) ∷ []))

    begins_on : (k : ℕ) → (rest : List ℕ) × (keys ++ k ∷ [] ≡ s.target ∷ rest)
    begins_on k = (w.begins.0 ++ k ∷ [], ap (λ l. l ++ k ∷ []) w.begins.1)

    goes_live : (k : ℕ) → is_ended_with slots k ≡ true → is_live_at slots k ≡ true
    goes_live k goes = by_slot (slot_of slots k) goes
      where
        by_node : (a b : Bool) → (a && b) ≡ true → a ≡ true
        by_node true b is = refl
        by_node false b is = cc

        by_slot : (o : Option (Node C V)) → option_map_or (λ (n : Node C V). is_none n.ending && is_some (follows n.kind)) o false ≡ true → option_map_or (λ (n : Node C V). is_none n.ending) o false ≡ true
        by_slot None is = cc
        by_slot (Some n) is = by_node (is_none n.ending) (is_some (follows n.kind)) is

    reached_on : (k j : ℕ) → IsReachedBy s keys j → IsReachedBy s (keys ++ k ∷ []) j
    reached_on k j b = record { parent = b.parent; derives = b.derives; parent_ended = in_left b.parent keys (k ∷ []) b.parent_ended; ends = b.ends }

    -- a child is looked at and ended
    pub take : (room : ℕ) → IsReady slots done room → is_in p keys ≡ true → is_in p front ≡ false → (k : ℕ) → child_at (links_in s.slots) p place ≡ Some k → is_ended_with slots k ≡ true
        → (new : List (Option (Node C V))) (done2 : List Id) (timers2 : Timing) → EndsAt slots new k s.ending
        → done2 ≡ done ++ (number_in slots k, k) ∷ [] → timers2 ≡ record timers { entries = without k timers.entries }
        → IsWalk s new done2 timers2 (keys ++ k ∷ []) (visited ++ k ∷ []) front p (suc place)
    take room r here out k child goes new done2 timers2 ends done2_is timers2_is =
        let absent : is_in k keys ≡ false = live_out k (goes_live k goes) in
        let was_goes : is_ended_with s.slots k ≡ true = sym (ap (λ o. option_map_or (λ (n : Node C V). is_none n.ending && is_some (follows n.kind)) o false) (out_same k absent)) ∙ goes in
        let up : parent_in s.slots k ≡ Some p = only_children (parent_in s.slots) (number_in s.slots) (links_in s.slots) (start_linked r.linked) p place k child in
        record {
          slots_are = ended_slots k new ends absent;
          done_is = ended_done k done2 done2_is;
          timers_are = ended_timers k timers2 timers2_is;
          begins = begins_on k;
          apart = apart_push keys k w.apart absent;
          target_live = w.target_live;
          reached = λ j is. in_push j k keys _ is
              (λ old. ⊎_elim (λ (e : j ≡ s.target). inl e) (λ (b : IsReachedBy s keys j). inr (reached_on k j b)) (w.reached j old))
              (λ e. inr (rw e (record { parent = p; derives = up; parent_ended = in_left p keys (k ∷ []) here; ends = was_goes })));
          closed = λ q j left of ends_j. in_left j keys (k ∷ []) (w.closed q j left of ends_j);
          closed_in = λ i j lt at ends_j. ⊎_elim
              (λ (earlier : i < place). in_left j keys (k ∷ []) (w.closed_in i j earlier at ends_j))
              (λ (last : place ≤ i).
              let same_place : i ≡ place = omega (arith, lt, last) in
              let same_child : j ≡ k = same_Some j k (sym at ∙ ap (child_at (links_in s.slots) p) same_place ∙ child) in
              rw same_child (in_last k keys))
              (cases_lt i place);
          visited_apart = apart_push visited k w.visited_apart (fresh r.linked out k child);
          visited_are = λ j is. in_push j k visited _ is
              (λ old. visited_on (k ∷ []) j (w.visited_are j old))
              (λ e. subst (λ z. IsVisited s (keys ++ k ∷ []) front p (suc place) z) (sym e) (visited_new r.linked here (k ∷ []) k child));
        }

    -- after the last child
    no_more : (i : ℕ) → child_at (links_in s.slots) p place ≡ None → child_at (links_in s.slots) p (place + i) ≡ None
    no_more zero none = ap (child_at (links_in s.slots) p) (let e : place + 0 ≡ place = omega arith in e) ∙ none
    no_more (suc i) none = ap (child_at (links_in s.slots) p) (let e : place + suc i ≡ suc (place + i) = omega arith in e) ∙ ap (option_and_then (λ j. (links_in s.slots j).next)) (no_more i none)

    -- all children were looked at
    pub leave : IsLinked slots → child_at (links_in s.slots) p place ≡ None → IsWalk s slots done timers keys visited (front ++ p ∷ []) 0 0
    leave linked none = record {
      slots_are = w.slots_are;
      done_is = w.done_is;
      timers_are = w.timers_are;
      begins = w.begins;
      apart = w.apart;
      target_live = w.target_live;
      reached = w.reached;
      closed = λ q k left of ends. in_push q p front _ left
          (λ old. w.closed q k old of ends)
          (λ e.
          let at = all_reached (parent_in s.slots) (number_in s.slots) (links_in s.slots) (start_linked linked) p k (of ∙ ap Some e) in
          ⊎_elim
          (λ (earlier : at.0 < place). w.closed_in at.0 k earlier at.1 ends)
          (λ (later : place ≤ at.0).
          let far : place + (at.0 - place) ≡ at.0 = omega (arith, later) in
          absurd (none_some k (sym (no_more (at.0 - place) none) ∙ ap (child_at (links_in s.slots) p) far ∙ at.1)))
          (cases_lt at.0 place));
      closed_in = λ i k lt at ends. absurd (omega (arith, lt));
      visited_apart = w.visited_apart;
      visited_are = λ k is. let v = w.visited_are k is in record {
        parent = v.parent;
        derives = v.derives;
        parent_ended = v.parent_ended;
        how = ⊎_elim
            (λ (left : is_in v.parent front ≡ true). inl (in_left v.parent front (p ∷ []) left))
            (λ (before : (i : ℕ) × (i < place) × (v.parent ≡ p) × (child_at (links_in s.slots) p i ≡ Some k)). inl (rw before.2 (in_last p front)))
            v.how;
      };
    }

  -- from one context to the children of the next
  pub turn : (s : Start C V) (slots : List (Option (Node C V))) (done : List Id) (timers : Timing) (keys visited front : List ℕ) (p : ℕ) → IsWalk s slots done timers keys visited front 0 0 → IsWalk s slots done timers keys visited front p 0
  turn s slots done timers keys visited front p w = record {
    slots_are = w.slots_are;
    done_is = w.done_is;
    timers_are = w.timers_are;
    begins = w.begins;
    apart = w.apart;
    target_live = w.target_live;
    reached = w.reached;
    closed = w.closed;
    closed_in = λ i k lt at ends. absurd (omega (arith, lt));
    visited_apart = w.visited_apart;
    visited_are = λ k is. let v = w.visited_are k is in record {
      parent = v.parent;
      derives = v.derives;
      parent_ended = v.parent_ended;
      how = ⊎_elim (λ (left : is_in v.parent front ≡ true). inl left) (λ (before : (i : ℕ) × (i < 0) × (v.parent ≡ 0) × (child_at (links_in s.slots) 0 i ≡ Some k)). let lt = before.1 in absurd (omega (arith, lt))) v.how;
    };
  }

  -- the target alone is ended
  pub begin : (s : Start C V) (new : List (Option (Node C V))) (done : List Id) (timers : Timing) → is_live_at s.slots s.target ≡ true → EndsAt s.slots new s.target s.ending
      → done ≡ s.done ++ id_in s.slots s.target ∷ [] → timers ≡ record s.timers { entries = without s.target s.timers.entries }
      → IsWalk s new done timers (s.target ∷ []) [] [] 0 0
  begin s new done timers live ends done_is timers_are = record {
    slots_are = λ k. ends k ∙ ap (λ b. if b then with_end s.ending (slot_of s.slots k) else slot_of s.slots k) (sym (or-false (k == s.target)));
    done_is = done_is;
    timers_are = timers_are ∙ ap (λ es. record s.timers { entries = es }) (filter_ext _ _ s.timers.entries (λ t. ap not (sym (or-false (t.id == s.target)))));
    begins = ([], refl);
    apart = (refl, tt);
    target_live = live;
    reached = λ k is. inl (in_one k s.target is);
    closed = λ q k left of ends'. cc;
    closed_in = λ i k lt at ends'. absurd (omega (arith, lt));
    visited_apart = tt;
    visited_are = λ k is. cc;
  }

  -- ---- the children of one

  module _ (s : Start C V) (slots : List (Option (Node C V))) (done : List Id) (timers : Timing) (keys visited front : List ℕ) (p : ℕ) where
    -- none was looked at
    pub none_yet : IsWalk s slots done timers keys visited front p 0 → IsWalkingOn s slots done timers keys visited front p (links_in slots p).first 0
    none_yet w = record {
      more = [];
      seen = visited;
      place = 0;
      next_is = ap (λ (l : Links). l.first) (sym (same_links s.slots slots (λ j. is_in j keys) s.ending w.slots_are p));
      visits_is = omega arith;
      walk = rw (append-nil keys) w;
    }

    next_after : (more : List ℕ) (place k : ℕ) (seen : List ℕ) → IsWalk s slots done timers (keys ++ more) seen front p place → child_at (links_in s.slots) p place ≡ Some k
        → child_at (links_in s.slots) p (suc place) ≡ (links_in slots k).next
    next_after more place k seen w child =
        ap (option_and_then (λ j. (links_in s.slots j).next)) child ∙ ap (λ (l : Links). l.next) (sym (same_links s.slots slots (λ j. is_in j (keys ++ more)) s.ending w.slots_are k))

    longer : (seen : List ℕ) (k visits : ℕ) → length seen ≡ length visited + visits → length (seen ++ k ∷ []) ≡ length visited + (visits + 1)
    longer seen k visits is = let l : length (seen ++ k ∷ []) ≡ length seen + 1 = length-append seen (k ∷ []) in omega (arith, l, is)

    -- the next one was looked at, and is not ended by this walk
    pub look_on : IsLinked slots → is_in p keys ≡ true → is_in p front ≡ false → (k visits : ℕ) → is_ended_with slots k ≡ false
        → IsWalkingOn s slots done timers keys visited front p (Some k) visits → IsWalkingOn s slots done timers keys visited front p (links_in slots k).next (visits + 1)
    look_on linked here out k visits no' on = record {
      more = on.more ++ [];
      seen = on.seen ++ k ∷ [];
      place = suc on.place;
      next_is = next_after on.more on.place k on.seen on.walk on.next_is;
      visits_is = longer on.seen k visits on.visits_is;
      walk = subst (λ ks. IsWalk s slots done timers ks (on.seen ++ k ∷ []) front p (suc on.place)) (append_assoc keys on.more [])
          (look s slots done timers (keys ++ on.more) on.seen front p on.place on.walk linked (in_left p keys on.more here) out k on.next_is no');
    }

    -- the next one was looked at and ended
    pub take_on : (room : ℕ) → IsReady slots done room → is_in p keys ≡ true → is_in p front ≡ false → (k visits : ℕ) → is_ended_with slots k ≡ true
        → (new : List (Option (Node C V))) (done2 : List Id) (timers2 : Timing) → EndsAt slots new k s.ending
        → done2 ≡ done ++ (number_in slots k, k) ∷ [] → timers2 ≡ record timers { entries = without k timers.entries }
        → IsWalkingOn s slots done timers keys visited front p (Some k) visits → IsWalkingOn s new done2 timers2 keys visited front p (links_in slots k).next (visits + 1)
    take_on room r here out k visits goes new done2 timers2 ends done2_is timers2_is on = record {
      more = on.more ++ k ∷ [];
      seen = on.seen ++ k ∷ [];
      place = suc on.place;
      next_is = next_after on.more on.place k on.seen on.walk on.next_is;
      visits_is = longer on.seen k visits on.visits_is;
      walk = subst (λ ks. IsWalk s new done2 timers2 ks (on.seen ++ k ∷ []) front p (suc on.place)) (append_assoc keys on.more (k ∷ []))
          (take s slots done timers (keys ++ on.more) on.seen front p on.place on.walk room r (in_left p keys on.more here) out k on.next_is goes new done2 timers2 ends done2_is timers2_is);
    }

  -- ---- what the next child is

  -- a child by the links, with its number
  pub record IsChild (slots : List (Option (Node C V))) (visits k : ℕ) : Type 0 where
    pub parent : ℕ
    pub derives : parent_in slots k ≡ Some parent
    pub after : visits ≤ number_in slots k

  pub first_child : (slots : List (Option (Node C V))) (p k : ℕ) → IsLinked slots → (links_in slots p).first ≡ Some k → IsChild slots 0 k
  first_child slots p k linked is = record { parent = p; derives = (linked.first_is p k is).0; after = omega arith }

  pub next_child : (slots : List (Option (Node C V))) (k j visits : ℕ) → IsLinked slots → IsChild slots visits k → (links_in slots k).next ≡ Some j → IsChild slots (visits + 1) j
  next_child slots k j visits linked b is =
      let n = linked.next_is k j is in
      let less : number_in slots k < number_in slots j = n.rises in
      let after : visits ≤ number_in slots k = b.after in
      record { parent = n.parent; derives = n.second_up; after = omega (arith, less, after) }

  -- an ending leaves a child what it was
  pub child_stays : (slots new : List (Option (Node C V))) (key visits k : ℕ) (e : Ending C) → EndsAt slots new key e → IsChild slots visits k → IsChild new visits k
  child_stays slots new key visits k e ends b =
      let after : visits ≤ number_in slots k = b.after in
      record {
        parent = b.parent;
        derives = same_parent slots new (λ j. j == key) e ends k ∙ b.derives;
        after = rw (same_number slots new (λ j. j == key) e ends k) after;
      }

  -- the slot of a child has its node
  pub child_there : (slots : List (Option (Node C V))) (visits k : ℕ) → IsChild slots visits k → is_some (slot_of slots k) ≡ true
  child_there slots visits k b = by_slot (slot_of slots k) b.derives
    where
      by_slot : (o : Option (Node C V)) → option_and_then (λ (n : Node C V). option_map (λ p. p.1) (parent_of n.kind)) o ≡ Some b.parent → is_some o ≡ true
      by_slot None is = cc
      by_slot (Some n) is = refl

  -- how far the numbers can still rise
  abbrev pub left_from : List (Option (Node C V)) → Option ℕ → ℕ
  left_from slots next = option_map_or (λ k. 2 ^ 62 - number_in slots k) next 0

  pub fewer_left : (slots new : List (Option (Node C V))) (done : List Id) (room k visits : ℕ) (next : Option ℕ) → IsReady slots done room → IsChild slots visits k → (links_in slots k).next ≡ next
      → ((j : ℕ) → number_in new j ≡ number_in slots j) → left_from new next < left_from slots (Some k)
  fewer_left slots new done room k visits None r b is same = let few : number_in slots k < 2 ^ 62 = r.few k b.parent b.derives in omega (arith, few)
  fewer_left slots new done room k visits (Some j) r b is same =
      let few : number_in slots k < 2 ^ 62 = r.few k b.parent b.derives in
      let less : number_in slots k < number_in slots j = (r.linked.next_is k j is).rises in
      let e : number_in new j ≡ number_in slots j = same j in
      omega (arith, few, less, e)

  pub same_numbers : (slots new : List (Option (Node C V))) (key : ℕ) (e : Ending C) → EndsAt slots new key e → (j : ℕ) → number_in new j ≡ number_in slots j
  same_numbers slots new key e ends = same_number slots new (λ j. j == key) e ends

  pub child_few : (slots : List (Option (Node C V))) (done : List Id) (room visits k : ℕ) → IsReady slots done room → IsChild slots visits k → visits < 2 ^ 62
  child_few slots done room visits k r b =
      let few : number_in slots k < 2 ^ 62 = r.few k b.parent b.derives in
      let after : visits ≤ number_in slots k = b.after in
      omega (arith, few, after)

  -- what a node in a slot tells of the slot
  pub slot_goes : (slots : List (Option (Node C V))) (k : ℕ) (n : Node C V) (b : Bool) → slot_of slots k ≡ Some n → b ≡ (is_none n.ending && is_some (follows n.kind)) → is_ended_with slots k ≡ b
  slot_goes slots k n b is goes = rw is (sym goes)

  pub slot_links : (slots : List (Option (Node C V))) (k : ℕ) (n : Node C V) → slot_of slots k ≡ Some n → links_in slots k ≡ n.links
  slot_links slots k n is = rw is refl

  pub slot_number : (slots : List (Option (Node C V))) (k : ℕ) (n : Node C V) → slot_of slots k ≡ Some n → number_in slots k ≡ n.number
  slot_number slots k n is = rw is refl
