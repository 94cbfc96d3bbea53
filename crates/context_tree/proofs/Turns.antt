-- A walk goes on from one context to the next.
use Rattle.std.proofs.Common.{◌≡◌, refl, sym, ap, subst, ◌∙◌, arith, ℕ, suc, ◌+◌, ◌-◌, ◌<◌, ◌≤◌, List, [], ◌∷◌, ◌++◌, length, map, Option, Some, None, true, false, ⊎_elim, append_assoc, length-append}
use Rattle.std.specs.Prelude.{◌==◌, is_some, if◌then◌else◌}
use Rattle.std.specs.Option.{option_map_or}
use Rattle.std.proofs.lemmas.Bool.{eq-eqb, or_parts}
use Rattle.std.proofs.lemmas.Option.{same_Some}
use Rattle.timer_heap.specs.Timers.{Timing}
use Rattle.context_tree.specs.declared.node.Node.{Node}
use Rattle.context_tree.specs.Context.{Id}
use Rattle.context_tree.specs.Links.{slot_of, IsLinked}
use Rattle.context_tree.specs.Walks.{is_in, first_key, AreApart, keys_of, id_in, IsReady, Start, IsReachedBy, IsWalk, IsWalking, IsWalkingOn}
use Rattle.context_tree.proofs.Chaining.{keys_both}
use Rattle.context_tree.proofs.Keys.{apart_front, few_below, in_left, in_right}
use Rattle.context_tree.proofs.Slots.{placed_there}
use Rattle.context_tree.proofs.WalkSteps.{leave, live_there, map_both, same_there, turn}

-- how many of these come before a key
abbrev pub place_of : ℕ → List ℕ → ℕ
place_of k [] = 0
place_of k (j ∷ js) = if k == j then 0 else suc (place_of k js)

placed : (xs : List ℕ) (k : ℕ) (ys : List ℕ) → is_in k xs ≡ false → place_of k (xs ++ k ∷ ys) ≡ length xs
placed [] k ys out = rw (eq-eqb k k refl) refl
placed (x ∷ xs) k ys out = let n = or_parts (k == x) (is_in k xs) out in let rest : place_of k (xs ++ k ∷ ys) ≡ length xs = placed xs k ys n.1 in rw n.0 (ap suc rest)

module _ {C V : Type 0} where
  keys_shown : (slots : List (Option (Node C V))) (ks : List ℕ) → keys_of (map (id_in slots) ks) ≡ ks
  keys_shown slots [] = refl
  keys_shown slots (k ∷ ks) = ap (λ l. k ∷ l) (keys_shown slots ks)

  -- the slots of those that wait
  done_keys : (s : Start C V) (slots : List (Option (Node C V))) (done : List Id) (timers : Timing) (keys visited front : List ℕ) (p place : ℕ) → IsWalk s slots done timers keys visited front p place → keys_of done ≡ keys_of s.done ++ keys
  done_keys s slots done timers keys visited front p place w = ap keys_of w.done_is ∙ keys_both s.done (map (id_in s.slots) keys) ∙ ap (λ l. keys_of s.done ++ l) (keys_shown s.slots keys)

  -- the one whose children are looked at next
  pub record IsTurn (s : Start C V) (slots : List (Option (Node C V))) (done : List Id) (timers : Timing) (visits key : ℕ) : Type 0 where
    pub keys : List ℕ
    pub visited : List ℕ
    pub front : List ℕ
    pub back : List ℕ
    pub parts : keys ≡ front ++ key ∷ back
    pub visits_is : visits ≡ length visited + 1
    pub inside : is_in key keys ≡ true
    pub out : is_in key front ≡ false
    pub walk : IsWalk s slots done timers keys visited front key 0

  pub turn_at : (s : Start C V) (slots : List (Option (Node C V))) (done : List Id) (timers : Timing) (next : Option ℕ) (visits key : ℕ) → IsWalking s slots done timers next visits
      → next ≡ Some key → IsTurn s slots done timers visits key
  turn_at s slots done timers next visits key on is = by_back on.back on.parts (sym on.at_is ∙ is)
    where
      by_back : (back : List ℕ) → on.keys ≡ on.front ++ back → first_key back ≡ Some key → IsTurn s slots done timers visits key
      by_back [] parts first = cc
      by_back (p ∷ back) parts first =
          let here : p ≡ key = same_Some p key first in
          subst (λ k. IsTurn s slots done timers visits k) here (record {
            keys = on.keys;
            visited = on.visited;
            front = on.front;
            back = back;
            parts = parts;
            visits_is = on.visits_is;
            inside = rw parts (in_right p on.front (p ∷ back) (rw (eq-eqb p p refl) refl));
            out = apart_front on.front p back (subst (λ ks. AreApart ks) parts on.walk.apart);
            walk = turn s slots done timers on.keys on.visited on.front p on.walk;
          })

  -- the slot of one that the walk ended has its node
  pub turn_there : (s : Start C V) (slots : List (Option (Node C V))) (done : List Id) (timers : Timing) (visits key : ℕ) → IsTurn s slots done timers visits key → is_some (slot_of slots key) ≡ true
  turn_there s slots done timers visits key t =
      let same = same_there s.slots slots (λ j. is_in j t.keys) s.ending t.walk.slots_are key in
      same ∙ ⊎_elim
      (λ (e : key ≡ s.target). rw e (live_there (slot_of s.slots s.target) t.walk.target_live))
      (λ (b : IsReachedBy s t.keys key). placed_there s.slots key b.parent b.derives)
      (t.walk.reached key t.inside)

  module _ (s : Start C V) (slots new : List (Option (Node C V))) (done done2 : List Id) (timers timers2 : Timing) (visits key more : ℕ) (t : IsTurn s slots done timers visits key)
      (on : IsWalkingOn s new done2 timers2 t.keys t.visited t.front key None more) where
    parts_on : t.keys ++ on.more ≡ t.front ++ (key ∷ (t.back ++ on.more))
    parts_on = ap (λ l. l ++ on.more) t.parts ∙ append_assoc t.front (key ∷ t.back) on.more

    -- it still waits, and those that are left wait behind it
    pub turn_waits : is_in key (keys_of done2) ≡ true
    turn_waits = ap (is_in key) (done_keys s new done2 timers2 (t.keys ++ on.more) on.seen t.front key on.place on.walk)
        ∙ in_right key (keys_of s.done) (t.keys ++ on.more) (in_left key t.keys on.more t.inside)

    pub next_turn : (next : Option ℕ) → ((front back : List Id) (x : Id) → done2 ≡ front ++ x ∷ back → x.1 ≡ key → next ≡ first_key (keys_of back)) → next ≡ first_key (t.back ++ on.more)
    next_turn next after =
        let ids : List ℕ → List Id = λ ks. map (id_in s.slots) ks in
        let done_is : done2 ≡ (s.done ++ ids t.front) ++ id_in s.slots key ∷ ids (t.back ++ on.more) =
        on.walk.done_is ∙ ap (λ ks. s.done ++ ids ks) parts_on ∙ ap (λ l. s.done ++ l) (map_both (id_in s.slots) t.front (key ∷ (t.back ++ on.more)))
        ∙ sym (append_assoc s.done (ids t.front) (id_in s.slots key ∷ ids (t.back ++ on.more))) in
        after (s.done ++ ids t.front) (ids (t.back ++ on.more)) (id_in s.slots key) done_is refl ∙ ap first_key (keys_shown s.slots (t.back ++ on.more))

    -- all of its children were looked at
    pub walk_on : IsLinked new → (next : Option ℕ) → next ≡ first_key (t.back ++ on.more) → IsWalking s new done2 timers2 next (visits + more)
    walk_on linked next next_is = record {
      keys = t.keys ++ on.more;
      visited = on.seen;
      front = t.front ++ key ∷ [];
      back = t.back ++ on.more;
      parts = parts_on ∙ sym (append_assoc t.front (key ∷ []) (t.back ++ on.more));
      at_is = next_is;
      visits_is = let v : visits ≡ length t.visited + 1 = t.visits_is in let m : length on.seen ≡ length t.visited + more = on.visits_is in omega (arith, v, m);
      walk = leave s new done2 timers2 (t.keys ++ on.more) on.seen t.front key on.place on.walk linked on.next_is;
    }

    -- the next one has a higher place in the queue
    pub nearer : (room room2 : ℕ) → room2 ≡ room → IsReady slots done room → AreApart (keys_of done2) → (next : Option ℕ) → next ≡ first_key (t.back ++ on.more)
        → option_map_or (λ k. room2 - place_of k (keys_of done2)) next 0 < room - place_of key (keys_of done)
    nearer room room2 same old own next next_is =
        subst (λ r. option_map_or (λ k. r - place_of k (keys_of done2)) next 0 < room - place_of key (keys_of done)) (sym same) (by_back (t.back ++ on.more) refl)
      where
        before : List ℕ
        before = keys_of s.done ++ t.front

        -- where a key stands in a queue
        stands : (ids : List Id) (k : ℕ) (front back : List ℕ) → keys_of ids ≡ front ++ k ∷ back → AreApart (keys_of ids) → place_of k (keys_of ids) ≡ length front
        stands ids k front back is alone = ap (place_of k) is ∙ placed front k back (apart_front front k back (subst (λ l. AreApart l) is alone))

        now : place_of key (keys_of done) ≡ length before
        now = stands done key before t.back (done_keys s slots done timers t.keys t.visited t.front key 0 t.walk ∙ ap (λ l. keys_of s.done ++ l) t.parts ∙ sym (append_assoc (keys_of s.done) t.front (key ∷ t.back))) old.apart

        low : length before < room
        low =
            let all : length (keys_of done) ≤ room = few_below (keys_of done) room old.apart (λ k is. old.within k (old.ended k is).1) in
            let parts : keys_of done ≡ before ++ key ∷ t.back = done_keys s slots done timers t.keys t.visited t.front key 0 t.walk ∙ ap (λ l. keys_of s.done ++ l) t.parts ∙ sym (append_assoc (keys_of s.done) t.front (key ∷ t.back)) in
            let long : length (keys_of done) ≡ length before + length (key ∷ t.back) = ap (λ l. length l) parts ∙ length-append before (key ∷ t.back) in
            let one : length (key ∷ t.back) ≡ suc (length t.back) = refl in
            omega (arith, all, long, one)

        by_back : (back : List ℕ) → t.back ++ on.more ≡ back → option_map_or (λ k. room - place_of k (keys_of done2)) next 0 < room - place_of key (keys_of done)
        by_back [] is =
            let none : next ≡ None = next_is ∙ ap first_key is in
            rw none (let n : place_of key (keys_of done) ≡ length before = now in let l : length before < room = low in omega (arith, n, l))
        by_back (k ∷ back) is =
            let some : next ≡ Some k = next_is ∙ ap first_key is in
            let parts : keys_of done2 ≡ (before ++ key ∷ []) ++ k ∷ back =
            done_keys s new done2 timers2 (t.keys ++ on.more) on.seen t.front key on.place on.walk ∙ ap (λ l. keys_of s.done ++ l) (parts_on ∙ ap (λ l. t.front ++ (key ∷ l)) is)
            ∙ sym (append_assoc (keys_of s.done) t.front (key ∷ k ∷ back)) ∙ sym (append_assoc before (key ∷ []) (k ∷ back)) in
            let then_is : place_of k (keys_of done2) ≡ length (before ++ key ∷ []) = stands done2 k (before ++ key ∷ []) back parts own in
            let long : length (before ++ key ∷ []) ≡ length before + 1 = length-append before (key ∷ []) in
            rw some (let n : place_of key (keys_of done) ≡ length before = now in let l : length before < room = low in omega (arith, n, l, then_is, long))

  -- each context that was looked at has a slot of its own
  pub few_seen : (s : Start C V) (slots : List (Option (Node C V))) (done : List Id) (timers : Timing) (keys seen front : List ℕ) (p place room : ℕ) → IsReady slots done room
      → IsWalk s slots done timers keys seen front p place → length seen ≤ room
  few_seen s slots done timers keys seen front p place room r w = few_below seen room w.visited_apart (λ k is.
      let v = w.visited_are k is in
      r.within k (same_there s.slots slots (λ j. is_in j keys) s.ending w.slots_are k ∙ placed_there s.slots k v.parent v.derives))
