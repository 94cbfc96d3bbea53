-- A moment ends what the walks of the timers end that are due.
use Rattle.std.proofs.Common.{◌≡◌, refl, sym, ap, subst, ◌∙◌, arith, ℕ, zero, suc, ◌+◌, ◌<◌, ◌≤◌, List, [], ◌∷◌, ◌++◌, length, map, Option, Some, None, Bool, true, false, inl, inr, ⊎_elim, option_map}
use Rattle.std.specs.Prelude.{◌⊎◌, ◌&&◌, ◌==◌, not, is_some, filter, min, nat_le, nat_lt, All}
use Rattle.std.specs.Option.{option_map_or}
use Rattle.std.proofs.lemmas.Bool.{cases_Bool, and_parts, eqb-true, eq-eqb, le-leb, lt-leb, ltb-true, or_right, or_left}
use Rattle.std.proofs.lemmas.List.Elements.{All-head, All-tail, All-append, All-cons, All-weaker}
use Rattle.std.proofs.lemmas.List.Folds.{list_any-append}
use Rattle.std.proofs.lemmas.Option.{same_Some}
use Rattle.timer_heap.specs.Timers.{IsFirstDue, Timer, Timing, without, popped}
use Rattle.context_tree.specs.declared.error.CtxErr.TheVariants.{DeadlineExceeded}
use Rattle.context_tree.specs.declared.node.Due.{Due}
use Rattle.context_tree.specs.declared.node.Ending.{Ending}
use Rattle.context_tree.specs.declared.node.Kind.{Kind}
use Rattle.context_tree.specs.declared.node.Kind.TheVariants.{Background, Cancel, Deadline, Value, WithoutCancel}
use Rattle.context_tree.specs.declared.node.Node.{Node}
use Rattle.context_tree.specs.Context.{Id, Member, same, TreeOp, Advances, Ended, held, chain, is_member, follows, own_due, own_deadline, sooner, least, deadline, first_due, first_of, cause_or, expiry, ends}
use Rattle.context_tree.specs.Frames.{is_due}
use Rattle.context_tree.specs.Links.{slot_of}
use Rattle.context_tree.specs.Tree.{TreeValue, StandsFor, most_visits}
use Rattle.context_tree.specs.Timed.{has_entry, if_sooner, deadline_above, time_of}
use Rattle.context_tree.specs.Walks.{is_live_at, id_in, IsDueAt, Start, IsWalked}
use Rattle.context_tree.proofs.Enders.{ByMoment, op_of}
use Rattle.context_tree.proofs.Framing.{due_some, own_some}
use Rattle.context_tree.proofs.Lineage.{born, option_cases, follows_parent, same_true}
use Rattle.context_tree.proofs.Tests.{or_cases, is_some-map}
use Rattle.context_tree.proofs.Timing.{not_before, stopped}
use Rattle.context_tree.proofs.Underway.{id_shown, is_left, shown, up, IsUnderway}
use Rattle.context_tree.proofs.WalkEnds.{goes_on, over}

and_all : (b : Bool) → (b && not false) ≡ b
and_all true = refl
and_all false = refl

-- ---- timers

-- a timer that waits, where each of them is at this time or later
entry_from : (first at m : ℕ) (es : List Timer) → All (λ e. first ≤ e.at) es → has_entry at m es ≡ true → first ≤ at
entry_from first at m [] later is = cc
entry_from first at m (e ∷ es) later is = or_cases (e.at == at && e.id == m) (has_entry at m es) _ is
    (λ hit.
    let time : e.at ≡ at = eqb-true e.at at (and_parts (e.at == at) (e.id == m) hit).0 in
    let from : first ≤ e.at = All-head (λ (d : Timer). first ≤ d.at) e es later in omega (arith, time, from))
    (λ rest. entry_from first at m es (All-tail (λ (d : Timer). first ≤ d.at) e es later) rest)

-- which timer is popped, and when none is
pub record PopLaws : Type 0 where
  pub found : (now : ℕ) (entries : List Timer) (e : Timer) → popped now entries ≡ Some e → IsFirstDue now entries e
  pub none : (now : ℕ) (entries : List Timer) → popped now entries ≡ None → All (λ e. now < e.at) entries

-- the timer that is popped waits, is due, and none comes before it
pub record IsFirst (now : ℕ) (entries : List Timer) (e : Timer) : Type 0 where
  pub waits : has_entry e.at e.id entries ≡ true
  pub due : e.at ≤ now
  pub first : (at m : ℕ) → has_entry at m entries ≡ true → e.at ≤ at

pub first_popped : PopLaws → (now : ℕ) (entries : List Timer) (e : Timer) → popped now entries ≡ Some e → IsFirst now entries e
first_popped laws now entries e is =
    let f = laws.found now entries e is in
    let stands : entries ≡ f.before ++ e ∷ f.after = f.stands in
    let itself : (e.at == e.at && e.id == e.id) ≡ true = rw (eq-eqb e.at e.at refl, eq-eqb e.id e.id refl) refl in
    let here : has_entry e.at e.id (e ∷ f.after) ≡ true = or_left (e.at == e.at && e.id == e.id) (has_entry e.at e.id f.after) itself in
    let all : All (λ (d : Timer). e.at ≤ d.at) (f.before ++ e ∷ f.after) =
    All-append (λ (d : Timer). e.at ≤ d.at) f.before (e ∷ f.after)
    (All-weaker (λ (d : Timer). e.at < d.at) (λ (d : Timer). e.at ≤ d.at) (λ y lt. omega (arith, lt)) f.before f.before_later)
    (All-cons (λ (d : Timer). e.at ≤ d.at) e f.after (omega arith) f.after_no_sooner) in
    record {
      waits = rw stands (list_any-append (λ (d : Timer). d.at == e.at && d.id == e.id) f.before (e ∷ f.after) ∙ or_right (has_entry e.at e.id f.before) (has_entry e.at e.id (e ∷ f.after)) here);
      due = f.due;
      first = λ at m has. entry_from e.at at m (f.before ++ e ∷ f.after) all (rw stands at has);
    }

pub none_first : PopLaws → (now : ℕ) (entries : List Timer) → popped now entries ≡ None → (at m : ℕ) → has_entry at m entries ≡ true → now + 1 ≤ at
none_first laws now entries is at m has = entry_from (now + 1) at m entries (All-weaker (λ (d : Timer). now < d.at) (λ (d : Timer). now + 1 ≤ d.at) (λ y lt. omega (arith, lt)) entries (laws.none now entries is)) has

filter_short : (p : Timer → Bool) (es : List Timer) → length (filter p es) ≤ length es
filter_short p [] = omega arith
filter_short p (e ∷ es) =
    let rest : length (filter p es) ≤ length es = filter_short p es in
    ⊎_elim (λ (kept : p e ≡ true). rw kept (omega (arith, rest))) (λ (left : p e ≡ false). rw left (omega (arith, rest))) (cases_Bool (p e))

shorter : (at m : ℕ) (es : List Timer) → has_entry at m es ≡ true → length (without m es) < length es
shorter at m [] is = cc
shorter at m (e ∷ es) is = ⊎_elim
    (λ (here : (e.id == m) ≡ true). let rest : length (without m es) ≤ length es = filter_short (λ (d : Timer). not (d.id == m)) es in rw here (omega (arith, rest)))
    (λ (other : (e.id == m) ≡ false).
    let later : has_entry at m es ≡ true = or_cases (e.at == at && e.id == m) (has_entry at m es) _ is
    (λ hit. let bad : false ≡ true = sym other ∙ (and_parts (e.at == at) (e.id == m) hit).1 in cc)
    (λ rest. rest) in
    let rest : length (without m es) < length es = shorter at m es later in
    rw other (omega (arith, rest)))
    (cases_Bool (e.id == m))

-- after a pop, and after more are stopped, fewer wait
pub fewer_wait : PopLaws → (now : ℕ) (es : List Timer) (e : Timer) (p : Timer → Bool) → popped now es ≡ Some e → length (filter p (without e.id es)) < length es
fewer_wait laws now es e p is =
    let f = first_popped laws now es e is in
    let less : length (without e.id es) < length es = shorter e.at e.id es f.waits in
    let short : length (filter p (without e.id es)) ≤ length (without e.id es) = filter_short p (without e.id es) in
    omega (arith, less, short)

-- ---- times

pub sooner_at : (own above : Option ℕ) (at : ℕ) → if_sooner own above ≡ Some at → (own ≡ Some at) × ((m : ℕ) → above ≡ Some m → at < m)
sooner_at None above at is = cc
sooner_at (Some a) None at is = (is, λ m bad. cc)
sooner_at (Some a) (Some b) at is = ⊎_elim
    (λ (yes' : nat_lt a b ≡ true).
    let e : a ≡ at = same_Some a at (rw yes' at is) in
    let lt : a < b = ltb-true a b yes' in
    (ap Some e, λ m same_m. let k : b ≡ m = same_Some b m same_m in omega (arith, lt, e, k)))
    (λ (no' : nat_lt a b ≡ false). let bad : None ≡ Some at = rw no' at is in cc)
    (cases_Bool (nat_lt a b))

least_low : (own rest : Option ℕ) (a : ℕ) → own ≡ Some a → (m : ℕ) × (sooner own rest ≡ Some m) × (m ≤ a)
least_low None rest a is = cc
least_low (Some b) None a is = (b, refl, let e : b ≡ a = same_Some b a is in omega (arith, e))
least_low (Some b) (Some c) a is = (min b c, refl, let e : b ≡ a = same_Some b a is in omega (arith, e))

module _ {C : Type 0} where
  -- of a due deadline and a later one, or one as late, the first
  keeps_first : (d : Due C) (o : Option (Due C)) → ((b : Due C) → o ≡ Some b → d.at < b.at) → first_of (Some d) o ≡ Some d
  keeps_first d None later = refl
  keeps_first d (Some b) later = let lt : d.at < b.at = later b refl in rw (lt-leb _ _ lt) refl

  goes_first : (o : Option (Due C)) (d : Due C) → ((a : Due C) → o ≡ Some a → d.at ≤ a.at) → first_of o (Some d) ≡ Some d
  goes_first None d later = refl
  goes_first (Some a) d later = rw (le-leb _ _ (later a refl)) refl

  some_or : (a b : Option (Due C)) (d : Due C) → first_of a b ≡ Some d → (a ≡ Some d) ⊎ (b ≡ Some d)
  some_or None b d is = inr is
  some_or (Some a) None d is = inl is
  some_or (Some a) (Some b) d is = ⊎_elim
      (λ (yes' : nat_le b.at a.at ≡ true). inr (rw yes' at is))
      (λ (no' : nat_le b.at a.at ≡ false). inl (rw no' at is))
      (cases_Bool (nat_le b.at a.at))

module _ {C V : Type 0} where
  -- a deadline of its own that is due
  pub own_is : (now : ℕ) (x : Id) (k : Kind C V) (d : Due C) → own_due now (x, k) ≡ Some d → (own_deadline k ≡ Some d.at) × (d.member ≡ x)
  own_is now x Background d is = cc
  own_is now x (Cancel parent) d is = cc
  own_is now x (Deadline parent at cause) d is = ⊎_elim
      (λ (yes' : nat_le at now ≡ true). let e = same_Some _ d (rw yes' at is) in (ap (λ (o : Due C). Some o.at) e, sym (ap (λ (o : Due C). o.member) e)))
      (λ (no' : nat_le at now ≡ false). let bad : None ≡ Some d = rw no' at is in cc)
      (cases_Bool (nat_le at now))
  own_is now x (Value parent key value) d is = cc
  own_is now x (WithoutCancel parent) d is = cc

  -- what is due of some is not before the least of them
  due_from : (now : ℕ) (ms : List (Member C V)) (b : Due C) → first_due now ms ≡ Some b → (m : ℕ) × (least ms ≡ Some m) × (m ≤ b.at)
  due_from now [] b is = cc
  due_from now (x ∷ ms) b is = ⊎_elim
      (λ (own : own_due now x ≡ Some b). least_low (own_deadline x.1) (least ms) b.at (own_is now x.0 x.1 b own).0)
      (λ (rest : first_due now ms ≡ Some b).
      let r = due_from now ms b rest in
      let le : r.0 ≤ b.at = r.2 in
      by_own (own_deadline x.1) (least ms) r.0 r.1 le)
      (some_or (own_due now x) (first_due now ms) b is)
    where
      by_own : (own rest : Option ℕ) (m : ℕ) → rest ≡ Some m → m ≤ b.at → (l : ℕ) × (sooner own rest ≡ Some l) × (l ≤ b.at)
      by_own None rest m is le = (m, is, le)
      by_own (Some a) None m is le = cc
      by_own (Some a) (Some c) m is le = (min a c, refl, let e : c ≡ m = same_Some c m is in omega (arith, e, le))

  module _ (now : ℕ) (past : List (TreeOp C V)) (slots : List (Option (Node C V))) (done before : List Id) (timers : Timing) (ended : List Id) (u : IsUnderway (ByMoment now) past slots done before timers ended) where
    -- of one that is left, whose chain has the one whose timer comes first, that one's deadline is the first
    due_below : (e : Timer) → IsFirst now timers.entries e → (t : Id) (kt : Kind C V) (d : Due C) → held t past ≡ Some kt → time_of kt past ≡ Some e.at → own_due now (t, kt) ≡ Some d
        → (n : ℕ) (x : Id) (k : Kind C V) → x.0 < n → held x past ≡ Some k → is_left past ended x ≡ true → is_member t (chain x past) ≡ true → first_due now (chain x past) ≡ Some d
    due_below e f t kt d t_held time own zero x k lt is left on = absurd (omega (arith, lt))
    due_below e f t kt d t_held time own (suc n) x k lt is left on =
        let b = born past u.lawful x k is in
        let o = own_is now t kt d own in
        let times = sooner_at (own_deadline kt) (deadline_above kt past) e.at time in
        let at_is : d.at ≡ e.at = same_Some d.at e.at (sym o.0 ∙ times.0) in
        ⊎_elim
        (λ (yes' : same x t ≡ true).
        let same_id : x ≡ t = same_true x t yes' in
        let ke : k ≡ kt = same_Some k kt (sym is ∙ ap (λ z. held z past) same_id ∙ t_held) in
        let own_x : own_due now (x, k) ≡ Some d = ap (λ z. own_due now (z, k)) same_id ∙ ap (λ z. own_due now (t, z)) ke ∙ own in
        rw (b.chain_is, own_x) (keeps_first d (first_due now (option_map_or (λ p. chain p past) (follows k) [])) (λ other other_is.
        let r = due_from now (option_map_or (λ p. chain p past) (follows k) []) other other_is in
        let after : e.at < r.0 = times.1 r.0 (ap (λ z. deadline_above z past) (sym ke) ∙ r.1) in
        let le : r.0 ≤ other.at = r.2 in
        omega (arith, after, le, at_is))))
        (λ (no' : same x t ≡ false). ⊎_elim
        (λ (none : follows k ≡ None). let bad : false ≡ true = rw (b.chain_is, no', none) at on in cc)
        (λ (some : (p : Id) × (follows k ≡ Some p)).
        let p = some.0 in
        let over' = follows_parent k p some.1 in
        let ph = b.parent_held p over' in
        let less : p.0 < x.0 = b.parent_low p over' in
        let on_p : is_member t (chain p past) ≡ true = rw (b.chain_is, no', some.1) at on in
        let rest = due_below e f t kt d t_held time own n p ph.0 (omega (arith, lt, less)) ph.1 (up (ByMoment now) past slots done before timers ended u x p k is some.1 left) on_p in
        rw (b.chain_is, some.1, rest) (goes_first (own_due now (x, k)) d (λ a a_is.
        let own_a = own_is now x k a a_is in
        let l = least_low (own_deadline k) (deadline_above k past) a.at own_a.0 in
        let due : deadline x past ≡ Some l.0 = ap least b.chain_is ∙ l.1 in
        let from : e.at ≤ l.0 = not_before (is_left past ended) timers past u.lawful u.timed (up (ByMoment now) past slots done before timers ended u) e.at f.first (x.0 + 1) x k l.0 (omega arith) is left due in
        let le : l.0 ≤ a.at = l.2 in
        omega (arith, from, le, at_is))))
        (option_cases (follows k)))
        (cases_Bool (same x t))

    -- the context whose timer comes first
    pub record IsExpired (e : Timer) : Type 0 where
      pub context : Id
      pub kind : Kind C V
      pub slot_is : context.1 ≡ e.id
      pub is_held : held context past ≡ Some kind
      pub left : is_left past ended context ≡ true
      pub time : time_of kind past ≡ Some e.at
      pub node : Node C V
      pub node_is : slot_of slots e.id ≡ Some node
      pub kind_is : node.kind ≡ kind
      pub id_is : id_in slots e.id ≡ context
      pub live : is_live_at slots e.id ≡ true
      pub due_at : IsDueAt slots e.id now

    pub expired : (e : Timer) → IsFirst now timers.entries e → IsExpired e
    expired e f =
        let it = u.timed.are_set e.at e.id f.waits in
        let a = shown (ByMoment now) past slots done before timers ended u it.context it.kind it.is_held in
        let node_is : slot_of slots e.id ≡ Some a.node = ap (λ z. slot_of slots z) (sym it.slot_is) ∙ a.slot_is in
        let own : own_deadline it.kind ≡ Some e.at = (sooner_at (own_deadline it.kind) (deadline_above it.kind past) e.at it.ends_at).0 in
        let due : e.at ≤ now = f.due in
        let some_due : is_some (own_due now ((a.node.number, e.id), a.node.kind)) ≡ true = own_some now (a.node.number, e.id) a.node.kind ∙ ap (λ z. is_due now (own_deadline z)) a.kind_is ∙ ap (is_due now) own ∙ le-leb e.at now due in
        record {
          context = it.context;
          kind = it.kind;
          slot_is = it.slot_is;
          is_held = it.is_held;
          left = it.live;
          time = it.ends_at;
          node = a.node;
          node_is = node_is;
          kind_is = a.kind_is;
          id_is = ap (id_in slots) (sym it.slot_is) ∙ id_shown (ByMoment now) past slots done before timers ended u it.context it.kind it.is_held;
          live = rw node_is (a.ending_is ∙ it.live);
          due_at = record { node = a.node; slot_is = node_is; is_due = some_due };
        }

  -- what the moment has ended, some time after it came
  pub record IsMoment (now : ℕ) (past : List (TreeOp C V)) (slots : List (Option (Node C V))) (done before : List Id) (timers : Timing) : Type 0 where
    pub ended : List Id
    pub underway : IsUnderway (ByMoment now) past slots done before timers ended

  -- the first timer is popped, and the walk from its context is over
  pub moment_on : PopLaws → (now : ℕ) (past : List (TreeOp C V)) (slots : List (Option (Node C V))) (done before : List Id) (timers popped_timers : Timing) → IsMoment now past slots done before timers
      → (e : Timer) → popped now timers.entries ≡ Some e → popped_timers ≡ record { entries = without e.id timers.entries; sets = timers.sets }
      → (id : Id) (d : Due C) (how : Ending C) → id ≡ id_in slots e.id → ((n : Node C V) → slot_of slots e.id ≡ Some n → own_due now (id_in slots e.id, n.kind) ≡ Some d)
      → how ≡ record { error = DeadlineExceeded; cause = cause_or DeadlineExceeded d.cause }
      → (new : List (Option (Node C V))) (done2 : List Id) (timers2 : Timing) (visits : ℕ)
      → IsWalked (record { slots = slots; done = done; timers = popped_timers; target = id.1; ending = how }) new done2 timers2 visits
      → IsMoment now past new done2 before timers2
  moment_on laws now past slots done before timers popped_timers m e is popped_is id d how id_is due_is how_is new done2 timers2 visits walked =
      let u = m.underway in
      let f = first_popped laws now timers.entries e is in
      let x = expired now past slots done before timers m.ended u e f in
      let key : id.1 ≡ e.id = ap (λ (z : Id). z.1) id_is in
      let s : Start C V = record { slots = slots; done = done; timers = popped_timers; target = e.id; ending = how } in
      let w : IsWalked s new done2 timers2 visits = subst (λ k. IsWalked (record { slots = slots; done = done; timers = popped_timers; target = k; ending = how }) new done2 timers2 visits) key walked in
      let own : own_due now (x.context, x.kind) ≡ Some d = ap (λ z. own_due now (z, x.kind)) (sym x.id_is) ∙ ap (λ z. own_due now (id_in slots e.id, z)) (sym x.kind_is) ∙ due_is x.node x.node_is in
      let by : Ended C = expiry (length past) d in
      let gives : (y : Id) (k : Kind C V) → held y past ≡ Some k → is_left past m.ended y ≡ true → is_member (id_in slots e.id) (chain y past) ≡ true → ends (length past) (chain y past) (op_of (ByMoment now)) ≡ Some by
      = λ y k y_held left on. ap (option_map (expiry (length past)))
      (due_below now past slots done before timers m.ended u e f x.context x.kind d x.is_held x.time own (y.0 + 1) y k (omega arith) y_held left (subst (λ z. is_member z (chain y past) ≡ true) x.id_is on)) in
      record {
        ended = m.ended ++ map (id_in slots) w.keys;
        underway = goes_on (ByMoment now) past s before timers m.ended u new done2 timers2 w.keys w.visited w.walk by (sym how_is) ((own_is now x.context x.kind d own).1 ∙ sym x.id_is) gives
            (λ at slot other. ap (λ (t : Timing). has_entry at slot t.entries) popped_is ∙ stopped at slot e.id timers.entries ∙ ap (λ b. has_entry at slot timers.entries && not b) other ∙ and_all (has_entry at slot timers.entries))
            (ap (λ (t : Timing). t.sets) popped_is);
      }

  -- no timer is left that is due
  pub moment_over : PopLaws → (now : ℕ) (old t : TreeValue C V) (past : List (TreeOp C V)) → StandsFor old past → t.made ≡ old.made → t.visits ≡ old.visits → IsMoment now past t.slots t.done old.done t.timers → popped now t.timers.entries ≡ None
      → StandsFor t (Advances now ∷ past)
  moment_over laws now old t past st made_is visits_is m none =
      let u = m.underway in
      over (ByMoment now) t past old.done m.ended u st.queue (made_is ∙ st.contexts.made_is)
      (λ x k is live out.
      let left : is_left past m.ended x ≡ true = rw (live, out) refl in
      is_some-map (expiry (length past)) (first_due now (chain x past)) ∙ due_some now (chain x past) ∙ later (least (chain x past)) (λ at due.
      not_before (is_left past m.ended) t.timers past u.lawful u.timed (up (ByMoment now) past t.slots t.done old.done t.timers m.ended u) (now + 1) (none_first laws now t.timers.entries none) (x.0 + 1) x k at (omega arith) is left due))
      (let few : old.visits ≤ most_visits past = st.visits_few in rw visits_is few)
    where
      later : (o : Option ℕ) → ((at : ℕ) → o ≡ Some at → now + 1 ≤ at) → is_due now o ≡ false
      later None after = refl
      later (Some at) after = let from : now + 1 ≤ at = after at refl in lt-leb at now (omega (arith, from))

none_not : {A B : Type 0} (a : A) → None ≡ Some a → B
none_not a is = cc

some_not : {A B : Type 0} (a : A) → Some a ≡ None → B
some_not a is = cc

-- what an answer of a pop tells of the timer
pub popped_some : (o : Option Timer) (r : Option (ℕ × ℕ)) (at key : ℕ) → r ≡ option_map (λ e. (e.at, e.id)) o → r ≡ Some (at, key) → (e : Timer) × (o ≡ Some e) × (e.id ≡ key)
popped_some None r at key is some = none_not (at, key) (sym is ∙ some)
popped_some (Some e) r at key is some = (e, refl, let s : Some (e.at, e.id) ≡ Some (at, key) = sym is ∙ some in ap (λ p. p.1) (same_Some (e.at, e.id) (at, key) s))

pub popped_not : (o : Option Timer) (r : Option (ℕ × ℕ)) → r ≡ option_map (λ e. (e.at, e.id)) o → r ≡ None → o ≡ None
popped_not None r is none = refl
popped_not (Some e) r is none = some_not (e.at, e.id) (sym is ∙ none)
