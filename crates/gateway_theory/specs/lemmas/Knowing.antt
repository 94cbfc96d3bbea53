-- What is known of the gateway, by the events that it stands for.
use Rattle.std.specs.Prelude.{◌≡◌, ◌≤◌, ◌<◌, ◌∷◌, ◌++◌, ◌&&◌, ◌||◌, if◌then◌else◌}
use Rattle.gateway_theory.specs.lemmas.Names.{ℕ, zero, suc, Bool, true, false, List, [], length, Option, None, Some, refl, sym, ap, ◌∙◌, subst, arith, append_assoc, ⊎_elim, nat_tests, not, slice_index_or, nat_lt, option_map, count_by, option_map_or, cases_Bool, cases_eq, cond_both, and_parts, lt-ltb, take_all, CallEvent, CallId, CallRecord, last_event, LiveStands, MayLive, Occurrence, ArrivedCall, Past, branches, call, count_below, decides, is_out, marked, outs, branch_deadlines, call_id, is_broken, own_events, record_of, front, queued_entries, Live, ConnectionValue, are_all_there, is_done, is_open_value, is_broken_value, untaken_value, is_whole, ReplyEntry, JobValue, record_now, IsKnown, own, without_breaks, Placed, occurrences, AllStand, Now, by_events, Occurs, History, CoreValue, HasConns, Lives, Served}
use Rattle.std.proofs.Common.{append-nil}
use Rattle.gateway_model.specs.Record.{answers_among, is_decided, is_ending, is_lawful}
use Rattle.gateway_theory.specs.lemmas.LimitLemmas.{count_less, out_started, outs_limit}
use Rattle.gateway_theory.specs.lemmas.RecordLemmas.{Going, among_more, none_decides, lawful, same_follow}
use Rattle.gateway_theory.specs.lemmas.SlotLemmas.{count_take}
use Rattle.gateway_theory.specs.lemmas.StandsLemmas.{last_is}
use Rattle.gateway_theory.specs.lemmas.OwnLemmas.{Alike, map_range, own_alike}
use Rattle.gateway_theory.specs.lemmas.Standing.{outs_stand, queue_stands}
use Rattle.gateway_theory.specs.lemmas.StoreLemmas.{some_same}
use Rattle.gateway_theory.specs.lemmas.PrefixLemmas.{call_within, events_occur}
use Rattle.gateway_theory.specs.Core.{shown}
use Rattle.gateway_theory.specs.Values.{is_idle_value}
use Rattle.gateway_model.specs.Ahead.{BringsNoMore, are_answered, ends_calls, least_deadline}
use Rattle.gateway_theory.specs.lemmas.Ahead.{answered_stands, deadline_all, ends_all, stream_over}

-- ---- counting

grows : (m n : ℕ) (p : ℕ → Bool) → m ≤ n → count_below m p ≤ count_below n p
grows zero n p le = omega arith
grows (suc m) zero p le = absurd (omega (arith, le))
grows (suc m) (suc n) p le =
    ⊎_elim (λ (same : m ≡ n). rw same (omega arith))
    (λ (other : m ≡ n → ⊥).
    let before : count_below (suc m) p ≤ count_below n p = grows (suc m) n p (omega (arith, le, other)) in
    cond_both (p n) (suc (count_below n p)) (count_below n p) (λ k. count_below (suc m) p ≤ k) (λ _. omega (arith, before)) (λ _. before))
    (cases_eq m n)

-- those that pass lie below n
within : (m n : ℕ) (p : ℕ → Bool) → ((i : ℕ) → p i ≡ true → i < n) → count_below m p ≤ count_below n p
within zero n p h = omega arith
within (suc m) n p h =
    ⊎_elim (λ (yes : p m ≡ true). let lt : m < n = h m yes in grows (suc m) n p (omega (arith, lt)))
    (λ (no : p m ≡ false). rw no (within m n p h))
    (cases_Bool (p m))

-- ---- branches that are out

out_within : (id : CallId) (i : ℕ) (past : Past) → is_out id i past ≡ true → i < branches id past
out_within id i past out = grind (arith, nat_tests, out_started)

outs_at_most : (id : CallId) (out : List Bool) (past : Past) → ((i : ℕ) → slice_index_or out i false ≡ true → is_out id i past ≡ true) → count_by (λ b. b) out ≤ outs id past
outs_at_most id out past h =
    let all : count_by (λ b. b) out ≡ count_below (length out) (λ k. slice_index_or out k false) =
    ap (count_by (λ b. b)) (sym (take_all (length out) out (omega arith))) ∙ count_take (λ b. b) false out (length out) (omega arith) in
    let below : count_below (length out) (λ k. slice_index_or out k false) ≤ count_below (branches id past) (λ k. slice_index_or out k false) =
    within (length out) (branches id past) (λ k. slice_index_or out k false) (λ i is. out_within id i past (h i is)) in
    let less : count_below (branches id past) (λ k. slice_index_or out k false) ≤ outs id past =
    count_less (branches id past) (λ k. slice_index_or out k false) (λ k. is_out id k past) (λ i lt is. h i is) in
    omega (arith, all, below, less)

pub index_in : (out : List Bool) (i : ℕ) → slice_index_or out i false ≡ true → i < length out
index_in [] i is = absurd (cc)
index_in (b ∷ out) zero is = omega arith
index_in (b ∷ out) (suc i) is = let lt = index_in out i is in omega (arith, lt)

outs_at_least : (id : CallId) (out : List Bool) (past : Past) → ((i : ℕ) → is_out id i past ≡ true → slice_index_or out i false ≡ true) → outs id past ≤ count_by (λ b. b) out
outs_at_least id out past h =
    let all : count_by (λ b. b) out ≡ count_below (length out) (λ k. slice_index_or out k false) =
    ap (count_by (λ b. b)) (sym (take_all (length out) out (omega arith))) ∙ count_take (λ b. b) false out (length out) (omega arith) in
    let below : count_below (branches id past) (λ k. slice_index_or out k false) ≤ count_below (length out) (λ k. slice_index_or out k false) =
    within (branches id past) (length out) (λ k. slice_index_or out k false) (index_in out) in
    let less : outs id past ≤ count_below (branches id past) (λ k. slice_index_or out k false) =
    count_less (branches id past) (λ k. is_out id k past) (λ k. slice_index_or out k false) (λ i lt is. h i is) in
    omega (arith, all, below, less)

-- as many are out as the definitions say
pub outs_same : (id : CallId) (out : List Bool) (past : Past) → ((i : ℕ) → slice_index_or out i false ≡ is_out id i past) → count_by (λ b. b) out ≡ outs id past
outs_same id out past same =
    let most = outs_at_most id out past (λ i is. sym (same i) ∙ is) in
    let least = outs_at_least id out past (λ i is. same i ∙ is) in
    omega (arith, most, least)

-- ---- the record of a call that goes on

abbrev ends : CallRecord → List CallEvent → Bool
ends r es = option_map_or (is_ending (answers_among es) (length r.plan.branches)) (last_event es) false

goes_behind : (r : CallRecord) (before : List CallEvent) (e : CallEvent) → not (decides (answers_among before) (length r.plan.branches) e) ≡ true → ends r (before ++ e ∷ []) ≡ false
goes_behind r before e on = grind (arith, nat_tests, last_is, among_more)

ends_never : (r : CallRecord) (before es : List CallEvent) → none_decides r before es ≡ true → ends r before ≡ false → ends r (before ++ es) ≡ false
ends_never r before [] on so_far = subst (λ xs. ends r xs ≡ false) (sym (append-nil before)) so_far
ends_never r before (e ∷ es) on so_far =
    let parts = and_parts (not (decides (answers_among before) (length r.plan.branches) e)) (none_decides r (before ++ e ∷ []) es) on in
    subst (λ xs. ends r xs ≡ false) (append_assoc before (e ∷ []) es) (ends_never r (before ++ e ∷ []) es parts.1 (goes_behind r before e parts.0))

-- it is lawful, and not decided
pub lawful_now : (id : CallId) (l : Live) (out : List Bool) (os : List Occurrence) → LiveStands id l out (marked os)
    → (is_lawful (record_of l.asked l.deadlines l.events) ≡ true) × (is_decided (record_of l.asked l.deadlines l.events) ≡ false)
lawful_now id l out os s =
    let going : Going id l.asked (marked os) = (lawful id os l.asked s.call_is).going s.undecided s.unshut in
    rw s.events_are (
      rw (same_follow l.asked l.deadlines (own_events id (marked os)) [] (own_events id (marked os)) ∙ going.follow l.deadlines, going.early) refl,
      ends_never (record_of l.asked [] []) [] (own_events id (marked os)) (going.on []) refl,
    )

-- ---- two pasts that are alike to a connection

module _ (c k : ℕ) (p q : Past) (h : Alike c p q) where
  deadlines_alike : branch_deadlines (call_id c k) p ≡ branch_deadlines (call_id c k) q
  deadlines_alike = grind (arith, nat_tests, map_range, lt-ltb)

  record_alike : record_now (call_id c k) p ≡ record_now (call_id c k) q
  record_alike = grind (arith, nat_tests, deadlines_alike)

-- the record so far of a call, as it is kept
record_stands : (id : CallId) (live : Option Live) (out : List Bool) (past : Past) → MayLive id live out past
    → option_map (λ (l : Live). record_of l.asked l.deadlines l.events) live ≡ record_now id past
record_stands id live out past h = grind arith

module _ (n : Now) (conns : ℕ → ConnectionValue) (opened : ℕ) (taken : ℕ → List ReplyEntry) (handed waiting : List JobValue) (os : List Occurrence) (h : AllStand n conns taken handed waiting os) where
  pub broken_stands : (c : ℕ) → (conns c).closed ≡ false → (conns c).broken ≡ is_broken c (marked os)
  broken_stands c still = (h.each c).broken_is ∙ ap (λ b. not b && is_broken (conns c).number (marked (own c os))) still ∙ ap (λ d. is_broken d (marked (own c os))) (h.numbers c) ∙ sym (own_alike c os).broken_is

  still : (a b : Bool) → (a && not b) ≡ true → b ≡ false
  still a b is = grind (arith, nat_tests)

  pub broken_shown : (c : ℕ) → is_open_value opened c (conns c) ≡ true → is_broken_value opened c (conns c) ≡ is_broken c (marked os)
  broken_shown c there = ap (λ b. b && (conns c).broken) there ∙ broken_stands c (still (nat_lt c opened) (conns c).closed there)

  pub queue_shown : (c : ℕ) → is_open_value opened c (conns c) ≡ true → taken c ++ untaken_value opened c (conns c) ≡ queued_entries c (marked os)
  queue_shown c there =
      ap (λ b. taken c ++ (if b then front (conns c).slots else [])) there ∙ queue_stands n conns taken handed waiting os h c (still (nat_lt c opened) (conns c).closed there)

  pub outs_shown : (c k : ℕ) → count_by (λ b. b) ((conns c).calls k).out ≡ outs (call_id c k) (marked os)
  outs_shown c k = outs_same (call_id c k) ((conns c).calls k).out (marked os) (outs_stand n conns taken handed waiting os h c k)

  pub records_shown : (c k : ℕ) → option_map (λ (l : Live). record_of l.asked l.deadlines l.events) ((conns c).calls k).live ≡ record_now (call_id c k) (marked os)
  records_shown c k =
      record_stands (call_id (conns c).number k) ((conns c).calls k).live ((conns c).calls k).out (marked (own c os)) ((h.each c).calls k).live_is
      ∙ ap (λ d. record_now (call_id d k) (marked (own c os))) (h.numbers c)
      ∙ sym (record_alike c k (marked os) (marked (own c os)) (own_alike c os))

  pub idle_shown : (c : ℕ) → is_open_value opened c (conns c) ≡ true → is_idle_value opened c (conns c) ≡ are_answered c (marked os)
  idle_shown c there = ap (λ b. not b || are_all_there (conns c).slots) there ∙ answered_stands n conns taken handed waiting os h c (still (nat_lt c opened) (conns c).closed there)

-- ---- the record of a call that goes on

record_lawful : (id : CallId) (r : CallRecord) (live : Option Live) (out : List Bool) (os : List Occurrence) → MayLive id live out (marked os)
    → option_map (λ (l : Live). record_of l.asked l.deadlines l.events) live ≡ Some r → (is_lawful r ≡ true) × (is_decided r ≡ false)
record_lawful id r None out os s is = absurd (cc)
record_lawful id r (Some l) out os s is = subst (λ (k : CallRecord). (is_lawful k ≡ true) × (is_decided k ≡ false)) (some_same is) (lawful_now id l out os s)

-- ---- what is known

-- no more branches are out than the limit of the call, which is by the events alone
within_limit : (id : CallId) (a : ArrivedCall) (os others : List Occurrence) → without_breaks os ≡ others → call id (marked others) ≡ Some a → outs id (marked os) ≤ a.plan.limit
within_limit id a os others same a_is = grind (arith, nat_tests, outs_limit, call_within)

-- where this was lived
module _ (v : CoreValue) (h : History) (occurred : List Placed) (conns : HasConns v h.opened h.events) (lived : List Placed) (same : by_events lived ≡ occurred) (l : Lives v h lived) where
  records_kept : (id : CallId) (r : CallRecord) → (shown v).recorded id ≡ Some r → (is_lawful r ≡ true) × (is_decided r ≡ false)
  records_kept id r is =
      let c = v.conns id.conn in
      record_lawful (call_id c.number id.request) r (c.calls id.request).live (c.calls id.request).out (own id.conn (occurrences lived)) ((l.stands.each id.conn).calls id.request).live_is is

  outs_kept : (id : CallId) → (shown v).outs id ≡ outs id (marked (occurrences lived))
  outs_kept id = outs_shown v.now v.conns v.opened h.taken h.handed v.waiting (occurrences lived) l.stands id.conn id.request

  outs_few : (id : CallId) (a : ArrivedCall) → call id (marked (occurrences occurred)) ≡ Some a → (shown v).outs id ≤ a.plan.limit
  outs_few id a a_is =
      subst (λ (n : ℕ). n ≤ a.plan.limit) (sym (outs_kept id)) (within_limit id a (occurrences lived) (occurrences occurred) (sym (events_occur lived) ∙ ap occurrences same) a_is)

  whole_open : (c : ℕ) → is_whole c (shown v) ≡ true → (is_open_value v.opened c (v.conns c) ≡ true) × ((v.conns c).broken ≡ false)
  whole_open c whole = by (is_open_value v.opened c (v.conns c)) refl (v.conns c).broken refl
    where
      by : (a : Bool) → is_open_value v.opened c (v.conns c) ≡ a → (b : Bool) → (v.conns c).broken ≡ b → (is_open_value v.opened c (v.conns c) ≡ true) × ((v.conns c).broken ≡ false)
      by true a_is false b_is = (a_is, b_is)
      by true a_is true b_is = absurd (let clash : false ≡ true = rw (a_is, b_is) at whole in cc)
      by false a_is b b_is = absurd (let clash : false ≡ true = rw a_is at whole in cc)

  ended_whole : (c : ℕ) → is_whole c (shown v) ≡ true → (over : Bool) × BringsNoMore h.opened c h.events over × ((shown v).is_ended c ≡ (over && (shown v).is_idle c))
  ended_whole c whole =
      let parts = whole_open c whole in (
        is_done (v.streams c),
        stream_over h.opened h.events v.opened c (v.conns c) (v.streams c) (conns.each c) parts.0 parts.1,
        rw (parts.0, parts.1) refl,
      )

  ended_silent : (c : ℕ) → is_whole c (shown v) ≡ false → (shown v).is_ended c ≡ true
  ended_silent c gone = by (is_open_value v.opened c (v.conns c)) refl (v.conns c).broken refl
    where
      by : (a : Bool) → is_open_value v.opened c (v.conns c) ≡ a → (b : Bool) → (v.conns c).broken ≡ b → (shown v).is_ended c ≡ true
      by false a_is b b_is = rw a_is refl
      by true a_is true b_is = rw (a_is, b_is) refl
      by true a_is false b_is = absurd (let clash : true ≡ false = rw (a_is, b_is) at gone in cc)

  known_lived : IsKnown (shown v) h occurred
  known_lived = record {
    lived = lived;
    same = same;
    in_order = l.in_order;
    breaks = l.breaks;
    open_are = λ c. sym (conns.each c).open_is;
    broken_are = λ c there. broken_shown v.now v.conns v.opened h.taken h.handed v.waiting (occurrences lived) l.stands c there;
    queue_is = λ c there. queue_shown v.now v.conns v.opened h.taken h.handed v.waiting (occurrences lived) l.stands c there;
    jobs_are = l.stands.jobs_are;
    outs_are = λ id. outs_kept id;
    records_are = λ id. records_shown v.now v.conns v.opened h.taken h.handed v.waiting (occurrences lived) l.stands id.conn id.request;
    records = λ id r r_is. records_kept id r r_is;
    idle_are = λ c there. idle_shown v.now v.conns v.opened h.taken h.handed v.waiting (occurrences lived) l.stands c there;
    ended_are = λ c whole. ended_whole c whole;
    idle_gone = λ c shut. ap (λ b. not b || are_all_there (v.conns c).slots) shut;
    ended_gone = λ c gone. ended_silent c gone;
    deadline_is =
        deadline_all v.now v.conns h.taken h.handed v.waiting (occurrences lived) l.stands v.opened ∙ ap (λ n. least_deadline n (marked (occurrences lived))) (sym conns.count_is);
    ends_are = λ m.
        ends_all v.now v.conns h.taken h.handed v.waiting (occurrences lived) l.stands v.opened m ∙ ap (λ n. ends_calls n m (marked (occurrences lived))) (sym conns.count_is);
    limit = λ id a a_is. outs_few id a a_is;
  }

-- the law
pub known : (v : CoreValue) (h : History) (occurred : List Placed) → Served v h → Occurs v.plans h.opened h.events occurred → IsKnown (shown v) h occurred
known v h occurred s o = let x = s.stands occurred o in known_lived v h occurred s.conns x.0 x.1 x.2
