-- The contexts of a connection that are over are those of the calls that end; where none is, nothing of it changes.
use Rattle.std.specs.Prelude.{◌≡◌, ◌∷◌, ◌||◌, ◌&&◌, ◌==◌, if◌then◌else◌}
use Rattle.gateway_connection.specs.lemmas.Names.{ℕ, suc, refl, sym, ap, ◌∙◌, List, [], Option, Some, None, Bool, true, false, ⊎_elim, map, arith, is_none, is_some, nat_le, option_or, list_any, cases_Bool, or_parts, list_any-append, ended_held, HeldConnection, KeptValue, Live, call_at, is_call, is_due, least_of, smaller, CallEvent, ReplyEntry, CallId, caused, ended_call, ended_kept, deadlines_in, ended_by, Trigger, Reached, HungUp, Drained, or_false, or_none, same_call, TimedBranch, by_deadline, by_hang_up, has_due, is_over, Over, life_in, linked_calls, lives_in, none_over, over_by, timed, nat_tests}
use Rattle.gateway_theory.specs.Connection.{filled}
use Rattle.gateway_theory.specs.lemmas.Deadlines.{due_smaller}

-- the call ends by this
abbrev pub ends_by : Trigger → KeptValue → Bool
ends_by trigger k = is_some (ended_call trigger k.id k.call).reply

-- ---- one call

reached_is : (now : ℕ) (d : Option ℕ) → is_some (by_deadline now d) ≡ is_due now d
reached_is now d = grind arith

reached_none : (now : ℕ) (d : Option ℕ) → is_due now d ≡ false → by_deadline now d ≡ None
reached_none now d is = rw is refl

-- of a call whose own deadline was not reached
branches_reached : (now : ℕ) (id : CallId) (call : Option ℕ) (k : ℕ) (ds : List (Option ℕ)) → is_due now call ≡ false
    → list_any (λ (b : TimedBranch). is_some b.ended) (timed (over_by (Reached now)) id call k ds) ≡ is_due now (least_of ds)
branches_reached now id call k [] low = refl
branches_reached now id call k (None ∷ ds) low = branches_reached now id call (suc k) ds low
branches_reached now id call k (Some at ∷ ds) low =
    ap (λ e. is_some (option_or e (by_deadline now (Some at))) || list_any (λ (b : TimedBranch). is_some b.ended) (timed (over_by (Reached now)) id call (suc k) ds)) (reached_none now call low)
    ∙ ap (λ b. b || list_any (λ (b : TimedBranch). is_some b.ended) (timed (over_by (Reached now)) id call (suc k) ds)) (reached_is now (Some at))
    ∙ ap (λ b. is_due now (Some at) || b) (branches_reached now id call (suc k) ds low)
    ∙ sym (due_smaller now (Some at) (least_of ds))

never_ended : (over : Over) (id : CallId) (call : Option ℕ) (k : ℕ) (ds : List (Option ℕ)) → ((d : Option ℕ) → over id d ≡ None)
    → list_any (λ (b : TimedBranch). is_some b.ended) (timed over id call k ds) ≡ false
never_ended over id call k [] never = refl
never_ended over id call k (None ∷ ds) never = never_ended over id call (suc k) ds never
never_ended over id call k (Some at ∷ ds) never = rw (never call, never (Some at)) (never_ended over id call (suc k) ds never)

due_is_some : (now : ℕ) (id : CallId) (l : Live) (outs : List (Option ℕ)) → is_some (caused (Reached now) id l.asked outs) ≡ is_due now (smaller l.asked.deadline (least_of outs))
due_is_some now id l outs = grind arith

life_over : (t : Trigger) (id : CallId) (out : List Bool) (l : Live) → is_over (life_in (over_by t) id out l) ≡ is_some (caused t id l.asked (deadlines_in out l.deadlines))
life_over (Reached now) id out l =
    ap (λ b. b || list_any (λ (b : TimedBranch). is_some b.ended) (timed (over_by (Reached now)) id l.asked.deadline 0 (deadlines_in out l.deadlines))) (reached_is now l.asked.deadline)
    ∙ by (is_due now l.asked.deadline) refl
    ∙ sym (due_is_some now id l (deadlines_in out l.deadlines) ∙ due_smaller now l.asked.deadline (least_of (deadlines_in out l.deadlines)))
  where
    by : (b : Bool) → is_due now l.asked.deadline ≡ b
        → (is_due now l.asked.deadline || list_any (λ (b : TimedBranch). is_some b.ended) (timed (over_by (Reached now)) id l.asked.deadline 0 (deadlines_in out l.deadlines)))
        ≡ (is_due now l.asked.deadline || is_due now (least_of (deadlines_in out l.deadlines)))
    by true is = rw is refl
    by false is = ap (λ b. is_due now l.asked.deadline || b) (branches_reached now id l.asked.deadline 0 (deadlines_in out l.deadlines) is)
life_over (HungUp c) id out l = by (c == id.conn) refl
  where
    by : (b : Bool) → (c == id.conn) ≡ b → is_over (life_in (over_by (HungUp c)) id out l) ≡ is_some (caused (HungUp c) id l.asked (deadlines_in out l.deadlines))
    by true is = rw is refl
    by false is =
        ap (λ e. is_some e || list_any (λ (b : TimedBranch). is_some b.ended) (timed (over_by (HungUp c)) id l.asked.deadline 0 (deadlines_in out l.deadlines))) (ap by_hang_up is)
        ∙ never_ended (over_by (HungUp c)) id l.asked.deadline 0 (deadlines_in out l.deadlines) (λ d. ap by_hang_up is)
        ∙ rw is refl
life_over Drained id out l = refl

reply_is : (e : Option CallEvent) (l : Live) (out : List Bool) → is_some (ended_by e l out).reply ≡ is_some e
reply_is None l out = refl
reply_is (Some e) l out = refl

one_over : (t : Trigger) (k : KeptValue) → list_any is_over (lives_in (over_by t) k) ≡ ends_by t k
one_over t k = grind (arith, nat_tests, or_false, life_over, reply_is)

-- ---- all of a connection

-- one of their contexts is over exactly if one of them ends
pub over_ends : (t : Trigger) (ks : List KeptValue) → list_any is_over (linked_calls (over_by t) ks) ≡ list_any (ends_by t) ks
over_ends t [] = refl
over_ends t (k ∷ ks) = list_any-append is_over (lives_in (over_by t) k) (linked_calls (over_by t) ks)
    ∙ ap (λ b. b || list_any is_over (linked_calls (over_by t) ks)) (one_over t k) ∙ ap (λ b. ends_by t k || b) (over_ends t ks)

is_none_of : {A : Type 0} (o : Option A) → is_some o ≡ false → o ≡ None
is_none_of None free = refl
is_none_of (Some a) free = cc

kept_same : (t : Trigger) (k : KeptValue) → ends_by t k ≡ false → ended_kept t k ≡ k
kept_same t k none = grind arith

pub calls_same : (t : Trigger) (ks : List KeptValue) → list_any (ends_by t) ks ≡ false → map (ended_kept t) ks ≡ ks
calls_same t [] none = refl
calls_same t (k ∷ ks) none =
    let two = or_parts (ends_by t k) (list_any (ends_by t) ks) none in
    ap (λ x. x ∷ map (ended_kept t) ks) (kept_same t k two.0) ∙ ap (λ xs. k ∷ xs) (calls_same t ks two.1)

none_replies : (t : Trigger) (id : CallId) (ks : List KeptValue) → list_any (ends_by t) ks ≡ false → (ended_call t id (call_at id ks)).reply ≡ None
none_replies t id [] none = refl
none_replies t id (k ∷ ks) none =
    let two = or_parts (ends_by t k) (list_any (ends_by t) ks) none in
    ⊎_elim
    (λ (its : is_call k.id id ≡ true).
    ap (λ b. (ended_call t id (if b then k.call else call_at id ks)).reply) its
    ∙ ap (λ i. (ended_call t i k.call).reply) (sym (same_call k.id id its)) ∙ is_none_of (ended_call t k.id k.call).reply two.0)
    (λ (far : is_call k.id id ≡ false). ap (λ b. (ended_call t id (if b then k.call else call_at id ks)).reply) far ∙ none_replies t id ks two.1)
    (cases_Bool (is_call k.id id))

none_filled : (reply : ℕ → Option ReplyEntry) → ((k : ℕ) → reply k ≡ None) → (k : ℕ) (slots : List (Option ReplyEntry)) → filled reply k slots ≡ slots
none_filled reply none k [] = refl
none_filled reply none k (s ∷ slots) = ap (λ r. option_or s r ∷ filled reply (suc k) slots) (none k) ∙ ap (λ x. x ∷ filled reply (suc k) slots) (or_none s) ∙ ap (λ xs. s ∷ xs) (none_filled reply none (suc k) slots)

-- where none of its calls ends, nothing of it changes
pub held_same : (t : Trigger) (k : HeldConnection) → list_any (ends_by t) k.calls ≡ false → k ≡ ended_held t k
held_same t k none = grind (arith, nat_tests, none_filled, none_replies, calls_same)

-- ---- which are due

-- a context that has not ended is due exactly if its call ends at that moment
branches_due : (now : ℕ) (id : CallId) (call : Option ℕ) (k : ℕ) (ds : List (Option ℕ))
    → list_any (λ (b : TimedBranch). (is_none b.ended) && (nat_le b.deadline now)) (timed none_over id call k ds) ≡ is_due now (least_of ds)
branches_due now id call k [] = refl
branches_due now id call k (None ∷ ds) = branches_due now id call (suc k) ds
branches_due now id call k (Some at ∷ ds) = ap (λ b. nat_le at now || b) (branches_due now id call (suc k) ds) ∙ sym (due_smaller now (Some at) (least_of ds))

one_due : (now : ℕ) (k : KeptValue) → list_any (has_due now) (lives_in none_over k) ≡ ends_by (Reached now) k
one_due now k = by k.call.live refl
  where
    by : (o : Option Live) → k.call.live ≡ o → list_any (has_due now) (lives_in none_over k) ≡ ends_by (Reached now) k
    by None o_is = rw o_is refl
    by (Some l) o_is = rw o_is (or_false (has_due now (life_in none_over k.id k.call.out l))
        ∙ ap (λ b. is_due now l.asked.deadline || b) (branches_due now k.id l.asked.deadline 0 (deadlines_in k.call.out l.deadlines))
        ∙ sym (due_smaller now l.asked.deadline (least_of (deadlines_in k.call.out l.deadlines)))
        ∙ sym (due_is_some now k.id l (deadlines_in k.call.out l.deadlines))
        ∙ sym (reply_is (caused (Reached now) k.id l.asked (deadlines_in k.call.out l.deadlines)) l k.call.out))

pub due_ends : (now : ℕ) (ks : List KeptValue) → list_any (has_due now) (linked_calls none_over ks) ≡ list_any (ends_by (Reached now)) ks
due_ends now [] = refl
due_ends now (k ∷ ks) = list_any-append (has_due now) (lives_in none_over k) (linked_calls none_over ks)
    ∙ ap (λ b. b || list_any (has_due now) (linked_calls none_over ks)) (one_due now k) ∙ ap (λ b. ends_by (Reached now) k || b) (due_ends now ks)
