-- A result of a branch: what it makes of a call's contexts, and of its connection.
use Rattle.gateway_connection.specs.lemmas.Names.{◌≡◌, ℕ, ◌≤◌, ◌<◌, refl, sym, ap, ◌∙◌, List, [], ◌∷◌, Option, Some, None, Bool, true, false, ⊎_elim, length, subst, arith, ◌+◌, ◌||◌, if◌then◌else◌, is_some, option_map, option_to_list, slice_set, cases_Bool, Outcome, CallRecord, Call as Calling, deadline_from, ContextsValue, KeepsOthers, LifeValue, LivesApart, PeerValue, TimedBranch, contexts_value, ends_of, is_life, on_branches, peer, with_branches, without, HookedContexts, KeptValue, Live, TaskValue, HeldConnection, has_out, is_last_answer, result_on, kept_at, waiting_in, next_held, result_in, stepped_held, OwnWith, GoesOn, IsStep, Over, life_in, linked_calls, lives_in, none_over, passed_by, passed_on, IsTied, own_contexts, nat_tests}
use Rattle.connect_codec.specs.declared.answer.Outcome.TheVariants.{Answer, Fail}
use Rattle.gateway_connection.specs.lemmas.OwnContexts.{branches_own}
use Rattle.gateway_connection.proofs.LinkedLemmas.{dead_life, live_linked, set_alike, set_dead, set_live}
use Rattle.gateway_connection.proofs.TimedLemmas.{branches_others, passed_branches, passed_is, passed_timed}

pub stepped_own : (moment branch : ℕ) (outcome : Outcome) (b : Bool) (ns : List PeerValue) (ks : List KeptValue) (i : ℕ) (y : KeptValue) (decided : Option CallRecord) (next : Option TaskValue)
    (c d : ContextsValue) → i < length ks → IsStep moment (kept_at i ks) y decided next (result_on moment branch outcome (slice_set (kept_at i ks).call.out branch false) (kept_at i ks).call.live)
    → has_out (kept_at i ks).call branch ≡ true → ((l : Live) → (kept_at i ks).call.live ≡ Some l → GoesOn (kept_at i ks).id (kept_at i ks).call.out l) → LivesApart c.calls
    → c ≡ contexts_value b ns (linked_calls none_over ks) → d ≡ passed_on moment branch outcome (kept_at i ks) c
    → OwnWith (kept_at i ks).id decided d (contexts_value b ns (linked_calls none_over (slice_set ks i y)))
stepped_own moment branch outcome b ns ks i y decided next c d lt step is_out goes apart c_is d_is =
    by outcome (kept_at i ks).call.live refl step d_is
  where
    k : KeptValue
    k = kept_at i ks

    w : ContextsValue
    w = contexts_value b ns (linked_calls none_over (slice_set ks i y))

    lives : LivesApart (linked_calls none_over ks)
    lives = subst (λ (z : ContextsValue). LivesApart z.calls) c_is apart

    same : d ≡ c → lives_in none_over y ≡ lives_in none_over (kept_at i ks) → d ≡ w
    same is alike = is ∙ c_is ∙ ap (contexts_value b ns) (sym (set_alike none_over ks i y lt alike))

    over : (r : Option CallRecord) (l : Live) → d ≡ c → (kept_at i ks).call.live ≡ Some l → y.call.live ≡ None → is_some r ≡ true → OwnWith (kept_at i ks).id r d w
    over None l is l_is dead some = cc
    over (Some r) l is l_is dead some = (
      subst (λ (z : ContextsValue). is_life (kept_at i ks).id z.calls ≡ true) (sym (is ∙ c_is)) (live_linked none_over ks i l l_is),
      ap (without (kept_at i ks).id) (is ∙ c_is) ∙ ap (contexts_value b ns) (sym (set_dead none_over ks i y l lives lt l_is dead)),
    )

    on : (r : Option CallRecord) → is_some r ≡ false → d ≡ w → OwnWith (kept_at i ks).id r d w
    on None none is = is
    on (Some r) none is = cc

    decided_is : (r : Option CallRecord) → is_some r ≡ is_some (option_map Calling r)
    decided_is None = refl
    decided_is (Some r) = refl

    dead_on : (kept_at i ks).call.live ≡ None → y.call.live ≡ None → d ≡ c → is_some decided ≡ false → OwnWith (kept_at i ks).id decided d w
    dead_on q_is dead is none = on decided none (same is (dead_life none_over y dead ∙ sym (dead_life none_over (kept_at i ks) q_is)))

    -- the call goes on
    going_on : (body : List ℕ) (l : Live) → (kept_at i ks).call.live ≡ Some l → is_last_answer l ≡ false
        → IsStep moment (kept_at i ks) y decided next (result_on moment branch (Answer body) (slice_set (kept_at i ks).call.out branch false) (Some l))
        → d ≡ passed_by moment branch (kept_at i ks).id (Some l) c → d ≡ w
    going_on body l l_is going s is =
        let n : ℕ = length l.deadlines in
        let p : LifeValue → List TimedBranch = passed_branches branch n (deadline_from moment l.asked.plan n) in
        let had : GoesOn (kept_at i ks).id (kept_at i ks).call.out l = goes l l_is in
        let passed : d ≡ on_branches (kept_at i ks).id p c = is ∙ rw going (passed_is (kept_at i ks).id branch n (deadline_from moment l.asked.plan n) c) in
        let after : lives_in none_over y ≡ with_branches (p (life_in none_over (kept_at i ks).id (kept_at i ks).call.out l)) (life_in none_over (kept_at i ks).id (kept_at i ks).call.out l) ∷ [] =
        ap (lives_in none_over) s.new_is ∙ rw going (ap (λ bs. with_branches bs (life_in none_over (kept_at i ks).id (kept_at i ks).call.out l) ∷ []) (passed_timed (kept_at i ks).id moment branch (kept_at i ks).call.out l had is_out)) in
        passed ∙ ap (on_branches (kept_at i ks).id p) c_is ∙ ap (contexts_value b ns) (sym (set_live none_over (λ m. with_branches (p m) m) ks i y l lives lt l_is after))

    by : (o : Outcome) (q : Option Live) → (kept_at i ks).call.live ≡ q
        → IsStep moment (kept_at i ks) y decided next (result_on moment branch o (slice_set (kept_at i ks).call.out branch false) (kept_at i ks).call.live)
        → d ≡ passed_on moment branch o (kept_at i ks) c → OwnWith (kept_at i ks).id decided d w
    by (Fail error) None q_is s is =
        dead_on q_is (ap (λ (k : KeptValue). k.call.live) s.new_is ∙ rw q_is refl) is (decided_is decided ∙ ap (λ e. is_some e) s.reply_is ∙ rw q_is refl)
    by (Answer body) None q_is s is =
        dead_on q_is (ap (λ (k : KeptValue). k.call.live) s.new_is ∙ rw q_is refl) (is ∙ rw q_is refl) (decided_is decided ∙ ap (λ e. is_some e) s.reply_is ∙ rw q_is refl)
    by (Fail error) (Some l) q_is s is =
        over decided l is q_is (ap (λ (k : KeptValue). k.call.live) s.new_is ∙ rw q_is refl) (decided_is decided ∙ ap (λ e. is_some e) s.reply_is ∙ rw q_is refl)
    by (Answer body) (Some l) q_is s is = ⊎_elim
        (λ (last : is_last_answer l ≡ true).
        over decided l (is ∙ rw (q_is, last) refl) q_is (ap (λ (k : KeptValue). k.call.live) s.new_is ∙ rw (q_is, last) refl)
        (decided_is decided ∙ ap (λ e. is_some e) s.reply_is ∙ rw (q_is, last) refl))
        (λ (going : is_last_answer l ≡ false).
        on decided (decided_is decided ∙ ap (λ e. is_some e) s.reply_is ∙ rw (q_is, going) refl)
        (going_on body l q_is going (subst (λ q. IsStep moment (kept_at i ks) y decided next (result_on moment branch (Answer body) (slice_set (kept_at i ks).call.out branch false) q)) q_is s) (is ∙ rw q_is refl)))
        (cases_Bool (is_last_answer l))

-- ---- of all contexts

-- what is passed on to all is passed on to its own
pub passed_own : (moment branch : ℕ) (outcome : Outcome) (k : KeptValue) (c : ℕ) (v : ContextsValue) → own_contexts c (passed_on moment branch outcome k v) ≡ passed_on moment branch outcome k (own_contexts c v)
passed_own moment branch outcome k c v = grind (arith, nat_tests, passed_is, branches_own, passed_branches)

keeps_itself : (c : ℕ) (v : ContextsValue) → KeepsOthers c v v
keeps_itself c v = record { drained_is = refl; conns_are = refl; others_are = refl }

pub passed_keeps : (moment branch : ℕ) (outcome : Outcome) (k : KeptValue) (v : ContextsValue) → KeepsOthers k.id.conn v (passed_on moment branch outcome k v)
passed_keeps moment branch outcome k v = grind (arith, nat_tests, keeps_itself, passed_is, branches_others, passed_branches)

module _ {H : Type 0} where
  -- the contexts of its calls changed, and these are its calls
  pub tied_calls : (over : Over) (k l : HeldConnection) (v w : HookedContexts H) → l.number ≡ k.number → l.closed ≡ k.closed → l.broken ≡ k.broken → l.hung_up ≡ k.hung_up → (next_held k).request ≤ (next_held l).request
      → w.standing.drained ≡ v.standing.drained → w.standing.conns ≡ v.standing.conns → w.stocks ≡ v.stocks
      → own_contexts k.number w.standing ≡ contexts_value v.standing.drained (if k.closed || k.broken then [] else peer k.number (ends_of v.standing k.number) ∷ []) (linked_calls over l.calls)
      → IsTied over k v → IsTied over l w
  tied_calls over k l v w number closed broken hung more drained conns stocks own tied = grind arith

-- ---- the connection

-- the call made its step
pub step_is : (k : HeldConnection) (i branch moment : ℕ) (outcome : Outcome) (y : KeptValue) (decided : Option CallRecord) (next : Option TaskValue)
    → IsStep moment (kept_at i k.calls) y decided next (result_in moment i branch outcome k) → record k { calls = slice_set k.calls i y } ≡ stepped_held i (result_in moment i branch outcome k) k
step_is k i branch moment outcome y decided next s = ap (λ x. record k { calls = slice_set k.calls i x }) s.new_is

-- ---- the branches that wait

pub next_waits : (moment i : ℕ) (outcome : Outcome) (old new : KeptValue) (decided : Option CallRecord) (next : Option TaskValue)
    → IsStep moment old new decided next (result_on moment i outcome (slice_set old.call.out i false) old.call.live)
    → length (option_to_list next) + waiting_in new ≤ waiting_in old
next_waits moment i outcome old new decided next h = grind arith
