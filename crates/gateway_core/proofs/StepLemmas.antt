-- What a step of one connection makes of the gateway, and what is kept of it then.
use Rattle.gateway_core.proofs.Names.{◌≡◌, ℕ, ◌+◌, ◌≤◌, refl, sym, ap, ◌∙◌, List, [], ◌∷◌, ◌++◌, Option, Some, None, Bool, true, false, subst, arith, Result, is_at, set_value, nat_cmp, ⊤, ◌^◌, if◌then◌else◌, one_if_open, GatewayValue, gateway_value, HeldConnection, HangsUp, Holds, TakesReply, TakesResult, TakesStarved, closed_held, is_gone, left_of, IsServing, there, closes, Closes, Feeds, HangsUpAt, Moves, Results, Starves, TakesReplyAt, Tallies, open_in, call_id, CallId, ReplyValue, waiting, Tally, HookedContexts, LeavesRest, MayStep, none_over, IsTied, LeavesOthers, Shared, AreNumbered, Conns, IsWhole, IsWithout, TiedAt, gateway_of, held_at, is_gone_at, waiting_all, waiting_for, nat_tests}
use Rattle.std.proofs.lemmas.Map.Steps.{set_value_same}
use Rattle.std.specs.Option.{option_map_or}
use Rattle.connect_codec.specs.declared.answer.Outcome.{Outcome}
use Rattle.gateway_model.specs.Job.{JobValue}
use Rattle.gateway_theory.specs.declared.fault.StepFault.{StepFault}
use Rattle.gateway_theory.specs.declared.fault.Took.{Took}
use Rattle.gateway_connection.specs.Ends.{TakesFrom}
use Rattle.gateway_core.proofs.FitLemmas.{dead_waits, gone_tied, tied_at, tied_moved}
use Rattle.gateway_core.proofs.MapLemmas.{moved_out, moved_set, set_here, sum_holds, sum_removed, sum_set}
use Rattle.gateway_connection.specs.Comes as comes

append_none : {A : Type 0} (xs : List A) → xs ++ [] ≡ xs
append_none [] = refl
append_none (x ∷ xs) = ap (λ ys. x ∷ ys) (append_none xs)

left_none : (l : HeldConnection) → is_gone l ≡ true → left_of l ≡ None
left_none l gone = ap (λ b. if b then None else Some l) gone

left_there : (l : HeldConnection) → is_gone l ≡ false → left_of l ≡ Some l
left_there l stays = ap (λ b. if b then None else Some l) stays

gone_closed : (l : HeldConnection) → is_gone l ≡ true → l.closed ≡ true
gone_closed l gone = grind arith

open_left : (l : HeldConnection) (b : Bool) → is_gone l ≡ b → open_in (left_of l) ≡ one_if_open l
open_left l true gone = ap open_in (left_none l gone) ∙ sym (ap (λ b. if b then 0 else 1) (gone_closed l gone))
open_left l false stays = ap open_in (left_there l stays)

waits_left : (n : ℕ) (k l : HeldConnection) (es fs gs : Conns) → Some k ≡ held_at n es → fs ≡ set_value (is_at (nat_cmp n)) es l → (b : Bool) → is_gone l ≡ b → IsWithout b n fs gs → Holds l
    → waiting_all gs + waiting_for k ≡ waiting_all es + waiting_for l
waits_left n k l es fs gs h6 h7 b h9 h10 h11 = grind (arith, nat_tests, sum_removed, dead_waits, gone_closed, sum_set)

-- what stands there then was looked at, and taken out if it is gone
pub left_out : (n : ℕ) (k l : HeldConnection) (es fs gs : Conns) → Some k ≡ held_at n es → fs ≡ set_value (is_at (nat_cmp n)) es l → IsWithout (is_gone_at n fs) n fs gs → IsWithout (is_gone l) n fs gs
left_out n k l es fs gs found set left = subst (λ b. IsWithout b n fs gs) (ap (is_gone_at n) set ∙ ap (λ o. option_map_or is_gone o false) (set_here n k l es (sym found))) left

-- what is said of a number and a gateway is said of the same ones
pub at_both : (P : ℕ → GatewayValue → Type 0) {n m : ℕ} {v u : GatewayValue} → n ≡ m → v ≡ u → P n v → P m u
at_both P {n} {m} {v} {u} n_is v_is p = subst (λ x. P m x) v_is (subst (λ i. P i v) n_is p)

-- one that was looked at stands as it stood
pub same_is : (n : ℕ) (k : HeldConnection) (es fs : Conns) → Some k ≡ held_at n es → fs ≡ set_value (is_at (nat_cmp n)) es k → fs ≡ es
same_is n k es fs found set = set ∙ set_value_same (is_at (nat_cmp n)) es k (sym found)

module _ {H : Type 0} where
  -- ---- what the step needs

  pub numbered : (s : Shared H) (es : Conns) (opened : ℕ) (tally : Tally) → IsServing (gateway_of s es opened tally) → AreNumbered es
  numbered s es opened tally serving c k is = (serving.each c k is).number_is

  module _ {s : Shared H} {es : Conns} {opened open_now : ℕ} {tally : Tally} (w : IsWhole s es opened open_now tally) (n : ℕ) (k : HeldConnection) (found : Some k ≡ held_at n es) where
    pub may_step : MayStep none_over k s
    may_step = grind (arith, nat_tests, tied_at, sum_holds)

    pub its_number : k.number ≡ n
    its_number = (w.serving.each n k (sym found)).number_is

  -- ---- what is kept then

  pub same_whole : (s : Shared H) (es fs : Conns) (opened open_now : ℕ) (tally : Tally) → fs ≡ es → IsWhole s es opened open_now tally → IsWhole s fs opened open_now tally
  same_whole s es fs opened open_now tally same w = subst (λ gs. IsWhole s gs opened open_now tally) (sym same) w

  -- the gateway then, as it was but for this
  pub rest_is : (s t : Shared H) (fs : Conns) (jobs : List JobValue) (opened : ℕ) (tally : Tally) → t.plans ≡ s.plans → t.moment ≡ s.moment
      → t.contexts.standing.drained ≡ s.contexts.standing.drained → t.jobs.jobs ≡ jobs
      → gateway_of t fs opened tally ≡ gateway_value s.plans s.moment s.contexts.standing.drained fs jobs opened t.begun tally
  rest_is s t fs jobs opened tally plans moment drained jobs_are = cc

  -- where the step begins no call and starts no job
  pub quiet_is : (s t : Shared H) (k l : HeldConnection) (fs : Conns) (opened : ℕ) (tally : Tally) → LeavesRest [] k l s t → t.begun ≡ s.begun
      → gateway_of t fs opened tally ≡ gateway_value s.plans s.moment s.contexts.standing.drained fs s.jobs.jobs opened s.begun tally
  quiet_is s t k l fs opened tally rest begun = grind (arith, nat_tests, rest_is, append_none)

  pub whole_moved : (s t : Shared H) (es fs : Conns) (opened later open_now open_then : ℕ) (tally after : Tally) (n : ℕ) (now : Option HeldConnection) → IsWhole s es opened open_now tally
      → IsServing (gateway_of t fs later after) → Moves n now (gateway_of s es opened tally) (gateway_of t fs later after) → LeavesOthers n s.contexts t.contexts → TiedAt none_over n now t.contexts
      → t.jobs.waiting ≡ waiting_all fs → t.moment ≡ s.moment → open_then + open_in (held_at n es) ≡ open_now + open_in now → IsWhole t fs later open_then after
  whole_moved s t es fs opened later open_now open_then tally after n now w serving moves leaves tied waits moment opens = record {
    serving = serving;
    fit = record {
      tied = tied_moved none_over n es fs s.contexts t.contexts (numbered s es opened tally w.serving) leaves (subst (λ o. TiedAt none_over n o t.contexts) (sym moves.here) tied) moves.others w.fit.tied;
      waits = waits;
      early = subst (λ m. m ≤ 2 ^ 62) (sym moment) w.fit.early;
    };
    open_is = omega (arith, opens, w.open_is, moves.open_is);
  }

  -- one connection made a step, and stands where it stood
  module _ {s : Shared H} {es fs : Conns} {opened open_now : ℕ} {tally : Tally} (w : IsWhole s es opened open_now tally) (n : ℕ) (k l : HeldConnection) (found : Some k ≡ held_at n es)
      (set : fs ≡ set_value (is_at (nat_cmp n)) es l) where
    pub moves_for : (u : Shared H) (after : Tally) → Moves n (Some l) (gateway_of s es opened tally) (gateway_of u fs opened after)
    moves_for u after = moved_set n k l (gateway_of s es opened tally) (gateway_of u fs opened after) (sym found) set w.serving.sorted

    pub set_whole : (t : Shared H) (jobs : List JobValue) (after : Tally) → LeavesRest jobs k l s t → IsTied none_over l t.contexts → l.closed ≡ k.closed → IsServing (gateway_of t fs opened after) → IsWhole t fs opened open_now after
    set_whole t jobs after rest tied same serving =
        let sums = sum_set waiting_for n k l es fs (sym found) set in
        let found_in : open_in (held_at n es) ≡ one_if_open k = ap open_in (sym found) in
        let one : one_if_open l ≡ one_if_open k = ap (λ b. if b then 0 else 1) same in
        whole_moved s t es fs opened opened open_now open_now tally after n (Some l) w serving (moves_for t after)
        (subst (λ m. LeavesOthers m s.contexts t.contexts) (its_number w n k found) rest.others) tied
        (omega (arith, sums, rest.waits, w.fit.waits)) rest.moment_is (omega (arith, found_in, one))

    pub feeds_step : (t : Shared H) (bytes : List ℕ) (result : Result ℕ StepFault) → comes.Feeds bytes result k l s t → Feeds n bytes (gateway_of s es opened tally) (gateway_of t fs opened tally) result
    feeds_step t bytes result f = there k l f.jobs (sym found) f.takes (moves_for t tally)
        (rest_is s t fs (s.jobs.jobs ++ f.jobs) opened tally f.rest.plans_are f.rest.moment_is f.rest.others.contexts.drained_is f.rest.jobs_are)

    pub hangs_step : (t : Shared H) (result : Result ⊤ StepFault) → HangsUp k l result → LeavesRest [] k l s t → t.begun ≡ s.begun → HangsUpAt n (gateway_of s es opened tally) (gateway_of t fs opened tally) result
    hangs_step t result h rest begun = there k l (sym found) h (moves_for t tally) (quiet_is s t k l fs opened tally rest begun)

    pub reply_step : (reply : Option ReplyValue) → TakesReply k l reply → TakesReplyAt n (gateway_of s es opened tally) (gateway_of s fs opened tally) reply
    reply_step reply h = there k l (sym found) h (moves_for s tally) refl

  -- ---- one that may be gone

  tied_left_at : (n : ℕ) (l : HeldConnection) (b : Bool) → is_gone l ≡ b → (x : HookedContexts H) → l.number ≡ n → Holds l → IsTied none_over l x → TiedAt none_over n (left_of l) x
  tied_left_at n l b h3 x h5 h6 h7 = grind (arith, nat_tests, left_none, gone_tied, gone_closed, left_there)

  -- one connection made a step, and is taken out where nothing comes back to it
  module _ {s : Shared H} {es fs gs : Conns} {opened open_now : ℕ} {tally : Tally} (w : IsWhole s es opened open_now tally) (n : ℕ) (k l : HeldConnection) (found : Some k ≡ held_at n es)
      (set : fs ≡ set_value (is_at (nat_cmp n)) es l) (left : IsWithout (is_gone l) n fs gs) where
    pub moves_left : (u : Shared H) (after : Tally) → Moves n (left_of l) (gateway_of s es opened tally) (gateway_of u gs opened after)
    moves_left u after = by (is_gone l) refl left
      where
        by : (b : Bool) → is_gone l ≡ b → IsWithout b n fs gs → Moves n (left_of l) (gateway_of s es opened tally) (gateway_of u gs opened after)
        by true gone (removed, updates, sorted) = subst (λ o. Moves n o (gateway_of s es opened tally) (gateway_of u gs opened after)) (sym (left_none l gone))
            (moved_out n k l (gateway_of s es opened tally) (gateway_of u gs opened after) fs (sym found) set removed updates sorted)
        by false stays same = subst (λ o. Moves n o (gateway_of s es opened tally) (gateway_of u gs opened after)) (sym (left_there l stays))
            (moved_set n k l (gateway_of s es opened tally) (gateway_of u gs opened after) (sym found) (same ∙ set) w.serving.sorted)

    pub left_whole : (t : Shared H) (jobs : List JobValue) (after : Tally) (open_then : ℕ) → LeavesRest jobs k l s t → IsTied none_over l t.contexts → l.number ≡ k.number → Holds l
        → open_then + one_if_open k ≡ open_now + one_if_open l → IsServing (gateway_of t gs opened after) → IsWhole t gs opened open_then after
    left_whole t jobs after open_then rest tied number holds opens serving =
        let its : l.number ≡ n = number ∙ its_number w n k found in
        let sums = waits_left n k l es fs gs found set (is_gone l) refl left holds in
        let found_in : open_in (held_at n es) ≡ one_if_open k = ap open_in (sym found) in
        let left_in = open_left l (is_gone l) refl in
        whole_moved s t es gs opened opened open_now open_then tally after n (left_of l) w serving (moves_left t after)
        (subst (λ m. LeavesOthers m s.contexts t.contexts) (its_number w n k found) rest.others)
        (tied_left_at n l (is_gone l) refl t.contexts its holds tied)
        (omega (arith, sums, rest.waits, w.fit.waits)) rest.moment_is (omega (arith, found_in, left_in, opens))

  -- ---- results

  module _ {s t : Shared H} {es fs : Conns} {opened open_now : ℕ} {tally after : Tally} (w : IsWhole s es opened open_now tally) (id : CallId) (branch : ℕ) (took : Took) (k l : HeldConnection)
      (found : Some k ≡ held_at id.conn es) (moves : Moves id.conn (left_of l) (gateway_of s es opened tally) (gateway_of t fs opened after))
      (tallies : Tallies took.seen (gateway_of s es opened tally) (gateway_of t fs opened after)) where
    pub results_step : (outcome : Outcome) → TakesFrom id.request branch outcome took k l s t → t.begun ≡ s.begun → Results id branch outcome (gateway_of s es opened tally) (gateway_of t fs opened after) took
    results_step outcome f begun = there k l f.jobs (sym found)
        (subst (λ n. TakesResult s.moment (call_id n id.request) branch outcome k l f.jobs took) (its_number w id.conn k found) f.takes) moves tallies
        (rest_is s t fs (s.jobs.jobs ++ f.jobs) opened after f.rest.plans_are f.rest.moment_is f.rest.others.contexts.drained_is f.rest.jobs_are
        ∙ ap (λ b. gateway_value s.plans s.moment s.contexts.standing.drained fs (s.jobs.jobs ++ f.jobs) opened b after) begun)

    pub starves_step : TakesStarved (call_id k.number id.request) branch k l took → LeavesRest [] k l s t → t.begun ≡ s.begun → Starves id branch (gateway_of s es opened tally) (gateway_of t fs opened after) took
    starves_step f rest begun = there k l (sym found)
        (subst (λ n. TakesStarved (call_id n id.request) branch k l took) (its_number w id.conn k found) f) moves tallies (quiet_is s t k l fs opened after rest begun)

  -- ---- closings

  pub closes_step : (s t : Shared H) (es fs : Conns) (opened : ℕ) (tally : Tally) (n : ℕ) (k : HeldConnection) → Some k ≡ held_at n es → k.closed ≡ false
      → Moves n (left_of (closed_held k)) (gateway_of s es opened tally) (gateway_of t fs opened tally) → LeavesRest [] k (closed_held k) s t → t.begun ≡ s.begun
      → Closes n (gateway_of s es opened tally) (gateway_of t fs opened tally) true
  closes_step s t es fs opened tally n k found still moves rest begun = closes k (sym found) still refl moves (quiet_is s t k (closed_held k) fs opened tally rest begun)

  -- one that is open is counted
  pub one_open : (s : Shared H) (es : Conns) (opened open_now : ℕ) (tally : Tally) (n : ℕ) (k : HeldConnection) → IsWhole s es opened open_now tally → Some k ≡ held_at n es → k.closed ≡ false → 1 ≤ open_now
  one_open s es opened open_now tally n k w found still = grind (arith, nat_tests, sum_holds)
