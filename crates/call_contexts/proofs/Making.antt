-- The contexts of a call, as they are made.
use Rattle.call_contexts.proofs.Names.{◌≡◌, refl, ◌∙◌, ℕ, List, [], ◌∷◌, Option, Some, None, Bool, true, false, is_some, length, arith, nat_le, if◌then◌else◌, option_map, option_or, Kind, Value, Id, Ended, same, Makes, Releases, expiry, held, inherited, ending, if_due, TreeValue, StandsFor, IsLawful, is_among, Op, TreeLaws, IsFree, AreFree, IsHolder, Touches, StandsAlike, contexts, kind_of, moment_of, with_holder, with_call, let_go, parent_of_call, why, nat_tests}
use Rattle.call_contexts.proofs.Trees.{same_refl, same_turned, far_one, far_new, touch_made, touch_released, touch_next, touch_more, touch_none, free_alike, made_held, released_held, new_free, made_and_released}

-- what ended one from the start: what had ended its parent, or else its own deadline
born_by : {C D : Type 0} (turn : ℕ) (id : Id) (exp : D → Ended C) (o : Option (Ended C)) (b : Bool) (d : D)
    → option_map (λ e. e.cause) (option_or (option_map (inherited turn id) o) (option_map exp (if b then Some d else None)))
    ≡ option_or (option_map (λ e. e.cause) o) (if b then Some (exp d).cause else None)
born_by turn id exp o b d = grind (arith, nat_tests)

born_plain : {C : Type 0} (turn : ℕ) (id : Id) (o : Option (Ended C)) → option_map (λ e. e.cause) (option_or (option_map (inherited turn id) o) None) ≡ option_or (option_map (λ e. e.cause) o) None
born_plain turn id None = refl
born_plain turn id (Some e) = refl

pub or_none : {A : Type 0} (o : Option A) → option_or o None ≡ o
or_none None = refl
or_none (Some a) = refl

module _ {C V : Type 0} (past : List (Op C V)) where
  -- a context has ended from the start by what had ended its parent, or where its deadline is reached
  pub born_ended : (id parent : Id) (at : Option ℕ) (now : ℕ) → why id (Makes id (kind_of parent at) (moment_of at now) ∷ past) ≡ option_or (why parent past) (if_due now at)
  born_ended id parent None now = rw (same_refl id) (born_plain (length past) id (ending parent past))
  born_ended id parent (Some at) now = rw (same_refl id) (born_by (length past) id (expiry (length past)) (ending parent past) (nat_le at now) _)

module _ {C V : Type 0} (laws : TreeLaws C V) (ctx conn : Id) (at : Option ℕ) (now : ℕ) (past : List (Op C V)) where
  -- both contexts are new
  pub call_new : (holder : Option Id) (request_id : Option V) → is_some holder ≡ is_some request_id → IsLawful (with_call ctx holder conn at now request_id past)
      → (x : Id) (kind : Kind C V) → held x past ≡ Some kind → is_among x (contexts ctx holder) ≡ false
  call_new None request_id agree lawful x kind is =
      far_one x ctx (far_new ctx x kind past (laws.new_unheld past ctx (kind_of conn at) (moment_of at now) lawful) is)
  call_new (Some holder) None agree lawful x kind is = cc
  call_new (Some holder) (Some r) agree lawful x kind is =
      let h : same holder x ≡ false = far_new holder x kind past (laws.new_unheld past holder (Value conn 0 r) 0 lawful.2) is in
      let c : same ctx x ≡ false =
      far_new ctx x kind (Makes holder (Value conn 0 r) 0 ∷ past) (laws.new_unheld (Makes holder (Value conn 0 r) 0 ∷ past) ctx (kind_of holder at) (moment_of at now) lawful) (rw h is) in
      rw (same_turned x ctx ∙ c) (far_one x holder h)

  -- the other contexts stay
  pub call_touches : (holder : Option Id) (request_id : Option V) → is_some holder ≡ is_some request_id → Touches (contexts ctx holder) past (with_call ctx holder conn at now request_id past)
  call_touches holder request_id h2 = grind (arith, nat_tests)

  -- what the call has
  pub call_held : (holder : Option Id) (request_id : Option V) → held ctx (with_call ctx holder conn at now request_id past) ≡ Some (kind_of (parent_of_call holder conn) at)
  call_held holder request_id = made_held (with_holder conn holder request_id past) ctx (kind_of (parent_of_call holder conn) at) (moment_of at now)

  pub holder_held : (holder : Option Id) (request_id : Option V) → is_some holder ≡ is_some request_id → IsLawful (with_call ctx holder conn at now request_id past)
      → IsHolder (with_call ctx holder conn at now request_id past) conn holder
  holder_held None request_id agree lawful = tt
  holder_held (Some holder) None agree lawful = cc
  holder_held (Some holder) (Some r) agree lawful =
      let mid : List (Op C V) = Makes holder (Value conn 0 r) 0 ∷ past in
      let was : held holder mid ≡ Some (Value conn 0 r) = made_held past holder (Value conn 0 r) 0 in
      (r, rw (far_new ctx holder (Value conn 0 r) mid (laws.new_unheld mid ctx (kind_of holder at) (moment_of at now) lawful) was) was)

  -- the call has ended from the start by what had ended its connection, or where its deadline is reached
  pub call_ended : (holder : Option Id) (request_id : Option V) → is_some holder ≡ is_some request_id
      → why ctx (with_call ctx holder conn at now request_id past) ≡ option_or (why conn past) (if_due now at)
  call_ended holder request_id h2 = grind (arith, nat_tests)

  -- the contexts of a call that were just made are free, and all is as before once they are let go of
  pub call_free : (holder : Option Id) (request_id : Option V) → is_some holder ≡ is_some request_id → IsLawful (with_call ctx holder conn at now request_id past)
      → AreFree ctx holder (with_call ctx holder conn at now request_id past)
  call_free None request_id agree lawful = new_free laws ctx (kind_of conn at) (moment_of at now) past lawful
  call_free (Some holder) None agree lawful = cc
  call_free (Some holder) (Some r) agree lawful =
      let mid : List (Op C V) = Makes holder (Value conn 0 r) 0 ∷ past in (
        new_free laws ctx (kind_of holder at) (moment_of at now) mid lawful,
        free_alike holder mid (Releases ctx ∷ Makes ctx (kind_of holder at) (moment_of at now) ∷ mid)
            (made_and_released laws ctx (kind_of holder at) (moment_of at now) mid lawful)
            (new_free laws holder (Value conn 0 r) 0 past lawful.2),
      )

  pub call_unmade : (holder : Option Id) (request_id : Option V) → is_some holder ≡ is_some request_id → IsLawful (with_call ctx holder conn at now request_id past)
      → Touches [] past (let_go ctx holder (with_call ctx holder conn at now request_id past))
  call_unmade None request_id agree lawful = made_and_released laws ctx (kind_of conn at) (moment_of at now) past lawful
  call_unmade (Some holder) None agree lawful = cc
  call_unmade (Some holder) (Some r) agree lawful =
      let mid : List (Op C V) = Makes holder (Value conn 0 r) 0 ∷ past in
      let again : List (Op C V) = Releases ctx ∷ Makes ctx (kind_of holder at) (moment_of at now) ∷ mid in
      let inner : Touches (holder ∷ []) mid again = touch_more [] (holder ∷ []) mid again (λ x far. refl) (made_and_released laws ctx (kind_of holder at) (moment_of at now) mid lawful) in
      touch_none holder past (Releases holder ∷ again)
      (touch_next (holder ∷ []) past again (Releases holder ∷ again)
      (touch_next (holder ∷ []) past mid again (touch_made holder (Value conn 0 r) 0 past) inner)
      (touch_released holder again))
      (laws.new_unheld past holder (Value conn 0 r) 0 lawful.2)
      (released_held again holder)

-- ---- what is let go of

module _ {C V : Type 0} (ctx : Id) (past : List (Op C V)) where
  pub go_touches : (holder : Option Id) → Touches (contexts ctx holder) past (let_go ctx holder past)
  go_touches holder = grind (arith, nat_tests)

  pub gone_unheld : (holder : Option Id) (x : Id) → is_among x (contexts ctx holder) ≡ true → held x (let_go ctx holder past) ≡ None
  gone_unheld holder x h2 = grind (arith, nat_tests)

-- ---- a call's context is refused: the one that has the request id is let go of again

pub made_alike : {C V : Type 0} (laws : TreeLaws C V) (conn : Id) (past : List (Op C V)) (mid new : TreeValue C V) (h : Id) (r : V) → StandsFor mid (Makes h (Value conn 0 r) 0 ∷ past)
    → (IsFree h (Makes h (Value conn 0 r) 0 ∷ past) → StandsFor new (Releases h ∷ Makes h (Value conn 0 r) 0 ∷ past)) → StandsAlike new past
made_alike laws conn past mid new h r st goes = grind (arith, nat_tests, new_free, made_and_released)
