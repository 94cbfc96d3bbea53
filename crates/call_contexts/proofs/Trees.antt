-- What the operations on a tree do to its contexts, in the words that the contexts of calls need.
use Rattle.call_contexts.proofs.Names.{◌≡◌, refl, sym, ap, ◌∙◌, arith, rules, ℕ, List, [], ◌∷◌, Option, Some, None, Bool, true, false, inl, inr, ⊎_elim, subst, is_some, length, ◌⊎◌, ◌&&◌, ◌||◌, ◌↔◌, nat_le, if◌then◌else◌, option_map, option_and_then, unwrap_or, option_or, cases_Bool, or-false, Kind, Background, Cancel, Deadline, Value, Id, Member, own_value, own_due, same, Makes, Advances, Releases, HasChild, Ended, cause_or, expiry, first_due, held, line, chain, deadline, least, nearest, sooner, has_cancel, ending, TreeValue, StandsFor, IsLawful, is_among, node_at, Twig, cause_in, if_due, value_in, request_id_key, Op, TreeLaws, IsFree, IsHolder, Touches, StandsAlike, kind_of, why, nat_tests}
use Rattle.context_tree.specs.Context.{first_of}
use Rattle.context_tree.specs.declared.error.Cause.{Cause}
use Rattle.context_tree.specs.declared.error.CtxErr.TheVariants.{DeadlineExceeded}
use Rattle.context_tree.specs.declared.released.Released.{Released}
use Rattle.context_tree.specs.declared.released.Released.TheVariants.{Gone, HasChildren, Unknown}
use Rattle.context_tree.specs.declared.node.Node.{Node}
use Rattle.context_tree.specs.Links.{bare}

pub same_refl : (x : Id) → same x x ≡ true
same_refl x = grind (arith, rules)

pub same_true : (x y : Id) → same x y ≡ true → x ≡ y
same_true x y is = grind (arith, rules)

pub same_turned : (x y : Id) → same x y ≡ same y x
same_turned x y = grind (arith, rules)

pub not_both : (b : Bool) → b ≡ true → b ≡ false → ⊥
not_both true y n = cc
not_both false y n = cc

pub none_held : {A : Type 0} (o : Option A) → o ≡ None → is_some o ≡ true → ⊥
none_held None is some = cc
none_held (Some a) is some = cc

cannot : (a b : Bool) → ((a && false) || b) ≡ b
cannot true b = refl
cannot false b = refl

-- one that is held is no other
pub far_one : (x id : Id) → same id x ≡ false → is_among x (id ∷ []) ≡ false
far_one x id far = or-false (same x id) ∙ same_turned x id ∙ far

-- ---- what the slots show

expired_by : {C D : Type 0} (exp : D → Ended C) (before : Option (Ended C)) (d : Option D)
    → option_map (λ e. e.cause) (option_or before (option_map exp d)) ≡ option_or (option_map (λ e. e.cause) before) (option_map (λ x. (exp x).cause) d)
expired_by exp before d = grind (arith, nat_tests)

module _ {C V : Type 0} where
  pub shown : (t : TreeValue C V) (past : List (Op C V)) (x : Id) (kind : Kind C V)
      → StandsFor t past → held x past ≡ Some kind → cause_in t.slots x ≡ why x past
  shown t past x kind st is = grind arith

  -- what a moment ends by the deadlines of a chain
  abbrev pub due_on : ℕ → List (Member C V) → Option (Cause C)
  due_on now ms = option_map (λ d. cause_or DeadlineExceeded d.cause) (first_due now ms)

  -- a moment ends what has a deadline on its chain that it has reached
  pub advanced : (past : List (Op C V)) (x : Id) (now : ℕ) → why x (Advances now ∷ past) ≡ option_or (why x past) (due_on now (chain x past))
  advanced past x now = expired_by (expiry (length past)) (ending x past) (first_due now (chain x past))

-- what a node has of its own is told by how it was made
without_links : {C V : Type 0} (o : Option (Node C V))
    → option_and_then (λ n. own_value request_id_key n.kind) o ≡ option_and_then (λ n. own_value request_id_key n.kind) (bare o)
without_links None = refl
without_links (Some n) = refl

pub shown_request : {C V : Type 0} (t : TreeValue C V) (past : List (Op C V)) (holder conn : Id) (request_id : V)
    → StandsFor t past → held holder past ≡ Some (Value conn 0 request_id) → value_in t.slots holder ≡ Some request_id
shown_request t past holder conn request_id st is =
    without_links (node_at t.slots holder) ∙ ap (λ o. option_and_then (λ n. own_value request_id_key n.kind) o) (st.contexts.nodes_are holder) ∙ rw is refl

map_if : {A B : Type 0} (f : A → B) (b : Bool) (a : A) → option_map f (if b then Some a else None) ≡ (if b then Some (f a) else None)
map_if f true a = refl
map_if f false a = refl

first_alone : {C : Type 0} (o : _) → first_of {C = C} o None ≡ o
first_alone None = refl
first_alone (Some d) = refl

-- ---- chains and lines

module _ {C V : Type 0} (laws : TreeLaws C V) (past : List (Op C V)) (lawful : IsLawful past) (root base : Id) (root_is : held root past ≡ Some Background) (base_is : held base past ≡ Some (Cancel root)) where
  pub base_chain : chain base past ≡ (base, Cancel root) ∷ (root, Background) ∷ []
  base_chain = laws.chain_goes_on past base (Cancel root) lawful base_is ∙ ap (λ ms. (base, Cancel root) ∷ ms) (laws.chain_goes_on past root Background lawful root_is)

  pub conn_chain : (conn : Id) → held conn past ≡ Some (Cancel base) → chain conn past ≡ (conn, Cancel base) ∷ (base, Cancel root) ∷ (root, Background) ∷ []
  conn_chain conn is = laws.chain_goes_on past conn (Cancel base) lawful is ∙ ap (λ ms. (conn, Cancel base) ∷ ms) base_chain

  conn_value : (conn : Id) → held conn past ≡ Some (Cancel base) → nearest 0 (line conn past) ≡ None
  conn_value conn is = ap (nearest 0) (laws.line_goes_on past conn (Cancel base) lawful is)
      ∙ ap (nearest 0) (laws.line_goes_on past base (Cancel root) lawful base_is)
      ∙ ap (nearest 0) (laws.line_goes_on past root Background lawful root_is)

  module _ (conn : Id) (conn_is : held conn past ≡ Some (Cancel base)) where
    parent_hit : (holder : Option Id) → IsHolder past conn holder → (id : Id) → has_cancel id (chain (unwrap_or holder conn) past) ≡ has_cancel id (chain conn past)
    parent_hit None is id = refl
    parent_hit (Some x) is id = ap (has_cancel id) (laws.chain_goes_on past x (Value conn 0 is.0) lawful is.1) ∙ cannot (same x id) (has_cancel id (chain conn past))

    -- a connection has no deadline
    parent_due : (now : ℕ) (holder : Option Id) → IsHolder past conn holder → first_due now (chain (unwrap_or holder conn) past) ≡ None
    parent_due now None is = ap (first_due now) (conn_chain conn conn_is)
    parent_due now (Some x) is = ap (first_due now) (laws.chain_goes_on past x (Value conn 0 is.0) lawful is.1) ∙ ap (λ d. first_of None d) (ap (first_due now) (conn_chain conn conn_is))

    pub parent_least : (holder : Option Id) → IsHolder past conn holder → least (chain (unwrap_or holder conn) past) ≡ None
    parent_least None is = ap least (conn_chain conn conn_is)
    parent_least (Some x) is = ap least (laws.chain_goes_on past x (Value conn 0 is.0) lawful is.1) ∙ ap least (conn_chain conn conn_is)

    parent_value : (t : TreeValue C V) → StandsFor t past → (holder : Option Id) → IsHolder past conn holder
        → nearest 0 (line (unwrap_or holder conn) past) ≡ option_and_then (value_in t.slots) holder
    parent_value t st None is = conn_value conn conn_is
    parent_value t st (Some x) is = ap (nearest 0) (laws.line_goes_on past x (Value conn 0 is.0) lawful is.1) ∙ sym (shown_request t past x conn is.0 st is.1)

    module _ (ctx : Id) (holder : Option Id) (holder_is : IsHolder past conn holder) where
      -- what is on the chain of a call's context, and can be cancelled
      pub call_hit : (d : Option ℕ) → held ctx past ≡ Some (kind_of (unwrap_or holder conn) d) → (id : Id)
          → has_cancel id (chain ctx past) ≡ ((same ctx id && true) || has_cancel id (chain conn past))
      call_hit None is id = ap (has_cancel id) (laws.chain_goes_on past ctx (Cancel (unwrap_or holder conn)) lawful is) ∙ ap (λ b. (same ctx id && true) || b) (parent_hit holder holder_is id)
      call_hit (Some at) is id = ap (has_cancel id) (laws.chain_goes_on past ctx (Deadline (unwrap_or holder conn) at None) lawful is) ∙ ap (λ b. (same ctx id && true) || b) (parent_hit holder holder_is id)

      -- a moment ends it where it has reached its own deadline
      pub call_due : (now : ℕ) (d : Option ℕ) → held ctx past ≡ Some (kind_of (unwrap_or holder conn) d) → due_on now (chain ctx past) ≡ if_due now d
      call_due now None is = ap (due_on now) (laws.chain_goes_on past ctx (Cancel (unwrap_or holder conn)) lawful is)
          ∙ ap (λ d. option_map (λ d. cause_or DeadlineExceeded d.cause) (first_of None d)) (parent_due now holder holder_is)
      call_due now (Some at) is = ap (due_on now) (laws.chain_goes_on past ctx (Deadline (unwrap_or holder conn) at None) lawful is)
          ∙ ap (λ d. option_map (λ d. cause_or DeadlineExceeded d.cause) (first_of (own_due {C = C} {V = V} now (ctx, Deadline (unwrap_or holder conn) at None)) d)) (parent_due now holder holder_is)
          ∙ ap (option_map (λ d. cause_or DeadlineExceeded d.cause)) (first_alone (own_due {C = C} {V = V} now (ctx, Deadline (unwrap_or holder conn) at None))) ∙ map_if _ (nat_le at now) _

      pub call_deadline : (d : Option ℕ) → held ctx past ≡ Some (kind_of (unwrap_or holder conn) d) → deadline ctx past ≡ d
      call_deadline None is = ap least (laws.chain_goes_on past ctx (Cancel (unwrap_or holder conn)) lawful is) ∙ parent_least holder holder_is
      call_deadline (Some at) is = ap least (laws.chain_goes_on past ctx (Deadline (unwrap_or holder conn) at None) lawful is) ∙ ap (sooner (Some at)) (parent_least holder holder_is)

      pub call_value : (t : TreeValue C V) → StandsFor t past → (d : Option ℕ) → held ctx past ≡ Some (kind_of (unwrap_or holder conn) d)
          → nearest 0 (line ctx past) ≡ option_and_then (value_in t.slots) holder
      call_value t st None is = ap (nearest 0) (laws.line_goes_on past ctx (Cancel (unwrap_or holder conn)) lawful is) ∙ parent_value t st holder holder_is
      call_value t st (Some at) is = ap (nearest 0) (laws.line_goes_on past ctx (Deadline (unwrap_or holder conn) at None) lawful is) ∙ parent_value t st holder holder_is

-- ---- the chain of a branch's context

-- of two deadlines that are reached one is the first
picks : {C : Type 0} (x y : _) → (first_of {C = C} (Some x) (Some y) ≡ Some x) ⊎ (first_of {C = C} (Some x) (Some y) ≡ Some y)
picks x y = ⊎_elim (λ (h : nat_le y.at x.at ≡ true). inr (rw h refl)) (λ (h : nat_le y.at x.at ≡ false). inl (rw h refl)) (cases_Bool (nat_le y.at x.at))

-- of two deadlines that are reached, neither of which has a cause of its own
module _ {C D : Type 0} (f : Option D → Option D → Option D) (c : D → Cause C) (k : Cause C)
    (left : (b : Option D) → f None b ≡ b) (right : (x : D) → f (Some x) None ≡ Some x) (one : (x y : D) → (f (Some x) (Some y) ≡ Some x) ⊎ (f (Some x) (Some y) ≡ Some y)) where
  first_plain : (a b : Option D) (m n : Bool) → option_map c a ≡ (if m then Some k else None) → option_map c b ≡ (if n then Some k else None)
      → option_map c (f a b) ≡ option_or (if n then Some k else None) (if m then Some k else None)
  first_plain a b m n h4 h5 = grind (arith, nat_tests)

module _ {C V : Type 0} (laws : TreeLaws C V) (past : List (Op C V)) (lawful : IsLawful past) (call : Id) (t : Twig) (is : held t.ctx past ≡ Some (Deadline call t.at None)) where
  twig_chain : chain t.ctx past ≡ (t.ctx, Deadline call t.at None) ∷ chain call past
  twig_chain = laws.chain_goes_on past t.ctx (Deadline call t.at None) lawful is

  pub twig_hit : (id : Id) → has_cancel id (chain t.ctx past) ≡ ((same t.ctx id && true) || has_cancel id (chain call past))
  twig_hit id = ap (has_cancel id) twig_chain

  -- a moment ends it where it has reached its own deadline or its call's
  pub twig_due : (now : ℕ) (d : Option ℕ) → due_on now (chain call past) ≡ if_due now d → due_on now (chain t.ctx past) ≡ option_or (if_due now d) (if_due now (Some t.at))
  twig_due now d call_is = grind (arith, nat_tests, twig_chain, first_plain, picks, map_if)

  pub twig_deadline : deadline t.ctx past ≡ sooner (Some t.at) (deadline call past)
  twig_deadline = ap least twig_chain

-- ---- what operations leave

module _ {C V : Type 0} where
  pub touch_made : (id : Id) (kind : Kind C V) (now : ℕ) (past : List (Op C V)) → Touches (id ∷ []) past (Makes id kind now ∷ past)
  touch_made id kind now past = grind arith

  pub touch_released : (id : Id) (past : List (Op C V)) → Touches (id ∷ []) past (Releases id ∷ past)
  touch_released id past = grind arith

  pub touch_nothing : (past : List (Op C V)) → Touches [] past past
  touch_nothing past = record { held_is = λ x far. refl; ending_is = λ x k far is. refl }

  pub touch_next : (ids : List Id) (past mid later : List (Op C V)) → Touches ids past mid → Touches ids mid later → Touches ids past later
  touch_next ids past mid later one two = grind arith

  pub touch_more : (few ids : List Id) (past later : List (Op C V)) → ((x : Id) → is_among x ids ≡ false → is_among x few ≡ false) → Touches few past later → Touches ids past later
  touch_more few ids past later more t = grind arith

  -- what is held neither before nor after is not touched
  pub touch_none : (id : Id) (past later : List (Op C V)) → Touches (id ∷ []) past later → held id past ≡ None → held id later ≡ None → Touches [] past later
  touch_none id past later t before after = search arith

  pub free_alike : (id : Id) (past later : List (Op C V)) → Touches [] past later → IsFree id past → IsFree id later
  free_alike id past later t free = grind arith

  -- what is held is none of those that are not
  pub far_new : (id x : Id) (kind : Kind C V) (past : List (Op C V)) → held id past ≡ None → held x past ≡ Some kind → same id x ≡ false
  far_new id x kind past none is = ⊎_elim
      (λ (y : same id x ≡ true). let bad : None ≡ Some kind = sym none ∙ subst (λ z. held z past ≡ Some kind) (sym (same_true id x y)) is in cc)
      (λ (n : same id x ≡ false). n)
      (cases_Bool (same id x))

  pub made_held : (past : List (Op C V)) (x : Id) (kind : Kind C V) (now : ℕ) → held x (Makes x kind now ∷ past) ≡ Some kind
  made_held past x kind now = rw (same_refl x) refl

  pub released_held : (past : List (Op C V)) (x : Id) → held x (Releases x ∷ past) ≡ None
  released_held past x = rw (same_refl x) refl

  pub alike : (t : TreeValue C V) (past : List (Op C V)) → StandsFor t past → StandsAlike t past
  alike t past st = record { later = past; stands = st; alike = touch_nothing past; handed_is = λ x. refl }

  -- what is free is let go of
  pub freed : (id : Id) (past : List (Op C V)) (new : TreeValue C V) (answer : Released) → ((answer ≡ Unknown) ↔ (held id past ≡ None)) → (answer ≡ HasChildren → HasChild id past)
      → (answer ≡ Gone → StandsFor new (Releases id ∷ past)) → IsFree id past → StandsFor new (Releases id ∷ past)
  freed id past new Gone unknown children gone free = gone refl
  freed id past new HasChildren unknown children gone free = absurd (free.childless (children refl))
  freed id past new Unknown unknown children gone free = absurd (none_held (held id past) (unknown.0 refl) free.is_held)

-- ---- one that is made and let go of

module _ {C V : Type 0} (laws : TreeLaws C V) (id : Id) (kind : Kind C V) (now : ℕ) (past : List (Op C V)) (lawful : IsLawful (Makes id kind now ∷ past)) where
  pub new_free : IsFree id (Makes id kind now ∷ past)
  new_free = record { is_held = ap is_some (made_held past id kind now); childless = laws.new_childless past id kind now lawful }

  pub made_and_released : Touches [] past (Releases id ∷ Makes id kind now ∷ past)
  made_and_released =
      touch_none id past (Releases id ∷ Makes id kind now ∷ past)
      (touch_next (id ∷ []) past (Makes id kind now ∷ past) (Releases id ∷ Makes id kind now ∷ past) (touch_made id kind now past) (touch_released id (Makes id kind now ∷ past)))
      (laws.new_unheld past id kind now lawful)
      (released_held (Makes id kind now ∷ past) id)
