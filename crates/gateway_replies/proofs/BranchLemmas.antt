-- The contexts of branches that start and finish.
use Rattle.gateway_replies.proofs.Names.{◌≡◌, ℕ, refl, sym, ap, ◌∙◌, List, [], ◌∷◌, Bool, true, false, ⊎_elim, subst, map, is_some, IfOk, OnErr, OnOk, Result, Ok, Err, if◌then◌else◌, list_any, cases_Bool, cond_both, or_parts, All-head, All-tail, Id, same, WithHooks, with_standing, on_branches as standing_on, with_branches as standing_with, CallId, is_call, names_in, AllContexts, CallContext, ConnContext, contexts_of, ContextsValue, IsTied, LifeValue, Peers, TimedBranch, contexts_value, is_life, life_of, peers_of, lives_of}
use Rattle.gateway_replies.specs.Contexts.{on_branches, with_branches}
use Rattle.gateway_replies.specs.declared.contexts.cancelled.CancelledBy.{CancelledBy}
use Rattle.gateway_replies.proofs.ContextLemmas.{Agree}
use Rattle.gateway_replies.proofs.ToldLemmas.{Stays, drained_stays, names_stay, told_tied}

map_stays : {A : Type 0} (p : A → Bool) (g : A → A) (xs : List A) → list_any p xs ≡ false → map (λ y. if p y then g y else y) xs ≡ xs
map_stays p g [] none = refl
map_stays p g (x ∷ xs) none =
    let two = or_parts (p x) (list_any p xs) none in
    rw two.0 (ap (λ l. x ∷ l) (map_stays p g xs two.1))

pub on_none : (id : CallId) (f : LifeValue → List TimedBranch) (v : ContextsValue) → is_life id v.calls ≡ false → v ≡ on_branches id f v
on_none id f v none = ap (contexts_value v.drained v.conns) (sym (map_stays (λ (l : LifeValue). is_call l.id id) (λ l. with_branches (f l) l) v.calls none))

module _ {V : Type 0} where
  -- the branches of the call of that context
  abbrev pub rebranched : Id → (CallContext V → List TimedBranch) → CallContext V → CallContext V
  rebranched x f c = if same c.id x then standing_with (f c) c else c

  pub rebranched_stays : (x : Id) (f : CallContext V → List TimedBranch) → Stays (rebranched x f)
  rebranched_stays x f c =
      cond_both (same c.id x) (standing_with (f c) c) c (λ d. (d.name ≡ c.name) × (d.conn ≡ c.conn)) (λ _. (refl, refl)) (λ _. (refl, refl))

  lives_branched : (text : V → List ℕ) (cs : List (CallContext V)) (id : CallId) (x : Id) (f : CallContext V → List TimedBranch) (g : LifeValue → List TimedBranch)
      → ((c : CallContext V) → f c ≡ g (life_of text c)) → Agree id x cs
      → lives_of text (map (rebranched x f) cs) ≡ map (λ l. if is_call l.id id then with_branches (g l) l else l) (lives_of text cs)
  lives_branched text [] id x f g each all = refl
  lives_branched text (c ∷ cs) id x f g each all =
      let here : same c.id x ≡ is_call c.name id = All-head (λ (d : CallContext V). same d.id x ≡ is_call d.name id) c cs all in
      let rest = lives_branched text cs id x f g each (All-tail (λ (d : CallContext V). same d.id x ≡ is_call d.name id) c cs all) in
      ⊎_elim
      (λ (y : is_call c.name id ≡ true). let its : same c.id x ≡ true = here ∙ y in
      rw (y, its) (ap (λ bs. with_branches bs (life_of text c) ∷ lives_of text (map (rebranched x f) cs)) (each c) ∙ ap (λ k. with_branches (g (life_of text c)) (life_of text c) ∷ k) rest))
      (λ (n : is_call c.name id ≡ false). let far : same c.id x ≡ false = here ∙ n in rw (n, far) (ap (λ k. life_of text c ∷ k) rest))
      (cases_Bool (is_call c.name id))

  pub branched_value : (text : V → List ℕ) (ps : Peers) (v w : AllContexts V) (u : ContextsValue) (id : CallId) (x : Id) (f : CallContext V → List TimedBranch) (g : LifeValue → List TimedBranch)
      → ((c : CallContext V) → f c ≡ g (life_of text c)) → w ≡ standing_on x f v → Agree id x v.calls → contexts_of text ps v ≡ u → contexts_of text ps w ≡ on_branches id g u
  branched_value text ps v w u id x f g each w_is all u_is =
      ap (contexts_of text ps) w_is
      ∙ ap (contexts_value (is_some v.drained) (peers_of ps v.conns)) (lives_branched text v.calls id x f g each all)
      ∙ ap (on_branches id g) u_is

  pub branched_tied : (ps : Peers) (v w : AllContexts V) (x : Id) (f : CallContext V → List TimedBranch) → w ≡ standing_on x f v → IsTied ps v → IsTied ps w
  branched_tied ps v w x f w_is tied =
      told_tied ps v w (rebranched x f) (rebranched_stays x f) (drained_stays ps v w (ap (λ (y : AllContexts V). y.drained) w_is) tied) (ap (λ (y : AllContexts V). y.calls) w_is)
      (ap (λ (y : AllContexts V). map (λ (c : ConnContext). c.id) y.conns) w_is) tied

  pub branched_lives : (v w : AllContexts V) (x : Id) (f : CallContext V → List TimedBranch) → w ≡ standing_on x f v → names_in w.calls ≡ names_in v.calls
  branched_lives v w x f w_is = ap (λ (y : AllContexts V). names_in y.calls) w_is ∙ names_stay (rebranched x f) (rebranched_stays x f) v.calls

  -- where the branch has its context, and where memory was refused
  pub started_tied : {H A E : Type 0} (ps : Peers) (v w : WithHooks CancelledBy V H) (r : Result A E) (x : Id) (f : CallContext V → List TimedBranch)
      → IfOk r (λ _. w ≡ with_standing (standing_on x f v.standing) v) → OnErr r (w ≡ v) → IsTied ps v.standing → IsTied ps w.standing
  started_tied {H = H} ps v w (Ok a) x f made refused tied = branched_tied ps v.standing w.standing x f (ap (λ (y : WithHooks CancelledBy V H). y.standing) made) tied
  started_tied {H = H} ps v w (Err e) x f made refused tied = subst (λ (y : WithHooks CancelledBy V H). IsTied ps y.standing) (sym refused) tied

  pub started_lives : {H A E : Type 0} (v w : WithHooks CancelledBy V H) (r : Result A E) (x : Id) (f : CallContext V → List TimedBranch)
      → IfOk r (λ _. w ≡ with_standing (standing_on x f v.standing) v) → OnErr r (w ≡ v) → names_in w.standing.calls ≡ names_in v.standing.calls
  started_lives {H = H} v w (Ok a) x f made refused = branched_lives v.standing w.standing x f (ap (λ (y : WithHooks CancelledBy V H). y.standing) made)
  started_lives {H = H} v w (Err e) x f made refused = ap (λ (y : WithHooks CancelledBy V H). names_in y.standing.calls) refused

  pub started_value : {H A E : Type 0} (text : V → List ℕ) (ps : Peers) (v w : WithHooks CancelledBy V H) (u : ContextsValue) (id : CallId) (r : Result A E) (x : Id) (f : CallContext V → List TimedBranch)
      (g : LifeValue → List TimedBranch) → ((c : CallContext V) → f c ≡ g (life_of text c)) → IfOk r (λ _. w ≡ with_standing (standing_on x f v.standing) v)
      → Agree id x v.standing.calls → contexts_of text ps v.standing ≡ u → OnOk r (contexts_of text ps w.standing ≡ on_branches id g u)
  started_value {H = H} text ps v w u id (Ok a) x f g each made all u_is =
      branched_value text ps v.standing w.standing u id x f g each (ap (λ (y : WithHooks CancelledBy V H). y.standing) made) all u_is
  started_value text ps v w u id (Err e) x f g each made all u_is = tt
