-- One on which nothing comes stays, and what comes on all at once.
use Rattle.std.specs.Prelude.{◌≡◌, ◌∷◌, ◌++◌, ◌==◌, if◌then◌else◌, ◌||◌}
use Rattle.gateway_theory.specs.lemmas.Names.{ℕ, suc, Bool, true, false, List, [], Option, None, refl, ap, ◌∙◌, subst, arith, nat_tests, option_or, ReplyEntry, Occurrence, HangUp, Moment, Drain, Break, kept, ConnectionValue, Now, call_step, filled, went, AllStand, all_after, breaks_of, now_after, now_of, JobValue}
use Rattle.std.proofs.Common.{append-nil}
use Rattle.gateway_theory.specs.lemmas.Adding.{AreOnce, listed}
use Rattle.gateway_theory.specs.lemmas.Cases.{or_none}
use Rattle.gateway_theory.specs.lemmas.ConnectionSteps.{all_step}

-- it may end calls, and nothing else
pub data Ends : Occurrence → Type 0 where
  by_hang_up : (c : ℕ) → Ends (HangUp c)
  by_moment : (m : ℕ) → Ends (Moment m)
  by_drain : Ends Drain

call_idle : (n : Now) (o : Occurrence) (v : ConnectionValue) → Ends o → (k : ℕ) → (v.calls k).live ≡ None → call_step n o v k ≡ kept (v.calls k)
call_idle n o v fact k is = grind (arith, nat_tests)

pub filled_none : (reply : ℕ → Option ReplyEntry) (k : ℕ) (slots : List (Option ReplyEntry)) → ((j : ℕ) → reply j ≡ None) → filled reply k slots ≡ slots
filled_none reply k [] none = refl
filled_none reply k (s ∷ slots) none = ap (λ x. option_or s x ∷ filled reply (suc k) slots) (none k) ∙ ap (λ x. x ∷ filled reply (suc k) slots) (or_none s) ∙ ap (λ l. s ∷ l) (filled_none reply (suc k) slots none)

pub idle_stays : (n : Now) (o : Occurrence) (v : ConnectionValue) → Ends o → ((k : ℕ) → (v.calls k).live ≡ None) → went n o v ≡ v
idle_stays n o v ends none = grind (arith, nat_tests, filled_none, call_idle)

-- once it broke no call of it can be decided
pub broken_dead : (n : Now) (v : ConnectionValue) (k : ℕ) → ((went n (Break v.number) v).calls k).live ≡ None
broken_dead n v k = grind arith

-- so one that breaks at a moment, a hang-up or the drain is as if it had broken before
pub break_first : (n : Now) (o : Occurrence) (v : ConnectionValue) → Ends o → went n o (went n (Break v.number) v) ≡ went n (Break v.number) v
break_first n o v ends = idle_stays n o (went n (Break v.number) v) ends (broken_dead n v)

-- those break, the last first
abbrev pub all_broken : Now → List ℕ → (ℕ → ConnectionValue) → ℕ → ConnectionValue
all_broken n [] conns = conns
all_broken n (c ∷ cs) conns = all_after n (Break c) (all_broken n cs conns)

now_stays : (c : ℕ) (n : Now) → now_after (Break c) n ≡ n
now_stays c n = ap (λ m. now_of m n.drained) (omega arith)

-- of the others nothing changes
pub not_broken : (n : Now) (conns : ℕ → ConnectionValue) (c : ℕ) (ds : List ℕ) → listed ds c ≡ false → all_broken n ds conns c ≡ conns c
not_broken n conns c [] off = refl
not_broken n conns c (d ∷ ds) off = by (d == c) off (λ e. not_broken n conns c ds e)
  where
    by : (b : Bool) → (b || listed ds c) ≡ false → (listed ds c ≡ false → all_broken n ds conns c ≡ conns c)
        → (if b then went n (Break d) (all_broken n ds conns c) else all_broken n ds conns c) ≡ conns c
    by true e rest = absurd (cc)
    by false e rest = rest e

module _ (n : Now) (taken : ℕ → List ReplyEntry) (handed waiting : List JobValue) (os : List Occurrence) (conns : ℕ → ConnectionValue) (h : AllStand n conns taken handed waiting os) where
  pub breaks_stand : (cs : List ℕ) → AllStand n (all_broken n cs conns) taken handed waiting (breaks_of cs ++ os)
  breaks_stand [] = h
  breaks_stand (c ∷ cs) =
      subst (λ m. AllStand m (all_broken n (c ∷ cs) conns) taken handed waiting (breaks_of (c ∷ cs) ++ os)) (now_stays c n)
      (subst (λ js. AllStand (now_after (Break c) n) (all_broken n (c ∷ cs) conns) taken handed js (breaks_of (c ∷ cs) ++ os)) (append-nil waiting)
      (all_step n (all_broken n cs conns) taken handed waiting (breaks_of cs ++ os) (Break c) (breaks_stand cs) (λ d. tt)))

  broken_by : (c : ℕ) (cs : List ℕ) (d : ℕ) → AreOnce (c ∷ cs) → (b : Bool) → (c == d) ≡ b → all_broken n cs conns d ≡ (if listed cs d then went n (Break d) (conns d) else conns d)
      → (if b then went n (Break c) (all_broken n cs conns d) else all_broken n cs conns d) ≡ (if b || listed cs d then went n (Break d) (conns d) else conns d)
  broken_by c cs d fact b is also = grind (arith, nat_tests)

  -- each of them broke, and no other
  pub broken_are : (cs : List ℕ) → AreOnce cs → (d : ℕ) → all_broken n cs conns d ≡ (if listed cs d then went n (Break d) (conns d) else conns d)
  broken_are [] once d = refl
  broken_are (c ∷ cs) once d = broken_by c cs d once (c == d) refl (broken_are cs once.1 d)

  -- .. before the moment, or the drain
  after_by : (o : Occurrence) → Ends o → (d : ℕ) (b : Bool) → went n o (if b then went n (Break d) (conns d) else conns d) ≡ (if b then went n (Break d) (conns d) else went n o (conns d))
  after_by o ends d true = subst (λ e. went n o (went n (Break e) (conns d)) ≡ went n (Break e) (conns d)) (h.numbers d) (break_first n o (conns d) ends)
  after_by o ends d false = refl

  pub moment_stands : (m : ℕ) (cs : List ℕ) → AreOnce cs
      → AllStand (now_after (Moment m) n) (λ d. if listed cs d then went n (Break d) (conns d) else went n (Moment m) (conns d)) taken handed waiting (Moment m ∷ breaks_of cs ++ os)
  moment_stands m cs once =
      subst (λ js. AllStand (now_after (Moment m) n) (λ d. if listed cs d then went n (Break d) (conns d) else went n (Moment m) (conns d)) taken handed js (Moment m ∷ breaks_of cs ++ os)) (append-nil waiting)
      (subst (λ (k : ℕ → ConnectionValue). AllStand (now_after (Moment m) n) k taken handed (waiting ++ []) (Moment m ∷ breaks_of cs ++ os)) (λ i d. each d i)
      (all_step n (all_broken n cs conns) taken handed waiting (breaks_of cs ++ os) (Moment m) (breaks_stand cs) (λ d. tt)))
    where
      each : (d : ℕ) → went n (Moment m) (all_broken n cs conns d) ≡ (if listed cs d then went n (Break d) (conns d) else went n (Moment m) (conns d))
      each d = ap (λ v. went n (Moment m) v) (broken_are cs once d) ∙ after_by (Moment m) (by_moment m) d (listed cs d)

  pub drain_stands : (cs : List ℕ) → AreOnce cs
      → AllStand (now_after Drain n) (λ d. if listed cs d then went n (Break d) (conns d) else went n Drain (conns d)) taken handed waiting (Drain ∷ breaks_of cs ++ os)
  drain_stands cs once =
      subst (λ js. AllStand (now_after Drain n) (λ d. if listed cs d then went n (Break d) (conns d) else went n Drain (conns d)) taken handed js (Drain ∷ breaks_of cs ++ os)) (append-nil waiting)
      (subst (λ (k : ℕ → ConnectionValue). AllStand (now_after Drain n) k taken handed (waiting ++ []) (Drain ∷ breaks_of cs ++ os)) (λ i d. each d i)
      (all_step n (all_broken n cs conns) taken handed waiting (breaks_of cs ++ os) Drain (breaks_stand cs) (λ d. tt)))
    where
      each : (d : ℕ) → went n Drain (all_broken n cs conns d) ≡ (if listed cs d then went n (Break d) (conns d) else went n Drain (conns d))
      each d = ap (λ v. went n Drain v) (broken_are cs once d) ∙ after_by Drain by_drain d (listed cs d)
