-- What only grows.
use Rattle.gateway_loop.proofs.Words.{Ready, ◌≡◌, ℕ, List, [], ◌∷◌, ◌++◌, map, Option, None, Some, refl, sym, ap, ◌∙◌, subst, append-nil, inl, inr, ⊎_elim, Bool, false, arith, ◌+◌, count_by, option_map_or, Contains, cases_eq, Contains-append_left, Contains-push, map-append, sum_by-cons, entries_from, Outcome, HandedJob, JobValue, IsPrefixOf, ClientValue, ClosedValue, client_value, LoopValue, at, Continues, Grows, GoesOn, Onward, lingering, prefix-refl, prefix-trans}
use Rattle.std.proofs.lemmas.Bool.Decides.{nat_tests}
use Rattle.gateway_loop.proofs.LeadLemmas.{extends_none, extends_then}
use Rattle.gateway_loop.proofs.LivedLemmas.{lives_none, lives_then}
use Rattle.gateway_loop.proofs.LoopLemmas.{SameRest}
use Rattle.gateway_loop.proofs.Places.{Put}

pub begins_by : {A : Type 0} (xs ys more : List A) → ys ≡ xs ++ more → IsPrefixOf xs ys
begins_by xs ys more is = (more, is)

pub begins_is : {A : Type 0} (xs ys : List A) → ys ≡ xs → IsPrefixOf xs ys
begins_is {A} xs ys is = subst (λ (l : List A). IsPrefixOf xs l) (sym is) (prefix-refl xs)

pub grows_same : (x : ClientValue) → Grows x x
grows_same x = record { conn = refl; given = prefix-refl x.given; got = prefix-refl x.got; reported = prefix-refl x.reported }

pub grows_then : (x y z : ClientValue) → Grows x y → Grows y z → Grows x z
grows_then x y z a b = search (arith, nat_tests, prefix-trans)

contains_more : {A : Type 0} (xs ys : List A) (x : A) → IsPrefixOf xs ys → Contains xs x → Contains ys x
contains_more xs ys x p there = subst (λ l. Contains l x) (sym p.1) (Contains-append_left xs p.0 x there)

pub continues_then : (u v w : LoopValue) → Continues u v → Continues v w → Continues u w
continues_then u v w a b = record {
  history = λ unknown h held.
      let first = a.history unknown h held in
      let second = b.history unknown first.0 first.1 in (
        second.0,
        second.1,
        extends_then h first.0 second.0 first.2 second.2,
        lives_then u.core v.core w.core h first.0 second.0 b.plans first.2 second.2 first.3 second.3,
      );
  plans = b.plans ∙ a.plans;
  clients = λ i x is.
      let first = a.clients i x is in
      ⊎_elim
      (λ (there : at i v.clients ≡ Some first.0). let second = b.clients i first.0 there in (second.0, second.1, grows_then x first.0 second.0 first.2 second.2))
      (λ (gone : Contains v.gone first.0). (first.0, inr (contains_more v.gone w.gone first.0 b.gone gone), first.2))
      first.1;
  gone = prefix-trans u.gone v.gone w.gone a.gone b.gone;
  told = prefix-trans u.told v.told w.told a.told b.told;
  results = prefix-trans u.results v.results w.results a.results b.results;
  unserved = prefix-trans u.unserved v.unserved w.unserved a.unserved b.unserved;
  handed = prefix-trans u.handed v.handed w.handed a.handed b.handed;
}

pub onward : (v w : LoopValue) → w.drained ≡ v.drained → Continues v w → Onward v w
onward v w drained c = record { on = λ u a. continues_then u v w a c; drained = drained }

pub continues_same : (v : LoopValue) → Continues v v
continues_same v = record {
  history = λ unknown h held. (h, held, extends_none h, lives_none v.core h);
  plans = refl;
  clients = λ i x is. (x, inl is, grows_same x);
  gone = prefix-refl v.gone;
  unserved = prefix-refl v.unserved;
  told = prefix-refl v.told;
  results = prefix-refl v.results;
  handed = prefix-refl v.handed;
}

some_is : (a b : ClientValue) → Some a ≡ Some b → a ≡ b
some_is a b it = cc

-- no client changed
pub continues_all : (v w : LoopValue) → GoesOn v w → w.core.plans ≡ v.core.plans → w.clients ≡ v.clients → w.gone ≡ v.gone → IsPrefixOf v.unserved w.unserved
    → IsPrefixOf v.told w.told → IsPrefixOf v.results w.results → IsPrefixOf v.handed w.handed → Continues v w
continues_all v w history plans clients gone unserved told results handed = record {
  history = history;
  plans = plans;
  clients = λ i x is. (x, inl (ap (λ cs. at i cs) clients ∙ is), grows_same x);
  gone = begins_is v.gone w.gone gone;
  unserved = unserved;
  told = told;
  results = results;
  handed = handed;
}

module _ (v w : LoopValue) (history : GoesOn v w) (plans : w.core.plans ≡ v.core.plans) (rest : SameRest v w) (i : ℕ) where
  -- the client in a place grew
  pub continues_put : (x y : ClientValue) → at i v.clients ≡ Some x → Grows x y → Put v.clients w.clients i (Some y) → w.gone ≡ v.gone → Continues v w
  continues_put x y its grows puts gone = record {
    history = history;
    plans = plans;
    clients = λ j z is.
        ⊎_elim
        (λ (same : j ≡ i).
        let is_x : x ≡ z = some_is x z (sym its ∙ ap (λ n. at n v.clients) (sym same) ∙ is) in
        (y, inl (ap (λ n. at n w.clients) same ∙ puts.here), subst (λ (t : ClientValue). Grows t y) is_x grows))
        (λ (other : j ≡ i → ⊥). (z, inl (puts.there j other ∙ is), grows_same z))
        (cases_eq j i);
    gone = begins_is v.gone w.gone gone;
    unserved = begins_is v.unserved w.unserved rest.unserved;
    told = begins_is v.told w.told rest.told;
    results = begins_is v.results w.results rest.results;
    handed = begins_is v.handed w.handed rest.handed;
  }

  -- .. has gone
  pub continues_go : (x : ClientValue) → at i v.clients ≡ Some x → Put v.clients w.clients i None → w.gone ≡ v.gone ++ x ∷ [] → Continues v w
  continues_go x its puts gone = record {
    history = history;
    plans = plans;
    clients = λ j z is.
        ⊎_elim
        (λ (same : j ≡ i).
        let is_x : x ≡ z = some_is x z (sym its ∙ ap (λ n. at n v.clients) (sym same) ∙ is) in
        (x, inr (subst (λ (l : List ClientValue). Contains l x) (sym gone) (Contains-push v.gone x)), subst (λ (t : ClientValue). Grows t x) is_x (grows_same x)))
        (λ (other : j ≡ i → ⊥). (z, inl (puts.there j other ∙ is), grows_same z))
        (cases_eq j i);
    gone = begins_by v.gone w.gone (x ∷ []) gone;
    unserved = begins_is v.unserved w.unserved rest.unserved;
    told = begins_is v.told w.told rest.told;
    results = begins_is v.results w.results rest.results;
    handed = begins_is v.handed w.handed rest.handed;
  }

  -- .. came
  pub continues_come : (y : ClientValue) → at i v.clients ≡ None → Put v.clients w.clients i (Some y) → w.gone ≡ v.gone → Continues v w
  continues_come y free puts gone = record {
    history = history;
    plans = plans;
    clients = λ j z is.
        ⊎_elim
        (λ (same : j ≡ i). absurd (nothing z (sym free ∙ ap (λ n. at n v.clients) (sym same) ∙ is)))
        (λ (other : j ≡ i → ⊥). (z, inl (puts.there j other ∙ is), grows_same z))
        (cases_eq j i);
    gone = begins_is v.gone w.gone gone;
    unserved = begins_is v.unserved w.unserved rest.unserved;
    told = begins_is v.told w.told rest.told;
    results = begins_is v.results w.results rest.results;
    handed = begins_is v.handed w.handed rest.handed;
  }
    where
      nothing : (z : ClientValue) → None ≡ Some z → ⊥
      nothing z it = cc

-- ---- a client's own

pub grows_by : {reads writes reads' writes' : Bool} {watched watched' : Option (ℕ × Bool)} {reported reported' : List Ready} {until : Option ℕ} → (conn : ℕ) (p q e f : Bool) (given given' got got' waiting left more sent : List ℕ) → given' ≡ given ++ more → got' ≡ got ++ sent → reported' ≡ reported
    → Grows (client_value conn p given got e waiting reads writes watched reported until) (client_value conn q given' got' f left reads' writes' watched' reported' until)
grows_by conn p q e f given given' got got' waiting left more sent reads writes none =
    record { conn = refl; given = (more, reads); got = (sent, writes); reported = ([], none ∙ sym (append-nil _)) }

pub no_more : (xs ys : List ℕ) → ys ≡ xs → ys ≡ xs ++ []
no_more xs ys same = same ∙ sym (append-nil xs)

pub grows_lingering : (x : ClientValue) (until : ℕ) → Grows x (lingering until x)
grows_lingering x until = record { conn = refl; given = prefix-refl x.given; got = prefix-refl x.got; reported = prefix-refl x.reported }

pub grows_moved : (x : ClientValue) (reads writes : Bool) (watched : Option (ℕ × Bool)) (reported : List Ready) → IsPrefixOf x.reported reported
    → Grows x (record x { reads = reads; writes = writes; watched = watched; reported = reported })
grows_moved x reads writes watched reported more = record { conn = refl; given = prefix-refl x.given; got = prefix-refl x.got; reported = more }

-- ---- what logs tell

pub noted : {A B : Type 0} (items later : List (A × B)) (a : A) (b : B) → later ≡ items ++ (a, b) ∷ [] → map (λ (x : A × B). x.0) later ≡ map (λ (x : A × B). x.0) items ++ a ∷ []
noted {A} {B} items later a b is = ap (λ (l : List (A × B)). map (λ (x : A × B). x.0) l) is ∙ map-append (λ (x : A × B). x.0) items ((a, b) ∷ [])

pub noted_away : {W : Type 0} (f : W → ClosedValue) (items later : List (W × Bool)) (w : W) (b : Bool) → later ≡ items ++ (w, b) ∷ [] → map (λ (x : W × Bool). f x.0) later ≡ map (λ (x : W × Bool). f x.0) items ++ f w ∷ []
noted_away {W} f items later w b is = ap (λ (l : List (W × Bool)). map (λ (x : W × Bool). f x.0) l) is ∙ map-append (λ (x : W × Bool). f x.0) items ((w, b) ∷ [])

abbrev told_result : HandedJob × Option Outcome → JobValue × Option Outcome
told_result r = (r.0.job, r.1)

pub noted_result : (items later : List (HandedJob × Option Outcome)) (j : HandedJob) (o : Option Outcome) → later ≡ items ++ (j, o) ∷ []
    → map (λ (r : HandedJob × Option Outcome). told_result r) later ≡ map (λ (r : HandedJob × Option Outcome). told_result r) items ++ (j.job, o) ∷ []
noted_result items later j o is = grind (arith, nat_tests, map-append)

pub noted_job : (items later : List (HandedJob × Bool)) (j : HandedJob) (b : Bool) → later ≡ items ++ (j, b) ∷ []
    → map (λ (x : HandedJob × Bool). x.0.job) later ≡ map (λ (x : HandedJob × Bool). x.0.job) items ++ j.job ∷ []
noted_job items later j b is = grind (arith, nat_tests, map-append)

-- ---- moments that were told

pub ticks_by : (was now : List ℕ) (m : ℕ) → now ≡ was ++ m ∷ [] → (moment : ℕ) × (more : List ℕ) × (now ≡ was ++ moment ∷ more)
ticks_by was now m is = (m, [], is)

-- ---- how many are there

pub count_entries : {A : Type 0} (p : A → Bool) (key : ℕ) (slots : List (Option A))
    → count_by (λ (e : ℕ × A). p e.1) (entries_from key slots) ≡ count_by (λ (o : Option A). option_map_or p o false) slots
count_entries p key [] = refl
count_entries p key (None ∷ rest) = cc (count_entries p (key + 1) rest)
count_entries p key (Some x ∷ rest) = search (arith, nat_tests, count_entries p (key + 1) rest, sum_by-cons)
