-- A call and the slots of a connection that go on, at each occurrence.
use Rattle.std.specs.Prelude.{◌≡◌, ◌+◌, ◌≤◌, ◌<◌, ◌∷◌, ◌++◌}
use Rattle.gateway_theory.specs.lemmas.Names.{ℕ, zero, suc, Bool, true, false, List, [], map, length, Option, None, Some, refl, sym, ap, ◌∙◌, arith, ⊎_elim, nat_tests, nat_le, option_or, cases_lt, get_or-eq_default, CallId, Occurrence, Comes, Coming, Mark, Past, call_id, arrivals, coming_now, crowds, mark_of, most_calls, undecided_calls, ReplyEntry, entry, kept, step, Live, call_state, arrive, slot_at, SlotsStand, subst, now, marked, CallState, CallStands, Stepped}
use Rattle.gateway_theory.specs.lemmas.StepLemmas.{stepped}
use Rattle.gateway_theory.specs.lemmas.PastLemmas.{unborn}

-- something comes on a stream
abbrev pub is_coming : Occurrence → Bool
is_coming (Comes c x) = true
is_coming o = false

-- ---- nothing comes on a stream

pub no_entering : (id : CallId) (o : Occurrence) (past : Past) → is_coming o ≡ false → coming_now id (mark_of past o) past ≡ None
no_entering id o past e = grind arith

pub arrivals_same : (c : ℕ) (o : Occurrence) (past : Past) → is_coming o ≡ false → arrivals c (mark_of past o ∷ past) ≡ arrivals c past
arrivals_same c o past is = grind (arith, nat_tests)

-- what is behind the requests that came has no entry
pub no_entry_yet : (c k : ℕ) (past : Past) → arrivals c past ≤ k → entry (call_id c k) past ≡ None
no_entry_yet c k past le = rw ((unborn (call_id c k) past le).not_came) refl

pub slots_after : (c : ℕ) (old new : List (Option ReplyEntry)) (m : Mark) (past : Past) (r : ℕ → Option ReplyEntry) → SlotsStand c old past
    → arrivals c (m ∷ past) ≡ arrivals c past → length new ≡ length old
    → ((k : ℕ) → k < length old → slot_at k new ≡ option_or (slot_at k old) (r k))
    → ((k : ℕ) → option_or (entry (call_id c k) past) (r k) ≡ entry (call_id c k) (m ∷ past)) → SlotsStand c new (m ∷ past)
slots_after c old new m past r h same size each replies = record {
  size_is = size ∙ h.size_is ∙ sym same;
  each = λ k.
      ⊎_elim (λ (lt : k < length old). each k lt ∙ ap (λ o. option_or o (r k)) (h.each k) ∙ replies k)
      (λ (ge : length old ≤ k).
      get_or-eq_default new None {n = k} (omega (arith, ge, size)) ∙ sym (no_entry_yet c k (m ∷ past) (omega (arith, ge, h.size_is, same))))
      (cases_lt k (length old));
}

-- the slots, where those taken stand before them
pub each_slot : (taken : List ReplyEntry) (old new : List (Option ReplyEntry)) (r : ℕ → Option ReplyEntry) → length new ≡ length old
    → ((j : ℕ) → j < length old → slot_at j new ≡ option_or (slot_at j old) (r (length taken + j)))
    → (k : ℕ) → k < length (map Some taken ++ old) → slot_at k (map Some taken ++ new) ≡ option_or (slot_at k (map Some taken ++ old)) (r k)
each_slot [] old new r size each k lt = each k lt ∙ ap (λ j. option_or (slot_at k old) (r j)) (omega arith)
each_slot (e ∷ taken) old new r size each zero lt = refl
each_slot (e ∷ taken) old new r size each (suc k) lt =
    each_slot taken old new (λ j. r (suc j)) size (λ j l. each j l ∙ ap (λ i. option_or (slot_at j old) (r i)) (omega arith)) k (omega (arith, lt))

-- ---- something comes on a stream

-- whether a call is one too many matters only where one is asked for
pub crowd_is : (c : ℕ) (x : Coming) (full : Bool) (past : Past) (moment : ℕ) (drained : Bool) (id : CallId)
    → full ≡ nat_le most_calls (undecided_calls c past) → arrive moment drained full id x ≡ arrive moment drained (crowds (Comes c x) past) id x
crowd_is c x full past moment drained id is = grind (arith, nat_tests)

pub kept_by_entry : (moment : ℕ) (id : CallId) (c : ℕ) (x : Coming) (out : List Bool) (live : Option Live) → step moment id (Comes c x) (call_state out live) ≡ kept (call_state out live)
kept_by_entry moment id c x out None = refl
kept_by_entry moment id c x out (Some l) = refl

-- ---- a call

pub call_goes : (id : CallId) (o : Occurrence) (c : CallState) (moment : ℕ) (os : List Occurrence) → coming_now id (mark_of (marked os) o) (marked os) ≡ None
    → moment ≡ now (marked os) → CallStands id c (marked os) → Stepped id (step moment id o c) (mark_of (marked os) o) (marked os)
call_goes id o c moment os none m_is h =
    subst (λ n. Stepped id (step n id o c) (mark_of (marked os) o) (marked os)) (sym m_is) (stepped id o c.out c.live (marked os) none h)

-- any other call
pub other_goes : (c : ℕ) (x : Coming) (id : CallId) (old : CallState) (moment : ℕ) (os : List Occurrence) → coming_now id (mark_of (marked os) (Comes c x)) (marked os) ≡ None
    → moment ≡ now (marked os) → CallStands id old (marked os) → Stepped id (kept old) (mark_of (marked os) (Comes c x)) (marked os)
other_goes c x id old moment os none m_is h =
    subst (λ r. Stepped id r (mark_of (marked os) (Comes c x)) (marked os)) (kept_by_entry moment id c x old.out old.live)
    (call_goes id (Comes c x) old moment os none m_is h)
