-- What is queued for a connection that broke begins what were queued if none had broken, and what was taken of it begins that.
use Rattle.std.specs.Prelude.{◌≡◌, ◌∷◌, ◌++◌, ◌⊎◌, ◌==◌, ◌||◌, if◌then◌else◌}
use Rattle.gateway_theory.specs.lemmas.Names.{ℕ, Bool, true, false, List, [], None, Some, refl, sym, ap, ◌∙◌, subst, ⊎_elim, inl, inr, arith, nat_tests, filter, not, cases_Bool, append-nil, filter-append, ReplyEntry, Occurrence, Opening, Comes, HangUp, Moment, Result, Drain, Closing, Break, JobValue, is_of, is_break, without_breaks, by_events, Placed, jobs, jobs_by, occurrences, CallId, ArrivedCall, Mark, Past, arrivals, breaks, call, call_id, coming_on, is_broken, is_shut, mark_of, marked, now, own_event, IsPrefixOf, queued_entries, map, History, IsKnown, Shown, answer_of, queued}
use Rattle.gateway_theory.specs.lemmas.Frame.{call_same}
use Rattle.gateway_theory.specs.lemmas.ShutConns.{shut_jobs}
use Rattle.gateway_theory.specs.lemmas.OwnLemmas.{none_if, own_alike, own_without, unbroken_queue, unbroken_started}
use Rattle.gateway_theory.specs.lemmas.PastLemmas.{call_stays, prefix-refl, prefix-trans, queued_entries_grow, prefix-flat_map, prefix-map}
use Rattle.gateway_model.specs.declared.reply_bytes.ReplyBytes.{ReplyBytes}
use Rattle.gateway_model.specs.Run.{bytes_of}

-- ---- once it broke nothing more is queued

-- nothing comes on it, and nothing happens to its calls
pub record Still (c : ℕ) (m : Mark) (past : Past) : Type 0 where
  pub none_comes : coming_on c m.what (is_broken c past) ≡ None
  pub no_event : (k : ℕ) → own_event (call_id c k) m past ≡ None

pub still_queue : (c : ℕ) (m : Mark) (past : Past) → Still c m past → queued_entries c (m ∷ past) ≡ queued_entries c past
still_queue c m past s = search arith

pub broken_shut : (c : ℕ) (past : Past) → is_broken c past ≡ true → is_shut c past ≡ true
broken_shut c [] e = e
broken_shut c (m ∷ past) e = grind (arith, broken_shut c past)

pub after_break : (c : ℕ) (m : Mark) (past : Past) → is_broken c past ≡ true → Still c m past
after_break c m past e = grind (arith, nat_tests, broken_shut)

pub at_break : (c d : ℕ) (past : Past) → Still c (mark_of past (Break d)) past
at_break c d past = grind arith

-- ---- the law

-- what is there without breaks only grows
grows_without : (c : ℕ) (o : Occurrence) (os : List Occurrence) → IsPrefixOf (queued_entries c (marked (without_breaks os))) (queued_entries c (marked (without_breaks (o ∷ os))))
grows_without c (Break d) os = prefix-refl (queued_entries c (marked (without_breaks os)))
grows_without c Opening os = queued_entries_grow c (mark_of (marked (without_breaks os)) Opening) (marked (without_breaks os))
grows_without c (Comes d x) os = queued_entries_grow c (mark_of (marked (without_breaks os)) (Comes d x)) (marked (without_breaks os))
grows_without c (HangUp d) os = queued_entries_grow c (mark_of (marked (without_breaks os)) (HangUp d)) (marked (without_breaks os))
grows_without c (Moment t) os = queued_entries_grow c (mark_of (marked (without_breaks os)) (Moment t)) (marked (without_breaks os))
grows_without c (Result id i r) os = queued_entries_grow c (mark_of (marked (without_breaks os)) (Result id i r)) (marked (without_breaks os))
grows_without c Drain os = queued_entries_grow c (mark_of (marked (without_breaks os)) Drain) (marked (without_breaks os))
grows_without c (Closing d) os = queued_entries_grow c (mark_of (marked (without_breaks os)) (Closing d)) (marked (without_breaks os))

pub prefix_queue : (c : ℕ) (os : List Occurrence) → IsPrefixOf (queued_entries c (marked os)) (queued_entries c (marked (without_breaks os)))
prefix_queue c [] = prefix-refl (queued_entries c [])
prefix_queue c (o ∷ os) = ⊎_elim
    (λ (broke : is_broken c (marked os) ≡ true).
    subst (λ xs. IsPrefixOf xs (queued_entries c (marked (without_breaks (o ∷ os))))) (sym (still_queue c (mark_of (marked os) o) (marked os) (after_break c (mark_of (marked os) o) (marked os) broke)))
    (prefix-trans (queued_entries c (marked os)) (queued_entries c (marked (without_breaks os))) (queued_entries c (marked (without_breaks (o ∷ os)))) (prefix_queue c os) (grows_without c o os)))
    (λ (whole : is_broken c (marked os) ≡ false). first o whole (cases_Bool (breaks c o)))
    (cases_Bool (is_broken c (marked os)))
  where
    same_prefix : (xs ys : List ReplyEntry) → xs ≡ ys → IsPrefixOf xs ys
    same_prefix xs ys e = subst (λ zs. IsPrefixOf xs zs) e (prefix-refl xs)

    first : (o : Occurrence) → is_broken c (marked os) ≡ false → (breaks c o ≡ true) ⊎ (breaks c o ≡ false)
        → IsPrefixOf (queued_entries c (marked (o ∷ os))) (queued_entries c (marked (without_breaks (o ∷ os))))
    first o whole (inr other) = same_prefix (queued_entries c (marked (o ∷ os))) (queued_entries c (marked (without_breaks (o ∷ os)))) (unbroken_queue c (o ∷ os) (both (breaks c o) (is_broken c (marked os)) other whole))
      where
        both : (a b : Bool) → a ≡ false → b ≡ false → (a || b) ≡ false
        both a b x y = ap (λ t. t || b) x ∙ y
    first o whole (inl now) = grind (arith, nat_tests, same_prefix, unbroken_queue, still_queue, at_break)

-- ---- what starts

-- more occurrences only add to what starts
started_without : (c : ℕ) (o : Occurrence) (os : List Occurrence)
    → IsPrefixOf (filter (is_of c) (jobs (marked (without_breaks os)))) (filter (is_of c) (jobs (marked (without_breaks (o ∷ os)))))
started_without c o os = by (is_break o)
  where
    by : (b : Bool) → IsPrefixOf (filter (is_of c) (jobs (marked (without_breaks os)))) (filter (is_of c) (jobs (marked (if not b then o ∷ without_breaks os else without_breaks os))))
    by true = prefix-refl (filter (is_of c) (jobs (marked (without_breaks os))))
    by false = let past = marked (without_breaks os) in let now = jobs_by o (mark_of past o) past in (filter (is_of c) now, filter-append (is_of c) (jobs past) now)

same_beginning : {A : Type 0} (xs ys : List A) → xs ≡ ys → IsPrefixOf xs ys
same_beginning xs ys e = subst (λ zs. IsPrefixOf xs zs) e (prefix-refl xs)

pub prefix_started : (c : ℕ) (os : List Occurrence) → IsPrefixOf (filter (is_of c) (jobs (marked os))) (filter (is_of c) (jobs (marked (without_breaks os))))
prefix_started c [] = prefix-refl (filter (is_of c) (jobs []))
prefix_started c (o ∷ os) = by_past (is_broken c (marked os)) refl (prefix_started c os)
  where
    now : List JobValue
    now = jobs_by o (mark_of (marked os) o) (marked os)

    -- nothing more starts, and what starts without breaks only grows
    no_more : IsPrefixOf (filter (is_of c) (jobs (marked os))) (filter (is_of c) (jobs (marked (without_breaks os)))) → filter (is_of c) now ≡ []
        → IsPrefixOf (filter (is_of c) (jobs (marked os) ++ now)) (filter (is_of c) (jobs (marked (without_breaks (o ∷ os)))))
    no_more before none = subst (λ xs. IsPrefixOf xs (filter (is_of c) (jobs (marked (without_breaks (o ∷ os))))))
        (sym (filter-append (is_of c) (jobs (marked os)) now ∙ ap (λ xs. filter (is_of c) (jobs (marked os)) ++ xs) none ∙ append-nil (filter (is_of c) (jobs (marked os)))))
        (prefix-trans (filter (is_of c) (jobs (marked os))) (filter (is_of c) (jobs (marked (without_breaks os)))) (filter (is_of c) (jobs (marked (without_breaks (o ∷ os)))))
        before (started_without c o os))

    at_a_break : (x : Occurrence) → breaks c x ≡ true → filter (is_of c) (jobs_by x (mark_of (marked os) x) (marked os)) ≡ []
    at_a_break x is = grind (arith, nat_tests)

    by_now : (b : Bool) → breaks c o ≡ b → is_broken c (marked os) ≡ false → IsPrefixOf (filter (is_of c) (jobs (marked os))) (filter (is_of c) (jobs (marked (without_breaks os))))
        → IsPrefixOf (filter (is_of c) (jobs (marked (o ∷ os)))) (filter (is_of c) (jobs (marked (without_breaks (o ∷ os)))))
    by_now true e whole before = no_more before (at_a_break o e)
    by_now false e whole before = same_beginning (filter (is_of c) (jobs (marked (o ∷ os)))) (filter (is_of c) (jobs (marked (without_breaks (o ∷ os)))))
        (unbroken_started c (o ∷ os) (ap (λ b. b || is_broken c (marked os)) e ∙ whole))

    by_past : (b : Bool) → is_broken c (marked os) ≡ b → IsPrefixOf (filter (is_of c) (jobs (marked os))) (filter (is_of c) (jobs (marked (without_breaks os))))
        → IsPrefixOf (filter (is_of c) (jobs (marked (o ∷ os)))) (filter (is_of c) (jobs (marked (without_breaks (o ∷ os)))))
    by_past true broke before = no_more before (shut_jobs c o os ((after_break c (mark_of (marked os) o) (marked os) broke).none_comes, inl (broken_shut c (marked os) broke)))
    by_past false whole before = by_now (breaks c o) refl whole before

-- ---- the calls

-- what the events alone come to
pub events_occur : (lived : List Placed) → occurrences (by_events lived) ≡ without_breaks (occurrences lived)
events_occur [] = refl
events_occur (o ∷ lived) = grind (arith, events_occur lived)

-- a call that came where connections broke came also if none had
pub call_within : (id : CallId) (a : ArrivedCall) (os : List Occurrence) → call id (marked os) ≡ Some a → call id (marked (without_breaks os)) ≡ Some a
call_within id a [] e = e
call_within id a (o ∷ os) e = by_past (is_broken id.conn (marked os)) refl (call_within id a os)
  where
    stays : (b : Bool) → call id (marked (without_breaks os)) ≡ Some a → call id (marked (if not b then o ∷ without_breaks os else without_breaks os)) ≡ Some a
    stays true h = h
    stays false h = call_stays id (mark_of (marked (without_breaks os)) o) (marked (without_breaks os)) a h

    still : Still id.conn (mark_of (marked os) o) (marked os) → call id (marked os) ≡ Some a
    still s = sym (call_same id (mark_of (marked os) o) (marked os) (none_if (arrivals id.conn (marked os) == id.request) (coming_on id.conn o (is_broken id.conn (marked os))) s.none_comes)) ∙ e

    broke_now : (x : Occurrence) → breaks id.conn x ≡ true → Still id.conn (mark_of (marked os) x) (marked os)
    broke_now (Break d) b = at_break id.conn d (marked os)
    broke_now Opening b = absurd cc
    broke_now (Comes d x) b = absurd cc
    broke_now (HangUp d) b = absurd cc
    broke_now (Moment t) b = absurd cc
    broke_now (Result of i r) b = absurd cc
    broke_now Drain b = absurd cc
    broke_now (Closing d) b = absurd cc

    whole : is_broken id.conn (marked (o ∷ os)) ≡ false → call id (marked (without_breaks (o ∷ os))) ≡ Some a
    whole off = (own_alike id.conn (without_breaks (o ∷ os))).call_is id.request
        ∙ ap (λ us. call id (marked us)) (own_without id.conn (o ∷ os) off) ∙ sym ((own_alike id.conn (o ∷ os)).call_is id.request) ∙ e

    by_now : (b : Bool) → breaks id.conn o ≡ b → is_broken id.conn (marked os) ≡ false → (call id (marked os) ≡ Some a → call id (marked (without_breaks os)) ≡ Some a)
        → call id (marked (without_breaks (o ∷ os))) ≡ Some a
    by_now true b off h = stays (is_break o) (h (still (broke_now o b)))
    by_now false b off h = whole (ap (λ x. x || is_broken id.conn (marked os)) b ∙ off)

    by_past : (b : Bool) → is_broken id.conn (marked os) ≡ b → (call id (marked os) ≡ Some a → call id (marked (without_breaks os)) ≡ Some a) → call id (marked (without_breaks (o ∷ os))) ≡ Some a
    by_past true broke h = stays (is_break o) (h (still (after_break id.conn (mark_of (marked os) o) (marked os) broke)))
    by_past false off h = by_now (breaks id.conn o) refl off h

-- ---- a connection that is shut by the events alone

abbrev pub is_shut_in : ℕ → List Occurrence → Bool
is_shut_in c os = is_shut c (marked os)

pub without_shut : (c : ℕ) (os : List Occurrence) → is_shut_in c (without_breaks os) ≡ true → is_shut_in c os ≡ true
without_shut c [] e = e
without_shut c (o ∷ os) e = grind (arith, without_shut c os)

module _ (s : Shown) (history : History) (occurred : List Placed) (known : IsKnown s history occurred) (c : ℕ) (there : s.is_open c ≡ true) where
  pub taken_begin : IsPrefixOf (history.taken c) (queued_entries c (marked (occurrences occurred)))
  taken_begin = subst (λ us. IsPrefixOf (history.taken c) (queued_entries c (marked us))) (sym (events_occur known.lived) ∙ ap occurrences known.same)
      (prefix-trans (history.taken c) (queued_entries c (marked (occurrences known.lived))) (queued_entries c (marked (without_breaks (occurrences known.lived))))
      (s.untaken c, sym (known.queue_is c there)) (prefix_queue c (occurrences known.lived)))

  pub bytes_begin : IsPrefixOf (bytes_of (history.taken c)) (queued c (marked (occurrences occurred)))
  bytes_begin = prefix-flat_map (λ (reply : ReplyBytes). reply.bytes) (map answer_of (history.taken c)) (map answer_of (queued_entries c (marked (occurrences occurred))))
      (prefix-map answer_of (history.taken c) (queued_entries c (marked (occurrences occurred))) taken_begin)
