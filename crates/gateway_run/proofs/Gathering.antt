-- What a run takes from the gateway: replies and jobs.
use Rattle.gateway_run.proofs.Names.{◌≡◌, ℕ, ◌<◌, ◌≤◌, Bool, true, false, List, [], ◌∷◌, ◌++◌, length, map, Option, refl, sym, ap, ◌∙◌, subst, arith, append-nil, append_assoc, ⊎_elim, inl, inr, flat_map, ◌⊎◌, if◌then◌else◌, ◌||◌, ◌==◌, option_map, option_to_list, cases_Bool, eq-eqb, eqb-true, ne_eqb, flat_map-append, append_cancel_left, length-set, map-append, ReplyEntry, Before, Occurs, is_broken_conn, is_open_conn, untaken_of, GatewayValue, answer_of, Lives, Served, with_reply, after_reply, TakesOnly, Placed, job_started, ClosedSo, Collects, absent, gathers, HasRun, LogValue, TookReplies, flag_at, log_with, queue_at, bytes_of, History, history_of, nat_tests}
use Rattle.gateway_model.specs.declared.reply_bytes.ReplyBytes.{ReplyBytes}
use Rattle.gateway_theory.specs.Replies.{ReplyValue}
use Rattle.gateway_run.proofs.Flags.{set_here, set_other}

only_then : (n : ℕ) (u v w : GatewayValue) → TakesOnly n u v → TakesOnly n v w → TakesOnly n u w
only_then n u v w a b = grind arith

-- one reply more, or none
pub took_none : (n : ℕ) (v : GatewayValue) → TookReplies n [] v v
took_none n v = record {
  only = record { plans_are = refl; opened_is = refl; begun_is = refl; tally_is = refl; jobs_are = refl; open_are = λ c. refl; broken_are = λ c. refl; others_are = λ c ne. refl };
  untaken_are = refl;
  later = λ history. history.taken;
  later_is = λ history c. same c (c == n) (history.taken c);
  served = λ history h. h;
  lives = λ history lived l. l;
}
  where
    same : (c : ℕ) (b : Bool) (es : List ReplyEntry) → es ≡ (if b then es ++ [] else es)
    same c true es = sym (append-nil es)
    same c false es = refl

pub took_more : (n : ℕ) (entries : List ReplyEntry) (reply : Option ReplyValue) (u v w : GatewayValue) → TookReplies n entries u v
    → ((history : History) → Served v history → Served w (after_reply n reply history))
    → ((history : History) (lived : List Placed) → Lives v history lived → Lives w (after_reply n reply history) lived)
    → untaken_of n v ≡ option_to_list (option_map (λ (r : ReplyValue). r.entry) reply) ++ untaken_of n w → TakesOnly n v w
    → TookReplies n (entries ++ option_to_list (option_map (λ (r : ReplyValue). r.entry) reply)) u w
took_more n entries reply u v w t stands lives first only = record {
  only = only_then n u v w t.only only;
  untaken_are = t.untaken_are ∙ ap (λ xs. entries ++ xs) first ∙ sym (append_assoc entries (option_to_list (option_map (λ (r : ReplyValue). r.entry) reply)) (untaken_of n w));
  later = λ history. with_reply n reply (t.later history);
  later_is = λ history c. both history.taken (t.later history) c (t.later_is history c) (c == n);
  served = λ history h. stands (record history { taken = t.later history }) (t.served history h);
  lives = λ history lived l. lives (record history { taken = t.later history }) lived (t.lives history lived l);
}
  where
    both : (taken later : ℕ → List ReplyEntry) (c : ℕ) → later c ≡ (if c == n then taken c ++ entries else taken c) → (b : Bool)
        → (if c == n then later c ++ option_to_list (option_map (λ (r : ReplyValue). r.entry) reply) else later c)
        ≡ (if c == n then taken c ++ (entries ++ option_to_list (option_map (λ (r : ReplyValue). r.entry) reply)) else taken c)
    both taken later c is b = by_it (c == n) is
      where
        by_it : (b : Bool) → later c ≡ (if b then taken c ++ entries else taken c)
            → (if b then later c ++ option_to_list (option_map (λ (r : ReplyValue). r.entry) reply) else later c)
            ≡ (if b then taken c ++ (entries ++ option_to_list (option_map (λ (r : ReplyValue). r.entry) reply)) else taken c)
        by_it true e = ap (λ xs. xs ++ option_to_list (option_map (λ (r : ReplyValue). r.entry) reply)) e
            ∙ append_assoc (taken c) entries (option_to_list (option_map (λ (r : ReplyValue). r.entry) reply))
        by_it false e = e

pub bytes_more : (entries : List ReplyEntry) (e : ReplyEntry) → bytes_of (entries ++ e ∷ []) ≡ bytes_of entries ++ (answer_of e).bytes
bytes_more entries e = grind (arith, nat_tests, map-append, flat_map-append, append-nil)

pub bytes_both : (xs ys : List ReplyEntry) → bytes_of (xs ++ ys) ≡ bytes_of xs ++ bytes_of ys
bytes_both xs ys = ap (flat_map (λ (r : ReplyBytes). r.bytes)) (map-append answer_of xs ys) ∙ flat_map-append (λ (r : ReplyBytes). r.bytes) (map answer_of xs) (map answer_of ys)

-- ---- a run whose log gathered what is queued for one connection more

module _ (gathered : ℕ → Bool) (n : ℕ) (v w : GatewayValue) (log later : LogValue) (es : Before) (h : HasRun gathered v log es) where
  same_run : w ≡ v → later ≡ log → length log.queued ≤ n → HasRun (λ c. gathered c || c == n) w later es
  same_run w_is later_is beyond = grind arith

  module _ (lt : n < length log.queued) (t : TookReplies n (untaken_of n v) v w) where
    abbrev next : LogValue
    next = log_with n (bytes_of (untaken_of n v)) (is_broken_conn n v) log

    abbrev now : History
    now = history_of log.opened es h.taken (map job_started h.started)

    abbrev after : ℕ → List ReplyEntry
    after = t.later (history_of log.opened es h.taken (map job_started h.started))

    plain : (occurred : List Placed) → Occurs w.plans log.opened es occurred → Occurs v.plans log.opened es occurred
    plain occurred o = subst (λ plans. Occurs plans log.opened es occurred) t.only.plans_are o

    which : (c : ℕ) → (c ≡ n) ⊎ (c ≡ n → ⊥)
    which c = ⊎_elim (λ (same : (c == n) ≡ true). inl (eqb-true c n same))
        (λ (ne : (c == n) ≡ false). inr (λ same. let clash : true ≡ false = sym (eq-eqb c n same) ∙ ne in cc)) (cases_Bool (c == n))

    taken_here : after n ≡ h.taken n ++ untaken_of n v
    taken_here = t.later_is now n ∙ ap (λ b. if b then h.taken n ++ untaken_of n v else h.taken n) (eq-eqb n n refl)

    taken_other : (c : ℕ) → (c ≡ n → ⊥) → after c ≡ h.taken c
    taken_other c other = t.later_is now c ∙ ap (λ b. if b then h.taken c ++ untaken_of n v else h.taken c) (ne_eqb c n other)

    flag_here : flag_at n next ≡ (flag_at n log || is_broken_conn n v)
    flag_here = set_here log.broke n (flag_at n log || is_broken_conn n v) false (let a = h.broke_size in let b = h.queued_size in omega (arith, a, b, lt))

    flag_other : (c : ℕ) → (c ≡ n → ⊥) → flag_at c next ≡ flag_at c log
    flag_other c other = set_other log.broke n c (flag_at n log || is_broken_conn n v) false other

    first : (a b : Bool) → (a || b) ≡ false → a ≡ false
    first true b e = absurd (cc)
    first false b e = refl

    twice : (b : Bool) → (b || b) ≡ b
    twice true = refl
    twice false = refl

    -- none is left
    none_left : untaken_of n w ≡ []
    none_left = append_cancel_left (untaken_of n v) (untaken_of n w) [] (sym t.untaken_are ∙ sym (append-nil (untaken_of n v)))

    queue : (c : ℕ) → (c ≡ n) ⊎ (c ≡ n → ⊥) → queue_at c next ≡ bytes_of (after c)
    queue c h1 = grind (arith, nat_tests, set_here, bytes_both, taken_here, set_other, taken_other)

    flag_now : is_open_conn n w ≡ true → (b : Bool) → gathered n ≡ b → flag_at n next ≡ is_broken_conn n w
    flag_now there true e = flag_here ∙ ap (λ b. b || is_broken_conn n v) (h.flagged n e (sym (t.only.open_are n) ∙ there)) ∙ twice (is_broken_conn n v) ∙ sym (t.only.broken_are n)
    flag_now there false e = flag_here ∙ ap (λ b. b || is_broken_conn n v) (h.unflagged n e (sym (t.only.open_are n) ∙ there)) ∙ sym (t.only.broken_are n)

    still : (c : ℕ) → (c ≡ n → ⊥) → (gathered c || c == n) ≡ true → gathered c ≡ true
    still c other on = grind arith

    flag : (c : ℕ) → (gathered c || c == n) ≡ true → is_open_conn c w ≡ true → (c ≡ n) ⊎ (c ≡ n → ⊥) → flag_at c next ≡ is_broken_conn c w
    flag c on there (inl same) = subst (λ m. flag_at m next ≡ is_broken_conn m w) (sym same) (flag_now (ap (λ m. is_open_conn m w) (sym same) ∙ there) (gathered n) refl)
    flag c on there (inr other) = flag_other c other ∙ h.flagged c (still c other on) (sym (t.only.open_are c) ∙ there) ∙ sym (t.only.broken_are c)

    plainly : (c : ℕ) → (gathered c || c == n) ≡ false → is_open_conn c w ≡ true → (c ≡ n) ⊎ (c ≡ n → ⊥) → flag_at c next ≡ false
    plainly c h1 h2 h3 = grind (arith, nat_tests, eq-eqb, flag_other, first)

    -- one that was closed
    closed : (c : ℕ) → c < w.opened → is_open_conn c w ≡ false → (lived : List Placed) → (c < v.opened → is_open_conn c v ≡ false → ClosedSo c log h.taken lived) → (c ≡ n) ⊎ (c ≡ n → ⊥)
        → ClosedSo c next after lived
    closed c h1 h2 lived h4 h5 = grind (arith, nat_tests, flag_here, taken_here, append-nil, flag_other, taken_other)

    none_then : (c : ℕ) → (gathered c || c == n) ≡ true → (c ≡ n) ⊎ (c ≡ n → ⊥) → untaken_of c w ≡ []
    none_then c on (inl same) = ap (λ m. untaken_of m w) same ∙ none_left
    none_then c on (inr other) = t.only.others_are c (ne_eqb c n other) ∙ h.none_left c (still c other on)

    more_run : HasRun (λ c. gathered c || c == n) w (log_with n (bytes_of (untaken_of n v)) (is_broken_conn n v) log) es
    more_run = record {
      taken = after;
      started = h.started;
      served = t.served now h.served;
      no_jobs = t.only.jobs_are ∙ h.no_jobs;
      opened_are = h.opened_are;
      opened_size = h.opened_size ∙ sym t.only.opened_is;
      queued_size = length-set log.queued n (queue_at n log ++ bytes_of (untaken_of n v)) ∙ h.queued_size ∙ sym t.only.opened_is;
      broke_size = length-set log.broke n (flag_at n log || is_broken_conn n v) ∙ h.broke_size ∙ sym t.only.opened_is;
      starts_are = h.starts_are;
      jobs_are = h.jobs_are;
      queued_are = λ c. queue c (which c);
      unflagged = λ c off there. plainly c off there (which c);
      flagged = λ c on there. flag c on there (which c);
      none_left = λ c on. none_then c on (which c);
      has_lived = λ occurred o. let x = h.has_lived occurred (plain occurred o) in record {
        lived = x.lived;
        same = x.same;
        lives = t.lives now x.lived x.lives;
        starts_lived = x.starts_lived;
        shut = λ c less off. closed c less off x.lived (x.shut c) (which c);
      };
    }

  pub collected_run : Collects n v w log later → HasRun (λ c. gathered c || c == n) w later es
  collected_run (absent beyond w_is later_is) = same_run w_is later_is beyond
  collected_run (gathers lt t later_is) = subst (λ l. HasRun (λ c. gathered c || c == n) w l es) (sym later_is) (more_run lt t)
